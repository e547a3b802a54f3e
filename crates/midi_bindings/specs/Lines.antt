-- A binding is a line: an event of one kind on a channel with a number, and what it gives. A sweep
-- gives a control a value that goes from one end to the other as the controller does.
-- `on`, `off` and `pc` are note on, note off and program change; `cc` is a control change of 64 or
-- more, `co` one below, `cv` one of any value. Channels are counted from 1 in a line.
-- "Bindings" in docs/formats.md.
use Rattle.std.specs.Prelude.{◌≡◌, ◌<◌, ◌≤◌, ◌≤ℤ◌, ℕ, ◌+◌, ℤ, pos, negsuc, ◌||◌, Bool, false, ◌&&◌, nat_lt, List, [], ◌∷◌, IsTrue, codes}
use Rattle.std.specs.Str.{bytes_eq}
use Rattle.std.specs.Fmt.{decimal, signed_decimal}
use Rattle.sl_commands.specs.declared.command.Target.{Target}
use Rattle.sl_commands.specs.declared.control.Control.{Control}
use Rattle.sl_commands.specs.Commands.{is_target}
use Rattle.sl_commands.specs.Controls.{control_name, is_of_loop, is_in_range}
use Rattle.text_lines.specs.Lines.{line_of}
use Rattle.text_lines.specs.Targets.{target_word}
use Rattle.text_lines.specs.Presses.{press_words, is_press}
use Rattle.text_lines.specs.Shapes.{have_shapes}
use Rattle.text_lines.specs.declared.shape.Shape.TheVariants.{Number, Integer, Word}
use Rattle.midi_bindings.specs.declared.binding.BindKind.{BindKind}
use Rattle.midi_bindings.specs.declared.binding.BindKind.TheVariants.{On, Off, Program, High, Low}
use Rattle.midi_bindings.specs.declared.binding.Binding.{Binding}
use Rattle.midi_bindings.specs.declared.binding.Binding.TheVariants.{Give, Sweep}

-- the word of a kind
abbrev pub kind_word : BindKind → List ℕ
kind_word On = codes "on"
kind_word Off = codes "off"
kind_word Program = codes "pc"
kind_word High = codes "cc"
kind_word Low = codes "co"

-- the words of what a sweep sets
abbrev pub set_words : Target → Control → ℤ → ℤ → List (List ℕ)
set_words target control low high = codes "set" ∷ target_word target ∷ control_name control
    ∷ signed_decimal low ∷ signed_decimal high ∷ []

-- the words of a binding
abbrev pub binding_words : Binding → List (List ℕ)
binding_words (Give kind channel number command) = kind_word kind ∷ decimal (channel + 1)
    ∷ decimal number ∷ press_words command
binding_words (Sweep channel number target control low high) =
    codes "cv" ∷ decimal (channel + 1) ∷ decimal number ∷ set_words target control low high

-- the line of a binding
abbrev pub binding_line : Binding → List ℕ
binding_line binding = line_of (binding_words binding)

-- the line of a binding has a form by its words: the kind, two numbers, a press or `set`, and the
-- shapes of those behind it

-- the word is that of a kind
abbrev pub is_kind : List ℕ → Bool
is_kind word = bytes_eq word (codes "on")
    || (bytes_eq word (codes "off")
    || (bytes_eq word (codes "pc") || (bytes_eq word (codes "cc") || bytes_eq word (codes "co"))))

-- the word says how a verb is given
abbrev pub is_press_word : List ℕ → Bool
is_press_word word =
    bytes_eq word (codes "down") || (bytes_eq word (codes "up") || bytes_eq word (codes "hit"))

-- the words have the form of a verb that is given
abbrev pub is_give_form : List ℕ → List ℕ → List (List ℕ) → Bool
is_give_form kind press words =
    is_kind kind && (is_press_word press && have_shapes (Integer ∷ Word ∷ []) words)

-- the words have the form of a sweep
abbrev pub is_sweep_form : List ℕ → List ℕ → List (List ℕ) → Bool
is_sweep_form kind set words = bytes_eq kind (codes "cv")
    && (bytes_eq set (codes "set") && have_shapes (Integer ∷ Word ∷ Integer ∷ Integer ∷ []) words)

-- the words have one of the forms
abbrev pub is_form : List (List ℕ) → Bool
is_form (kind ∷ channel ∷ number ∷ word ∷ words) =
    have_shapes (Number ∷ Number ∷ []) (channel ∷ number ∷ [])
    && (is_give_form kind word words || is_sweep_form kind word words)
is_form _ = false

-- the binding says nothing that is out of range, for so many loops
abbrev pub is_binding : ℕ → Binding → Bool
is_binding loops (Give kind channel number command) = nat_lt channel 16 && nat_lt number 128
    && is_press loops command
is_binding loops (Sweep channel number target control low high) =
    nat_lt channel 16 && nat_lt number 128 && is_target loops target && is_of_loop control
    && is_in_range control low loops && is_in_range control high loops

-- the value has 32 bits
abbrev pub IsShort : ℤ → Type 0
IsShort value = (negsuc 2147483647 ≤ℤ value) × (value ≤ℤ pos 2147483647)

-- what a sweep sets has words: an index of 8 bits, values of 32 bits
abbrev pub HasSetWords : Target → ℤ → ℤ → Type 0
HasSetWords target low high = IsTrue (is_target 256 target) × IsShort low × IsShort high

-- the words are those of what a sweep sets
abbrev pub SpellSet : List (List ℕ) → Target → Control → ℤ → ℤ → Type 0
SpellSet words target control low high = (words ≡ set_words target control low high)
    × HasSetWords target low high

-- what a binding says has words
abbrev pub HasWords : Binding → Type 0
HasWords (Give kind channel number command) = (channel < 16) × (number ≤ 127)
    × IsTrue (is_press 256 command)
HasWords (Sweep channel number target control low high) = (channel < 16) × (number ≤ 127)
    × HasSetWords target low high

-- the words are those of a binding
abbrev pub Spell : List (List ℕ) → Binding → Type 0
Spell words binding = (words ≡ binding_words binding) × HasWords binding
