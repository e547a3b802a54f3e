-- A journal has one line for each entry: frame, sender, number, and the command with what it is
-- for.
-- A target is its number, a value the whole number, verbs and controls are their names.
-- A line has a form by the shapes of its words. The word of the command decides which are due.
-- "Journal" in docs/formats.md.
use Rattle.std.specs.Prelude.{◌≡◌, ◌≤◌, ◌≤ℤ◌, ℕ, pos, negsuc, Bool, false, ◌&&◌, IsTrue, List, [], ◌∷◌, codes, ⊤}
use Rattle.sl_base.specs.Names.{IsName}
use Rattle.std.specs.List.{list_any}
use Rattle.std.specs.Str.{bytes_eq}
use Rattle.std.specs.Fmt.{decimal, signed_decimal}
use Rattle.sl_commands.specs.declared.command.Command.{Command}
use Rattle.sl_commands.specs.declared.command.Command.TheVariants.{Down, Up, Hit, Set, SetGlobal, Get, GetGlobal, SaveLoop, SaveSession, Release, Quit}
use Rattle.sl_commands.specs.declared.entry.Entry.{Entry}
use Rattle.sl_commands.specs.Commands.{is_target}
use Rattle.sl_commands.specs.Controls.{control_name}
use Rattle.sl_commands.specs.Verbs.{verb_name}
use Rattle.text_lines.specs.Lines.{line_of}
use Rattle.text_lines.specs.Targets.{target_word}
use Rattle.text_lines.specs.Shapes.{have_shapes}
use Rattle.text_lines.specs.declared.shape.Shape.{Shape}
use Rattle.text_lines.specs.declared.shape.Shape.TheVariants.{Number, Integer, Word}

-- the words of a command
abbrev pub command_words : Command → List (List ℕ)
command_words (Down target verb) = codes "down" ∷ target_word target ∷ verb_name verb ∷ []
command_words (Up target verb) = codes "up" ∷ target_word target ∷ verb_name verb ∷ []
command_words (Hit target verb) = codes "hit" ∷ target_word target ∷ verb_name verb ∷ []
command_words (Set target control value) = codes "set" ∷ target_word target ∷ control_name control
    ∷ signed_decimal value ∷ []
command_words (SetGlobal control value) = codes "gset" ∷ control_name control ∷ signed_decimal value
    ∷ []
command_words (Get target control) = codes "get" ∷ target_word target ∷ control_name control ∷ []
command_words (GetGlobal control) = codes "gget" ∷ control_name control ∷ []
command_words (SaveLoop target name) = codes "save" ∷ target_word target ∷ name ∷ []
command_words (SaveSession name) = codes "session" ∷ name ∷ []
command_words (Release target outcome) = codes "release" ∷ target_word target ∷ decimal outcome ∷ []
command_words Quit = codes "quit" ∷ []

-- what a command says has words: an index of 8 bits, a value of 32 bits, a name, an outcome of 8
-- bits
abbrev pub HasWords : Command → Type 0
HasWords (Down target verb) = IsTrue (is_target 256 target)
HasWords (Up target verb) = IsTrue (is_target 256 target)
HasWords (Hit target verb) = IsTrue (is_target 256 target)
HasWords (Set target control value) = IsTrue (is_target 256 target) × (negsuc 2147483647 ≤ℤ value)
    × (value ≤ℤ pos 2147483647)
HasWords (SetGlobal control value) = (negsuc 2147483647 ≤ℤ value) × (value ≤ℤ pos 2147483647)
HasWords (Get target control) = IsTrue (is_target 256 target)
HasWords (GetGlobal control) = ⊤
HasWords (SaveLoop target name) = IsTrue (is_target 256 target) × IsName name
HasWords (SaveSession name) = IsName name
HasWords (Release target outcome) = IsTrue (is_target 256 target) × (outcome ≤ 255)
HasWords Quit = ⊤

-- the words are those of a command
abbrev pub Spell : List (List ℕ) → Command → Type 0
Spell words command = (words ≡ command_words command) × HasWords command

-- the words of an entry's line
abbrev pub entry_words : Entry → List (List ℕ)
entry_words e = decimal e.frame ∷ decimal e.sender ∷ decimal e.seq ∷ command_words e.command

-- the line of an entry
abbrev pub entry_line : Entry → List ℕ
entry_line e = line_of (entry_words e)

-- the forms of commands: the first word, and the shapes of those behind it
pub record CommandForm : Type 0 where
  pub word : List ℕ
  pub shapes : List Shape

abbrev pub form_of : List ℕ → List Shape → CommandForm
form_of word shapes = record { word = word; shapes = shapes }

abbrev pub command_forms : List CommandForm
command_forms =
    form_of (codes "down") (Integer ∷ Word ∷ [])
    ∷ form_of (codes "up") (Integer ∷ Word ∷ [])
    ∷ form_of (codes "hit") (Integer ∷ Word ∷ [])
    ∷ form_of (codes "set") (Integer ∷ Word ∷ Integer ∷ [])
    ∷ form_of (codes "gset") (Word ∷ Integer ∷ [])
    ∷ form_of (codes "get") (Integer ∷ Word ∷ [])
    ∷ form_of (codes "gget") (Word ∷ [])
    ∷ form_of (codes "save") (Integer ∷ Word ∷ [])
    ∷ form_of (codes "session") (Word ∷ [])
    ∷ form_of (codes "release") (Integer ∷ Number ∷ [])
    ∷ form_of (codes "quit") []
    ∷ []

-- the words have the form of a command
abbrev pub have_form : List ℕ → List (List ℕ) → CommandForm → Bool
have_form word words form = bytes_eq form.word word && have_shapes form.shapes words

-- the words are of one of the forms: three numbers, and a command
abbrev pub is_form : List (List ℕ) → Bool
is_form (frame ∷ sender ∷ seq ∷ word ∷ words) =
    have_shapes (Number ∷ Number ∷ Number ∷ []) (frame ∷ sender ∷ seq ∷ [])
    && list_any (have_form word words) command_forms
is_form _ = false
