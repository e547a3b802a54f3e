-- Words are those of one binding.
use Rattle.std.proofs.Common.{◌≡◌, ℕ, ◌+◌, ◌<◌, ◌≤◌, false, List, [], ◌∷◌, refl, sym, ap, ◌∙◌, subst, arith}
use Rattle.sl_base.specs.Limits.{max_loops}
use Rattle.std.specs.Prelude.{IsTrue, codes}
use Rattle.std.specs.Fmt.{decimal, signed_decimal}
use Rattle.std.specs.Str.{bytes_eq}
use Rattle.std.proofs.lemmas.Bool.{false≢true}
use Rattle.std.proofs.lemmas.Fmt.{decimal_injective}
use Rattle.sl_commands.specs.declared.command.Target.{Target}
use Rattle.sl_commands.specs.declared.command.Command.{Command}
use Rattle.sl_commands.specs.declared.command.Command.TheVariants.{Down, Up, Hit}
use Rattle.sl_commands.specs.declared.verb.Verb.{Verb}
use Rattle.sl_commands.specs.Verbs.{verb_name}
use Rattle.sl_commands.specs.Controls.{control_name}
use Rattle.text_lines.specs.Lines.{words_in}
use Rattle.text_lines.proofs.WordLemmas.{signed_is_one}
use Rattle.midi_bindings.specs.declared.binding.BindKind.{BindKind}
use Rattle.midi_bindings.specs.declared.binding.BindKind.TheVariants.{On, Off, Program, High, Low}
use Rattle.midi_bindings.specs.declared.binding.Binding.{Binding}
use Rattle.midi_bindings.specs.declared.binding.Binding.TheVariants.{Give, Sweep}
use Rattle.text_lines.specs.Targets.{target_word}
use Rattle.midi_bindings.specs.Lines.{kind_word, binding_words, binding_line, is_binding, HasWords}
use Rattle.text_lines.specs.Presses.{press_words, is_press}
use Rattle.text_lines.proofs.TableLemmas.{verb_is_one, control_is_one, short_has_few_digits}
use Rattle.midi_bindings.proofs.BindingLemmas.{target_is_one, binding_has_words, words_of_line}

-- kinds of one word are one
kind_is_one : (kind other : BindKind) → kind_word kind ≡ kind_word other → kind ≡ other
kind_is_one On On same = refl
kind_is_one Off Off same = refl
kind_is_one Program Program same = refl
kind_is_one High High same = refl
kind_is_one Low Low same = refl
kind_is_one On Off same = absurd (false≢true (ap (λ w. bytes_eq w (codes "off")) same))
kind_is_one On Program same = absurd (false≢true (ap (λ w. bytes_eq w (codes "pc")) same))
kind_is_one On High same = absurd (false≢true (ap (λ w. bytes_eq w (codes "cc")) same))
kind_is_one On Low same = absurd (false≢true (ap (λ w. bytes_eq w (codes "co")) same))
kind_is_one Off On same = absurd (false≢true (ap (λ w. bytes_eq w (codes "on")) same))
kind_is_one Off Program same = absurd (false≢true (ap (λ w. bytes_eq w (codes "pc")) same))
kind_is_one Off High same = absurd (false≢true (ap (λ w. bytes_eq w (codes "cc")) same))
kind_is_one Off Low same = absurd (false≢true (ap (λ w. bytes_eq w (codes "co")) same))
kind_is_one Program On same = absurd (false≢true (ap (λ w. bytes_eq w (codes "on")) same))
kind_is_one Program Off same = absurd (false≢true (ap (λ w. bytes_eq w (codes "off")) same))
kind_is_one Program High same = absurd (false≢true (ap (λ w. bytes_eq w (codes "cc")) same))
kind_is_one Program Low same = absurd (false≢true (ap (λ w. bytes_eq w (codes "co")) same))
kind_is_one High On same = absurd (false≢true (ap (λ w. bytes_eq w (codes "on")) same))
kind_is_one High Off same = absurd (false≢true (ap (λ w. bytes_eq w (codes "off")) same))
kind_is_one High Program same = absurd (false≢true (ap (λ w. bytes_eq w (codes "pc")) same))
kind_is_one High Low same = absurd (false≢true (ap (λ w. bytes_eq w (codes "co")) same))
kind_is_one Low On same = absurd (false≢true (ap (λ w. bytes_eq w (codes "on")) same))
kind_is_one Low Off same = absurd (false≢true (ap (λ w. bytes_eq w (codes "off")) same))
kind_is_one Low Program same = absurd (false≢true (ap (λ w. bytes_eq w (codes "pc")) same))
kind_is_one Low High same = absurd (false≢true (ap (λ w. bytes_eq w (codes "cc")) same))

-- and none is the word of a sweep
kind_is_no_sweep : (kind : BindKind) → kind_word kind ≡ codes "cv" → ⊥
kind_is_no_sweep On same = false≢true (ap (λ w. bytes_eq w (codes "cv")) same)
kind_is_no_sweep Off same = false≢true (ap (λ w. bytes_eq w (codes "cv")) same)
kind_is_no_sweep Program same = false≢true (ap (λ w. bytes_eq w (codes "cv")) same)
kind_is_no_sweep High same = false≢true (ap (λ w. bytes_eq w (codes "cv")) same)
kind_is_no_sweep Low same = false≢true (ap (λ w. bytes_eq w (codes "cv")) same)

-- the first of words
abbrev first_word : List (List ℕ) → List ℕ
first_word [] = []
first_word (word ∷ words) = word

-- the first word says which press it is
first_is_down : (command : Command) (rest : List (List ℕ)) → press_words command ≡ codes "down"
    ∷ rest → (target : Target) × (verb : Verb) × command ≡ Down target verb
first_is_down (Down target verb) rest same = (target, verb, refl)
first_is_down _ rest same =
    absurd (false≢true (ap (λ ws. bytes_eq (codes "down") (first_word ws)) same))

first_is_up : (command : Command) (rest : List (List ℕ)) → press_words command ≡ codes "up" ∷ rest →
    (target : Target) × (verb : Verb) × command ≡ Up target verb
first_is_up (Up target verb) rest same = (target, verb, refl)
first_is_up _ rest same =
    absurd (false≢true (ap (λ ws. bytes_eq (codes "up") (first_word ws)) same))

first_is_hit : (command : Command) (rest : List (List ℕ)) → press_words command ≡ codes "hit"
    ∷ rest → (target : Target) × (verb : Verb) × command ≡ Hit target verb
first_is_hit (Hit target verb) rest same = (target, verb, refl)
first_is_hit _ rest same =
    absurd (false≢true (ap (λ ws. bytes_eq (codes "hit") (first_word ws)) same))

abbrev Presses : Command → Type 0
Presses command = IsTrue (is_press 256 command)

same_down : (target : Target) (verb : Verb) (other : Command) → Presses (Down target verb) →
    Presses other → press_words (Down target verb) ≡ press_words other →
    ((target' : Target) × (verb' : Verb) × other ≡ Down target' verb') → Down target verb ≡ other
same_down target verb other is is_too same at =
    let target' = at.0 in
    let verb' = at.1 in
    let has : Presses (Down target' verb') = subst Presses at.2 is_too in
    let words : press_words (Down target verb) ≡ press_words (Down target' verb') =
    same ∙ ap press_words at.2 in
    let target_same : target_word target ≡ target_word target' = cc words in
    let verb_word : verb_name verb ≡ verb_name verb' = cc words in
    let target_is : target ≡ target' = target_is_one target target' is has target_same in
    let verb_is : verb ≡ verb' = verb_is_one verb verb' verb_word in
    cc (target_is, verb_is, at.2)

same_up : (target : Target) (verb : Verb) (other : Command) → Presses (Up target verb) →
    Presses other → press_words (Up target verb) ≡ press_words other →
    ((target' : Target) × (verb' : Verb) × other ≡ Up target' verb') → Up target verb ≡ other
same_up target verb other is is_too same at =
    let target' = at.0 in
    let verb' = at.1 in
    let has : Presses (Up target' verb') = subst Presses at.2 is_too in
    let words : press_words (Up target verb) ≡ press_words (Up target' verb') =
    same ∙ ap press_words at.2 in
    let target_same : target_word target ≡ target_word target' = cc words in
    let verb_word : verb_name verb ≡ verb_name verb' = cc words in
    let target_is : target ≡ target' = target_is_one target target' is has target_same in
    let verb_is : verb ≡ verb' = verb_is_one verb verb' verb_word in
    cc (target_is, verb_is, at.2)

same_hit : (target : Target) (verb : Verb) (other : Command) → Presses (Hit target verb) →
    Presses other → press_words (Hit target verb) ≡ press_words other →
    ((target' : Target) × (verb' : Verb) × other ≡ Hit target' verb') → Hit target verb ≡ other
same_hit target verb other is is_too same at =
    let target' = at.0 in
    let verb' = at.1 in
    let has : Presses (Hit target' verb') = subst Presses at.2 is_too in
    let words : press_words (Hit target verb) ≡ press_words (Hit target' verb') =
    same ∙ ap press_words at.2 in
    let target_same : target_word target ≡ target_word target' = cc words in
    let verb_word : verb_name verb ≡ verb_name verb' = cc words in
    let target_is : target ≡ target' = target_is_one target target' is has target_same in
    let verb_is : verb ≡ verb' = verb_is_one verb verb' verb_word in
    cc (target_is, verb_is, at.2)

-- presses of the same words are one
press_is_one : (command other : Command) → Presses command → Presses other →
    press_words command ≡ press_words other → command ≡ other
press_is_one (Down target verb) other is is_too same =
    same_down target verb other is is_too same (first_is_down other _ (sym same))
press_is_one (Up target verb) other is is_too same =
    same_up target verb other is is_too same (first_is_up other _ (sym same))
press_is_one (Hit target verb) other is is_too same =
    same_hit target verb other is is_too same (first_is_hit other _ (sym same))
press_is_one _ other is is_too same = absurd (false≢true is)

-- channels of one word are one
channel_is_one : (channel other : ℕ) → channel < 16 → other < 16 →
    decimal (channel + 1) ≡ decimal (other + 1) → channel ≡ other
channel_is_one channel other low low_too same =
    let one : channel + 1 ≡ other + 1 =
    decimal_injective (channel + 1) (other + 1) (omega arith) (omega arith) same in omega arith

number_is_one : (number other : ℕ) → number ≤ 127 → other ≤ 127 → decimal number ≡ decimal other →
    number ≡ other
number_is_one number other low low_too same =
    decimal_injective number other (omega arith) (omega arith) same

-- bindings of the same words are one
pub words_are_of_one : (binding other : Binding) → HasWords binding → HasWords other →
    binding_words binding ≡ binding_words other → binding ≡ other
words_are_of_one (Give kind channel number command) (Give kind' channel' number' command') has
    has_too same =
    let kind_same : kind_word kind ≡ kind_word kind' = cc same in
    let channel_same : decimal (channel + 1) ≡ decimal (channel' + 1) = cc same in
    let number_same : decimal number ≡ decimal number' = cc same in
    let press_same : press_words command ≡ press_words command' = cc same in
    let kind_is : kind ≡ kind' = kind_is_one kind kind' kind_same in
    let channel_is : channel ≡ channel' =
    channel_is_one channel channel' has.0 has_too.0 channel_same in
    let number_is : number ≡ number' = number_is_one number number' has.1 has_too.1 number_same in
    let press_is : command ≡ command' = press_is_one command command' has.2 has_too.2 press_same in
    cc (kind_is, channel_is, number_is, press_is)
words_are_of_one (Sweep channel number target control low high)
    (Sweep channel' number' target' control' low' high') has has_too same =
    let channel_same : decimal (channel + 1) ≡ decimal (channel' + 1) = cc same in
    let number_same : decimal number ≡ decimal number' = cc same in
    let target_same : target_word target ≡ target_word target' = cc same in
    let control_same : control_name control ≡ control_name control' = cc same in
    let low_same : signed_decimal low ≡ signed_decimal low' = cc same in
    let high_same : signed_decimal high ≡ signed_decimal high' = cc same in
    let channel_is : channel ≡ channel' =
    channel_is_one channel channel' has.0 has_too.0 channel_same in
    let number_is : number ≡ number' = number_is_one number number' has.1 has_too.1 number_same in
    let target_is : target ≡ target' =
    target_is_one target target' has.2.0 has_too.2.0 target_same in
    let control_is : control ≡ control' = control_is_one control control' control_same in
    let low_is : low ≡ low' = signed_is_one low low' (short_has_few_digits low has.2.1.0 has.2.1.1)
    (short_has_few_digits low' has_too.2.1.0 has_too.2.1.1) low_same in
    let high_is : high ≡ high' =
    signed_is_one high high' (short_has_few_digits high has.2.2.0 has.2.2.1)
    (short_has_few_digits high' has_too.2.2.0 has_too.2.2.1) high_same in
    cc (channel_is, number_is, target_is, control_is, low_is, high_is)
words_are_of_one (Give kind channel number command)
    (Sweep channel' number' target' control' low' high') has has_too same =
    absurd (kind_is_no_sweep kind (ap first_word same))
words_are_of_one (Sweep channel number target control low high)
    (Give kind' channel' number' command') has has_too same =
    absurd (kind_is_no_sweep kind' (sym (ap first_word same)))

-- bindings of the same line are one
pub line_is_of_one : (binding other : Binding) → HasWords binding → HasWords other →
    binding_line binding ≡ binding_line other → binding ≡ other
line_is_of_one binding other has has_too same =
    words_are_of_one binding other has has_too
    (sym (words_of_line binding has) ∙ ap words_in same ∙ words_of_line other has_too)

-- where the binding that words spell isn't one for so many loops, they are those of none that is
pub not_valid : (loops : ℕ) (words : List (List ℕ)) (found other : Binding) → loops ≤ max_loops →
    HasWords found → words ≡ binding_words found → is_binding loops found ≡ false →
    IsTrue (is_binding loops other) → words ≡ binding_words other → ⊥
not_valid loops words found other few has same bad is same_too =
    let one = words_are_of_one found other has (binding_has_words loops other few is)
    (sym same ∙ same_too) in
    false≢true (sym bad ∙ ap (is_binding loops) one ∙ is)
