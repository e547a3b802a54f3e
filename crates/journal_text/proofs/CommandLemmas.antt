-- The words of commands.
use Rattle.std.proofs.Common.{◌≡◌, ◌&&◌, ℕ, ◌≤◌, true, List, [], ◌∷◌, refl, sym, ap, ◌∙◌, subst, arith, leb}
use Rattle.std.specs.Prelude.{ℤ, IsTrue, IfNone, codes, not, Option, Some, None, length}
use Rattle.std.specs.List.{AllByRecursion, list_any}
use Rattle.std.specs.Fmt.{decimal, signed_decimal}
use Rattle.std.specs.Str.{bytes_eq}
use Rattle.std.proofs.lemmas.Bool.{and_parts, ltb-true, lt-ltb, false≢true}
use Rattle.std.proofs.lemmas.Bool.Decides.{nat_tests}
use Rattle.std.proofs.lemmas.Fmt.{decimal_injective}
use Rattle.sl_base.specs.Names.{IsName, is_name}
use Rattle.sl_commands.specs.declared.command.Target.{Target}
use Rattle.sl_commands.specs.declared.command.Target.TheVariants.{One, All, Selected}
use Rattle.sl_commands.specs.declared.command.Command.{Command}
use Rattle.sl_commands.specs.declared.command.Command.TheVariants.{Down, Up, Hit, Set, SetGlobal, Get, GetGlobal, SaveLoop, SaveSession, Release, Quit}
use Rattle.sl_commands.specs.declared.verb.Verb.{Verb}
use Rattle.sl_commands.specs.declared.control.Control.{Control}
use Rattle.sl_commands.specs.Commands.{is_target, is_single_target, is_release_target, is_outcome, is_allowed, target_number, numbered_target}
use Rattle.sl_commands.specs.Verbs.{verb_name}
use Rattle.sl_commands.specs.Controls.{control_name, is_of_loop, is_in_range}
use Rattle.text_lines.specs.Lines.{IsWord}
use Rattle.text_lines.specs.Shapes.{is_some}
use Rattle.text_lines.proofs.NumeralLemmas.{decimal_has_form}
use Rattle.text_lines.proofs.WordLemmas.{decimal_is_word, signed_is_word, name_is_word, printed_is_word, signed_has_form, signed_is_one}
use Rattle.text_lines.specs.Targets.{target_word}
use Rattle.text_lines.specs.Presses.{SpellPress}
use Rattle.journal_text.specs.JournalLines.{command_words, HasWords, Spell, have_form, command_forms}
use Rattle.text_lines.proofs.TargetLemmas.{target_comes_back, target_is_short}
use Rattle.text_lines.proofs.TableLemmas.{verb_is_one, control_is_one, verb_name_is_word, control_name_is_word, verb_name_is_some, control_name_is_some, in_range_is_short, short_has_few_digits}

-- what is there is one
some_is_one : {A : Type 0} {a b : A} → Some a ≡ Some b → a ≡ b
some_is_one same = Prim.cc

-- the words of a press are those of its command
pub press_is_spelled : (words : List (List ℕ)) (command : Command) → SpellPress words command →
    Spell words command
press_is_spelled words (Down target verb) is = is
press_is_spelled words (Up target verb) is = is
press_is_spelled words (Hit target verb) is = is
press_is_spelled words _ is = absurd (false≢true is.1)

-- words that are no press spell no press
pub not_pressed : (words : List (List ℕ)) (o : Option Command) (give : Target → Verb → Command) →
    ((target : Target) (verb : Verb) → Spell words (give target verb) →
    SpellPress words (give target verb)) →
    IfNone o ((command : Command) → ¬ SpellPress words command) →
    IfNone o ((target : Target) (verb : Verb) → ¬ Spell words (give target verb))
not_pressed words (Some command) give is none = tt
not_pressed words None give is none = λ target verb spelled.
    none (give target verb) (is target verb spelled)

-- one of the loops is one of 256
single_is_target : (loops : ℕ) (target : Target) → loops ≤ 256 →
    IsTrue (is_single_target loops target) → IsTrue (is_target 256 target)
single_is_target loops (One i) few is = lt-ltb i 256 (omega (arith, ltb-true i loops is))
single_is_target loops All few is = refl
single_is_target loops Selected few is = refl

release_is_target : (loops : ℕ) (target : Target) → loops ≤ 256 →
    IsTrue (is_release_target loops target) → IsTrue (is_target 256 target)
release_is_target loops (One i) few is = lt-ltb i 256 (omega (arith, ltb-true i loops is))
release_is_target loops All few is = refl
release_is_target loops Selected few is = refl

any_is_target : (loops : ℕ) (target : Target) → loops ≤ 256 → IsTrue (is_target loops target) →
    IsTrue (is_target 256 target)
any_is_target loops (One i) few is = lt-ltb i 256 (omega (arith, ltb-true i loops is))
any_is_target loops All few is = refl
any_is_target loops Selected few is = refl

-- an outcome has 8 bits
outcome_is_short : (outcome : ℕ) → IsTrue (is_outcome outcome) → outcome ≤ 255
outcome_is_short outcome is = Prim.grind (arith, nat_tests)

-- targets of one word are one
pub target_is_one : (target other : Target) → IsTrue (is_target 256 target) →
    IsTrue (is_target 256 other) → target_word target ≡ target_word other → target ≡ other
target_is_one target other is is_too same =
    some_is_one (sym (target_comes_back target is)
    ∙ ap numbered_target
    (signed_is_one (target_number target) (target_number other) (target_is_short target is)
    (target_is_short other is_too) same)
    ∙ target_comes_back other is_too)

-- numbers of 8 bits of one word are one
outcome_is_one : (outcome other : ℕ) → outcome ≤ 255 → other ≤ 255 →
    decimal outcome ≡ decimal other → outcome ≡ other
outcome_is_one outcome other short short_too same =
    decimal_injective outcome other (omega arith) (omega arith) same

-- what is allowed has words
pub allowed_has_words : (loops : ℕ) (command : Command) → loops ≤ 16 →
    IsTrue (is_allowed loops command) → HasWords command
allowed_has_words loops (Down target verb) few is = any_is_target loops target (omega arith) is
allowed_has_words loops (Up target verb) few is = any_is_target loops target (omega arith) is
allowed_has_words loops (Hit target verb) few is = any_is_target loops target (omega arith) is
allowed_has_words loops (Set target control value) few is =
    let parts = and_parts (is_target loops target && is_of_loop control)
    (is_in_range control value loops) is in
    let short = in_range_is_short control value loops few parts.1 in (
      any_is_target loops target (omega arith)
          (and_parts (is_target loops target) (is_of_loop control) parts.0).0,
      short.low,
      short.high,
    )
allowed_has_words loops (SetGlobal control value) few is =
    let short = in_range_is_short control value loops few
    (and_parts (not (is_of_loop control)) (is_in_range control value loops) is).1 in
    (short.low, short.high)
allowed_has_words loops (Get target control) few is = single_is_target loops target (omega arith)
    (and_parts (is_single_target loops target) (is_of_loop control) is).0
allowed_has_words loops (GetGlobal control) few is = tt
allowed_has_words loops (SaveLoop target name) few is =
    let parts = and_parts (is_single_target loops target) (is_name name) is in
    (single_is_target loops target (omega arith) parts.0, parts.1)
allowed_has_words loops (SaveSession name) few is =
    (and_parts (is_name name) (leb (length name) 48) is).0
allowed_has_words loops (Release target outcome) few is =
    let parts = and_parts (is_release_target loops target) (is_outcome outcome) is in
    (release_is_target loops target (omega arith) parts.0, outcome_is_short outcome parts.1)
allowed_has_words loops Quit few is = tt

-- each of its words stands whole in a line
pub command_words_are_words : (command : Command) → HasWords command →
    AllByRecursion IsWord (command_words command)
command_words_are_words (Down target verb) is = (
  printed_is_word (codes "down") refl refl,
  (
    signed_is_word (target_number target) (target_is_short target is),
    (verb_name_is_word verb, tt),
  ),
)
command_words_are_words (Up target verb) is = (
  printed_is_word (codes "up") refl refl,
  (
    signed_is_word (target_number target) (target_is_short target is),
    (verb_name_is_word verb, tt),
  ),
)
command_words_are_words (Hit target verb) is = (
  printed_is_word (codes "hit") refl refl,
  (
    signed_is_word (target_number target) (target_is_short target is),
    (verb_name_is_word verb, tt),
  ),
)
command_words_are_words (Set target control value) is = (
  printed_is_word (codes "set") refl refl,
  (
    signed_is_word (target_number target) (target_is_short target is.0),
    (
      control_name_is_word control,
      (signed_is_word value (short_has_few_digits value is.1 is.2), tt),
    ),
  ),
)
command_words_are_words (SetGlobal control value) is = (
  printed_is_word (codes "gset") refl refl,
  (
    control_name_is_word control,
    (signed_is_word value (short_has_few_digits value is.0 is.1), tt),
  ),
)
command_words_are_words (Get target control) is = (
  printed_is_word (codes "get") refl refl,
  (
    signed_is_word (target_number target) (target_is_short target is),
    (control_name_is_word control, tt),
  ),
)
command_words_are_words (GetGlobal control) is =
    (printed_is_word (codes "gget") refl refl, (control_name_is_word control, tt))
command_words_are_words (SaveLoop target name) is = (
  printed_is_word (codes "save") refl refl,
  (
    signed_is_word (target_number target) (target_is_short target is.0),
    (name_is_word name is.1, tt),
  ),
)
command_words_are_words (SaveSession name) is =
    (printed_is_word (codes "session") refl refl, (name_is_word name is, tt))
command_words_are_words (Release target outcome) is = (
  printed_is_word (codes "release") refl refl,
  (
    signed_is_word (target_number target) (target_is_short target is.0),
    (decimal_is_word outcome (omega (arith, is.1)), tt),
  ),
)
command_words_are_words Quit is = (printed_is_word (codes "quit") refl refl, tt)

-- a name is some bytes
name_is_some : (name : List ℕ) → IsName name → is_some name ≡ true
name_is_some [] is = absurd (false≢true is)
name_is_some (b ∷ name) is = refl

-- the words have the form of a command
abbrev pub HasForm : List (List ℕ) → Type 0
HasForm [] = ⊥
HasForm (word ∷ words) = list_any (have_form word words) command_forms ≡ true

-- its words have a form
pub command_has_form : (command : Command) → HasWords command → HasForm (command_words command)
command_has_form (Down target verb) is =
    rw (signed_has_form (target_number target) (target_is_short target is), verb_name_is_some verb)
    refl
command_has_form (Up target verb) is =
    rw (signed_has_form (target_number target) (target_is_short target is), verb_name_is_some verb)
    refl
command_has_form (Hit target verb) is =
    rw (signed_has_form (target_number target) (target_is_short target is), verb_name_is_some verb)
    refl
command_has_form (Set target control value) is =
    rw (
      signed_has_form (target_number target) (target_is_short target is.0),
      control_name_is_some control,
      signed_has_form value (short_has_few_digits value is.1 is.2),
    ) refl
command_has_form (SetGlobal control value) is =
    rw (control_name_is_some control, signed_has_form value (short_has_few_digits value is.0 is.1))
    refl
command_has_form (Get target control) is =
    rw (
      signed_has_form (target_number target) (target_is_short target is),
      control_name_is_some control,
    ) refl
command_has_form (GetGlobal control) is = rw (control_name_is_some control) refl
command_has_form (SaveLoop target name) is =
    rw (
      signed_has_form (target_number target) (target_is_short target is.0),
      name_is_some name is.1,
    ) refl
command_has_form (SaveSession name) is = rw (name_is_some name is) refl
command_has_form (Release target outcome) is =
    rw (
      signed_has_form (target_number target) (target_is_short target is.0),
      decimal_has_form outcome (omega (arith, is.1)),
    ) refl
command_has_form Quit is = refl

-- the first of words
abbrev first_word : List (List ℕ) → List ℕ
first_word [] = []
first_word (word ∷ words) = word

-- the first word says which command it is
first_is_down : (command : Command) (rest : List (List ℕ)) → command_words command ≡ codes "down"
    ∷ rest → (target : Target) × (verb : Verb) × command ≡ Down target verb
first_is_down (Down target verb) rest same = (target, verb, refl)
first_is_down _ rest same =
    absurd (false≢true (ap (λ ws. bytes_eq (codes "down") (first_word ws)) same))

first_is_up : (command : Command) (rest : List (List ℕ)) → command_words command ≡ codes "up"
    ∷ rest → (target : Target) × (verb : Verb) × command ≡ Up target verb
first_is_up (Up target verb) rest same = (target, verb, refl)
first_is_up _ rest same =
    absurd (false≢true (ap (λ ws. bytes_eq (codes "up") (first_word ws)) same))

first_is_hit : (command : Command) (rest : List (List ℕ)) → command_words command ≡ codes "hit"
    ∷ rest → (target : Target) × (verb : Verb) × command ≡ Hit target verb
first_is_hit (Hit target verb) rest same = (target, verb, refl)
first_is_hit _ rest same =
    absurd (false≢true (ap (λ ws. bytes_eq (codes "hit") (first_word ws)) same))

first_is_set : (command : Command) (rest : List (List ℕ)) →
    command_words command ≡ codes "set" ∷ rest → (target : Target) × (control : Control)
    × (value : ℤ) × command ≡ Set target control value
first_is_set (Set target control value) rest same = (target, control, value, refl)
first_is_set _ rest same =
    absurd (false≢true (ap (λ ws. bytes_eq (codes "set") (first_word ws)) same))

first_is_gset : (command : Command) (rest : List (List ℕ)) → command_words command ≡ codes "gset"
    ∷ rest → (control : Control) × (value : ℤ) × command ≡ SetGlobal control value
first_is_gset (SetGlobal control value) rest same = (control, value, refl)
first_is_gset _ rest same =
    absurd (false≢true (ap (λ ws. bytes_eq (codes "gset") (first_word ws)) same))

first_is_get : (command : Command) (rest : List (List ℕ)) → command_words command ≡ codes "get"
    ∷ rest → (target : Target) × (control : Control) × command ≡ Get target control
first_is_get (Get target control) rest same = (target, control, refl)
first_is_get _ rest same =
    absurd (false≢true (ap (λ ws. bytes_eq (codes "get") (first_word ws)) same))

first_is_gget : (command : Command) (rest : List (List ℕ)) →
    command_words command ≡ codes "gget" ∷ rest → (control : Control) × command ≡ GetGlobal control
first_is_gget (GetGlobal control) rest same = (control, refl)
first_is_gget _ rest same =
    absurd (false≢true (ap (λ ws. bytes_eq (codes "gget") (first_word ws)) same))

first_is_save : (command : Command) (rest : List (List ℕ)) → command_words command ≡ codes "save"
    ∷ rest → (target : Target) × (name : List ℕ) × command ≡ SaveLoop target name
first_is_save (SaveLoop target name) rest same = (target, name, refl)
first_is_save _ rest same =
    absurd (false≢true (ap (λ ws. bytes_eq (codes "save") (first_word ws)) same))

first_is_session : (command : Command) (rest : List (List ℕ)) →
    command_words command ≡ codes "session" ∷ rest → (name : List ℕ) × command ≡ SaveSession name
first_is_session (SaveSession name) rest same = (name, refl)
first_is_session _ rest same =
    absurd (false≢true (ap (λ ws. bytes_eq (codes "session") (first_word ws)) same))

first_is_release : (command : Command) (rest : List (List ℕ)) →
    command_words command ≡ codes "release" ∷ rest → (target : Target) × (outcome : ℕ)
    × command ≡ Release target outcome
first_is_release (Release target outcome) rest same = (target, outcome, refl)
first_is_release _ rest same =
    absurd (false≢true (ap (λ ws. bytes_eq (codes "release") (first_word ws)) same))

first_is_quit : (command : Command) (rest : List (List ℕ)) →
    command_words command ≡ codes "quit" ∷ rest → command ≡ Quit
first_is_quit Quit rest same = refl
first_is_quit _ rest same =
    absurd (false≢true (ap (λ ws. bytes_eq (codes "quit") (first_word ws)) same))

-- what follows from the same words, command by command
same_down : (target : Target) (verb : Verb) (other : Command) → HasWords (Down target verb) →
    HasWords other → command_words (Down target verb) ≡ command_words other →
    ((target' : Target) × (verb' : Verb) × other ≡ Down target' verb') → Down target verb ≡ other
same_down target verb other is is_too same at =
    let target' = at.0 in
    let verb' = at.1 in
    let has : HasWords (Down target' verb') = subst HasWords at.2 is_too in
    let words : command_words (Down target verb) ≡ command_words (Down target' verb') =
    same ∙ ap command_words at.2 in
    let target_same : target_word target ≡ target_word target' = cc words in
    let verb_word : verb_name verb ≡ verb_name verb' = cc words in
    let target_is : target ≡ target' = target_is_one target target' is has target_same in
    let verb_is : verb ≡ verb' = verb_is_one verb verb' verb_word in
    cc (target_is, verb_is, at.2)

same_up : (target : Target) (verb : Verb) (other : Command) → HasWords (Up target verb) →
    HasWords other → command_words (Up target verb) ≡ command_words other →
    ((target' : Target) × (verb' : Verb) × other ≡ Up target' verb') → Up target verb ≡ other
same_up target verb other is is_too same at =
    let target' = at.0 in
    let verb' = at.1 in
    let has : HasWords (Up target' verb') = subst HasWords at.2 is_too in
    let words : command_words (Up target verb) ≡ command_words (Up target' verb') =
    same ∙ ap command_words at.2 in
    let target_same : target_word target ≡ target_word target' = cc words in
    let verb_word : verb_name verb ≡ verb_name verb' = cc words in
    let target_is : target ≡ target' = target_is_one target target' is has target_same in
    let verb_is : verb ≡ verb' = verb_is_one verb verb' verb_word in
    cc (target_is, verb_is, at.2)

same_hit : (target : Target) (verb : Verb) (other : Command) → HasWords (Hit target verb) →
    HasWords other → command_words (Hit target verb) ≡ command_words other →
    ((target' : Target) × (verb' : Verb) × other ≡ Hit target' verb') → Hit target verb ≡ other
same_hit target verb other is is_too same at =
    let target' = at.0 in
    let verb' = at.1 in
    let has : HasWords (Hit target' verb') = subst HasWords at.2 is_too in
    let words : command_words (Hit target verb) ≡ command_words (Hit target' verb') =
    same ∙ ap command_words at.2 in
    let target_same : target_word target ≡ target_word target' = cc words in
    let verb_word : verb_name verb ≡ verb_name verb' = cc words in
    let target_is : target ≡ target' = target_is_one target target' is has target_same in
    let verb_is : verb ≡ verb' = verb_is_one verb verb' verb_word in
    cc (target_is, verb_is, at.2)

same_set : (target : Target) (control : Control) (value : ℤ) (other : Command) →
    HasWords (Set target control value) → HasWords other →
    command_words (Set target control value) ≡ command_words other →
    ((target' : Target) × (control' : Control) × (value' : ℤ)
    × other ≡ Set target' control' value') → Set target control value ≡ other
same_set target control value other is is_too same at =
    let target' = at.0 in
    let control' = at.1 in
    let value' = at.2 in
    let has : HasWords (Set target' control' value') = subst HasWords at.3 is_too in
    let words : command_words (Set target control value) ≡ command_words
    (Set target' control' value') = same ∙ ap command_words at.3 in
    let target_same : target_word target ≡ target_word target' = cc words in
    let control_word : control_name control ≡ control_name control' = cc words in
    let value_word : signed_decimal value ≡ signed_decimal value' = cc words in
    let target_is : target ≡ target' = target_is_one target target' is.0 has.0 target_same in
    let control_is : control ≡ control' = control_is_one control control' control_word in
    let value_is : value ≡ value' =
    signed_is_one value value' (short_has_few_digits value is.1 is.2)
    (short_has_few_digits value' has.1 has.2) value_word in
    cc (target_is, control_is, value_is, at.3)

same_gset : (control : Control) (value : ℤ) (other : Command) → HasWords (SetGlobal control value) →
    HasWords other → command_words (SetGlobal control value) ≡ command_words other →
    ((control' : Control) × (value' : ℤ) × other ≡ SetGlobal control' value') →
    SetGlobal control value ≡ other
same_gset control value other is is_too same at =
    let control' = at.0 in
    let value' = at.1 in
    let has : HasWords (SetGlobal control' value') = subst HasWords at.2 is_too in
    let words : command_words (SetGlobal control value) ≡ command_words
    (SetGlobal control' value') = same ∙ ap command_words at.2 in
    let control_word : control_name control ≡ control_name control' = cc words in
    let value_word : signed_decimal value ≡ signed_decimal value' = cc words in
    let control_is : control ≡ control' = control_is_one control control' control_word in
    let value_is : value ≡ value' =
    signed_is_one value value' (short_has_few_digits value is.0 is.1)
    (short_has_few_digits value' has.0 has.1) value_word in
    cc (control_is, value_is, at.2)

same_get : (target : Target) (control : Control) (other : Command) → HasWords (Get target control) →
    HasWords other → command_words (Get target control) ≡ command_words other →
    ((target' : Target) × (control' : Control) × other ≡ Get target' control') →
    Get target control ≡ other
same_get target control other is is_too same at =
    let target' = at.0 in
    let control' = at.1 in
    let has : HasWords (Get target' control') = subst HasWords at.2 is_too in
    let words : command_words (Get target control) ≡ command_words (Get target' control') =
    same ∙ ap command_words at.2 in
    let target_same : target_word target ≡ target_word target' = cc words in
    let control_word : control_name control ≡ control_name control' = cc words in
    let target_is : target ≡ target' = target_is_one target target' is has target_same in
    let control_is : control ≡ control' = control_is_one control control' control_word in
    cc (target_is, control_is, at.2)

same_gget : (control : Control) (other : Command) → HasWords (GetGlobal control) → HasWords other →
    command_words (GetGlobal control) ≡ command_words other →
    ((control' : Control) × other ≡ GetGlobal control') → GetGlobal control ≡ other
same_gget control other is is_too same at =
    let control' = at.0 in
    let has : HasWords (GetGlobal control') = subst HasWords at.1 is_too in
    let words : command_words (GetGlobal control) ≡ command_words (GetGlobal control') =
    same ∙ ap command_words at.1 in
    let control_word : control_name control ≡ control_name control' = cc words in
    let control_is : control ≡ control' = control_is_one control control' control_word in
    cc (control_is, at.1)

same_save : (target : Target) (name : List ℕ) (other : Command) → HasWords (SaveLoop target name) →
    HasWords other → command_words (SaveLoop target name) ≡ command_words other →
    ((target' : Target) × (name' : List ℕ) × other ≡ SaveLoop target' name') →
    SaveLoop target name ≡ other
same_save target name other is is_too same at =
    let target' = at.0 in
    let name' = at.1 in
    let has : HasWords (SaveLoop target' name') = subst HasWords at.2 is_too in
    let words : command_words (SaveLoop target name) ≡ command_words (SaveLoop target' name') =
    same ∙ ap command_words at.2 in
    let target_same : target_word target ≡ target_word target' = cc words in
    let name_word : name ≡ name' = cc words in
    let target_is : target ≡ target' = target_is_one target target' is.0 has.0 target_same in
    let name_is : name ≡ name' = name_word in
    cc (target_is, name_is, at.2)

same_session : (name : List ℕ) (other : Command) → HasWords (SaveSession name) → HasWords other →
    command_words (SaveSession name) ≡ command_words other →
    ((name' : List ℕ) × other ≡ SaveSession name') → SaveSession name ≡ other
same_session name other is is_too same at =
    let name' = at.0 in
    let has : HasWords (SaveSession name') = subst HasWords at.1 is_too in
    let words : command_words (SaveSession name) ≡ command_words (SaveSession name') =
    same ∙ ap command_words at.1 in
    let name_word : name ≡ name' = cc words in
    let name_is : name ≡ name' = name_word in
    cc (name_is, at.1)

same_release : (target : Target) (outcome : ℕ) (other : Command) →
    HasWords (Release target outcome) → HasWords other →
    command_words (Release target outcome) ≡ command_words other →
    ((target' : Target) × (outcome' : ℕ) × other ≡ Release target' outcome') →
    Release target outcome ≡ other
same_release target outcome other is is_too same at =
    let target' = at.0 in
    let outcome' = at.1 in
    let has : HasWords (Release target' outcome') = subst HasWords at.2 is_too in
    let words : command_words (Release target outcome) ≡ command_words (Release target' outcome') =
    same ∙ ap command_words at.2 in
    let target_same : target_word target ≡ target_word target' = cc words in
    let outcome_word : decimal outcome ≡ decimal outcome' = cc words in
    let target_is : target ≡ target' = target_is_one target target' is.0 has.0 target_same in
    let outcome_is : outcome ≡ outcome' = outcome_is_one outcome outcome' is.1 has.1 outcome_word in
    cc (target_is, outcome_is, at.2)

-- commands of the same words are one
pub command_is_one : (command other : Command) → HasWords command → HasWords other →
    command_words command ≡ command_words other → command ≡ other
command_is_one (Down target verb) other is is_too same =
    same_down target verb other is is_too same (first_is_down other _ (sym same))
command_is_one (Up target verb) other is is_too same =
    same_up target verb other is is_too same (first_is_up other _ (sym same))
command_is_one (Hit target verb) other is is_too same =
    same_hit target verb other is is_too same (first_is_hit other _ (sym same))
command_is_one (Set target control value) other is is_too same =
    same_set target control value other is is_too same (first_is_set other _ (sym same))
command_is_one (SetGlobal control value) other is is_too same =
    same_gset control value other is is_too same (first_is_gset other _ (sym same))
command_is_one (Get target control) other is is_too same =
    same_get target control other is is_too same (first_is_get other _ (sym same))
command_is_one (GetGlobal control) other is is_too same =
    same_gget control other is is_too same (first_is_gget other _ (sym same))
command_is_one (SaveLoop target name) other is is_too same =
    same_save target name other is is_too same (first_is_save other _ (sym same))
command_is_one (SaveSession name) other is is_too same =
    same_session name other is is_too same (first_is_session other _ (sym same))
command_is_one (Release target outcome) other is is_too same =
    same_release target outcome other is is_too same (first_is_release other _ (sym same))
command_is_one Quit other is is_too same = sym (first_is_quit other [] (sym same))
