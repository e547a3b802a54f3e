-- The words and the line of a binding.
use Rattle.std.proofs.Common.{◌≡◌, ◌≢◌, ℕ, ◌+◌, ◌<◌, ◌≤◌, true, List, [], refl, sym, ap, ◌∙◌, arith}
use Rattle.sl_base.specs.Limits.{max_loops}
use Rattle.std.specs.Prelude.{ℤ, pos, negsuc, IsTrue, codes, Some, ◌&&◌, nat_lt}
use Rattle.std.specs.List.{AllByRecursion}
use Rattle.std.proofs.lemmas.Bool.{and_parts, leb-true, le-leb, ltb-true, lt-ltb, false≢true}
use Rattle.std.proofs.lemmas.List.Splits.{join_with_byte-slice_split}
use Rattle.sl_commands.specs.declared.command.Target.{Target}
use Rattle.sl_commands.specs.declared.command.Target.TheVariants.{One, All, Selected}
use Rattle.sl_commands.specs.declared.command.Command.{Command}
use Rattle.sl_commands.specs.declared.command.Command.TheVariants.{Down, Up, Hit}
use Rattle.sl_commands.specs.declared.control.Control.{Control}
use Rattle.sl_commands.specs.declared.control.Range.{Range}
use Rattle.sl_commands.specs.declared.control.Range.TheVariants.{ReadOnly, Between, Source, LoopIndex}
use Rattle.sl_commands.specs.Commands.{is_target, target_number, numbered_target}
use Rattle.sl_commands.specs.Controls.{is_of_loop, is_in_range, is_within}
use Rattle.text_lines.specs.Lines.{Lacks, words_in, line_of, end_word, IsWord}
use Rattle.text_lines.proofs.NumeralLemmas.{decimal_has_form}
use Rattle.text_lines.proofs.WordLemmas.{decimal_is_word, signed_is_word, printed_is_word, signed_has_form, signed_is_one, words_come_back, line_is_whole}
use Rattle.midi_bindings.specs.declared.binding.BindKind.{BindKind}
use Rattle.midi_bindings.specs.declared.binding.BindKind.TheVariants.{On, Off, Program, High, Low}
use Rattle.midi_bindings.specs.declared.binding.Binding.{Binding}
use Rattle.midi_bindings.specs.declared.binding.Binding.TheVariants.{Give, Sweep}
use Rattle.text_lines.specs.Targets.{target_word}
use Rattle.midi_bindings.specs.Lines.{kind_word, binding_words, binding_line, is_binding, is_kind, is_form, HasWords}
use Rattle.text_lines.specs.Presses.{press_words, is_press}
use Rattle.text_lines.proofs.TargetLemmas.{target_comes_back, target_is_short}
use Rattle.text_lines.proofs.TableLemmas.{verb_name_is_word, control_name_is_word, verb_name_is_some, control_name_is_some, in_range_is_short, short_has_few_digits}

-- what is there is one
some_is_one : {A : Type 0} {a b : A} → Some a ≡ Some b → a ≡ b
some_is_one same = Prim.cc

-- one of the loops is one of more
more_targets : (loops more : ℕ) (target : Target) → loops ≤ more → IsTrue (is_target loops target) →
    IsTrue (is_target more target)
more_targets loops more (One i) few is = lt-ltb i more (omega (arith, ltb-true i loops is))
more_targets loops more All few is = refl
more_targets loops more Selected few is = refl

-- targets of one word are one
pub target_is_one : (target other : Target) → IsTrue (is_target 256 target) →
    IsTrue (is_target 256 other) → target_word target ≡ target_word other → target ≡ other
target_is_one target other is is_too same =
    some_is_one (sym (target_comes_back target is)
    ∙ ap numbered_target
    (signed_is_one (target_number target) (target_number other) (target_is_short target is)
    (target_is_short other is_too) same)
    ∙ target_comes_back other is_too)

-- a press for some loops is one for more
more_presses : (loops more : ℕ) (command : Command) → loops ≤ more →
    IsTrue (is_press loops command) → IsTrue (is_press more command)
more_presses loops more (Down target verb) few is = more_targets loops more target few is
more_presses loops more (Up target verb) few is = more_targets loops more target few is
more_presses loops more (Hit target verb) few is = more_targets loops more target few is
more_presses loops more _ few is = absurd (false≢true is)

-- a value within a range for some loops is so for more
more_within : (range : Range) (loops more : ℕ) (value : ℤ) → loops ≤ more →
    is_within range loops value ≡ true → is_within range more value ≡ true
more_within ReadOnly loops more value few is = absurd (false≢true is)
more_within (Between least greatest first) loops more (pos n) few is = is
more_within (Between least greatest first) loops more (negsuc n) few is = is
more_within Source loops more (pos n) few is = le-leb n more (omega (arith, leb-true n loops is))
more_within Source loops more (negsuc n) few is = is
more_within LoopIndex loops more (pos n) few is = lt-ltb n more (omega (arith, ltb-true n loops is))
more_within LoopIndex loops more (negsuc n) few is = is

-- the parts of what a sweep says
pub record SweepParts (loops channel number : ℕ) (target : Target) (control : Control)
    (low high : ℤ) : Type 0 where
  pub on_channel : channel < 16
  pub has_number : number < 128
  pub has_target : IsTrue (is_target loops target)
  pub of_loop : is_of_loop control ≡ true
  pub from_low : IsTrue (is_in_range control low loops)
  pub to_high : IsTrue (is_in_range control high loops)

pub sweep_parts : (loops channel number : ℕ) (target : Target) (control : Control) (low high : ℤ) →
    IsTrue (is_binding loops (Sweep channel number target control low high)) →
    SweepParts loops channel number target control low high
sweep_parts loops channel number target control low high is =
    let e = and_parts (nat_lt channel 16 && nat_lt number 128 && is_target loops target
    && is_of_loop control && is_in_range control low loops) (is_in_range control high loops)
    is in
    let d = and_parts (nat_lt channel 16 && nat_lt number 128 && is_target loops target
    && is_of_loop control) (is_in_range control low loops) e.0 in
    let c = and_parts (nat_lt channel 16 && nat_lt number 128 && is_target loops target)
    (is_of_loop control) d.0 in
    let b = and_parts (nat_lt channel 16 && nat_lt number 128) (is_target loops target) c.0 in
    let a = and_parts (nat_lt channel 16) (nat_lt number 128) b.0 in
    record {
      on_channel = ltb-true channel 16 a.0;
      has_number = ltb-true number 128 a.1;
      has_target = b.1;
      of_loop = c.1;
      from_low = d.1;
      to_high = e.1;
    }

pub record GiveParts (loops channel number : ℕ) (command : Command) : Type 0 where
  pub on_channel : channel < 16
  pub has_number : number < 128
  pub press : IsTrue (is_press loops command)

pub give_parts : (loops : ℕ) (kind : BindKind) (channel number : ℕ) (command : Command) →
    IsTrue (is_binding loops (Give kind channel number command)) →
    GiveParts loops channel number command
give_parts loops kind channel number command is =
    let b = and_parts (nat_lt channel 16 && nat_lt number 128) (is_press loops command) is in
    let a = and_parts (nat_lt channel 16) (nat_lt number 128) b.0 in
    record {
      on_channel = ltb-true channel 16 a.0;
      has_number = ltb-true number 128 a.1;
      press = b.1;
    }

-- what is a binding has words
pub binding_has_words : (loops : ℕ) (binding : Binding) → loops ≤ max_loops →
    IsTrue (is_binding loops binding) → HasWords binding
binding_has_words loops (Give kind channel number command) few is =
    let parts = give_parts loops kind channel number command is in (
      parts.on_channel,
      omega (arith, parts.has_number),
      more_presses loops 256 command (omega arith) parts.press,
    )
binding_has_words loops (Sweep channel number target control low high) few is =
    let parts = sweep_parts loops channel number target control low high is in
    let a = in_range_is_short control low loops few parts.from_low in
    let b = in_range_is_short control high loops few parts.to_high in (
      parts.on_channel,
      omega (arith, parts.has_number),
      (
        more_targets loops 256 target (omega arith) parts.has_target,
        (a.low, a.high),
        (b.low, b.high),
      ),
    )

-- each word stands whole in a line
kind_is_word : (kind : BindKind) → IsWord (kind_word kind)
kind_is_word On = printed_is_word (kind_word On) refl refl
kind_is_word Off = printed_is_word (kind_word Off) refl refl
kind_is_word Program = printed_is_word (kind_word Program) refl refl
kind_is_word High = printed_is_word (kind_word High) refl refl
kind_is_word Low = printed_is_word (kind_word Low) refl refl

press_are_words : (command : Command) → IsTrue (is_press 256 command) →
    AllByRecursion IsWord (press_words command)
press_are_words (Down target verb) is = (
  printed_is_word (codes "down") refl refl,
  (
    signed_is_word (target_number target) (target_is_short target is),
    (verb_name_is_word verb, tt),
  ),
)
press_are_words (Up target verb) is = (
  printed_is_word (codes "up") refl refl,
  (
    signed_is_word (target_number target) (target_is_short target is),
    (verb_name_is_word verb, tt),
  ),
)
press_are_words (Hit target verb) is = (
  printed_is_word (codes "hit") refl refl,
  (
    signed_is_word (target_number target) (target_is_short target is),
    (verb_name_is_word verb, tt),
  ),
)
press_are_words _ is = absurd (false≢true is)

are_words : (binding : Binding) → HasWords binding → AllByRecursion IsWord (binding_words binding)
are_words (Give kind channel number command) has = (
  kind_is_word kind,
  (
    decimal_is_word (channel + 1) (omega (arith, has.0)),
    (decimal_is_word number (omega (arith, has.1)), press_are_words command has.2),
  ),
)
are_words (Sweep channel number target control low high) has = (
  printed_is_word (codes "cv") refl refl,
  (
    decimal_is_word (channel + 1) (omega (arith, has.0)),
    (
      decimal_is_word number (omega (arith, has.1)),
      (
        printed_is_word (codes "set") refl refl,
        (
          signed_is_word (target_number target) (target_is_short target has.2.0),
          (
            control_name_is_word control,
            (
              signed_is_word low (short_has_few_digits low has.2.1.0 has.2.1.1),
              (signed_is_word high (short_has_few_digits high has.2.2.0 has.2.2.1), tt),
            ),
          ),
        ),
      ),
    ),
  ),
)

-- there are words
words_are_some : (binding : Binding) → binding_words binding ≢ []
words_are_some (Give kind channel number command) none = Prim.cc
words_are_some (Sweep channel number target control low high) none = Prim.cc

-- the words of a binding's line are its own
pub words_of_line : (binding : Binding) → HasWords binding →
    words_in (binding_line binding) ≡ binding_words binding
words_of_line binding has =
    words_come_back (binding_words binding) (words_are_some binding) (are_words binding has)

-- its line is whole
pub line_whole : (binding : Binding) → HasWords binding → Lacks 10 (binding_line binding)
line_whole binding has = line_is_whole (binding_words binding) (are_words binding has)

-- the kind of a verb's line
kind_is_kind : (kind : BindKind) → is_kind (kind_word kind) ≡ true
kind_is_kind On = refl
kind_is_kind Off = refl
kind_is_kind Program = refl
kind_is_kind High = refl
kind_is_kind Low = refl

-- its words have a form
words_have_form : (binding : Binding) → HasWords binding → is_form (binding_words binding) ≡ true
words_have_form (Give kind channel number (Down target verb)) has =
    rw (
      decimal_has_form (channel + 1) (omega (arith, has.0)),
      decimal_has_form number (omega (arith, has.1)),
      kind_is_kind kind,
      signed_has_form
          (target_number target) (target_is_short target has.2),
      verb_name_is_some verb,
    ) refl
words_have_form (Give kind channel number (Up target verb)) has =
    rw (
      decimal_has_form (channel + 1) (omega (arith, has.0)),
      decimal_has_form number (omega (arith, has.1)),
      kind_is_kind kind,
      signed_has_form
          (target_number target) (target_is_short target has.2),
      verb_name_is_some verb,
    ) refl
words_have_form (Give kind channel number (Hit target verb)) has =
    rw (
      decimal_has_form (channel + 1) (omega (arith, has.0)),
      decimal_has_form number (omega (arith, has.1)),
      kind_is_kind kind,
      signed_has_form
          (target_number target) (target_is_short target has.2),
      verb_name_is_some verb,
    ) refl
words_have_form (Give kind channel number _) has = absurd (false≢true has.2)
words_have_form (Sweep channel number target control low high) has =
    rw (
      decimal_has_form (channel + 1) (omega (arith, has.0)),
      decimal_has_form number (omega (arith, has.1)),
      signed_has_form (target_number target) (target_is_short target has.2.0),
      control_name_is_some control,
      signed_has_form low (short_has_few_digits low has.2.1.0 has.2.1.1),
      signed_has_form high (short_has_few_digits high has.2.2.0 has.2.2.1),
    ) refl

-- and so has its line
pub line_has_form : (binding : Binding) → HasWords binding →
    is_form (words_in (binding_line binding)) ≡ true
line_has_form binding has = ap is_form (words_of_line binding has) ∙ words_have_form binding has

-- its line isn't `end`
pub line_is_not_end : (binding : Binding) → HasWords binding → binding_line binding ≢ end_word
line_is_not_end binding has same =
    false≢true (sym (ap (λ l. is_form (words_in l)) same) ∙ line_has_form binding has)

-- a line is that of its words
pub line_of_binding : (line : List ℕ) (binding : Binding) → words_in line ≡ binding_words binding →
    line ≡ binding_line binding
line_of_binding line binding same = sym (join_with_byte-slice_split 32 line) ∙ ap line_of same

-- the words of a line that is a binding's
pub words_of_binding : (loops : ℕ) (line : List ℕ) (binding : Binding) → loops ≤ max_loops →
    IsTrue (is_binding loops binding) → line ≡ binding_line binding →
    words_in line ≡ binding_words binding
words_of_binding loops line binding few is same =
    ap words_in same ∙ words_of_line binding (binding_has_words loops binding few is)
