-- The word of a target, read back.
use Rattle.std.proofs.Common.{◌≡◌, ◌≢◌, ℕ, ◌<◌, ◌≤◌, ◌^◌, List, true, refl, ap, ◌∙◌, arith, leb, cond}
use Rattle.std.specs.Prelude.{ℤ, unsigned_abs, Option, Some, None, IfNone, IsTrue}
use Rattle.std.specs.Fmt.{decimal}
use Rattle.std.proofs.lemmas.Bool.{le-leb, ltb-true}
use Rattle.sl_commands.specs.declared.command.Target.{Target}
use Rattle.sl_commands.specs.declared.command.Target.TheVariants.{One, All, Selected}
use Rattle.sl_commands.specs.Commands.{is_target, target_number, numbered_target}
use Rattle.text_lines.specs.Numerals.{IsIntegerOf, IsNumeralOf}
use Rattle.text_lines.proofs.IntegerLemmas.{numeral_is_one}
use Rattle.text_lines.proofs.WordLemmas.{integer_is_one}
use Rattle.text_lines.specs.Targets.{target_word}

-- a target comes back from its number
pub target_comes_back : (target : Target) → IsTrue (is_target 256 target) →
    numbered_target (target_number target) ≡ Some target
target_comes_back (One i) is =
    let low : i < 256 = ltb-true i 256 is in
    let test : leb i 255 ≡ true = le-leb i 255 (omega arith) in
    ap (λ b. cond b (Some (One i)) None) test
target_comes_back All is = refl
target_comes_back Selected is = refl

-- a target's number has few digits
pub target_is_short : (target : Target) → IsTrue (is_target 256 target) →
    unsigned_abs (target_number target) < 10 ^ 19
target_is_short (One i) is = omega (arith, ltb-true i 256 is)
target_is_short All is = omega arith
target_is_short Selected is = omega arith

-- the target of a word
pub target_is : (word : List ℕ) (number : ℤ) (target : Target) → IsIntegerOf word number →
    IsTrue (is_target 256 target) → word ≡ target_word target → numbered_target number ≡ Some target
target_is word number target is within same =
    ap numbered_target
    (integer_is_one word number (target_number target) is
    (record { within = target_is_short target within; spelled = same }))
    ∙ target_comes_back target within

-- nothing is not something
none_is_some : (target : Target) → ¬ (None ≡ Some target)
none_is_some target same = Prim.cc

-- a number that is no target's
pub no_target : (word : List ℕ) (number : ℤ) (answer : Option Target) → IsIntegerOf word number →
    answer ≡ numbered_target number →
    IfNone answer ((target : Target) → IsTrue (is_target 256 target) → word ≢ target_word target)
no_target word number (Some target) is answers = tt
no_target word number None is answers = λ target within same.
    none_is_some target (answers ∙ target_is word number target is within same)

-- a number above the greatest isn't one at most that
pub not_within : (word : List ℕ) (number most : ℕ) → IsNumeralOf word number → most < number →
    (other : ℕ) → other ≤ most → word ≢ decimal other
not_within word number most is above other low same =
    let one = numeral_is_one word number other is
    (record { within = omega (arith, is.within); spelled = same }) in omega arith
