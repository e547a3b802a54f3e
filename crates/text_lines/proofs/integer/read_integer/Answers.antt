use Rattle.std.proofs.Common.{rules, ◌≡◌, ◌∷◌}
use Rattle.text_lines.proofs.IntegerLemmas.{none_behind_minus}
use Rattle.text_lines.proofs.integer.read_integer.Goals as goal

pub returns-in-Some-clause-only : goal.returns-in-Some-clause-only
returns-in-Some-clause-only c =
    let minus : c.args.bytes.now ≡ 45 ∷ c.in-Some.digits.now = Prim.search rules in
    none_behind_minus c.args.bytes.now c.in-Some.digits.now c.below_zero.result minus
    c.below_zero.ensures.only
