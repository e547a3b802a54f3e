use Rattle.std.proofs.Common.{rules}
use Rattle.std.proofs.lemmas.Int.{to_z-of_z}
use Rattle.std.specs.Int.{w32, w64}
use mir.Val.{SFits}
use Rattle.text_lines.proofs.TargetLemmas.{no_target}
use Rattle.text_lines.proofs.word.target_of.Goals as goal

pub returns-clause-only : goal.returns-clause-only
returns-clause-only c =
    let fits : SFits w32 c.in_ok-number.number = search rules in
    let fits_long : SFits w64 c.in_ok-number.number = search rules in
    let value = rw (
      to_z-of_z w32 c.in_ok-number.number fits,
      to_z-of_z w64 c.in_ok-number.number fits_long,
    ) at c.numbered.ensures in
    no_target c.args.word.now c.in_ok-number.number c.numbered.result c.in_ok-number.ensures.found
    value
