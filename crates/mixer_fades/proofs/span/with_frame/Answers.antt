use Rattle.std.proofs.Common.{w64, to_z-of_z, ap}
use Rattle.sl_base.specs.Sounds.{Sound}
use Rattle.mixer_fades.proofs.SumLemmas.{sides_are_small, side_fits}
use Rattle.mixer_fades.proofs.span.with_frame.Goals as goal

pub returns-clause-within : goal.returns-clause-within
returns-clause-within c =
    λ bound h.
    let left_fits = side_fits c.sum.inside.left _ (ap (λ (s : Sound). s.left) c.sum.view_is)
    c.requires.left
    in let right_fits =
    side_fits c.sum.inside.right _ (ap (λ (s : Sound). s.right) c.sum.view_is) c.requires.right
    in rw (
      to_z-of_z {w = w64} {z = c.add_scaled.result} (record { sfits = c.add_scaled.type_inv }),
      to_z-of_z {w = w64} {z = c.add_scaled-2.result}
          (record { sfits = c.add_scaled-2.type_inv }),
    )
    (sides_are_small bound _ c.sum.inside.left c.sum.inside.right _ _ c.sum.view_is h
    (rw (to_z-of_z left_fits) at (c.add_scaled.ensures.within bound))
    (rw (to_z-of_z right_fits) at (c.add_scaled-2.ensures.within bound)))
