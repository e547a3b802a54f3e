use Rattle.std.proofs.Common.{◌≡◌, ◌<◌, ℕ, Some, None, arith, sym, ap, ◌∙◌}
use Rattle.std.proofs.lemmas.Bool.{ne_eqb}
use Rattle.quantise_sync.proofs.BoundaryLemmas.{boundary_before, boundary_reached}
use Rattle.quantise_sync.proofs.next.next_boundary.Goals as goal

pub returns-in-None-clause-before : goal.returns-in-None-clause-before
returns-in-None-clause-before c =
    λ frames less.
    let setup = c.args.setup.now
    in boundary_before frames setup.source setup.quantize setup.pulse setup.frame c.args.faces.now
    None (ne_eqb setup.quantize 0 c.if-setup-eq0.false)
    (sym c.frames_to_boundary.ensures ∙ c.in-None.is) tt

pub returns-in-Some-clause-before : goal.returns-in-Some-clause-before
returns-in-Some-clause-before c =
    λ frames less.
    let setup = c.args.setup.now
    in boundary_before frames setup.source setup.quantize setup.pulse setup.frame c.args.faces.now
    (Some c.in-Some.frames) (ne_eqb setup.quantize 0 c.if-setup-eq0.false)
    (sym c.frames_to_boundary.ensures ∙ c.in-Some.is)
    (let below : frames < c.in-Some.frames = omega arith in below)

pub returns-in-Some-clause-reached : goal.returns-in-Some-clause-reached
returns-in-Some-clause-reached c =
    λ less placed.
    let setup = c.args.setup.now
    in let same : c.in-Some.frames ≡ c.min.result = omega arith
    in boundary_reached c.min.result setup.source setup.quantize setup.pulse setup.frame
    c.args.faces.now
    (sym c.frames_to_boundary.ensures ∙ c.in-Some.is ∙ ap (λ n. Some n) same) placed
