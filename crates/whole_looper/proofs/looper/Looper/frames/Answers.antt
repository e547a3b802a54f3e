use Rattle.std.proofs.Common.{arith, ◌≡◌, ◌≤◌, ◌-◌, length, length-take, length-drop, ◌∙◌, refl, sym, ap}
use Rattle.looper_rules.specs.Run.{RunSoFar}
use Rattle.whole_looper.proofs.FramesLemmas.{turn_more, begun_all}
use Rattle.whole_looper.proofs.looper.Looper.frames.Goals as goal

pub loop-done-preserved : goal.loop-done-preserved
loop-done-preserved c =
    let same : length c.loop-done.output ≡ length c.args.input.now = c.loop-done.auto.output
    ∙ sym c.requires.lengths
    in let less = c.loop-done-test.true
    in let long : length c.turn-done.new.output ≡ length c.args.input.now - c.loop-done.done =
    c.turn-done.auto.output ∙ simp (length-take, length-drop) (omega arith)
    in let within : c.turn-done.result ≤ length c.args.input.now - c.loop-done.done =
    (let h = simp (length-take, length-drop) at c.turn-done.ensures.within in omega arith)
    in (
      turn_more _ _ c.loop-done.done c.turn-done.result c.args.input.now c.loop-done.output
          c.turn-done.new.output _ _ _ refl (omega arith) same long within c.loop-done.invariant.0
          c.turn-done.ensures.begun,
      omega arith,
    )

pub returns-clause-looper : goal.returns-clause-looper
returns-clause-looper c =
    let all =
    begun_all c.args.frame c.loop-done.done c.args.input.now c.loop-done.output _ _
    (omega arith) (c.loop-done.auto.output ∙ sym c.requires.lengths) c.loop-done.invariant.0
    in sym (ap (λ (r : RunSoFar). r.looper) all.is)

pub returns-clause-output : goal.returns-clause-output
returns-clause-output c =
    let all =
    begun_all c.args.frame c.loop-done.done c.args.input.now c.loop-done.output _ _
    (omega arith) (c.loop-done.auto.output ∙ sym c.requires.lengths) c.loop-done.invariant.0
    in sym (ap (λ (r : RunSoFar). r.output) all.is)
