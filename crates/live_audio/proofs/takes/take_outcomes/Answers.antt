use Rattle.std.proofs.Common.{arith, refl}
use Rattle.audio_ends.proofs.TurnLemmas.{takes_nothing, takes_more, cause_since}
use Rattle.live_audio.proofs.takes.take_outcomes.Goals as goal

pub loop-init : goal.loop-init
loop-init g c = (takes_nothing _ _ c.requires.may, c.requires.free, omega arith)

pub returns-in-Some-clause-takes : goal.returns-in-Some-clause-takes
returns-in-Some-clause-takes g c =
    takes_more _ _ _ _ _ _ c.loop.invariant.0 c.answer_one.ensures.takes

pub returns-in-Some-clause-cause : goal.returns-in-Some-clause-cause
returns-in-Some-clause-cause g c = (
  cause_since 2 c.args.engine.now c.loop.engine c.args.ends.now c.loop.ends c.answer_one.new.ends
      c.in-Some.stop c.loop.invariant.0 c.in-Some.ensures.cause.0,
  c.in-Some.ensures.cause.1,
)

pub loop-preserved : goal.loop-preserved
loop-preserved g c = (
  takes_more _ _ _ _ _ _ c.loop.invariant.0 c.answer_one.ensures.takes,
  c.in_default.ensures.more.0,
  (let a = c.in_default.ensures.more.1 in let b = c.loop.invariant.2 in omega arith),
)
