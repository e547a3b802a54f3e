use Rattle.std.proofs.Common.{arith, refl, ◌∙◌}
use Rattle.audio_ends.proofs.TurnLemmas.{stays_none, stays_then, block_cause_since}
use Rattle.live_audio.proofs.blocks.put_blocks.Goals as goal

pub loop-init : goal.loop-init
loop-init g c = (stays_none _ _ c.requires.may, omega arith, refl)

pub returns-in-Some-clause-stays : goal.returns-in-Some-clause-stays
returns-in-Some-clause-stays g c =
    stays_then _ _ _ _ _ _ c.loop.invariant.0 c.put_one.ensures.stays

pub returns-in-Some-clause-journal : goal.returns-in-Some-clause-journal
returns-in-Some-clause-journal g c = c.put_one.ensures.journal ∙ c.loop.invariant.2

pub returns-in-Some-clause-cause : goal.returns-in-Some-clause-cause
returns-in-Some-clause-cause g c =
    block_cause_since c.put_one.new.engine c.args.ends.now c.loop.ends c.put_one.new.ends
    c.in-Some.stop c.loop.invariant.0.on c.in-Some.ensures.cause.0

pub loop-preserved : goal.loop-preserved
loop-preserved g c = (
  stays_then _ _ _ _ _ _ c.loop.invariant.0 c.put_one.ensures.stays,
  (let a = c.in_default.ensures.more in let b = c.loop.invariant.1 in omega arith),
  c.put_one.ensures.journal ∙ c.loop.invariant.2,
)
