-- The ends of each ring have met: both lists and counts are theirs, and what was sent is what was
-- taken, followed by what is left. Any command and any reply may follow the others; an outcome is
-- one with which a save may end, and a block is the next one.
-- "The rings of a session" in docs/rules.md.
use Rattle.std.specs.Prelude.{ℕ, List, IsTrue}
use Rattle.sl_commands.specs.declared.Block.{Block}
use Rattle.sl_commands.specs.Blocks.{may_follow}
use Rattle.sl_commands.specs.Commands.{is_outcome}
use Rattle.event_rings.specs.Ends.{PutEnd, TakeEnd, BothEnds, Meets, HasRest}
use Rattle.live_rings.specs.declared.rings.Rings.{Rings}
use Rattle.live_rings.specs.declared.meeting.MetRings.{MetRings}

-- what may follow on a ring of commands or replies: anything
abbrev pub any_follows : {T : Type 0} → List T → T → ℕ → Type 0
any_follows sent item bound = Unit {0}

-- on that of outcomes
abbrev pub outcome_follows : List ℕ → ℕ → ℕ → Type 0
outcome_follows sent outcome bound = IsTrue (is_outcome outcome)

-- on that of blocks
abbrev pub block_follows : List Block → Block → ℕ → Type 0
block_follows sent block bound = IsTrue (may_follow sent block bound)

-- two ends of a ring have met
pub record MetBy {T : Type 0} (follows : List T → T → ℕ → Type 0) (putter : PutEnd T)
    (taker : TakeEnd T) (both : BothEnds T) : Type 0 where
  pub meets : Meets putter taker both
  pub rest : HasRest follows both

-- those of the five rings have
pub record HaveMet (r : Rings) (m : MetRings) : Type 0 where
  pub osc : MetBy any_follows r.osc.putter r.osc.taker m.osc
  pub midi : MetBy any_follows r.midi.putter r.midi.taker m.midi
  pub saver : MetBy outcome_follows r.saver.putter r.saver.taker m.saver
  pub replies : MetBy any_follows r.replies.putter r.replies.taker m.replies
  pub blocks : MetBy block_follows r.blocks.putter r.blocks.taker m.blocks
