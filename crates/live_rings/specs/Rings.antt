-- A session with a quota of commands for each of OSC and MIDI has five rings: for their commands,
-- for the outcomes of saves, for replies, and for blocks. On a ring of commands as many are ever
-- sent as the quota, and on that of outcomes twice as many. The blocks are those of at most twice
-- as many saves as the quota. A ring holds 256 items, that of blocks 64. Three more rings carry one
-- number each, which tells an activity that the activity of audio is over. "The rings of a session"
-- in docs/rules.md.
use Rattle.std.specs.Prelude.{◌≡◌, ◌*◌, ℕ}
use Rattle.event_rings.specs.Ends.{IsNew, max_limit}
use Rattle.live_rings.specs.declared.rings.Rings.{Rings}
use Rattle.live_rings.specs.declared.rings.OverRings.{OverRings}

-- the five rings of a session with this quota are new
pub record AreNew (quota : ℕ) (r : Rings) : Type 0 where
  pub osc : IsNew 256 quota 0 r.osc.putter r.osc.taker
  pub midi : IsNew 256 quota 0 r.midi.putter r.midi.taker
  pub saver : IsNew 256 (2 * quota) 0 r.saver.putter r.saver.taker
  pub replies : IsNew 256 max_limit 0 r.replies.putter r.replies.taker
  pub blocks : IsNew 64 max_limit (2 * quota) r.blocks.putter r.blocks.taker

-- the three others are new
pub record AreNewOvers (r : OverRings) : Type 0 where
  pub osc : IsNew 1 1 0 r.osc.putter r.osc.taker
  pub midi : IsNew 1 1 0 r.midi.putter r.midi.taker
  pub saver : IsNew 1 1 0 r.saver.putter r.saver.taker

-- the two ends of each of the five are of one ring
pub record SameNames (r : Rings) : Type 0 where
  pub osc : r.osc.putter.name ≡ r.osc.taker.name
  pub midi : r.midi.putter.name ≡ r.midi.taker.name
  pub saver : r.saver.putter.name ≡ r.saver.taker.name
  pub replies : r.replies.putter.name ≡ r.replies.taker.name
  pub blocks : r.blocks.putter.name ≡ r.blocks.taker.name
