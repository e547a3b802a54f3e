-- The ends of the rings that the activity of audio owns, and when a turn may begin: engine and ends
-- are in step with some frames, and the rings have the limits of a live session.
-- "The engine between its rings" in docs/rules.md.
use Rattle.std.specs.Prelude.{◌≡◌, ◌≤◌, ◌+◌, ◌*◌, ℕ, Bool, true, false, ◌||◌, List, length}
use Rattle.std.specs.List.{list_any}
use Rattle.sl_commands.specs.declared.Command.{Command}
use Rattle.sl_commands.specs.declared.Command.TheVariants.{Quit}
use Rattle.event_rings.specs.Ends.{PutEnd, TakeEnd, SamePutRing, SameTakeRing}
use Rattle.engine_steps.specs.Engines.{EngineOf}
use Rattle.live_steps.specs.Passed.{Passed}
use Rattle.live_steps.specs.InStep.{AreInSomeStep}
use Rattle.audio_ends.specs.declared.rings.RingEnds.{RingEnds}

-- what passed these ends
abbrev pub passed : RingEnds → Passed
passed a =
    record {
      osc = a.osc.taken;
      midi = a.midi.taken;
      saver = a.saver.taken;
      replies = a.replies.sent;
      held = a.held;
      blocks = a.blocks.sent;
    }

-- the session is to end
abbrev pub is_quit : Command → Bool
is_quit Quit = true
is_quit _ = false

-- a quit was taken from the ring of OSC or MIDI
abbrev pub has_quit : Passed → Bool
has_quit p = list_any is_quit p.osc || list_any is_quit p.midi

-- an end that takes is of the same ring, and neither its list nor its count fell
pub record TakesOn {T : Type 0} (a b : TakeEnd T) : Type 0 where
  pub ring : SameTakeRing a b
  pub taken : length a.taken ≤ length b.taken
  pub nones : a.nones ≤ b.nones

-- so is an end that puts
pub record PutsOn {T : Type 0} (a b : PutEnd T) : Type 0 where
  pub ring : SamePutRing a b
  pub sent : length a.sent ≤ length b.sent
  pub fulls : a.fulls ≤ b.fulls

-- so are all five
pub record GoOn (a b : RingEnds) : Type 0 where
  pub osc : TakesOn a.osc b.osc
  pub midi : TakesOn a.midi b.midi
  pub saver : TakesOn a.saver b.saver
  pub replies : PutsOn a.replies b.replies
  pub blocks : PutsOn a.blocks b.blocks

-- the rings have the limits of a live session with this quota
pub record HasLimits (quota : ℕ) (a : RingEnds) : Type 0 where
  pub osc : a.osc.limit ≤ quota
  pub midi : a.midi.limit ≤ quota
  pub replies : 4 * quota ≤ a.replies.limit
  pub blocks : 2 * quota * 1048578 ≤ a.blocks.limit
  pub bound : 2 * quota ≤ a.blocks.bound

-- when a turn may begin
pub record MayTurn (e : EngineOf) (a : RingEnds) : Type 0 where
  pub step : AreInSomeStep e (passed a)
  pub limits : HasLimits e.journal.quota a
  pub osc : length a.osc.taken ≤ e.journal.quota
  pub midi : length a.midi.taken ≤ e.journal.quota
  pub quit : a.quit ≡ has_quit (passed a)
