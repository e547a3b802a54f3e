-- What the parts of a turn do, and why each ends. A part takes from the rings while there is
-- something to take, no reply is held, and its budget lasts; it puts blocks likewise.
-- "The engine between its rings" in docs/rules.md.
use Rattle.std.specs.Prelude.{◌≡◌, ◌≤◌, ◌+◌, ⊤, ℕ, zero, suc, List, [], ◌++◌, length, Option, None}
use Rattle.std.specs.List.{AllByRecursion}
use Rattle.sl_base.specs.Counting.{Rose}
use Rattle.sl_commands.specs.declared.Entry.{Entry}
use Rattle.sl_commands.specs.declared.Reply.{Reply}
use Rattle.engine_steps.specs.Engines.{EngineOf, left}
use Rattle.live_steps.specs.InStep.{StayInStep}
use Rattle.audio_ends.specs.declared.rings.RingEnds.{RingEnds}
use Rattle.audio_ends.specs.declared.stop.Stop.{Stop}
use Rattle.audio_ends.specs.declared.stop.Stop.TheVariants.{Emptied, Budget, Held, Unasked}
use Rattle.audio_ends.specs.declared.stop.Stops.{Stops}
use Rattle.audio_ends.specs.Ends.{passed, GoOn, MayTurn}

-- engine and ends stay in step, with no frames between
pub record Stays (e next : EngineOf) (a b : RingEnds) : Type 0 where
  pub step : StayInStep e (passed a) next (passed b)
  pub on : GoOn a b
  pub may : MayTurn next b
  pub frames : next.frames ≡ e.frames

-- all that was entered has the frame at which the first engine stands
pub record EntersNow (e next : EngineOf) : Type 0 where
  pub more : List Entry
  pub entries : next.journal.entries ≡ e.journal.entries ++ more
  pub now : AllByRecursion (λ (en : Entry). en.frame ≡ e.frames) more

-- and each outcome that was taken answered one of the saves that were due
pub record Takes (e next : EngineOf) (a b : RingEnds) : Type 0 where
  pub stays : Stays e next a b
  pub now : EntersNow e next
  pub due : length e.due + length a.saver.taken ≡ length next.due + length b.saver.taken

-- how many items were taken of a sender's ring, and how often it was found empty
abbrev pub count_of : ℕ → RingEnds → ℕ
count_of zero a = length a.osc.taken
count_of (suc zero) a = length a.midi.taken
count_of (suc (suc sender)) a = length a.saver.taken

abbrev pub nones_of : ℕ → RingEnds → ℕ
nones_of zero a = a.osc.nones
nones_of (suc zero) a = a.midi.nones
nones_of (suc (suc sender)) a = a.saver.nones

-- how many may be taken of a sender's ring
abbrev pub limit_of : ℕ → RingEnds → ℕ
limit_of zero a = a.osc.limit
limit_of (suc zero) a = a.midi.limit
limit_of (suc (suc sender)) a = a.saver.limit

-- why no more was taken of a sender's ring, from this engine and these ends on: unasked is where
-- each save that was due has been answered
abbrev pub Cause : ℕ → EngineOf → RingEnds → RingEnds → Stop → Type 0
Cause sender e a b Emptied = Rose (nones_of sender a) (nones_of sender b)
Cause sender e a b Budget = count_of sender a + 256 ≤ count_of sender b
Cause sender e a b Held = Rose a.replies.fulls b.replies.fulls
Cause sender e a b Unasked =
    (2 ≤ sender) × (length e.due + length a.saver.taken ≤ length b.saver.taken)

-- a reply is held only where the stop says so
abbrev pub Frees : Stop → Option Reply → Type 0
Frees Held held = ⊤
Frees Emptied held = held ≡ None
Frees Budget held = held ≡ None
Frees Unasked held = held ≡ None

-- why each ring's takes ended
pub record Causes (e : EngineOf) (a b : RingEnds) (s : Stops) : Type 0 where
  pub osc : Cause 0 e a b s.osc
  pub midi : Cause 1 e a b s.midi
  pub saver : Cause 2 e a b s.saver

-- why no more blocks were put
abbrev pub BlockCause : EngineOf → RingEnds → RingEnds → Stop → Type 0
BlockCause next a b Emptied = left next ≡ []
BlockCause next a b Budget = length a.blocks.sent + 64 ≤ length b.blocks.sent
BlockCause next a b Held = Rose a.blocks.fulls b.blocks.fulls
BlockCause next a b Unasked = ⊥
