-- A turn of audio. The held reply is put first. Then commands of OSC, commands of MIDI and outcomes
-- of saves are taken and given to the engine, each with its reply put, 256 of each ring at most,
-- and none behind a reply that is held. Then at most one period is read, played and written. Then
-- blocks are put, 64 at most. So all entries of a turn have the frame at which it began.
-- "The turn of audio" in docs/rules.md.
use Rattle.std.specs.Prelude.{◌≡◌, ◌≤◌, ◌⊎◌, ℕ, List, length, nat_le}
use Rattle.sl_base.specs.Limits.{max_session_frames}
use Rattle.sl_base.specs.Sounds.{Sound}
use Rattle.sl_ports.specs.declared.SinkAnswer.{SinkAnswer}
use Rattle.engine_steps.specs.Engines.{EngineOf, went_on, put_out}
use Rattle.audio_ends.specs.declared.fill.Halt.{Halt}
use Rattle.audio_ends.specs.declared.fill.Halt.TheVariants.{Whole}
use Rattle.audio_ends.specs.declared.state.Turn.{Turn}
use Rattle.audio_ends.specs.Ends.{GoOn}
use Rattle.audio_ends.specs.Turns.{EntersNow, Cause, BlockCause}
use Rattle.audio_ends.specs.Fills.{ReadsFrames, Halts}
use Rattle.audio_ends.specs.Did.{IsReady, AudioAt, AudioDid}
use Rattle.audio_ends.specs.States.{state_of}

-- fewer frames than a period only where the source gave no more, or all frames are done
abbrev pub IsWhole : Halt → ℕ → AudioAt → AudioAt → Type 0
IsWhole halt count x y = halt ≡ Whole →
    (count ≡ x.ends.most) ⊎ (max_session_frames ≤ y.engine.frames)

-- a turn, from the first to the second
pub record Turned (x y : AudioAt) (t : Turn) : Type 0 where
  pub input : List Sound
  pub output : List Sound
  pub halt : Halt
  pub answer : SinkAnswer
  pub did : AudioDid input output halt answer x y
  pub frames : t.frames ≡ length input
  pub within : length input ≤ x.ends.most
  pub whole : IsWhole halt (length input) x y
  pub now : EntersNow x.engine y.engine
  pub osc : Cause 0 x.engine x.ends.rings y.ends.rings t.osc
  pub midi : Cause 1 x.engine x.ends.rings y.ends.rings t.midi
  pub saver : Cause 2 x.engine x.ends.rings y.ends.rings t.saver
  pub blocks : BlockCause y.engine x.ends.rings y.ends.rings t.blocks
  pub state : t.state ≡ state_of halt answer (length y.ends.rest.items) y.ends.rings.quit
      (nat_le max_session_frames y.engine.frames)
