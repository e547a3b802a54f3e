-- The activity of audio makes turns until the audio is at its end: it read and played frames, as in
-- one turn, and stands as its last turn tells.
-- "The activity of audio" in docs/rules.md.
use Rattle.std.specs.Prelude.{◌≡◌, ◌≢◌, List, length, nat_le}
use Rattle.sl_base.specs.Limits.{max_session_frames}
use Rattle.sl_base.specs.Sounds.{Sound}
use Rattle.sl_ports.specs.declared.SinkAnswer.{SinkAnswer}
use Rattle.audio_ends.specs.declared.fill.Halt.{Halt}
use Rattle.audio_ends.specs.declared.state.AudioState.{AudioState}
use Rattle.audio_ends.specs.declared.state.AudioState.TheVariants.{More}
use Rattle.audio_ends.specs.Did.{AudioAt, AudioDid}
use Rattle.audio_ends.specs.States.{state_of}

-- the activity served, from the first to the second, and ended so
pub record Served (x y : AudioAt) (told : AudioState) : Type 0 where
  pub input : List Sound
  pub output : List Sound
  pub halt : Halt
  pub answer : SinkAnswer
  pub did : AudioDid input output halt answer x y
  pub state : told ≡ state_of halt answer (length y.ends.rest.items) y.ends.rings.quit
      (nat_le max_session_frames y.engine.frames)
  pub over : told ≢ More
