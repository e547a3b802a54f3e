-- The activity of audio goes on from what it was given to what it gives back: it read and played
-- frames, as turns do, until the audio was over. It ended so for a reason that shows: the source
-- failed or is at its end, the sink failed, a quit was taken, or all frames of a session are done.
-- "The activities of a session" in docs/rules.md.
use Rattle.std.specs.Prelude.{◌≡◌, ◌≢◌, List, length, nat_le}
use Rattle.sl_base.specs.Limits.{max_session_frames}
use Rattle.sl_base.specs.Sounds.{Sound}
use Rattle.sl_ports.specs.declared.SinkAnswer.{SinkAnswer}
use Rattle.audio_ends.specs.declared.fill.Halt.{Halt}
use Rattle.audio_ends.specs.declared.state.AudioState.{AudioState}
use Rattle.audio_ends.specs.declared.state.AudioState.TheVariants.{More}
use Rattle.audio_ends.specs.Did.{AudioAt, AudioDid}
use Rattle.audio_ends.specs.States.{state_of}

-- it read and played these frames, and the audio is over
pub record AudioRan (x y : AudioAt) (state : AudioState) : Type 0 where
  pub input : List Sound
  pub output : List Sound
  pub halt : Halt
  pub answer : SinkAnswer
  pub did : AudioDid input output halt answer x y
  pub state_is : state ≡ state_of halt answer (length y.ends.rest.items) y.ends.rings.quit
      (nat_le max_session_frames y.engine.frames)
  pub over : state ≢ More
