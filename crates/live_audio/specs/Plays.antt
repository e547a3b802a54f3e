-- What a turn reads, plays and writes: at most one period, and no frame beyond those of a session.
-- "The turn of audio" in docs/rules.md.
use Rattle.std.specs.Prelude.{◌≡◌, ◌≤◌, ◌<◌, ◌⊎◌, ℕ, List, length}
use Rattle.sl_base.specs.Limits.{max_session_frames}
use Rattle.sl_base.specs.Sounds.{Sound}
use Rattle.sl_base.specs.Counting.{Counts}
use Rattle.sl_ports.specs.Texts.{is_failed, Writes}
use Rattle.wav_pcm.specs.WavText.{frame_size, samples}
use Rattle.live_ports.specs.Sources.{SourceSeen}
use Rattle.engine_steps.specs.Engines.{EngineOf, went_on, put_out}
use Rattle.audio_ends.specs.declared.Halt.TheVariants.{Whole}
use Rattle.audio_ends.specs.Fills.{ReadsFrames, Halts}
use Rattle.audio_ends.specs.Did.{SinkSeen}
use Rattle.live_audio.specs.declared.play.Played.{Played}

-- a period was read, played and written, in so many channels, of at most so many frames
pub record Plays (channels most : ℕ) (e next : EngineOf) (s t : SourceSeen) (o u : SinkSeen)
    (kept kept_now : List ℕ) (p : Played) : Type 0 where
  pub input : List Sound
  pub output : List Sound
  pub engine : next ≡ went_on input e
  pub heard : output ≡ put_out input e
  pub frames : p.frames ≡ length input
  pub within : length input ≤ most
  pub whole : p.halt ≡ Whole → (length input ≡ most) ⊎ (max_session_frames ≤ next.frames)
  pub few : length kept_now < frame_size channels 16
  pub read : ReadsFrames channels s.left t.left kept kept_now input
  pub halts : Halts s t p.halt
  pub wrote : Writes o.held u.held (samples channels 16 output) p.answer
  pub counts : Counts o.faults u.faults (is_failed p.answer)
