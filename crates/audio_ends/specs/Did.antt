-- What the activity of audio does, in one turn and in any number of them. It owns the engine, its
-- ends of the rings, the source and the sink. Whatever engine and rings were in step with, they are
-- so with the frames read and played behind it. The frames read are those of the bytes that the
-- source gave, behind the bytes that were kept; the bytes written are the samples of the frames
-- played, all of them or, where the sink failed, a first part. Reading stopped for a reason.
-- Such doings compose where the first ended with neither a failed read nor a failed write, nor at
-- the source's end. "The turn of audio" in docs/rules.md.
use Rattle.std.specs.Prelude.{◌≡◌, ◌<◌, ◌≤◌, ◌+◌, ◌⊎◌, ⊤, ℕ, List, length, Option}
use Rattle.sl_base.specs.Limits.{max_period}
use Rattle.sl_base.specs.Sounds.{Sound}
use Rattle.sl_base.specs.Counting.{Counts}
use Rattle.sl_ports.specs.declared.SinkAnswer.{SinkAnswer}
use Rattle.sl_ports.specs.Texts.{is_failed, Writes}
use Rattle.wav_pcm.specs.WavText.{IsFormat, frame_size, samples}
use Rattle.live_ports.specs.Sources.{SourceSeen}
use Rattle.engine_steps.specs.Engines.{EngineOf}
use Rattle.live_steps.specs.InStep.{GoOnInStep}
use Rattle.audio_ends.specs.declared.audio.AudioEnds.{AudioEnds}
use Rattle.audio_ends.specs.declared.fill.Halt.{Halt}
use Rattle.audio_ends.specs.declared.fill.Halt.TheVariants.{Whole, Idle, End, Failed}
use Rattle.audio_ends.specs.Ends.{passed, GoOn, MayTurn}
use Rattle.audio_ends.specs.Fills.{ReadsFrames, Halts}

-- the ends are those of 16-bit audio, and fewer bytes are kept than a frame has
pub record IsReady (a : AudioEnds) : Type 0 where
  pub format : IsFormat a.channels 16
  pub some : 1 ≤ a.most
  pub within : a.most ≤ max_period
  pub few : length a.rest.items < frame_size a.channels 16

-- what contracts see of a sink: the writes that failed, and the bytes taken, where it tells them
pub record SinkSeen : Type 0 where
  pub faults : ℕ
  pub held : Option (List ℕ)

-- all that the activity owns
pub record AudioAt : Type 0 where
  pub engine : EngineOf
  pub ends : AudioEnds
  pub source : SourceSeen
  pub sink : SinkSeen

-- a turn may begin here: engine and rings are in step, with the limits of a live session
pub record MayGoOn (x : AudioAt) : Type 0 where
  pub turn : MayTurn x.engine x.ends.rings
  pub ready : IsReady x.ends

-- the first went on to the second over these frames
pub record AudioDid (input output : List Sound) (halt : Halt) (answer : SinkAnswer)
    (x y : AudioAt) : Type 0 where
  pub step : GoOnInStep input output x.engine (passed x.ends.rings) y.engine (passed y.ends.rings)
  pub rings : GoOn x.ends.rings y.ends.rings
  pub may : MayGoOn y
  pub frames : y.engine.frames ≡ x.engine.frames + length input
  pub quota : y.engine.journal.quota ≡ x.engine.journal.quota
  pub channels : y.ends.channels ≡ x.ends.channels
  pub most : y.ends.most ≡ x.ends.most
  pub read : ReadsFrames x.ends.channels x.source.left y.source.left x.ends.rest.items
      y.ends.rest.items input
  pub halts : Halts x.source y.source halt
  pub wrote : Writes x.sink.held y.sink.held (samples x.ends.channels 16 output) answer
  pub counts : Counts x.sink.faults y.sink.faults (is_failed answer)

-- reading stopped where more may come
abbrev pub HasMore : Halt → Type 0
HasMore Whole = ⊤
HasMore Idle = ⊤
HasMore End = ⊥
HasMore Failed = ⊥
