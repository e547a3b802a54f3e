-- A period is read as whole frames of 16 bits. The bytes of a frame that isn't whole yet are kept,
-- and come before those that are read for the next one.
-- "The turn of audio" in docs/rules.md.
use Rattle.std.specs.Prelude.{◌≡◌, ◌≤◌, ◌<◌, ◌*◌, ℕ, Bool, true, false, ◌||◌, List, ◌++◌, length, take, Option}
use Rattle.sl_base.specs.Counting.{Rose}
use Rattle.sl_base.specs.Sounds.{Sound}
use Rattle.wav_pcm.specs.WavText.{frame_size, samples_size}
use Rattle.wav_pcm.specs.Samples.{frames_in}
use Rattle.live_ports.specs.Sources.{SourceSeen, Consumes}
use Rattle.audio_ends.specs.declared.fill.Halt.{Halt}
use Rattle.audio_ends.specs.declared.fill.Halt.TheVariants.{Whole, Idle, End, Failed}

-- bytes came behind those that were kept
pub record HasRead (left rest : Option (List ℕ)) (kept count : ℕ) (old new : List ℕ) : Type 0 where
  pub got : List ℕ
  pub consumes : Consumes left got rest
  pub bytes : take count new ≡ take kept old ++ got

-- bytes came behind those that were kept, and these are all of them
pub record CameBehind (left rest : Option (List ℕ)) (kept all : List ℕ) : Type 0 where
  pub got : List ℕ
  pub consumes : Consumes left got rest
  pub bytes : all ≡ kept ++ got

-- why no more bytes came: there was room for no more, or the source gave none for now, was at its
-- end, or failed
abbrev pub HaltCause : SourceSeen → SourceSeen → Halt → Type 0
HaltCause old new Whole = new.faults ≡ old.faults
HaltCause old new Idle = Rose old.idles new.idles × (new.faults ≡ old.faults)
HaltCause old new End = (new.ended ≡ true) × (new.faults ≡ old.faults)
HaltCause old new Failed = Rose old.faults new.faults

-- the source told that it is at its end
abbrev pub is_at_end : Halt → Bool
is_at_end Whole = false
is_at_end Idle = false
is_at_end End = true
is_at_end Failed = false

-- reads ended so, no count fell, and the source has ended only where it told so
pub record Halts (old new : SourceSeen) (halt : Halt) : Type 0 where
  pub cause : HaltCause old new halt
  pub ended : new.ended ≡ (old.ended || is_at_end halt)
  pub faults : old.faults ≤ new.faults
  pub idles : old.idles ≤ new.idles

-- with the bytes kept before, those that were read are whole frames and the bytes kept now
pub record ReadsFrames (channels : ℕ) (left rest : Option (List ℕ)) (kept kept_now : List ℕ)
    (frames : List Sound) : Type 0 where
  pub got : List ℕ
  pub whole : List ℕ
  pub consumes : Consumes left got rest
  pub cut : kept ++ got ≡ whole ++ kept_now
  pub size : length whole ≡ samples_size (length frames) channels 16
  pub are : frames ≡ frames_in channels 16 (length frames) whole
