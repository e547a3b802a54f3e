-- A period has as many frames heard as frames taken in, and there is room for the samples of all.
-- What it is seen as is its form, the frames taken in, and the frames heard.
-- "The run" in docs/rules.md.
use Rattle.std.specs.Prelude.{◌≡◌, ◌≤◌, ℕ, List, length, replicate}
use Rattle.sl_base.specs.Limits.{max_period}
use Rattle.sl_base.specs.Sounds.{Sound, silence}
use Rattle.wav_pcm.specs.WavText.{IsFormat, samples_size}

-- what contracts see of a period
pub record PeriodOf : Type 0 where
  pub channels : ℕ
  pub bits : ℕ
  pub frames : List Sound
  pub heard : List Sound

-- the period of these buffers
abbrev pub period_of : ℕ → ℕ → List Sound → List Sound → PeriodOf
period_of channels bits frames heard =
    record { channels = channels; bits = bits; frames = frames; heard = heard }

-- a period of this form before its first use, with room for so many frames
abbrev pub silent_period : ℕ → ℕ → ℕ → PeriodOf
silent_period channels bits most =
    period_of channels bits (replicate most silence) (replicate most silence)

-- these are the buffers of a period
pub record AreBuffers (channels bits : ℕ) (frames heard : List Sound)
    (bytes : List ℕ) : Type 0 where
  pub format : IsFormat channels bits
  pub some : 1 ≤ length frames
  pub within : length frames ≤ max_period
  pub as_many : length heard ≡ length frames
  pub room : length bytes ≡ samples_size (length frames) channels bits
