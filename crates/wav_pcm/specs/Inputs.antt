-- An input is a WAV file whose frames are read from its samples a span after another.
-- "WAV" in docs/formats.md.
use Rattle.std.specs.Prelude.{◌≤◌, ℕ, ◌+◌, ◌*◌, List, take, drop, length}
use Rattle.sl_base.specs.Limits.{max_rate}
use Rattle.sl_base.specs.Sounds.{Sound}
use Rattle.wav_pcm.specs.WavText.{IsFormat, frame_size}
use Rattle.wav_pcm.specs.Samples.{frames_in}
use Rattle.wav_pcm.specs.Reading.{Spelling}
use Rattle.wav_pcm.specs.declared.form.WavForm.{WavForm}

-- what contracts see of an input
pub record InputOf : Type 0 where
  pub rate : ℕ
  pub channels : ℕ
  pub bits : ℕ
  pub frames : List Sound

-- its spelling
abbrev pub spelling_of_input : InputOf → Spelling
spelling_of_input i = record { rate = i.rate; channels = i.channels; bits = i.bits }

-- the frames of a form, which begin at a place of the bytes
abbrev pub frames_of_form : WavForm → List ℕ → List Sound
frames_of_form form bytes = frames_in form.channels form.bits form.count (drop form.start bytes)

-- the form is one of the bytes
pub record IsFormOf (form : WavForm) (bytes : List ℕ) : Type 0 where
  pub format : IsFormat form.channels form.bits
  pub within : form.start + form.count * frame_size form.channels form.bits ≤ length bytes
  pub rate_from : 1 ≤ form.rate
  pub rate_within : form.rate ≤ max_rate

-- so many frames from a place on
abbrev pub span_of : ℕ → ℕ → List Sound → List Sound
span_of from count frames = take count (drop from frames)
