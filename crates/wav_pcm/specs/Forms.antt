-- What the code tells of a file's form is seen as the form of the definitions.
-- "WAV" in docs/formats.md.
use Rattle.std.specs.Prelude.{◌≡◌, ℕ, List, drop, Result, Ok, Err}
use Rattle.wav_pcm.specs.declared.form.WavForm.{WavForm}
use Rattle.wav_pcm.specs.declared.form.Spelling.{Spelling as SpellingOf}
use Rattle.wav_pcm.specs.declared.file.Wav.{Wav}
use Rattle.wav_pcm.specs.declared.fault.WavFault.{WavFault}
use Rattle.wav_pcm.specs.Samples.{frames_in}
use Rattle.wav_pcm.specs.Reading.{Spelling, FormOf}

-- a spelling
abbrev pub seen_spelling : SpellingOf → Spelling
seen_spelling s = record { rate = s.rate; channels = s.channels; bits = s.bits }

-- the spelling of a form
abbrev pub form_spelling : WavForm → Spelling
form_spelling f = record { rate = f.rate; channels = f.channels; bits = f.bits }

-- a form, or the fault in its place
abbrev pub seen_form : Result WavForm WavFault → Result FormOf WavFault
seen_form (Ok f) = Ok (record { spelling = form_spelling f; start = f.start; count = f.count })
seen_form (Err fault) = Err fault

-- the spelling of a file that was read
abbrev pub wav_spelling : Wav → Spelling
wav_spelling w = record { rate = w.rate; channels = w.channels; bits = w.bits }

-- the file has this form, and its frames are those of these bytes
pub record HoldsFrames (form : WavForm) (bytes : List ℕ) (wav : Wav) : Type 0 where
  pub spelling : wav_spelling wav ≡ form_spelling form
  pub frames : wav.frames ≡ frames_in form.channels form.bits form.count (drop form.start bytes)
