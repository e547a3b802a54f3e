-- The faults of a WAV file have numbers.
-- "WAV" in docs/formats.md.
use Rattle.std.specs.Prelude.{ℕ, ◌≡◌, List, Err, ⊤}
use Rattle.wav_pcm.specs.declared.fault.WavFault.{WavFault}
use Rattle.wav_pcm.specs.declared.fault.WavFault.TheVariants.{NotRiff, NoFormat, Unsupported, NoData, Truncated, TornFrame, Memory}
use Rattle.wav_pcm.specs.Reading.{form_of}

-- the number of a fault
abbrev pub fault_number : WavFault → ℕ
fault_number NotRiff = 1
fault_number NoFormat = 2
fault_number Unsupported = 3
fault_number NoData = 4
fault_number Truncated = 5
fault_number TornFrame = 6
fault_number Memory = 7

-- the fault is the first of these bytes, or want of memory, of which nothing is said
abbrev pub IsFirstFault : List ℕ → WavFault → Type 0
IsFirstFault bytes Memory = ⊤
IsFirstFault bytes fault = form_of bytes ≡ Err fault
