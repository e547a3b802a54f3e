-- A file is read in this order, and the first test that fails gives its fault:
-- - The first 12 bytes are `RIFF`, a size that isn't judged, and `WAVE`; else it is NotRiff.
-- - Chunks are walked from there: a name of four bytes, a size of four, as many bytes, and one more
--   where the size is odd. The walk stops where fewer than 8 bytes are left, at the first `data`,
--   or at another chunk that isn't all there. The first `fmt ` that was walked is the format.
--   Without one it is NoFormat.
-- - The format has 16, 18 or 40 bytes; the tag 1, or FFFE hex with 40 bytes and the rest of the
--   number that stands for PCM from its byte 24 on; 1 or 2 channels; 16 or 24 bits; the block align
--   that these give; a rate of 1 to 768000. Else it is Unsupported. The bytes of a second aren't
--   judged.
-- - The walk reached `data`; else it is NoData.
-- - As many bytes are left as the size of `data` says, or that is FFFFFFFF hex and means all that
--   is left; else it is Truncated.
-- - These bytes are whole frames; else it is TornFrame.
-- "WAV" in docs/formats.md.
use Rattle.std.specs.Prelude.{ℕ, zero, suc, ◌+◌, ◌-◌, ◌/◌, ◌%◌, ◌^◌, Bool, ◌&&◌, ◌||◌, ◌==◌, nat_le, nat_lt, if◌then◌else◌, List, [], ◌∷◌, length, take, drop, codes, Option, Some, None, Result, Ok, Err}
use Rattle.std.specs.Str.{bytes_eq}
use Rattle.byteorder.specs.Endian.{little_number}
use Rattle.sl_base.specs.Limits.{max_rate}
use Rattle.wav_pcm.specs.WavText.{frame_size}
use Rattle.wav_pcm.specs.declared.fault.WavFault.{WavFault}
use Rattle.wav_pcm.specs.declared.fault.WavFault.TheVariants.{NotRiff, NoFormat, Unsupported, NoData, Truncated, TornFrame}

-- how samples are spelled: the rate in frames a second, the channels, and the bits of a sample
pub record Spelling : Type 0 where
  pub rate : ℕ
  pub channels : ℕ
  pub bits : ℕ

-- what is read of a file but its frames: their spelling, the place of the first, and how many there
-- are
pub record FormOf : Type 0 where
  pub spelling : Spelling
  pub start : ℕ
  pub count : ℕ

-- the file begins as one of RIFF WAVE does
abbrev pub is_riff : List ℕ → Bool
is_riff bytes =
    nat_le 12 (length bytes) && bytes_eq (take 4 bytes) (codes "RIFF")
    && bytes_eq (take 4 (drop 8 bytes)) (codes "WAVE")

-- what a walk over chunks found: the body of the first format, and what stands behind the name of
-- `data`
pub record Walk : Type 0 where
  pub format : Option (List ℕ)
  pub data_part : Option (List ℕ)

-- a step of the walk: it stops, it is at `data` with what stands behind the name, or it passes a
-- chunk of this name and body, with what stands behind that
pub data Step : Type 0 where
  stops : Step
  starts : List ℕ → Step
  passes : List ℕ → List ℕ → List ℕ → Step

-- the size of the chunk that begins here
abbrev pub chunk_size : List ℕ → ℕ
chunk_size at = little_number 4 (drop 4 at)

-- the step from here on, over a chunk of this size
abbrev pub step_over : ℕ → List ℕ → Step
step_over size at =
    if nat_lt (length at) 8 then stops
    else if bytes_eq (take 4 at) (codes "data") then starts (drop 4 at)
    else if nat_lt (length (drop 8 at)) size then stops
    else passes (take 4 at) (take size (drop 8 at)) (drop (8 + (size + size % 2)) at)

-- the step from here on
abbrev pub step_of : List ℕ → Step
step_of at = step_over (chunk_size at) at

-- the walk found nothing
abbrev pub nothing_found : Walk
nothing_found = record { format = None; data_part = None }

-- the walk with a chunk of this name and body before it: a format before others is the first
abbrev pub behind : List ℕ → List ℕ → Walk → Walk
behind name body walk = if bytes_eq name (codes "fmt ") then
    record { format = Some body; data_part = walk.data_part } else walk

-- the walk by its first step, and the walk from any place on
abbrev pub walk_by : Step → (List ℕ → Walk) → Walk
walk_by stops walk = nothing_found
walk_by (starts part) walk = record { format = None; data_part = Some part }
walk_by (passes name body rest) walk = behind name body (walk rest)

-- the walk from here on, over so many chunks at most
abbrev pub walked : ℕ → List ℕ → Walk
walked zero at = nothing_found
walked (suc n) at = walk_by (step_of at) (walked n)

-- the whole walk from here on: there are never more chunks than bytes
abbrev pub walk_of : List ℕ → Walk
walk_of at = walked (length at) at

-- the rest of the number that stands for PCM where the tag is FFFE hex
abbrev pub pcm_rest : List ℕ
pcm_rest = 1 ∷ 0 ∷ 0 ∷ 0 ∷ 0 ∷ 0 ∷ 16 ∷ 0 ∷ 128 ∷ 0 ∷ 0 ∷ 170 ∷ 0 ∷ 56 ∷ 155 ∷ 113 ∷ []

-- the tag of a format is one of PCM
abbrev pub is_pcm : List ℕ → Bool
is_pcm format =
    little_number 2 format == 1
    || little_number 2 format == 65534 && length format == 40 && bytes_eq (drop 24 format) pcm_rest

-- the spelling that a format tells
abbrev pub spelling_of : List ℕ → Spelling
spelling_of format =
    record {
      rate = little_number 4 (drop 4 format);
      channels = little_number 2 (drop 2 format);
      bits = little_number 2 (drop 14 format);
    }

-- the spelling is one that is read
abbrev pub is_spelling : Spelling → Bool
is_spelling s =
    (s.channels == 1 || s.channels == 2) && (s.bits == 16 || s.bits == 24) && nat_le 1 s.rate
    && nat_le s.rate max_rate

-- the format is one that is read
abbrev pub is_supported : List ℕ → Bool
is_supported format =
    (length format == 16 || length format == 18 || length format == 40)
    && is_pcm format
    && is_spelling (spelling_of format)
    && little_number 2 (drop 12 format) == frame_size (spelling_of format).channels
    (spelling_of format).bits

-- the size that means all that is left
abbrev pub open_size : ℕ
open_size = 2 ^ 32 - 1

-- how many bytes of samples there are, by the size that is told and the bytes that are left
abbrev pub samples_there : ℕ → ℕ → Option ℕ
samples_there size left = if size == open_size then Some left else if nat_lt left size then
    None else Some size

-- the form by the bytes of a frame and how many bytes of samples there are, from a place on
abbrev pub form_at : Spelling → ℕ → Option ℕ → Result FormOf WavFault
form_at spelling start None = Err Truncated
form_at spelling start (Some size) =
    if size % frame_size spelling.channels spelling.bits == 0
    then Ok (record {
      spelling = spelling;
      start = start;
      count =
          size / frame_size spelling.channels spelling.bits;
    })
    else Err TornFrame

-- the form by what stands behind the name of `data`
abbrev pub form_behind : ℕ → Spelling → Option (List ℕ) → Result FormOf WavFault
form_behind whole spelling None = Err NoData
form_behind whole spelling (Some part) =
    form_at spelling (whole - length (drop 4 part))
    (samples_there (little_number 4 part) (length (drop 4 part)))

-- the form by the walk
abbrev pub form_by : ℕ → Option (List ℕ) → Option (List ℕ) → Result FormOf WavFault
form_by whole None part = Err NoFormat
form_by whole (Some format) part =
    if is_supported format then form_behind whole (spelling_of format) part else Err Unsupported

-- the form of a file, or its first fault
abbrev pub form_of : List ℕ → Result FormOf WavFault
form_of bytes =
    if is_riff bytes then
    form_by (length bytes) (walk_of (drop 12 bytes)).format (walk_of (drop 12 bytes)).data_part
    else Err NotRiff
