-- The WAV text of frames: RIFF WAVE with plain numbers, in 1 or 2 channels of 16 or 24 bits.
-- It begins with `RIFF`, 36 more than the size of the samples and their pad, and `WAVE`.
-- The format chunk follows: `fmt `, its size 16, the tag 1, the channels, the rate, the bytes of a
-- second, the bytes of a frame, and the bits of a sample. The data chunk follows: `data`, the size
-- of the samples, the samples, and a zero byte where that size is odd.
-- A number's lowest byte stands first. A sample below 0 is in two's complement.
-- In 16 bits a sample is divided by 256, rounding down. One channel has the left sides.
-- "WAV" in docs/formats.md.
use Rattle.std.specs.Prelude.{◌≡◌, ◌⊎◌, ℕ, suc, ◌+◌, ◌-◌, ◌*◌, ◌/◌, ◌%◌, ◌^◌, ◌==◌, if◌then◌else◌, ℤ, pos, negsuc, List, ◌++◌, length, replicate, codes}
use Rattle.std.specs.List.{flat_map}
use Rattle.byteorder.specs.Endian.{little_bytes}
use Rattle.sl_base.specs.Arithmetic.{narrowed}
use Rattle.sl_base.specs.Sounds.{Sound}

-- 1 or 2 channels of 16 or 24 bits
pub record IsFormat (channels bits : ℕ) : Type 0 where
  pub one_or_two : (channels ≡ 1) ⊎ (channels ≡ 2)
  pub short_or_long : (bits ≡ 16) ⊎ (bits ≡ 24)

-- the bytes of one frame
abbrev pub frame_size : ℕ → ℕ → ℕ
frame_size channels bits = channels * (bits / 8)

-- the bytes of so many frames, without the pad
abbrev pub samples_size : ℕ → ℕ → ℕ → ℕ
samples_size count channels bits = count * frame_size channels bits

-- the number that a sample's bits spell: a sample below 0 counts from the top
abbrev pub twos_complement : ℕ → ℤ → ℕ
twos_complement bits (pos n) = n
twos_complement bits (negsuc n) = 2 ^ bits - suc n

-- the bytes of one sample
abbrev pub sample_bytes : ℕ → ℤ → List ℕ
sample_bytes bits sample =
    if bits == 16 then little_bytes 2 (twos_complement 16 (narrowed sample))
    else little_bytes 3 (twos_complement 24 sample)

-- the samples of one frame, left first
abbrev pub frame_bytes : ℕ → ℕ → Sound → List ℕ
frame_bytes channels bits frame =
    if channels == 1 then sample_bytes bits frame.left
    else sample_bytes bits frame.left ++ sample_bytes bits frame.right

-- the samples of all frames, oldest first
abbrev pub samples : ℕ → ℕ → List Sound → List ℕ
samples channels bits frames = flat_map (frame_bytes channels bits) frames

-- a zero byte behind an odd size
abbrev pub padding : ℕ → List ℕ
padding size = replicate (size % 2) 0

-- the first 12 bytes, by the size of the samples
abbrev pub riff_header : ℕ → List ℕ
riff_header size = codes "RIFF" ++ (little_bytes 4 (36 + size + size % 2) ++ codes "WAVE")

-- the format chunk, of 24 bytes
abbrev pub format_chunk : ℕ → ℕ → ℕ → List ℕ
format_chunk channels bits rate =
    codes "fmt " ++ (little_bytes 4 16
    ++ (little_bytes 2 1 ++ (little_bytes 2 channels ++ (little_bytes 4 rate
    ++ (little_bytes 4 (rate * frame_size channels bits)
    ++ (little_bytes 2 (frame_size channels bits)
    ++ little_bytes 2 bits))))))

-- the 8 bytes before the samples
abbrev pub data_header : ℕ → List ℕ
data_header size = codes "data" ++ little_bytes 4 size

-- the 44 bytes before the samples, by their size
abbrev pub wav_header : ℕ → ℕ → ℕ → ℕ → List ℕ
wav_header size channels bits rate =
    riff_header size ++ (format_chunk channels bits rate ++ data_header size)

-- the whole text
abbrev pub wav_text : List Sound → ℕ → ℕ → ℕ → List ℕ
wav_text frames channels bits rate =
    let size = samples_size (length frames) channels bits in
    wav_header size channels bits rate ++ (samples channels bits frames ++ padding size)

-- how many bytes the whole text of so many frames has
abbrev pub text_size : ℕ → ℕ → ℕ → ℕ
text_size count channels bits =
    let size = samples_size count channels bits in
    44 + size + size % 2
