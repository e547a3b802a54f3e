-- Samples are read from bytes, the lowest byte first, in two's complement. A sample of 16 bits is
-- 256 times as much in 24 bits, and one of 24 bits is itself. In one channel a sample stands on
-- both sides of its frame, in two the left comes first. A frame that was written is read again as
-- far as its form keeps it: 16 bits keep the 256th part, rounded down, and one channel the left
-- side.
-- "WAV" in docs/formats.md.
use Rattle.std.specs.Prelude.{ℕ, zero, suc, ◌/◌, ◌==◌, if◌then◌else◌, ℤ, List, [], ◌∷◌, drop}
use Rattle.std.specs.Int.{w16, cast_signed}
use Rattle.byteorder.specs.Endian.{little_number, twos_complement}
use Rattle.sl_base.specs.Arithmetic.{widened}
use Rattle.sl_base.specs.Sounds.{Sound, both}
use Rattle.wav_pcm.specs.WavText.{frame_size}

-- the sample at the front of the bytes
abbrev pub sample_at : ℕ → List ℕ → ℤ
sample_at bits bytes =
    if bits == 16 then widened (cast_signed w16 (little_number 2 bytes)) else
    twos_complement 3 (little_number 3 bytes)

-- the frame at the front of the bytes
abbrev pub frame_at : ℕ → ℕ → List ℕ → Sound
frame_at channels bits bytes =
    if channels == 1 then both (sample_at bits bytes)
    else record { left = sample_at bits bytes; right = sample_at bits (drop (bits / 8) bytes) }

-- so many frames from the front of the bytes
abbrev pub frames_in : ℕ → ℕ → ℕ → List ℕ → List Sound
frames_in channels bits zero bytes = []
frames_in channels bits (suc n) bytes =
    frame_at channels bits bytes ∷ frames_in channels bits n (drop (frame_size channels bits) bytes)
