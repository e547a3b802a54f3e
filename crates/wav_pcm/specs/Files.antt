-- A WAV file that is read is `RIFF`, a size, `WAVE`, chunks none of which is named `data`, and then
-- `data`, a size, and the samples. The first of these chunks that is named `fmt ` tells the
-- spelling. The samples are as many bytes as the size of `data` says, or all that is left where
-- that is FFFFFFFF hex, and they are whole frames.
-- "WAV" in docs/formats.md.
use Rattle.std.specs.Prelude.{◌≡◌, ◌≢◌, ◌≤◌, ◌⊎◌, ℕ, ◌*◌, ◌%◌, true, List, [], ◌∷◌, ◌++◌, length, codes, Option, Some, None, if◌then◌else◌}
use Rattle.std.specs.List.{AllByRecursion}
use Rattle.std.specs.Str.{bytes_eq}
use Rattle.byteorder.specs.Endian.{little_number}
use Rattle.sl_base.specs.Sounds.{Sound}
use Rattle.wav_pcm.specs.WavText.{frame_size}
use Rattle.wav_pcm.specs.Samples.{frames_in}
use Rattle.wav_pcm.specs.Reading.{Spelling, spelling_of, is_supported, open_size}

-- the first 12 bytes, with any size
abbrev pub riff_of : List ℕ → List ℕ
riff_of size = codes "RIFF" ++ (size ++ codes "WAVE")

-- a chunk: its name, its size as it is spelled, its body, and its pad
pub record Chunk : Type 0 where
  pub name : List ℕ
  pub size : List ℕ
  pub body : List ℕ
  pub pad : List ℕ

-- a chunk other than `data`, whose parts are as long as they have to be
pub record IsChunk (c : Chunk) : Type 0 where
  pub name_is : length c.name ≡ 4
  pub not_data : c.name ≢ codes "data"
  pub size_is : length c.size ≡ 4
  pub body_is : length c.body ≡ little_number 4 c.size
  pub pad_is : length c.pad ≡ length c.body % 2

-- the bytes of a chunk
abbrev pub chunk_bytes : Chunk → List ℕ
chunk_bytes c = c.name ++ (c.size ++ (c.body ++ c.pad))

-- the bytes of chunks behind one another
abbrev pub chunks_bytes : List Chunk → List ℕ
chunks_bytes [] = []
chunks_bytes (c ∷ cs) = chunk_bytes c ++ chunks_bytes cs

-- the body of the first chunk that is a format
abbrev pub first_format : List Chunk → Option (List ℕ)
first_format [] = None
first_format (c ∷ cs) = if bytes_eq c.name (codes "fmt ") then Some c.body else first_format cs

-- so many bytes of samples: those that the size says, or all that are left where it is open
abbrev pub AreThere : ℕ → ℕ → ℕ → Type 0
AreThere size left many = ((size ≡ open_size) × (many ≡ left))
    ⊎ ((size ≢ open_size) × (size ≤ left) × (many ≡ size))

-- the bytes are a WAV file of this spelling and these frames
pub record IsWav (bytes : List ℕ) (spelling : Spelling) (frames : List Sound) : Type 0 where
  pub riff_size : List ℕ
  pub riff_size_is : length riff_size ≡ 4
  pub chunks : List Chunk
  pub are_chunks : AllByRecursion IsChunk chunks
  pub size : List ℕ
  pub size_is : length size ≡ 4
  pub left : List ℕ
  pub spelled : bytes ≡ riff_of riff_size
      ++ (chunks_bytes chunks ++ (codes "data" ++ (size ++ left)))
  pub format : List ℕ
  pub format_is : first_format chunks ≡ Some format
  pub supported : is_supported format ≡ true
  pub spelling_is : spelling ≡ spelling_of format
  pub many : ℕ
  pub are_there : AreThere (little_number 4 size) (length left) many
  pub count : ℕ
  pub whole : many ≡ count * frame_size spelling.channels spelling.bits
  pub frames_are : frames ≡ frames_in spelling.channels spelling.bits count left
