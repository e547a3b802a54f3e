-- A pool has a number of chunks, each of 4096 frames, and all tapes of a looper take their chunks
-- from it. A chunk is free, or a tape has it. A frame of a chunk to which nothing was ever written
-- is silence.
-- "Room" in docs/rules.md.
use Rattle.std.specs.Prelude.{◌≡◌, ◌≢◌, ◌≤◌, ◌<◌, ℕ, zero, suc, ◌+◌, ◌-◌, ◌*◌, List, [], ◌∷◌, ◌++◌, length, take, drop, get_or, replicate}
use Rattle.sl_base.specs.Limits.{chunk_frames, max_chunks}
use Rattle.sl_base.specs.Sounds.{Sound, silence}

-- what a pool is seen as: the frames of all chunks, one chunk after the other, the numbers of the
-- free chunks, and how many chunks there are
pub record PoolOf : Type 0 where
  pub store : List Sound
  pub free : List ℕ
  pub all : ℕ

-- no number stands twice in the list
abbrev pub AreDistinct : List ℕ → Type 0
AreDistinct xs = (i j : ℕ) → i < length xs → j < length xs → get_or xs i 0 ≡ get_or xs j 0 → i ≡ j

-- the number stands nowhere in the list
abbrev pub IsOutside : ℕ → List ℕ → Type 0
IsOutside x xs = (j : ℕ) → j < length xs → get_or xs j 0 ≢ x

-- what always holds of a pool: all its frames are there, and the free chunks are its own, each once
pub record IsPool (p : PoolOf) : Type 0 where
  pub store : length p.store ≡ p.all * chunk_frames
  pub inside : (i : ℕ) → i < length p.free → get_or p.free i 0 < p.all
  pub once : AreDistinct p.free

-- the chunk is one of the pool's, and isn't free
pub record IsTaken (p : PoolOf) (chunk : ℕ) : Type 0 where
  pub inside : chunk < p.all
  pub taken : IsOutside chunk p.free

-- the frames, and silence up to this length
abbrev pub padded : ℕ → List Sound → List Sound
padded n frames = frames ++ replicate (n - length frames) silence

-- the frames with others in place of as many from a place on
abbrev pub with_frames : ℕ → List Sound → List Sound → List Sound
with_frames slot xs frames = take slot frames ++ (xs ++ drop (slot + length xs) frames)

-- so many chunks from this one on, the last first
abbrev pub downward : ℕ → ℕ → List ℕ
downward chunk zero = []
downward chunk (suc n) = (chunk + n) ∷ downward chunk n

-- the free chunks, the one that is taken next at the end: those never taken, and those given back
abbrev pub free_of : ℕ → ℕ → List ℕ → List ℕ
free_of begun all given = downward begun (all - begun) ++ given

-- what always holds of a pool's parts: the frames that were filled, the chunks given back, the
-- chunks begun, and all
pub record HoldsPool (store : List Sound) (given : List ℕ) (begun all : ℕ) : Type 0 where
  pub once : AreDistinct (free_of begun all given)
  pub below : (j : ℕ) → j < length given → get_or given j 0 < begun
  pub fewer : length given ≤ begun
  pub within : begun ≤ all
  pub most : all ≤ max_chunks
  pub filled : begun * chunk_frames ≤ length store
  pub short : length store ≤ all * chunk_frames
