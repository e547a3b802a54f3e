-- A tape is a list of frames that lie in chunks of a pool. Its addresses count its frames from 0.
-- A tape of a length has as many chunks as its frames fill, the last one maybe in part.
-- Tapes over one pool have different chunks, and what is done to one leaves every other as it was.
-- "Room" in docs/rules.md.
use Rattle.std.specs.Prelude.{◌≡◌, ◌≢◌, ◌≤◌, ◌<◌, ℕ, ◌+◌, ◌*◌, ◌/◌, ◌%◌, List, length, get_or}
use Rattle.sl_base.specs.Limits.{chunk_frames}
use Rattle.sl_base.specs.Sounds.{Sound, silence}
use Rattle.loop_tape.specs.Pools.{PoolOf, AreDistinct}

-- what a tape is seen as: the numbers of its chunks in order, its length, and how many chunks it
-- has room for
pub record TapeOf : Type 0 where
  pub chunks : List ℕ
  pub len : ℕ
  pub room : ℕ

-- where an address of a tape lies among the frames of the pool
abbrev pub slot : List ℕ → ℕ → ℕ
slot chunks address = get_or chunks (address / chunk_frames) 0 * chunk_frames + address
    % chunk_frames

-- the frame at an address
abbrev pub at : TapeOf → PoolOf → ℕ → Sound
at t p address = get_or p.store (slot t.chunks address) silence

-- the tape's chunks are the pool's, each once, and none of them is free
pub record Owns (t : TapeOf) (p : PoolOf) : Type 0 where
  pub inside : (i : ℕ) → i < length t.chunks → get_or t.chunks i 0 < p.all
  pub once : AreDistinct t.chunks
  pub taken : (i j : ℕ) → i < length t.chunks → j < length p.free →
      get_or t.chunks i 0 ≢ get_or p.free j 0
  pub fits : p.all ≤ t.room

-- two tapes have no chunk in common
abbrev pub Apart : TapeOf → TapeOf → Type 0
Apart u t = (i j : ℕ) → i < length u.chunks → j < length t.chunks →
    get_or u.chunks i 0 ≢ get_or t.chunks j 0

-- the tape is as long as its chunks say
abbrev pub IsWhole : TapeOf → Type 0
IsWhole t = length t.chunks ≡ (t.len + 4095) / chunk_frames

-- a tape over the same pool has kept its frames, and has no chunk in common with one that has
-- changed
pub record Stays (u t' : TapeOf) (p p' : PoolOf) : Type 0 where
  pub owned : Owns u p'
  pub apart : Apart u t'
  pub frames : (address : ℕ) → address < u.len → at u p' address ≡ at u p address

-- every other tape over the pool stays as it was
abbrev pub OthersStay : TapeOf → TapeOf → PoolOf → PoolOf → Type 0
OthersStay t t' p p' = (u : TapeOf) → IsWhole u → Owns u p → Apart u t → Stays u t' p p'

-- the tape has one frame more
pub record Pushed (t t' : TapeOf) (p p' : PoolOf) (x : Sound) : Type 0 where
  pub len : t'.len ≡ t.len + 1
  pub room : t'.room ≡ t.room
  pub last : at t' p' t.len ≡ x
  pub kept : (address : ℕ) → address < t.len → at t' p' address ≡ at t p address
  pub owned : Owns t' p'
  pub others : OthersStay t t' p p'
  pub chunks : length t'.chunks + length p'.free ≡ length t.chunks + length p.free
  pub all : p'.all ≡ p.all

-- the tape is shorter, or as long, and has given back chunks
pub record Cut (t t' : TapeOf) (p p' : PoolOf) : Type 0 where
  pub len : t'.len ≤ t.len
  pub room : t'.room ≡ t.room
  pub kept : (address : ℕ) → address < t'.len → at t' p' address ≡ at t p address
  pub owned : Owns t' p'
  pub others : OthersStay t t' p p'
  pub chunks : length t'.chunks + length p'.free ≡ length t.chunks + length p.free
  pub all : p'.all ≡ p.all
  pub store : p'.store ≡ p.store

-- one frame of the tape has changed
pub record IsSet (t t' : TapeOf) (p p' : PoolOf) (address : ℕ) (x : Sound) : Type 0 where
  pub tape : t' ≡ t
  pub there : at t' p' address ≡ x
  pub kept : (a : ℕ) → a < t.len → a ≢ address → at t' p' a ≡ at t p a
  pub owned : Owns t' p'
  pub others : OthersStay t t' p p'
  pub free : p'.free ≡ p.free
  pub all : p'.all ≡ p.all

-- the tape has these frames more
pub record PushedAll (t t' : TapeOf) (p p' : PoolOf) (xs : List Sound) : Type 0 where
  pub len : t'.len ≡ t.len + length xs
  pub room : t'.room ≡ t.room
  pub new : (k : ℕ) → k < length xs → at t' p' (t.len + k) ≡ get_or xs k silence
  pub kept : (address : ℕ) → address < t.len → at t' p' address ≡ at t p address
  pub owned : Owns t' p'
  pub others : OthersStay t t' p p'
  pub chunks : length t'.chunks + length p'.free ≡ length t.chunks + length p.free
  pub all : p'.all ≡ p.all

-- frames of the tape from an address on have changed
pub record AreSet (t t' : TapeOf) (p p' : PoolOf) (address : ℕ) (xs : List Sound) : Type 0 where
  pub tape : t' ≡ t
  pub there : (k : ℕ) → k < length xs → at t' p' (address + k) ≡ get_or xs k silence
  pub before : (a : ℕ) → a < address → at t' p' a ≡ at t p a
  pub behind : (a : ℕ) → address + length xs ≤ a → a < t.len → at t' p' a ≡ at t p a
  pub owned : Owns t' p'
  pub others : OthersStay t t' p p'
  pub free : p'.free ≡ p.free
  pub all : p'.all ≡ p.all
