-- Frames that were put on a tape, one behind the other.
-- "Room" in docs/rules.md.
use Rattle.std.specs.Prelude.{◌≡◌, ◌<◌, ℕ, ◌+◌, List, length, get_or}
use Rattle.sl_base.specs.Sounds.{Sound, silence}
use Rattle.loop_tape.specs.Pools.{PoolOf}
use Rattle.loop_tape.specs.Tapes.{TapeOf, at, Owns, OthersStay}

-- the tape has these frames more at its end
pub record Appended (t t' : TapeOf) (p p' : PoolOf) (xs : List Sound) : Type 0 where
  pub len : t'.len ≡ t.len + length xs
  pub new : (k : ℕ) → k < length xs → at t' p' (t.len + k) ≡ get_or xs k silence
  pub kept : (address : ℕ) → address < t.len → at t' p' address ≡ at t p address
  pub owned : Owns t' p'
  pub others : OthersStay t t' p p'
  pub chunks : length t'.chunks + length p'.free ≡ length t.chunks + length p.free
  pub all : p'.all ≡ p.all
