-- Layers over their pool, with no layer open and with one open.
-- "Layers" in docs/rules.md.
use Rattle.std.specs.Prelude.{◌<◌, IsFalse, IsTrue, length}
use Rattle.loop_tape.specs.Pools.{PoolOf}
use Rattle.loop_tape.specs.Tapes.{Owns}
use Rattle.layer_memory.specs.Seen.{Held}

-- no layer is open
pub record IsIdle (h : Held) (p : PoolOf) : Type 0 where
  pub closed : IsFalse h.writing
  pub owns : Owns h.tape p

-- a layer is open
pub record IsWriting (h : Held) (p : PoolOf) : Type 0 where
  pub writing : IsTrue h.writing
  pub some : 0 < length h.stack.layers
  pub owns : Owns h.tape p
