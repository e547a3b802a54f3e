-- What layers over a tape are seen as: a stack whose cells hold addresses, and the tape. With the
-- pool's frames at these addresses it is the stack of frames of which the rules speak.
-- "The stack" and "Room" in docs/rules.md.
use Rattle.std.specs.Prelude.{ℕ, ◌+◌, Bool, length}
use Rattle.sl_base.specs.Sounds.{Sound}
use Rattle.looper_rules.specs.Stack.{Stack}
use Rattle.looper_rules.specs.Mapping.{stack_map}
use Rattle.loop_tape.specs.Pools.{PoolOf}
use Rattle.loop_tape.specs.Tapes.{TapeOf, at}

-- what layers are seen as: the stack of addresses, whether a layer is open, and the tape
pub record Held : Type 0 where
  pub stack : Stack ℕ
  pub writing : Bool
  pub tape : TapeOf

-- the stack of frames
abbrev pub seen : Held → PoolOf → Stack Sound
seen h p = stack_map (at h.tape p) h.stack

-- how many chunks these layers have or may take
abbrev pub reach : Held → PoolOf → ℕ
reach h p = length h.tape.chunks + length p.free
