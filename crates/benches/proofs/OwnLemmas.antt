-- New layers own their tape, which has no chunk.
use Rattle.std.proofs.Common.{◌≡◌, ◌≤◌, ℕ, [], false, refl, arith}
use Rattle.looper_rules.specs.Stack.{empty_stack}
use Rattle.loop_tape.specs.Pools.{PoolOf}
use Rattle.loop_tape.specs.Tapes.{Owns}
use Rattle.layer_memory.specs.Seen.{Held}
use Rattle.benches.specs.Phases.{IsIdle}

owns-none : (p : PoolOf) (n : ℕ) → p.all ≤ n → Owns (record { chunks = []; len = 0; room = n }) p
owns-none p n le = record {
  inside = λ i lt. absurd (omega (arith, lt));
  once = λ i j a b e. absurd (omega (arith, a));
  taken = λ i j a b. absurd (omega (arith, a));
  fits = le;
}

pub idle-new : (h : Held) (p : PoolOf) (n : ℕ) →
    h ≡ record {
      stack = empty_stack;
      writing = false;
      tape =
          record { chunks = []; len = 0; room = n };
    } → p.all ≤ n → IsIdle h p
idle-new h p n e f = rw e (record { closed = refl; owns = owns-none p n f })
