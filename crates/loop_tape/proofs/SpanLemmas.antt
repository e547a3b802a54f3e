-- Where addresses in one chunk lie.
use Rattle.std.proofs.Common.{◌≡◌, ◌≤◌, ◌<◌, ℕ, ◌+◌, ◌-◌, ◌/◌, ◌%◌, List, arith}
use Rattle.loop_tape.specs.Tapes.{slot}

-- the addresses behind one in its chunk lie behind it
pub slot_behind : (chunks : List ℕ) (a k : ℕ) → a % 4096 + k < 4096 →
    slot chunks (a + k) ≡ slot chunks a + k
slot_behind chunks a k lt =
    let e : (a + k) / 4096 ≡ a / 4096 = omega (arith, lt) in
    let f : (a + k) % 4096 ≡ a % 4096 + k = omega (arith, lt) in
    rw (e, f) (omega arith)

-- the addresses before one in its chunk lie before it
pub slot_before : (chunks : List ℕ) (a k : ℕ) → k ≤ a % 4096 →
    slot chunks (a - k) + k ≡ slot chunks a
slot_before chunks a k le =
    let e : (a - k) / 4096 ≡ a / 4096 = omega (arith, le) in
    let f : (a - k) % 4096 + k ≡ a % 4096 = omega (arith, le) in
    rw e (omega (arith, f))

pub ruleset parts = (slot_behind, slot_before)

pub ruleset spans = (slot_behind)
