-- Of the saves that are due, those looked at so far stay, and the others are still to be looked at.
use Rattle.std.proofs.Common.{◌≡◌, ◌≤◌, ◌-◌, ◌++◌, ℕ, List, length, take, drop}
use Rattle.sl_base.specs.Limits.{max_loops}
use Rattle.sl_commands.specs.declared.Target.{Target}
use Rattle.std.specs.Vec.{vec_capacity}
use Rattle.looper_engine.specs.declared.queue.Pending.{Pending}
use Rattle.looper_engine.specs.Queues.{left_by}
use Rattle.looper_engine.proofs.queue.Queue.release.Given as goal

-- what a turn keeps of the saves that are due: those of before, and those of now
pub record LeavesTheOthers (target : Target) (before now : List Pending)
    (index room : ℕ) : Type 0 where
  pub leaves : take index now ++ left_by target (drop index now) ≡ left_by target before
  pub looked_at : index ≤ length now
  pub no_more : length now ≤ length before
  pub reserved : max_loops ≤ room

-- and those that are sent stay as they are
pub record SendsAsBefore {Q : Type 0} (sending sending' : Q) (part part' : ℕ) : Type 0 where
  pub same_saves : sending' ≡ sending
  pub same_part : part' ≡ part

abbrev pub invariant-loop-index : goal.invariant-loop-index
invariant-loop-index l =
    LeavesTheOthers l.target l.fn.self.due l.self-inside.due.items l.index
    (vec_capacity l.self-inside.due)
    × SendsAsBefore l.initial.self-inside.sending l.self-inside.sending l.initial.self-inside.part
    l.self-inside.part

abbrev pub decreases-loop-index : goal.decreases-loop-index
decreases-loop-index l = length l.self-inside.due.items - l.index
