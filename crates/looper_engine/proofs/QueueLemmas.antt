-- A release takes the saves that it answers out of the due ones.
use Rattle.std.proofs.Common.{◌≡◌, ℕ, ◌≤◌, List, ◌++◌, length, take, drop, sym, ap₂, ◌∙◌, append-nil}
use Rattle.std.proofs.lemmas.List.{take_all, drop_all}
use Rattle.sl_commands.specs.declared.Target.{Target}
use Rattle.looper_engine.specs.declared.queue.Pending.{Pending}
use Rattle.looper_engine.specs.Queues.{QueueOf, left_by}

-- where all were looked at, those that are left are left
pub released_all : (target : Target) (index : ℕ) (ps all : List Pending) →
    take index ps ++ left_by target (drop index ps) ≡ left_by target all → length ps ≤ index →
    ps ≡ left_by target all
released_all target index ps all is past =
    sym (append-nil ps)
    ∙ ap₂ (λ first rest. first ++ left_by target rest) (sym (take_all index ps past))
    (sym (drop_all index ps past))
    ∙ is

pub released_queue : (target : Target) (due sending sending' first : List Pending) (part part' : ℕ)
    (now : QueueOf) → record { due = first; sending = sending'; part = part' } ≡ now →
    due ≡ left_by target now.due → sending ≡ sending' → part ≡ part' →
    record { due = due; sending = sending; part = part }
    ≡ (let q : QueueOf = record now { due = left_by target now.due } in q)
released_queue target due sending sending' first part part' now view is same there = cc
