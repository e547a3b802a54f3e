-- The saves that no release has answered, without their lists: those that are due to be answered,
-- and behind them those whose blocks are still sent, of the first of which some blocks were sent.
-- At most as many of them wait at a time as there may be loops.
-- "Saves" and "Blocks of a save" in docs/rules.md.
use Rattle.std.specs.Prelude.{◌≤◌, ◌<◌, ⊤, ℕ, ◌+◌, ◌==◌, Bool, true, false, not, ◌&&◌, if◌then◌else◌, List, [], ◌∷◌, ◌++◌, length, filter, Option, Some, None}
use Rattle.sl_base.specs.Limits.{max_loops}
use Rattle.sl_commands.specs.declared.Target.{Target}
use Rattle.sl_commands.specs.declared.Command.{Command}
use Rattle.sl_commands.specs.declared.Command.TheVariants.{SaveLoop, SaveSession, Release}
use Rattle.sl_commands.specs.Entries.{is_sender}
use Rattle.sl_commands.specs.Commands.{is_allowed}
use Rattle.sl_commands.specs.declared.Target.TheVariants.{One, All}
use Rattle.looper_rules.specs.Looper.{Looper, index_of}
use Rattle.looper_rules.specs.Saves.{settings_of}
use Rattle.looper_rules.specs.Unanswered.{answers}
use Rattle.looper_engine.specs.declared.queue.Pending.{Pending}

-- what contracts see of a queue
pub record QueueOf : Type 0 where
  pub due : List Pending
  pub sending : List Pending
  pub part : ℕ

-- no saves
abbrev pub empty_queue : QueueOf
empty_queue = record { due = []; sending = []; part = 0 }

-- those of these saves that a release with this target leaves
abbrev pub left_by : Target → List Pending → List Pending
left_by target ps = filter (λ (p : Pending). not (answers target p.target)) ps

-- the queue behind what released a target, or nothing
abbrev pub settled : Option Target → QueueOf → QueueOf
settled None q = q
settled (Some target) q = record q { due = left_by target q.due }

-- the queue with the save that was made, or none
abbrev pub joined : Option Pending → QueueOf → QueueOf
joined None q = q
joined (Some p) q = record q { sending = q.sending ++ p ∷ [] }

-- there is a place for the save that was made
abbrev pub HasPlace : Option Pending → QueueOf → Type 0
HasPlace None q = ⊤
HasPlace (Some p) q = length q.due + length q.sending < max_loops

-- the queue of whose first save one more block was sent, by whether it was its last
abbrev pub sent_of : Bool → Pending → List Pending → QueueOf → QueueOf
sent_of true p ps q = record { due = q.due ++ p ∷ []; sending = ps; part = 0 }
sent_of false p ps q = record q { part = q.part + 1 }

-- the same, where the first save has so many blocks
abbrev pub sent_from : ℕ → List Pending → QueueOf → QueueOf
sent_from count [] q = q
sent_from count (p ∷ ps) q = sent_of (q.part + 1 == count) p ps q

abbrev pub block_sent : ℕ → QueueOf → QueueOf
block_sent count q = sent_from count q.sending q

-- what a queue's fields keep: in each part there is room for as many saves as there may be loops
pub record IsQueue (due_capacity sending_capacity : ℕ) (q : QueueOf) : Type 0 where
  pub due_room : max_loops ≤ due_capacity
  pub sending_room : max_loops ≤ sending_capacity
  pub few : length q.due + length q.sending ≤ max_loops

-- the target that a command releases
abbrev pub target_in : Command → Option Target
target_in (Release target outcome) = Some target
target_in _ = None

-- the target that a command of this sender releases, where it is valid for so many loops
abbrev pub released_by : ℕ → Command → ℕ → Option Target
released_by sender command loops = if is_sender sender command && is_allowed loops command then
    target_in command else None

-- the save for which a command asks, without its lists
abbrev pub asked_by : Command → Looper → Option Pending
asked_by (SaveLoop target name) l =
    Some (record {
      number = l.saves;
      target = One (index_of target l.globals.selected_loop_num);
      name = name;
      settings = settings_of l;
    })
asked_by (SaveSession name) l =
    Some (record { number = l.saves; target = All; name = name; settings = settings_of l })
asked_by _ l = None
