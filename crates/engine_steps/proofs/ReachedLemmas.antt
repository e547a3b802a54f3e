-- What an engine in step has of the run of its journal.
use Rattle.std.proofs.Common.{◌≡◌, ℕ, zero, ◌+◌, ◌≤◌, List, [], ◌++◌, length, refl, sym, ap, ◌∙◌, subst, arith}
use Rattle.std.specs.Prelude.{IsTrue}
use Rattle.std.specs.List.{AllByRecursion}
use Rattle.sl_base.specs.Sounds.{Sound}
use Rattle.sl_commands.specs.declared.Entry.{Entry}
use Rattle.sl_commands.specs.Blocks.{may_all_follow}
use Rattle.looper_rules.specs.Looper.{Looper}
use Rattle.looper_rules.specs.Saves.{Save}
use Rattle.looper_rules.specs.Run.{Ran, begun, run, start}
use Rattle.looper_rules.specs.Unanswered.{unanswered_begun, unanswered, holds_of, HoldPins}
use Rattle.looper_rules.specs.SaveBlocks.{blocks_for_all, IsMade, AreSent}
use Rattle.looper_rules.specs.Reached.{IsBeginning, KeepsLooper}
use Rattle.run_laws.specs.Apart.{AreAllApart}
use Rattle.run_laws.proofs.Runs.Cuts.{run-run_from}
use Rattle.run_laws.proofs.Runs.Sizes.{start-selects}
use Rattle.run_laws.proofs.Saves.Owners.{entered-holds, begun-holds, first-holds}
use Rattle.run_laws.proofs.Saves.Apart.{entered_apart, begun_apart}
use Rattle.run_laws.proofs.Saves.Made.{run_from-made, sent_in_order}
use Rattle.run_laws.proofs.Saves.Numbers.{run-numbers, run-count_of_saves}
use Rattle.run_laws.proofs.Saves.Blocks.{blocks_for_all_follow}
use Rattle.looper_laws.proofs.Kept.Starts.{begins, runs_begun, runs_entered}
use Rattle.engine_steps.specs.Engines.{EngineOf, Beginning, first_looper, waiting, left}
use Rattle.engine_steps.specs.InStep.{SoFar, IsInStep}

-- the unanswered saves are of different loops
unanswered_apart : (b : Beginning) (es : List Entry) (input : List Sound) →
    IsBeginning b.settings b.chunks b.initial → AreAllApart (unanswered es input (first_looper b))
unanswered_apart b es input h =
    let l = first_looper b
    in let first = begun 0 es input l
    in entered_apart (length input) first.left first.looper (unanswered_begun 0 es input l [])
    (runs_begun b.settings b.chunks b.initial h es input)
    (begun-holds 0 es input l [] (begins b.settings b.chunks b.initial h)
    (first-holds b.settings.strips b.initial))
    (begun_apart 0 es input l [] (begins b.settings b.chunks b.initial h)
    (first-holds b.settings.strips b.initial) tt)

pub waiting_apart : (b : Beginning) (s : SoFar) (e : EngineOf) →
    IsBeginning b.settings b.chunks b.initial → IsInStep b s e → AreAllApart (waiting e)
waiting_apart b s e begin h =
    subst AreAllApart (sym h.unanswered) (unanswered_apart b e.journal.entries s.input begin)

-- the saves are numbered in order, and may be sent
saves_sent : (b : Beginning) (s : SoFar) (e : EngineOf) →
    IsBeginning b.settings b.chunks b.initial → IsInStep b s e → AreSent 0 s.saves
saves_sent b s e begin h =
    let l = first_looper b
    in let es = e.journal.entries
    in let made : AllByRecursion IsMade (run es s.input l).saves =
    subst (λ (r : Ran). AllByRecursion IsMade r.saves) (sym (run-run_from es s.input l))
    (run_from-made 0 es s.input l (begins b.settings b.chunks b.initial begin))
    in let sent = sent_in_order 0 (run es s.input l).saves made
    (run-numbers es s.input l (start-selects b.settings b.chunks b.initial begin.in_range))
    in subst (λ (r : Ran). AreSent 0 r.saves) h.ran sent

pub blocks_follow : (b : Beginning) (s : SoFar) (e : EngineOf) (bound : ℕ) →
    IsBeginning b.settings b.chunks b.initial → IsInStep b s e → length s.saves ≤ bound →
    IsTrue (may_all_follow [] (s.sent ++ left e) bound)
blocks_follow b s e bound begin h few =
    subst (λ bs. IsTrue (may_all_follow [] bs bound)) h.blocks
    (blocks_for_all_follow [] 0 bound s.saves (saves_sent b s e begin h) refl (omega arith))

pub looper_kept : (b : Beginning) (s : SoFar) (e : EngineOf) →
    IsBeginning b.settings b.chunks b.initial → IsInStep b s e → KeepsLooper e.frames e.looper
looper_kept b s e begin h =
    let l = first_looper b
    in let es = e.journal.entries
    in let kept : KeepsLooper (length s.input) (run es s.input l).looper =
    runs_entered b.settings b.chunks b.initial begin es (begun 0 es s.input l).left s.input
    in let here = subst (λ (r : Ran). KeepsLooper (length s.input) r.looper) h.ran kept
    in subst (λ n. KeepsLooper n e.looper) (sym h.frames) here

pub saves_counted : (b : Beginning) (s : SoFar) (e : EngineOf) →
    IsBeginning b.settings b.chunks b.initial → IsInStep b s e → e.looper.saves ≡ length s.saves
saves_counted b s e begin h =
    let l = first_looper b
    in let count = run-count_of_saves e.journal.entries s.input l
    (start-selects b.settings b.chunks b.initial begin.in_range)
    in let here : e.looper.saves ≡ 0 + length s.saves =
    subst (λ (r : Ran). r.looper.saves ≡ 0 + length r.saves) h.ran count
    in omega arith

-- the lists of the saves that wait are those that the pins hold
pub lists_held : (b : Beginning) (s : SoFar) (e : EngineOf) →
    IsBeginning b.settings b.chunks b.initial → IsInStep b s e →
    HoldPins (waiting e) (holds_of e.looper)
lists_held b s e begin h =
    let l = first_looper b
    in let es = e.journal.entries
    in let first = begun 0 es s.input l
    in let start_kept = begins b.settings b.chunks b.initial begin
    in let begun_held =
    begun-holds 0 es s.input l [] start_kept (first-holds b.settings.strips b.initial)
    in let held : HoldPins (unanswered es s.input l) (holds_of (run es s.input l).looper) =
    entered-holds (length s.input) first.left first.looper (unanswered_begun 0 es s.input l [])
    (runs_begun b.settings b.chunks b.initial begin es s.input) begun_held
    in subst (λ (r : Ran). HoldPins (waiting e) (holds_of r.looper)) h.ran
    (subst (λ ss. HoldPins ss (holds_of (run es s.input l).looper)) (sym h.unanswered) held)
