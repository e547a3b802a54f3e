-- What was sent of the blocks of saves, and how much comes from an engine at most.
use Rattle.std.proofs.Common.{◌≡◌, ℕ, zero, suc, ◌+◌, ◌*◌, ◌≤◌, ◌<◌, Bool, true, false, List, [], ◌∷◌, ◌++◌, length, take, drop, Option, Some, None, refl, sym, ap, ap₂, ◌∙◌, subst, arith, append_assoc, append-nil, length-append}
use Rattle.std.specs.Prelude.{IsTrue, ◌==◌}
use Rattle.std.specs.List.{AllByRecursion}
use Rattle.std.proofs.lemmas.List.{take-append-drop, append_cancel_right}
use Rattle.sl_commands.specs.declared.Block.{Block}
use Rattle.sl_commands.specs.Blocks.{may_follow, may_all_follow}
use Rattle.sl_commands.proofs.BlockLemmas.{follows_those_before}
use Rattle.looper_rules.specs.Saves.{Save}
use Rattle.looper_rules.specs.Run.{Ran, run}
use Rattle.looper_rules.specs.Cuts.{run_from}
use Rattle.looper_rules.specs.Reached.{IsBeginning}
use Rattle.looper_rules.specs.SaveBlocks.{blocks_of_save, blocks_for_all, ends_in, IsMade}
use Rattle.run_laws.proofs.Runs.Cuts.{run-run_from}
use Rattle.run_laws.proofs.Runs.Counts.{run_from-few}
use Rattle.run_laws.proofs.Runs.Askers.{run_from-saves}
use Rattle.run_laws.proofs.Saves.Made.{run_from-made}
use Rattle.run_laws.proofs.Saves.BlockCounts.{length-blocks_for_all}
use Rattle.run_laws.proofs.Saves.Ends.{take-front, ends-append, all-ends, before_last-ends}
use Rattle.looper_laws.proofs.Kept.Starts.{begins}
use Rattle.frame_stamp.specs.Journals.{next_seq}
use Rattle.engine_steps.specs.Engines.{EngineOf, Beginning, first_looper, waiting, left, first_of, next_block, sent_of, sent_from, block_sent}
use Rattle.engine_steps.specs.InStep.{SoFar, IsInStep, IsPart}
use Rattle.engine_steps.specs.Answering.{OnlySends}
use Rattle.engine_steps.proofs.StepLemmas.{blocks_for_all-append}
use Rattle.engine_steps.proofs.ReachedLemmas.{blocks_follow}

-- a block that was sent leaves all else, by whether it was its save's last
sends_by : (last : Bool) (s : Save) (saves : List Save) (e : EngineOf) →
    let now : EngineOf = record e { sending = s ∷ saves } in
    OnlySends now (sent_of last s saves now)
sends_by true s saves e =
    record {
      looper = refl;
      journal = refl;
      frames = refl;
      saves = append_assoc e.due (s ∷ []) saves;
    }
sends_by false s saves e = record { looper = refl; journal = refl; frames = refl; saves = refl }

sends_from : (saves : List Save) (e : EngineOf) →
    let now : EngineOf = record e { sending = saves } in OnlySends now (sent_from saves now)
sends_from [] e = record { looper = refl; journal = refl; frames = refl; saves = refl }
sends_from (s ∷ saves) e = sends_by (e.part + 1 == length (blocks_of_save s)) s saves e

pub only_sends : (e : EngineOf) → OnlySends e (block_sent e)
only_sends e = sends_from e.sending e

-- the block that is sent next is the first of those left
pub first_is : (bs : List Block) (b : Block) → first_of bs ≡ Some b → bs ≡ b ∷ drop 1 bs
first_is [] b is = absurd (cc)
first_is (c ∷ cs) b is = cc

pub some_left : (e : EngineOf) (block : Block) → next_block e ≡ Some block → 1 ≤ length (left e)
some_left e block is = let size = ap length (first_is (left e) block is) in omega arith

-- it may follow what was sent
pub next_follows : (b : Beginning) (s : SoFar) (e : EngineOf) (bound : ℕ) (block : Block) →
    IsBeginning b.settings b.chunks b.initial → IsInStep b s e → length s.saves ≤ bound →
    next_block e ≡ Some block → IsTrue (may_follow s.sent block bound)
next_follows b s e bound block begin h few is =
    follows_those_before [] s.sent (drop 1 (left e)) block bound
    (subst (λ bs. may_all_follow [] (s.sent ++ bs) bound ≡ true) (first_is (left e) block is)
    (blocks_follow b s e bound begin h few))

-- no save has ended in a part of the first one's blocks
part-ends : (saves : List Save) (n : ℕ) → IsPart saves n →
    ends_in (take n (blocks_for_all saves)) ≡ 0
part-ends [] n is = ap (λ k. ends_in (take k (blocks_for_all []))) is
part-ends (s ∷ saves) n is =
    ap ends_in (take-front n (blocks_of_save s) (blocks_for_all saves) (omega arith))
    ∙ before_last-ends n s is

-- what was sent: the blocks of all answered and due saves, and a part of the next
pub sent_is : (b : Beginning) (s : SoFar) (e : EngineOf) (answered : List Save) → IsInStep b s e →
    s.saves ≡ answered ++ waiting e →
    s.sent ≡ blocks_for_all (answered ++ e.due) ++ take e.part (blocks_for_all e.sending)
sent_is b s e answered h are =
    let ended = blocks_for_all (answered ++ e.due)
    in let part = take e.part (blocks_for_all e.sending)
    in let whole : blocks_for_all s.saves ≡ ended ++ blocks_for_all e.sending =
    ap blocks_for_all (are ∙ sym (append_assoc answered e.due e.sending))
    ∙ blocks_for_all-append (answered ++ e.due) e.sending
    in append_cancel_right s.sent (ended ++ part) (left e)
    (sym h.blocks ∙ whole
    ∙ ap (λ bs. ended ++ bs) (sym (take-append-drop e.part (blocks_for_all e.sending)))
    ∙ sym (append_assoc ended part (left e)))

-- as many saves end in it as are answered or due
pub sent_ends : (b : Beginning) (s : SoFar) (e : EngineOf) (answered : List Save) →
    IsInStep b s e → s.saves ≡ answered ++ waiting e →
    ends_in s.sent ≡ length answered + length e.due
sent_ends b s e answered h are =
    let cut = ap ends_in (sent_is b s e answered h are)
    ∙ ends-append (blocks_for_all (answered ++ e.due)) (take e.part (blocks_for_all e.sending))
    in let whole = all-ends (answered ++ e.due)
    in let two = length-append answered e.due
    in let none = part-ends e.sending e.part h.part
    in omega arith

-- how much comes from it
pub replies_few : (b : Beginning) (s : SoFar) (e : EngineOf) → IsInStep b s e →
    length s.replies ≤ length e.journal.entries
replies_few b s e h =
    let es = e.journal.entries
    in let l = first_looper b
    in let ran : length (run es s.input l).replies ≤ length es =
    subst (λ (r : Ran). length r.replies ≤ length es) (sym (run-run_from es s.input l))
    (run_from-few 0 es s.input l).0
    in subst (λ (r : Ran). length r.replies ≤ length es) h.ran ran

pub saves_few : (b : Beginning) (s : SoFar) (e : EngineOf) → IsInStep b s e →
    length s.saves ≤ next_seq 0 e.journal.entries + next_seq 1 e.journal.entries
saves_few b s e h =
    let es = e.journal.entries
    in let l = first_looper b
    in let most = next_seq 0 es + next_seq 1 es
    in let ran : length (run es s.input l).saves ≤ most =
    subst (λ (r : Ran). length r.saves ≤ most) (sym (run-run_from es s.input l))
    (run_from-saves 0 es s.input l)
    in subst (λ (r : Ran). length r.saves ≤ most) h.ran ran

pub blocks_few : (b : Beginning) (s : SoFar) (e : EngineOf) →
    IsBeginning b.settings b.chunks b.initial → IsInStep b s e →
    length s.sent + length (left e) ≤ length s.saves * 1048578
blocks_few b s e begin h =
    let es = e.journal.entries
    in let l = first_looper b
    in let made : AllByRecursion IsMade (run es s.input l).saves =
    subst (λ (r : Ran). AllByRecursion IsMade r.saves) (sym (run-run_from es s.input l))
    (run_from-made 0 es s.input l (begins b.settings b.chunks b.initial begin))
    in let here : AllByRecursion IsMade s.saves =
    subst (λ (r : Ran). AllByRecursion IsMade r.saves) h.ran made
    in let most = length-blocks_for_all s.saves here
    in let is = ap length h.blocks
    in let both = length-append s.sent (left e)
    in omega arith
