-- The block that is taken next may come to the saver, and with it the saver still keeps the saves.
use Rattle.std.proofs.Common.{◌≡◌, ℕ, ◌+◌, true, [], ◌∷◌, ◌++◌, length, drop, refl, sym, ap, ◌∙◌, subst, arith, append_assoc, append-nil}
use Rattle.std.specs.Prelude.{Option, Some, None, IfSome, IsTrue, option_to_list}
use Rattle.std.proofs.lemmas.Bool.{and_parts}
use Rattle.sl_commands.specs.declared.Block.{Block}
use Rattle.sl_commands.specs.declared.Block.TheVariants.{Head, Part, End}
use Rattle.sl_commands.specs.Blocks.{may_all_follow}
use Rattle.sl_commands.proofs.BlockLemmas.{may_all_follow-append, follows_those_before}
use Rattle.sl_ports.specs.declared.keepers.Keeper.{Ghosts as Keeper}
use Rattle.loop_saver.specs.declared.saver.Saved.{Saved}
use Rattle.loop_saver.specs.Savers.{SavingOf, SaverOf, may_come, ending_number}
use Rattle.loop_saver.specs.Accepting.{Accepts}
use Rattle.loop_saver.specs.Keeping.{Keeps, HasCome, outcome_in}
use Rattle.loop_saver.proofs.PlaceLemmas.{comes_behind, follower_comes}
use Rattle.loop_saver.proofs.KeepLemmas.{one_kept, keeps_then}
use Rattle.engine_steps.specs.Engines.{waiting, left}
use Rattle.engine_steps.proofs.ReachedLemmas.{blocks_follow}
use Rattle.live_steps.specs.InStep.{so_far}
use Rattle.ring_world.specs.declared.lists.Lists.{Lists}
use Rattle.ring_world.specs.Rings.{sent, next_of, passed_on}
use Rattle.ring_world.specs.Worlds.{passed}
use Rattle.ring_world.specs.Stepping.{outcome_of}
use Rattle.ring_world.specs.Standing.{outcomes_in, IsWorld}
use Rattle.ring_world.specs.Saving.{KeepsSaves, AreKept}
use Rattle.ring_world.proofs.RingLemmas.{first_split, taken-passed_on}
use Rattle.ring_world.proofs.KeepLemmas.{outcomes-append}

-- the next block may come
pub next_comes : {P : Type 0} (k : Keeper P) (now : P) (s : SaverOf) (w : Lists) (x : Block) →
    IsWorld w → AreKept k now s w → next_of w.blocks ≡ Some x → IsTrue (may_come s.saving x)
next_comes k now s w x world kept is =
    let h = world.step.step
    in let made = so_far world.input w.output h.answered w.engine (passed w)
    in let bound = length (h.answered ++ waiting w.engine)
    in let taken = w.blocks.taken
    in let rest = drop 1 w.blocks.waiting ++ left w.engine
    in let order : sent w.blocks ++ left w.engine ≡ taken ++ (x ∷ rest) =
    append_assoc taken w.blocks.waiting (left w.engine)
    ∙ ap (λ bs. taken ++ (bs ++ left w.engine)) (first_split w.blocks.waiting x is)
    in let all : may_all_follow [] (taken ++ (x ∷ rest)) bound ≡ true =
    subst (λ bs. may_all_follow [] bs bound ≡ true) order
    (blocks_follow world.beginning made w.engine bound h.begins h.engine (omega arith))
    in let front = and_parts (may_all_follow [] taken bound) (may_all_follow taken (x ∷ rest) bound)
    (sym (may_all_follow-append [] taken (x ∷ rest) bound) ∙ all)
    in let start : HasCome None [] 0 = record { place = refl }
    in let come = comes_behind k s.rate bound [] taken 0 None s.saving kept.first now
    (outcomes_in taken) start front.0 kept.saves.keeps
    in follower_comes taken x bound (0 + length (outcomes_in taken)) s.saving come
    (follows_those_before [] taken rest x bound all)

-- what a whole save gives is the outcome of its end
pub whole_outcome_is : {P : Type 0} (k : Keeper P) (rate : ℕ) (x : Block)
    (saving after : Option SavingOf) (old new : P) (answer : Saved) (o : Option ℕ) →
    Accepts k rate x saving after old new answer → option_to_list o ≡ outcome_in answer →
    IfSome o (λ (n : ℕ). n ≡ 0) → option_to_list o ≡ outcome_of x
whole_outcome_is k rate (Head save name target settings) saving after old new answer o accepts is
    whole = is ∙ ap outcome_in accepts.2
whole_outcome_is k rate (Part save index frames) None after old new answer o accepts is whole =
    absurd accepts
whole_outcome_is k rate (Part save index frames) (Some s) after old new answer o accepts is whole =
    is ∙ ap outcome_in accepts.1
whole_outcome_is k rate (End save) None after old new answer o accepts is whole = absurd accepts
whole_outcome_is k rate (End save) (Some s) after old new answer None accepts is whole =
    let one : [] ≡ ending_number accepts.ending ∷ [] = is ∙ ap outcome_in accepts.answer_is
    in absurd (let long = ap length one in omega arith)
whole_outcome_is k rate (End save) (Some s) after old new answer (Some n) accepts is whole =
    ap (λ m. m ∷ []) whole

-- with one block more
pub kept_on : {P : Type 0} (k : Keeper P) (first old new : P) (s t : SaverOf) (w next : Lists)
    (x : Block) (answer : Saved) → KeepsSaves k first old s w → t.rate ≡ s.rate →
    Accepts k s.rate x s.saving t.saving old new answer → outcome_in answer ≡ outcome_of x →
    next.blocks ≡ passed_on w.blocks → next_of w.blocks ≡ Some x → KeepsSaves k first new t next
kept_on k first old new s t w next x answer kept rate accepts whole same is =
    let taken = w.blocks.taken
    in let one = one_kept k s.rate x s.saving t.saving old new answer accepts
    in let all : Keeps k s.rate (taken ++ x ∷ []) None first
    (outcomes_in taken ++ outcome_in answer) t.saving new =
    keeps_then k s.rate taken (x ∷ []) None s.saving t.saving first old new (outcomes_in taken)
    (outcome_in answer) kept.keeps one
    in let outs : outcomes_in taken ++ outcome_in answer ≡ outcomes_in (taken ++ x ∷ []) =
    ap (λ os. outcomes_in taken ++ os) (whole ∙ sym (append-nil (outcome_of x)))
    ∙ sym (outcomes-append taken (x ∷ []))
    in let now : next.blocks.taken ≡ taken ++ x ∷ [] =
    ap (λ r. r.taken) same ∙ taken-passed_on w.blocks x is
    in record {
      keeps = subst (λ r. Keeps k r next.blocks.taken None first (outcomes_in next.blocks.taken)
          t.saving new) (sym rate)
          (subst (λ bs. Keeps k s.rate bs None first (outcomes_in bs) t.saving new) (sym now)
          (subst (λ os. Keeps k s.rate (taken ++ x ∷ []) None first os t.saving new) outs all));
    }

-- with the same blocks
pub kept_same : {P : Type 0} (k : Keeper P) (first old : P) (s : SaverOf) (w next : Lists) →
    next.blocks.taken ≡ w.blocks.taken → KeepsSaves k first old s w →
    KeepsSaves k first old s next
kept_same k first old s w next same kept =
    record {
      keeps = subst (λ bs. Keeps k s.rate bs None first (outcomes_in bs) s.saving old) (sym same)
          kept.keeps;
    }
