-- Sending blocks.
use Rattle.std.proofs.Common.{◌≡◌, ℕ, zero, suc, ◌+◌, ◌<◌, ◌≤◌, Bool, true, false, List, [], ◌∷◌, ◌++◌, length, map, drop, Some, refl, sym, ap, ap₂, ◌∙◌, subst, arith, append_assoc}
use Rattle.std.specs.Prelude.{◌==◌, slice_index_or, slice_get}
use Rattle.std.proofs.lemmas.Bool.{eqb-false}
use Rattle.std.proofs.lemmas.List.{map-append}
use Rattle.sl_commands.specs.declared.Block.{Block}
use Rattle.looper_rules.specs.Looper.{Looper}
use Rattle.looper_rules.specs.Saves.{Save}
use Rattle.looper_rules.specs.SaveBlocks.{blocks_of_save, blocks_for_all}
use Rattle.looper_rules.specs.Unanswered.{holds_of, HoldPins}
use Rattle.run_laws.specs.Apart.{AreAllApart}
use Rattle.looper_engine.specs.Steps.{step_at, block_count, block_of}
use Rattle.looper_engine.proofs.StepLemmas.{length-blocks_of, block_at}
use Rattle.frame_stamp.specs.Journals.{JournalOf}
use Rattle.engine_steps.specs.Engines.{EngineOf, Beginning, waiting, first_of, next_block, sent_of, sent_from, block_sent}
use Rattle.engine_steps.specs.InStep.{SoFar, IsInStep, IsPart, with_block}
use Rattle.engine_steps.proofs.StepLemmas.{block_sent_in_step}
use Rattle.looper_engine.specs.declared.queue.Pending.{Pending}
use Rattle.looper_engine.specs.Queues.{QueueOf, sent_of as queue_sent_of, sent_from as queue_sent_from, block_sent as queue_block_sent}
use Rattle.looper_engine.specs.Holding.{lists_for, held_save, held_saves}
use Rattle.looper_engine.specs.EngineParts.{engine_of, IsEngine}

-- the first behind a place
first_of-drop : {A : Type 0} (n : ℕ) (xs : List A) → first_of (drop n xs) ≡ slice_get xs n
first_of-drop zero [] = refl
first_of-drop zero (x ∷ xs) = refl
first_of-drop (suc n) [] = refl
first_of-drop (suc n) (x ∷ xs) = first_of-drop n xs

get-first : {A : Type 0} (xs ys : List A) (n : ℕ) → n < length xs →
    slice_get (xs ++ ys) n ≡ slice_get xs n
get-first [] ys n less = absurd (omega arith)
get-first (x ∷ xs) ys zero less = refl
get-first (x ∷ xs) ys (suc n) less = get-first xs ys n (omega arith)

-- the next block is what the next step of the first save is
next_of_first : (l : Looper) (ps : List Pending) (d : Pending) (part : ℕ) →
    IsPart (held_saves l ps) part → 1 ≤ length ps →
    let p = slice_index_or ps 0 d in
    first_of (drop part (blocks_for_all (held_saves l ps)))
    ≡ Some (block_of (step_at (map length (lists_for p.target l)) part) p.number p.name p.target
    p.settings (lists_for p.target l))
next_of_first l [] d part is some = absurd (omega arith)
next_of_first l (p ∷ ps) d part is some =
    let blocks = blocks_of_save (held_save l p)
    in let count = length-blocks_of p.number p.name p.target p.settings (lists_for p.target l)
    in let within : part < block_count (map length (lists_for p.target l)) = omega arith
    in first_of-drop part (blocks ++ blocks_for_all (held_saves l ps))
    ∙ get-first blocks (blocks_for_all (held_saves l ps)) part is
    ∙ block_at p.number p.name p.target p.settings (lists_for p.target l) part within

pub next_is : (l : Looper) (j : JournalOf) (frames : ℕ) (q : QueueOf) (e : EngineOf)
    (sending : List Pending) (p d : Pending) (part : ℕ) (block : Block) →
    engine_of l j frames q ≡ e → IsEngine (engine_of l j frames q) → sending ≡ q.sending →
    1 ≤ length sending → p ≡ slice_index_or sending 0 d → part ≡ q.part →
    block ≡ block_of (step_at (map length (lists_for p.target l)) part) p.number p.name p.target
    p.settings (lists_for p.target l) →
    Some block ≡ next_block e
next_is l j frames q e sending p d part block view is same some first at block_is =
    let now = next_of_first l sending d q.part
    (subst (λ ps. IsPart (held_saves l ps) q.part) (sym same) is.part) some
    in let here : first_of (drop q.part (blocks_for_all (held_saves l sending))) ≡ next_block e =
    ap (λ ps. first_of (drop q.part (blocks_for_all (held_saves l ps)))) same ∙ ap next_block view
    in ap (λ b. Some b) block_is
    ∙ ap (λ (x : Pending).
    Some (block_of (step_at (map length (lists_for x.target l)) part) x.number x.name x.target
    x.settings (lists_for x.target l))) first
    ∙ ap (λ n. let x = slice_index_or sending 0 d in
    Some (block_of (step_at (map length (lists_for x.target l)) n) x.number x.name x.target
    x.settings (lists_for x.target l))) at
    ∙ sym now
    ∙ here

-- a save is sent no further than it is long
part_of_first : (l : Looper) (ps : List Pending) (d : Pending) (part : ℕ) →
    IsPart (held_saves l ps) part → 1 ≤ length ps →
    part < block_count (map length (lists_for (slice_index_or ps 0 d).target l))
part_of_first l [] d part is some = absurd (omega arith)
part_of_first l (p ∷ ps) d part is some = let count =
    length-blocks_of p.number p.name p.target p.settings (lists_for p.target l) in omega arith

pub part_within : (l : Looper) (j : JournalOf) (frames : ℕ) (q : QueueOf) (sending : List Pending)
    (d : Pending) (count : ℕ) → IsEngine (engine_of l j frames q) → sending ≡ q.sending →
    1 ≤ length sending →
    count ≡ block_count (map length (lists_for (slice_index_or sending 0 d).target l)) →
    q.part < count
part_within l j frames q sending d count is same some total =
    subst (λ n. q.part < n) (sym total)
    (part_of_first l sending d q.part
    (subst (λ ps. IsPart (held_saves l ps) q.part) (sym same) is.part) some)

-- the queue of the fields with one block more sent is that of the engine
sent_by : (b : Bool) (l : Looper) (j : JournalOf) (frames : ℕ) (q : QueueOf) (p : Pending)
    (ps : List Pending) →
    engine_of l j frames (queue_sent_of b p ps q) ≡ sent_of b (held_save l p) (held_saves l ps)
    (engine_of l j frames q)
sent_by true l j frames q p ps =
    ap (λ due. let e : EngineOf =
    record {
      looper = l;
      journal = j;
      frames = frames;
      due = due;
      sending = held_saves l ps;
      part = 0;
    } in e) (map-append (held_save l) q.due (p ∷ []))
sent_by false l j frames q p ps = refl

sent_first : (l : Looper) (j : JournalOf) (frames : ℕ) (q : QueueOf) (sending : List Pending)
    (d : Pending) (count : ℕ) → sending ≡ q.sending → 1 ≤ length sending →
    count ≡ block_count (map length (lists_for (slice_index_or sending 0 d).target l)) →
    engine_of l j frames (queue_block_sent count q) ≡ block_sent (engine_of l j frames q)
sent_first l j frames q [] d count same some total = absurd (omega arith)
sent_first l j frames q (p ∷ ps) d count same some total =
    let blocks = length (blocks_of_save (held_save l p))
    in let count_is : count ≡ blocks =
    total ∙ sym (length-blocks_of p.number p.name p.target p.settings (lists_for p.target l))
    in ap (λ xs. engine_of l j frames (queue_sent_from count xs q)) (sym same)
    ∙ sent_by (q.part + 1 == count) l j frames q p ps
    ∙ ap (λ n. sent_of (q.part + 1 == n) (held_save l p) (held_saves l ps) (engine_of l j frames q))
    count_is
    ∙ ap (λ xs. sent_from (held_saves l xs) (engine_of l j frames q)) same

pub sent_is : (l now : Looper) (j : JournalOf) (frames : ℕ) (q sent : QueueOf) (e : EngineOf)
    (sending : List Pending) (d : Pending) (count : ℕ) → engine_of l j frames q ≡ e → now ≡ l →
    sending ≡ q.sending →
    1 ≤ length sending →
    count ≡ block_count (map length (lists_for (slice_index_or sending 0 d).target l)) →
    sent ≡ queue_block_sent count q →
    engine_of now j frames sent ≡ block_sent e
sent_is l now j frames q sent e sending d count view same_looper same some total is =
    ap₂ (λ m x. engine_of m j frames x) same_looper is
    ∙ sent_first l j frames q sending d count same some total ∙ ap block_sent view

-- an engine of which one block more was sent keeps what it keeps
begun_part : (saves : List Save) → IsPart saves 0
begun_part [] = refl
begun_part (s ∷ saves) = let some : 0 < length (blocks_of_save s) = omega arith in some

keeps_by : (b : Bool) (s : Save) (saves : List Save) (e : EngineOf) → e.sending ≡ s ∷ saves →
    (e.part + 1 == length (blocks_of_save s)) ≡ b → IsEngine e → IsEngine (sent_of b s saves e)
keeps_by true s saves e first is h =
    let same : waiting e ≡ (e.due ++ s ∷ []) ++ saves =
    ap (λ xs. e.due ++ xs) first ∙ sym (append_assoc e.due (s ∷ []) saves)
    in record {
      kept = h.kept;
      held = subst (λ xs. HoldPins xs (holds_of e.looper)) same h.held;
      apart = subst AreAllApart same h.apart;
      part = begun_part saves;
      before = h.before;
      asked = h.asked;
      within = h.within;
    }
keeps_by false s saves e first is h =
    let more : e.part + 1 ≡ length (blocks_of_save s) →
    ⊥ = eqb-false (e.part + 1) (length (blocks_of_save s)) is
    in let within : e.part < length (blocks_of_save s) = subst (λ xs. IsPart xs e.part) first h.part
    in let next : e.part + 1 < length (blocks_of_save s) = omega arith
    in record {
      kept = h.kept;
      held = h.held;
      apart = h.apart;
      part = subst (λ xs. IsPart xs (e.part + 1)) (sym first) next;
      before = h.before;
      asked = h.asked;
      within = h.within;
    }

keeps_from : (saves : List Save) (e : EngineOf) → e.sending ≡ saves → IsEngine e →
    IsEngine (sent_from saves e)
keeps_from [] e first h = h
keeps_from (s ∷ saves) e first h =
    keeps_by (e.part + 1 == length (blocks_of_save s)) s saves e first refl h

pub sent_keeps : (e : EngineOf) → IsEngine e → IsEngine (block_sent e)
sent_keeps e h = keeps_from e.sending e refl h

pub sent_steps : (e now : EngineOf) → now ≡ block_sent e → (b : Beginning) → (s : SoFar) →
    IsInStep b s e → IsInStep b (with_block (next_block e) s) now
sent_steps e now is b s h =
    subst (λ x. IsInStep b (with_block (next_block e) s) x) (sym is) (block_sent_in_step b s e h)
