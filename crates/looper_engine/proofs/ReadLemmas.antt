-- The steps of a save read lists that are pinned, within their lengths.
use Rattle.std.proofs.Common.{◌≡◌, ℕ, zero, suc, ◌+◌, ◌-◌, ◌/◌, ◌<◌, ◌≤◌, Bool, true, false, List, [], ◌∷◌, ◌++◌, length, map, take, drop, get_or, refl, sym, ap, ap₂, ◌∙◌, subst, arith, nat_lt, nat_le}
use Rattle.std.specs.Prelude.{slice_index_or, slice_get, IsTrue, if◌then◌else◌}
use Rattle.std.proofs.lemmas.Bool.{and_parts, leb-true, ltb-true}
use Rattle.std.proofs.lemmas.List.{length-map, length-drop, take_more}
use Rattle.sl_base.specs.Limits.{max_loops}
use Rattle.sl_base.specs.Sounds.{Sound}
use Rattle.sl_commands.specs.declared.Target.{Target}
use Rattle.sl_commands.specs.declared.Target.TheVariants.{One, All, Selected}
use Rattle.sl_commands.specs.declared.Block.{Block}
use Rattle.sl_commands.specs.Commands.{is_release_target}
use Rattle.looper_rules.specs.Looper.{Track, Looper}
use Rattle.looper_rules.specs.Saves.{Save}
use Rattle.looper_rules.specs.SaveBlocks.{blocks_for_all}
use Rattle.looper_rules.specs.Unanswered.{holds_of, IsHeld}
use Rattle.looper_engine.specs.declared.step.Step.{Step}
use Rattle.looper_engine.specs.declared.step.Step.TheVariants.{Head, Part, End}
use Rattle.looper_engine.specs.Steps.{part_count, part_step, step_behind, step_at}
use Rattle.frame_stamp.specs.Journals.{JournalOf}
use Rattle.engine_steps.specs.Engines.{EngineOf}
use Rattle.whole_looper.specs.Loopers.{held_on, pinned_at}
use Rattle.looper_engine.specs.declared.queue.Pending.{Pending}
use Rattle.looper_engine.specs.Queues.{QueueOf}
use Rattle.looper_engine.specs.Holding.{pinned_on, lists_for, held_saves, CanRead, ReadsPart, Reads}
use Rattle.looper_engine.specs.EngineParts.{engine_of, IsEngine}
use Rattle.looper_engine.proofs.HoldingLemmas.{AreHeld, all_left, all_right, held_target}

-- a step is of one of these lists, of which the first has this index, and lies within it
record IsWithin (first : ℕ) (lists : List (List Sound)) (list place count : ℕ) : Type 0 where
  at : ℕ
  is : list ≡ first + at
  there : at < length lists
  inside : place + count ≤ length (slice_index_or lists at [])
  few : count ≤ 256

abbrev InLists : ℕ → List (List Sound) → Step → Type 0
InLists first lists (Part list place count) = IsWithin first lists list place count
InLists first lists Head = Unit {0}
InLists first lists End = Unit {0}

within_behind : (first : ℕ) (x : List Sound) (lists : List (List Sound)) (step : Step) →
    InLists (first + 1) lists step → InLists first (x ∷ lists) step
within_behind first x lists (Part list place count) h =
    record {
      at = suc h.at;
      is = (let is = h.is in omega arith);
      there =
          (let there = h.there in omega arith);
      inside = h.inside;
      few = h.few;
    }
within_behind first x lists Head h = h
within_behind first x lists End h = h

in_lists : (first : ℕ) (lists : List (List Sound)) (part : ℕ) →
    InLists first lists (step_behind first (map length lists) part)
in_lists first [] part = tt
in_lists first (x ∷ lists) part = by_test (nat_lt part (part_count (length x))) refl
    (in_lists (first + 1) lists (part - part_count (length x)))
  where
    by_test : (b : Bool) → nat_lt part (part_count (length x)) ≡ b →
        InLists (first + 1) lists
        (step_behind (first + 1) (map length lists) (part - part_count (length x))) →
        InLists first (x ∷ lists) (if b then part_step first (length x) part else
        step_behind (first + 1) (map length lists) (part - part_count (length x)))
    by_test true is rest =
        let less : part < (length x + 255) / 256 = ltb-true part (part_count (length x)) is
        in record {
          at = 0;
          is = omega arith;
          there = omega arith;
          inside = omega arith;
          few =
              omega arith;
        }
    by_test false is rest = within_behind first x lists _ rest

pinned_index : (k : ℕ) (ts : List Track) → k < length ts →
    slice_index_or (map pinned_on ts) k [] ≡ held_on (slice_get ts k)
pinned_index k [] less = absurd (omega arith)
pinned_index zero (t ∷ ts) less = refl
pinned_index (suc k) (t ∷ ts) less = pinned_index k ts (omega arith)

reads_part : (target : Target) (l : Looper) (list place count : ℕ) → CanRead target l →
    IsWithin 0 (lists_for target l) list place count → ReadsPart target l list place count
reads_part (One k) l list place count can h =
    let none : list ≡ 0 = (let is = h.is in let there = h.there in omega arith)
    in let here : h.at ≡ 0 = (let there = h.there in omega arith)
    in let loops : k < length l.tracks = ltb-true k (length l.tracks) can.named
    in let few = can.few
    in let at : k ≡ k + list = omega arith
    in let inside : place + count ≤ length (pinned_at k l) =
    subst (λ n. place + count ≤ length (slice_index_or (pinned_at k l ∷ []) n [])) here h.inside
    in record {
      index = omega arith;
      loops = omega arith;
      same = ap (λ n. slice_index_or (pinned_at k l ∷ []) n []) none ∙ ap (λ n. pinned_at n l) at;
      few = h.few;
      within = subst (λ n. place + count ≤ length (pinned_at n l)) at inside;
    }
reads_part All l list place count can h =
    let here : h.at ≡ list = (let is = h.is in omega arith)
    in let all = length-map l.tracks pinned_on
    in let less : list < length l.tracks = (let there = h.there in omega arith)
    in let few = can.few
    in let at : list ≡ 0 + list = omega arith
    in let same : slice_index_or (map pinned_on l.tracks) list [] ≡ pinned_at list l =
    pinned_index list l.tracks less
    in let inside : place + count ≤ length (slice_index_or (map pinned_on l.tracks) list []) =
    subst (λ n. place + count ≤ length (slice_index_or (map pinned_on l.tracks) n [])) here
    h.inside
    in record {
      index = omega arith;
      loops = omega arith;
      same = same ∙ ap (λ n. pinned_at n l) at;
      few = h.few;
      within = subst (λ n. place + count ≤ length (pinned_at n l)) at
          (subst (λ xs. place + count ≤ length xs) same inside);
    }
reads_part Selected l list place count can h = absurd (let there = h.there in omega arith)

reads_from : (target : Target) (l : Looper) (step : Step) → CanRead target l →
    InLists 0 (lists_for target l) step → Reads target l step
reads_from target l (Part list place count) can h = reads_part target l list place count can h
reads_from target l Head can h = tt
reads_from target l End can h = tt

step_in_lists : (lists : List (List Sound)) (block : ℕ) →
    InLists 0 lists (step_at (map length lists) block)
step_in_lists lists zero = tt
step_in_lists lists (suc part) = in_lists 0 lists part

pub reads_is : (target : Target) (l : Looper) (block : ℕ) (step : Step) → CanRead target l →
    step ≡ step_at (map length (lists_for target l)) block → Reads target l step
reads_is target l block step can is =
    subst (Reads target l) (sym is)
    (reads_from target l (step_at (map length (lists_for target l)) block) can
    (step_in_lists (lists_for target l) block))

-- there are 16 loops at most
pub few_loops : (e : EngineOf) → IsEngine e → length e.looper.tracks ≤ max_loops
few_loops e is = leb-true (length e.looper.tracks) max_loops
    (and_parts (nat_le 1 (length e.looper.tracks)) (nat_le (length e.looper.tracks) max_loops)
    is.kept.looper.count).1

-- the first of the saves whose blocks weren't all sent can be read
first_reads : (l : Looper) (ps : List Pending) (d : Pending) → length l.tracks ≤ max_loops →
    AreHeld l (held_saves l ps) → 1 ≤ length ps → CanRead (slice_index_or ps 0 d).target l
first_reads l [] d few held some = absurd (omega arith)
first_reads l (p ∷ ps) d few held some =
    record { named = held_target p.target (lists_for p.target l) l held.0; few = few }

pub can_read : (l : Looper) (j : JournalOf) (frames : ℕ) (q : QueueOf) (sending : List Pending)
    (d : Pending) → IsEngine (engine_of l j frames q) → sending ≡ q.sending → 1 ≤ length sending →
    CanRead (slice_index_or sending 0 d).target l
can_read l j frames q sending d is same some =
    first_reads l sending d (few_loops (engine_of l j frames q) is)
    (subst (λ ps. AreHeld l (held_saves l ps)) (sym same)
    (all_right (λ (s : Save). IsHeld s.target s.lists (holds_of l)) (held_saves l q.due)
    (held_saves l q.sending) is.held.held)) some

first_due : (l : Looper) (ps : List Pending) (d : Pending) → AreHeld l (held_saves l ps) →
    1 ≤ length ps → IsTrue (is_release_target (length l.tracks) (slice_index_or ps 0 d).target)
first_due l [] d held some = absurd (omega arith)
first_due l (p ∷ ps) d held some = held_target p.target (lists_for p.target l) l held.0

pub due_named : (l : Looper) (j : JournalOf) (frames : ℕ) (q : QueueOf) (e : EngineOf)
    (due : List Pending) (d : Pending) → engine_of l j frames q ≡ e →
    IsEngine (engine_of l j frames q) → due ≡ q.due →
    1 ≤ length due → IsTrue
    (is_release_target (length e.looper.tracks) (slice_index_or due 0 d).target)
due_named l j frames q e due d view is same some =
    subst (λ (x : EngineOf).
    IsTrue (is_release_target (length x.looper.tracks) (slice_index_or due 0 d).target)) view
    (first_due l due d (subst (λ ps. AreHeld l (held_saves l ps)) (sym same)
    (all_left (λ (s : Save). IsHeld s.target s.lists (holds_of l)) (held_saves l q.due)
    (held_saves l q.sending) is.held.held)) some)

-- where blocks are left, a save is sent
some_left : (l : Looper) (ps : List Pending) (part : ℕ) →
    1 ≤ length (drop part (blocks_for_all (held_saves l ps))) → 1 ≤ length ps
some_left l [] part some =
    absurd (let none = length-drop part (let bs : List Block = [] in bs) in omega arith)
some_left l (p ∷ ps) part some = omega arith

pub some_sending : (l : Looper) (j : JournalOf) (frames : ℕ) (q : QueueOf) (e : EngineOf)
    (sending : List Pending) → engine_of l j frames q ≡ e → sending ≡ q.sending →
    1 ≤ length (drop e.part (blocks_for_all e.sending)) → 1 ≤ length sending
some_sending l j frames q e sending view same some =
    subst (λ ps. 1 ≤ length ps) (sym same)
    (some_left l q.sending q.part
    (subst (λ (x : EngineOf). 1 ≤ length (drop x.part (blocks_for_all x.sending))) (sym view)
    some))

-- the lengths of one pinned list more
length_at : (k : ℕ) (ts : List Track) (d : ℕ) → k < length ts →
    get_or (map length (map pinned_on ts)) k d ≡ length (held_on (slice_get ts k))
length_at k [] d less = absurd (omega arith)
length_at zero (t ∷ ts) d less = refl
length_at (suc k) (t ∷ ts) d less = length_at k ts d (omega arith)

pub lengths_more : (l : Looper) (k n : ℕ) (before now : List ℕ) →
    before ≡ take k (map length (map pinned_on l.tracks)) → now ≡ before ++ n ∷ [] →
    n ≡ length (pinned_at k l) → k < length l.tracks →
    now ≡ take (k + 1) (map length (map pinned_on l.tracks))
lengths_more l k n before now so_far grown is less =
    let all = map length (map pinned_on l.tracks)
    in let long : length all ≡ length l.tracks = length-map (map pinned_on l.tracks) length
    ∙ length-map l.tracks pinned_on
    in grown
    ∙ ap₂ (λ ns m. ns ++ m ∷ []) so_far (is ∙ sym (length_at k l.tracks 0 less))
    ∙ sym (take_more all k 0 (omega arith))
