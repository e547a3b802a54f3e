-- A frame written or passed, and frames one after another.
use Rattle.std.proofs.Common.{◌≡◌, ℕ, zero, suc, ◌+◌, ◌≤◌, ◌<◌, Bool, true, false, List, [], ◌∷◌, ◌++◌, length, take, drop, set, get_or, take-add, cond, refl, sym, ap, ap₂, subst, ◌∙◌, arith}
use Rattle.std.proofs.Math.Seq.{take-append-add, take-append_seam}
use Rattle.std.proofs.lemmas.List.{length-take-le}
use Rattle.std.specs.Prelude.{slice_set}
use Rattle.std.specs.List.{insert}
use Rattle.sl_base.specs.Limits.{max_list_frames}
use Rattle.sl_base.specs.Sounds.{Sound}
use Rattle.sl_commands.specs.declared.How.{How}
use Rattle.sl_commands.specs.declared.How.TheVariants.{Forward, Backward, Insert, Append}
use Rattle.sl_commands.specs.declared.Mode.{Mode}
use Rattle.sl_commands.specs.declared.Mode.TheVariants.{Recording, Overdubbing, Multiplying, Inserting, Replacing, Substituting}
use Rattle.looper_rules.specs.Layers.{Layer, current_length, current_list, with_current}
use Rattle.looper_rules.specs.Stack.{Stack}
use Rattle.looper_rules.specs.Writing.{overwrites, meets_fresh, with_written, rewritten, newly_written, written, write_fits}
use Rattle.looper_rules.specs.Loop.{Loop, Deck, is_writing, length_of, with_stack}
use Rattle.looper_rules.specs.LoopFrame.{ready, heard, heard_from, sound_at, new_frame, how_in, fits, with_input, advanced_in, advanced, overrun_in, writes, passes, after, frame_later}
use Rattle.looper_rules.specs.LoopSpans.{loop_over, loop_heard_over}
use Rattle.looper_laws.proofs.Kept.LoopFrame.{IsPlaced, framed_keeps}
use Rattle.loop_tape.specs.Pools.{PoolOf}
use Rattle.loop_tape.specs.Tapes.{at}
use Rattle.layer_memory.specs.Seen.{Held, seen as seen_layers, reach}
use Rattle.layer_memory.specs.Answers.{Writes, Refuses}
use Rattle.layer_memory.specs.Sharing.{IsShared}
use Rattle.loop_strip.specs.Strips.{loop_map, seen, reach_in, Owns, Did}
use Rattle.loop_strip.specs.declared.parts.Parts.{Parts}
use Rattle.loop_strip.specs.Parts.{loop_of, strip_of, IsWhole}
use Rattle.loop_strip.specs.Advances.{MayAdvance}
use Rattle.loop_strip.proofs.SoFar.{PlaysTo}
use Rattle.layer_memory.proofs.SeenLemmas.{lengths-mapped}
use Rattle.loop_strip.proofs.LoopLemmas.{advanced-mapped, overrun-mapped}
use Rattle.loop_strip.proofs.DidLemmas.{seen_deck, reaches, did_kept, did_as, did_then, did_also, did_nothing}
use Rattle.loop_strip.proofs.OpeningLemmas.{layers_of}
use Rattle.loop_strip.proofs.Whole.{writing_inside}
use Rattle.loop_strip.proofs.FrameLemmas.{whole_did, inside, place_for, follows_for, may_advance, still_streak, list_short}

-- lengths behind a write
set_length : {A : Type 0} (xs : List A) (k : ℕ) (x : A) → length (slice_set xs k x) ≡ length xs
set_length [] k x = refl
set_length (y ∷ ys) zero x = refl
set_length (y ∷ ys) (suc k) x = ap suc (set_length ys k x)

insert_length : {A : Type 0} (xs : List A) (k : ℕ) (x : A) → k ≤ length xs →
    length (insert xs k x) ≡ suc (length xs)
insert_length [] zero x less = refl
insert_length (y ∷ ys) zero x less = refl
insert_length [] (suc k) x less = absurd (omega arith)
insert_length (y ∷ ys) (suc k) x less = ap suc (insert_length ys k x (omega arith))

-- a write, over a fresh cell or anew
pub written_as : {A : Type 0} (fresh : Bool) (how : How) (place : ℕ) (a : A) (s : Stack A)
    (P : List (Layer A) → Type 0) →
    ((more : ℕ) → P (with_current (with_written how place a more) s.layers)) →
    P (cond fresh (rewritten how place a s) (newly_written how place a s)).layers
written_as true how place a s P h = h 0
written_as false how place a s P h = h _

over_length : {A : Type 0} (how : How) (place more : ℕ) (a : A) (ls : List (Layer A)) →
    overwrites how ≡ true →
    current_length (with_current (with_written how place a more) ls) ≡ current_length ls
over_length how place more a [] over = refl
over_length Forward place more a (l ∷ ls) over = set_length l.cells place _
over_length Backward place more a (l ∷ ls) over = set_length l.cells place _
over_length Insert place more a (l ∷ ls) over = let no : ⊥ = cc in absurd no
over_length Append place more a (l ∷ ls) over = let no : ⊥ = cc in absurd no

inserted_length : {A : Type 0} (place more : ℕ) (a : A) (ls : List (Layer A)) →
    place < current_length ls →
    current_length (with_current (with_written Insert place a more) ls) ≡ suc (current_length ls)
inserted_length place more a [] less = absurd (omega arith)
inserted_length place more a (l ∷ ls) less = insert_length l.cells place _ (omega arith)

-- the place behind a write
way_over : (mode : Mode) (backward : Bool) → mode ≡ Multiplying →
    overwrites (how_in mode backward) ≡ true
way_over mode true is = ap (λ m. overwrites (how_in m true)) is
way_over mode false is = ap (λ m. overwrites (how_in m false)) is

may_after : {A : Type 0} (mode : Mode) (how : How) (backward : Bool) (pos n : ℕ) (x : A)
    (t : Stack A) → how ≡ how_in mode backward → n ≡ current_length (written how pos x t).layers →
    is_writing mode ≡ true →
    pos ≤ max_list_frames → (mode ≡ Inserting → pos < current_length t.layers) →
    (mode ≡ Multiplying → pos < current_length t.layers) → MayAdvance mode pos n
may_after Recording how backward pos n x t way is writing short inserts multiplies = tt
may_after Overdubbing how backward pos n x t way is writing short inserts multiplies = short
may_after Replacing how backward pos n x t way is writing short inserts multiplies = short
may_after Substituting how backward pos n x t way is writing short inserts multiplies = short
may_after Inserting how backward pos n x t way is writing short inserts multiplies =
    let less = inserts refl
    in let longer : current_length (written how pos x t).layers ≡ suc (current_length t.layers) =
    written_as (meets_fresh how pos t) how pos x t
    (λ ls. current_length ls ≡ suc (current_length t.layers))
    (λ more. subst (λ h. current_length (with_current (with_written h pos x more) t.layers) ≡ suc
    (current_length t.layers)) (sym way) (inserted_length pos more x t.layers less))
    in ((omega arith), short)
may_after Multiplying how backward pos n x t way is writing short inserts multiplies =
    let less = multiplies refl
    in let over : overwrites how ≡ true = ap overwrites way ∙ way_over Multiplying backward refl
    in let same : current_length (written how pos x t).layers ≡ current_length t.layers =
    written_as (meets_fresh how pos t) how pos x t
    (λ ls. current_length ls ≡ current_length t.layers)
    (λ more. over_length how pos more x t.layers over)
    in ((omega arith), short)
may_after _ how backward pos n x t way is writing short inserts multiplies = let no : ⊥ = cc in
    absurd no

-- a loop that has written may advance
pub may_write : (mode : Mode) (how : How) (x : Sound) (s : Parts) (h : Held) (p p' : PoolOf) →
    IsWhole s → s.deck.mode ≡ mode → is_writing mode ≡ true →
    IsPlaced mode s.deck.pos (length_of (loop_of s)) → how ≡ how_in mode s.deck.backward →
    Writes how s.deck.pos x s.layers h p p' →
    MayAdvance mode s.deck.pos (current_length h.stack.layers)
may_write mode how x s h p p' w is writing placed way wrote =
    let len : current_length h.stack.layers ≡ current_length
    (written how s.deck.pos x (seen_layers s.layers p)).layers =
    sym (lengths-mapped (at h.tape p') h.stack.layers)
    ∙ ap (λ (t : Stack Sound). current_length t.layers) wrote.seen
    in let old : current_length (seen_layers s.layers p).layers ≡ current_length
    s.layers.stack.layers = lengths-mapped (at s.layers.tape p) s.layers.stack.layers
    in let within : (mode ≡ Inserting → s.deck.pos < current_length s.layers.stack.layers) =
    λ e. inside Inserting s w (is ∙ e) tt tt
    in let inside_over : (mode ≡ Multiplying → s.deck.pos < current_length s.layers.stack.layers) =
    λ e. inside Multiplying s w (is ∙ e) tt
    (subst (λ m. IsPlaced m s.deck.pos (length_of (loop_of s))) e placed)
    in let short : s.deck.pos ≤ max_list_frames = list_short s w (writing_placed s w is writing)
    in may_after mode how s.deck.backward s.deck.pos (current_length h.stack.layers) x
    (seen_layers s.layers p) way len writing short
    (λ e. let less = within e in omega arith) (λ e. let less = inside_over e in omega arith)
  where
    writing_placed : (s : Parts) → IsWhole s → {m : Mode} → s.deck.mode ≡ m → is_writing m ≡ true →
        s.deck.pos ≤ current_length s.layers.stack.layers
    writing_placed s w is writing = writing_inside s w (ap is_writing is ∙ writing)

-- the same layers keep the parts whole
pub whole_same : (s : Parts) (h : Held) → IsWhole s → h ≡ s.layers → IsWhole (layers_of s h)
whole_same s h w is = subst (λ (g : Held). IsWhole (layers_of s g)) (sym is) w

-- a frame that was written
wrote_seen : (x next : Sound) (how : How) (s : Parts) (h : Held) (p p' : PoolOf) →
    next ≡ new_frame s.deck.mode s.controls.feedback
    (sound_at (current_list (seen_layers s.layers p).layers) s.deck.pos) x →
    how ≡ how_in s.deck.mode s.deck.backward →
    Writes how s.deck.pos next s.layers h p p' → seen (strip_of (layers_of s h)) p' ≡ with_stack
    (with_input x (seen (strip_of s) p)) (seen (strip_of s) p)
unfolding seen
wrote_seen x next how s h p p' nexts way w =
    ap (λ (t : Stack Sound). with_stack t (loop_map (at s.layers.tape p) (loop_of s)))
    (w.seen ∙ ap₂ (λ k n. written k s.deck.pos n (seen_layers s.layers p)) way nexts)

-- what is heard is what is mixed, where anything is
new_heard : (mode : Mode) (feedback : ℕ) (list : List Sound) (place : ℕ) (x : Sound) →
    new_frame mode feedback (heard_from mode list place) x ≡ new_frame mode feedback
    (sound_at list place) x
new_heard Overdubbing feedback list place x = refl
new_heard Multiplying feedback list place x = refl
new_heard _ feedback list place x = refl

-- the frame that is written
pub next_is : (mode : Mode) (x next sound : Sound) (s : Parts) (p : PoolOf) → s.deck.mode ≡ mode →
    sound ≡ heard (seen (strip_of s) p) → next ≡ new_frame mode s.controls.feedback sound x →
    next ≡ new_frame s.deck.mode s.controls.feedback
    (sound_at (current_list (seen_layers s.layers p).layers) s.deck.pos) x
unfolding seen
next_is mode x next sound s p is sounds nexts =
    let list = current_list (seen_layers s.layers p).layers
    in nexts ∙ ap (λ o. new_frame mode s.controls.feedback o x) sounds
    ∙ ap (λ m. new_frame m s.controls.feedback (heard_from s.deck.mode list s.deck.pos) x) (sym is)
    ∙ new_heard s.deck.mode s.controls.feedback list s.deck.pos x

fits_seen : (how : How) (s : Parts) (p : PoolOf) (fit : Bool) → Owns (strip_of s) p →
    how ≡ how_in s.deck.mode s.deck.backward →
    write_fits (reach s.layers p) how s.deck.pos (seen_layers s.layers p) ≡ fit →
    fits (reach_in (strip_of s) p) (seen (strip_of s) p) ≡ fit
unfolding seen
fits_seen how s p fit o way is = ap₂ (λ r k. write_fits r k s.deck.pos (seen_layers s.layers p))
    (sym (reaches s p o)) (sym way) ∙ is

-- a frame written
pub did_wrote : (x next : Sound) (how : How) (s s' : Parts) (h : Held) (p p' : PoolOf) →
    Owns (strip_of s) p →
    next ≡ new_frame s.deck.mode s.controls.feedback
    (sound_at (current_list (seen_layers s.layers p).layers) s.deck.pos) x →
    how ≡ how_in s.deck.mode s.deck.backward →
    Writes how s.deck.pos next s.layers h p p' → IsShared h → s'.layers.tape ≡ h.tape →
    IsShared s'.layers → loop_of s' ≡ advanced_in s.deck.mode (loop_of (layers_of s h)) →
    Did (passes true x) (strip_of s) (strip_of s') p p'
did_wrote x next how s s' h p p' o nexts way w shared tape shared' is =
    let first : Did (λ reach l. with_stack (with_input x l) l) (strip_of s)
    (strip_of (layers_of s h)) p p' = did_kept (λ reach l. with_stack (with_input x l) l) s
    (layers_of s h) p p' o w.keeps shared (wrote_seen x next how s h p p' nexts way w)
    in let second : Did (λ reach l. advanced l) (strip_of (layers_of s h)) (strip_of s') p' p' =
    did_as (λ reach l. advanced l) (λ reach l. advanced l) (layers_of s h) s' p' first.owns tape
    shared' (λ f r l. advanced-mapped f l) is
    in did_also (ap (λ b. writes b x (seen (strip_of s) p))
    (sym (fits_seen how s p true o way w.fits))) (did_then first second)

-- one that didn't fit
pub did_overran : (x : Sound) (how : How) (s s' : Parts) (h : Held) (p p' : PoolOf) →
    Owns (strip_of s) p → how ≡ how_in s.deck.mode s.deck.backward →
    Refuses how s.deck.pos s.layers h p p' →
    s'.layers.tape ≡ h.tape → IsShared s'.layers →
    loop_of s' ≡ overrun_in s.deck.mode (loop_of (layers_of s h)) →
    Did (passes true x) (strip_of s) (strip_of s') p p'
did_overran x how s s' h p p' o way w tape shared is =
    let l = seen (strip_of s) p
    in let to : loop_of s' ≡ overrun_in s.deck.mode (loop_of s) =
    is ∙ ap (λ (g : Held). overrun_in s.deck.mode (loop_of (layers_of s g))) w.same.held
    in let done : Did (λ reach k. overrun_in k.deck.mode k) (strip_of s) (strip_of s') p p =
    did_as (λ reach k. overrun_in k.deck.mode k) (λ reach k. overrun_in k.deck.mode k) s s' p o
    (tape ∙ ap (λ (g : Held). g.tape) w.same.held) shared
    (λ f r k. overrun-mapped f k.deck.mode k) to
    in subst (λ (q : PoolOf). Did (passes true x) (strip_of s) (strip_of s') p q) (sym w.same.pool)
    (did_also (ap (λ b. writes b x l) (sym (fits_seen how s p false o way w.full))) done)

-- one that isn't written
pub did_passed : (x : Sound) (s s' : Parts) (p : PoolOf) → Owns (strip_of s) p →
    s'.layers.tape ≡ s.layers.tape → IsShared s'.layers →
    loop_of s' ≡ advanced_in s.deck.mode (loop_of s) →
    Did (passes false x) (strip_of s) (strip_of s') p p
did_passed x s s' p o tape shared is = did_as (passes false x) (λ reach l. advanced l) s s' p o tape
    shared (λ f r l. advanced-mapped f l) is

-- a whole frame
pub did_framed : (x : Sound) (writing : Bool) (s s1 s' : Parts) (p p1 p' : PoolOf) →
    Did (ready x) (strip_of s) (strip_of s1) p p1 → writing ≡ is_writing s1.deck.mode →
    Did (passes writing x) (strip_of s1) (strip_of s') p1 p' →
    Did (frame_later x) (strip_of s) (strip_of s') p p'
did_framed x writing s s1 s' p p1 p' first is second =
    let now : Did (after x) (strip_of s1) (strip_of s') p1 p' =
    did_also (ap (λ b. passes b x (reach_in (strip_of s1) p1) (seen (strip_of s1) p1))
    (is ∙ ap (λ (d : Deck). is_writing d.mode) (sym (seen_deck (strip_of s1) p1)))) second
    in did_then first now

-- a frame keeps the parts whole
pub whole_framed : (x : Sound) (s s' : Parts) (p p' : PoolOf) → IsWhole s →
    Did (frame_later x) (strip_of s) (strip_of s') p p' → s'.pinned ≡ s.pinned →
    s'.layers.writing ≡ is_writing s'.deck.mode → IsWhole s'
whole_framed x s s' p p' w d pinned writing =
    whole_did (frame_later x) s s' p p' (λ a l h. framed_keeps x h) w d pinned writing

-- what is heard of a loop that is ready
pub heard_ready : (x sound : Sound) (s s1 : Parts) (p p1 : PoolOf) →
    Did (ready x) (strip_of s) (strip_of s1) p p1 → sound ≡ heard (seen (strip_of s1) p1) →
    sound ≡ heard (ready x (reach_in (strip_of s) p) (seen (strip_of s) p))
heard_ready x sound s s1 p p1 d is = is ∙ ap heard d.seen

-- frames in a row
over_append : (xs ys : List Sound) (reach : ℕ) (l : Loop Sound) →
    loop_over (xs ++ ys) reach l ≡ loop_over ys reach (loop_over xs reach l)
over_append [] ys reach l = refl
over_append (x ∷ xs) ys reach l = over_append xs ys reach (frame_later x reach l)

heard_append : (xs ys : List Sound) (reach : ℕ) (l : Loop Sound) →
    loop_heard_over (xs ++ ys) reach l ≡ loop_heard_over xs reach l
    ++ loop_heard_over ys reach (loop_over xs reach l)
heard_append [] ys reach l = refl
heard_append (x ∷ xs) ys reach l =
    ap (λ hs. heard (ready x reach l) ∷ hs) (heard_append xs ys reach (frame_later x reach l))

take_all : {A : Type 0} (n : ℕ) (xs : List A) → n ≡ length xs → take n xs ≡ xs
take_all zero [] is = refl
take_all (suc n) [] is = absurd (omega arith)
take_all zero (x ∷ xs) is = absurd (omega arith)
take_all (suc n) (x ∷ xs) is = ap (λ zs. x ∷ zs) (take_all n xs (omega arith))

-- one frame alone
take_first : {A : Type 0} (xs : List A) (x : A) → 1 ≤ length xs → x ≡ get_or xs 0 x →
    take 1 xs ≡ x ∷ []
take_first [] x some is = absurd (omega (arith, some))
take_first (y ∷ ys) x some is = ap (λ z. z ∷ []) (sym is)

set_first : {A : Type 0} (xs : List A) (x : A) → 1 ≤ length xs → take 1 (set xs 0 x) ≡ x ∷ []
set_first [] x some = absurd (omega (arith, some))
set_first (y ∷ ys) x some = refl

-- the first of some frames
pub did_one : (xs : List Sound) (x : Sound) (s s' : Parts) (p p' : PoolOf) → 1 ≤ length xs →
    x ≡ get_or xs 0 x → Did (frame_later x) (strip_of s) (strip_of s') p p' →
    Did (loop_over (take 1 xs)) (strip_of s) (strip_of s') p p'
did_one xs x s s' p p' some is d =
    did_also (sym (ap (λ ys. loop_over ys (reach_in (strip_of s) p) (seen (strip_of s) p))
    (take_first xs x some is))) d

-- and what is heard of it
pub heard_one : (xs hs : List Sound) (x h : Sound) (reach : ℕ) (l : Loop Sound) → 1 ≤ length xs →
    length xs ≡ length hs → x ≡ get_or xs 0 x → h ≡ heard (ready x reach l) →
    take 1 (set hs 0 h) ≡ loop_heard_over (take 1 xs) reach l
heard_one xs hs x h reach l some same is sound =
    set_first hs h (omega (arith, some, same)) ∙ ap (λ z. z ∷ []) sound
    ∙ sym (ap (λ ys. loop_heard_over ys reach l) (take_first xs x some is))

-- a part of the list that was replaced
pub take_part : {A : Type 0} (n : ℕ) (part rest new : List A) → length part ≡ n →
    new ≡ part ++ rest → take n new ≡ part
take_part n part rest new long is = ap (take n) is ∙ ap (λ k. take k (part ++ rest)) (sym long)
    ∙ take-append_seam part rest

-- before any frame
pub plays_first : (xs heard : List Sound) (s : Parts) (p : PoolOf) → Owns (strip_of s) p →
    IsWhole s → PlaysTo 0 xs heard s s p p
plays_first xs heard s p o w = record { did = did_nothing o; heard = refl; whole = w }

take_within : {A : Type 0} (n : ℕ) (xs ys : List A) → n ≤ length xs → take n (xs ++ ys) ≡ take n xs
take_within zero xs ys le = refl
take_within (suc n) [] ys le = absurd (omega (arith, le))
take_within (suc n) (x ∷ xs) ys le = ap (λ zs. x ∷ zs) (take_within n xs ys (omega (arith, le)))

-- some frames more
pub plays_more : (done count : ℕ) (xs hs part behind new : List Sound) (first now then : Parts)
    (p p1 p2 : PoolOf) → done ≤ length hs → count ≤ length part →
    PlaysTo done xs hs first now p p1 →
    Did (loop_over (take count (drop done xs))) (strip_of now) (strip_of then) p1 p2 →
    take count part ≡ loop_heard_over (take count (drop done xs)) (reach_in (strip_of now) p1)
    (seen (strip_of now) p1) →
    new ≡ take done hs ++ (part ++ behind) → IsWhole then → PlaysTo (done + count) xs new first then
    p p2
plays_more done count xs hs part behind new first now then p p1 p2 le few so d sound is w =
    let r = reach_in (strip_of first) p
    in let l = seen (strip_of first) p
    in let rest = take count (drop done xs)
    in let more : take (done + count) xs ≡ take done xs ++ rest = take-add done count xs
    in let both : Did (λ reach k. loop_over rest reach (loop_over (take done xs) reach k))
    (strip_of first) (strip_of then) p p2 = did_then so.did d
    in let front : take (done + count) new ≡ take done hs ++ take count part =
    ap (take (done + count)) is ∙ ap (λ n. take (n + count) (take done hs ++ (part ++ behind)))
    (sym (length-take-le done hs le)) ∙ take-append-add (take done hs) (part ++ behind) count
    ∙ ap (λ zs. take done hs ++ zs) (take_within count part behind few)
    in record {
      did = did_also (sym (over_append (take done xs) rest r l)
          ∙ ap (λ ys. loop_over ys r l) (sym more)) both;
      heard =
          front
          ∙ ap₂ (λ ys zs. ys ++ zs) so.heard
          (sound ∙ ap₂ (λ n k. loop_heard_over rest n k) so.did.reach so.did.seen)
          ∙ sym (heard_append (take done xs) rest r l)
          ∙ ap (λ ys. loop_heard_over ys r l) (sym more);
      whole = w;
    }

-- once all were played
pub plays_done : (n : ℕ) (xs hs : List Sound) (first now : Parts) (p p' : PoolOf) → n ≡ length xs →
    length xs ≡ length hs → PlaysTo n xs hs first now p p' →
    (Did (loop_over xs) (strip_of first) (strip_of now) p p')
    × (hs ≡ loop_heard_over xs (reach_in (strip_of first) p) (seen (strip_of first) p))
plays_done n xs hs first now p p' all same so =
    let whole = take_all n xs all
    in (
      subst (λ ys. Did (loop_over ys) (strip_of first) (strip_of now) p p') whole so.did,
      sym (take_all n hs (all ∙ same)) ∙ so.heard ∙ ap
          (λ ys. loop_heard_over ys (reach_in (strip_of first) p) (seen (strip_of first) p)) whole,
    )

pub ruleset passing = (may_advance, still_streak, did_passed)

pub ruleset writing = (place_for, follows_for, may_write, whole_same, did_wrote, did_overran)

pub ruleset framing = (did_framed, whole_framed, heard_ready)

pub ruleset playing = (plays_first, plays_more, plays_done)
