-- A row of a loop is its frames one by one.
use Rattle.std.proofs.Common.{◌≡◌, ℕ, zero, suc, ◌+◌, ◌≤◌, ◌<◌, Bool, true, false, List, [], ◌∷◌, ◌++◌, length, take, drop, get_or, replicate, refl, sym, ap, ap₂, subst, ◌∙◌, arith, IsTrue}
use Rattle.std.proofs.lemmas.List.{length-take-le, ext_get_or, get_or-take, get_or-drop, length-take, get_or-replicate, get_or_past, length-replicate}
use Rattle.std.specs.Prelude.{slice_set}
use Rattle.sl_base.specs.Sounds.{Sound, silence}
use Rattle.sl_commands.specs.declared.How.TheVariants.{Forward}
use Rattle.sl_commands.specs.declared.Mode.{Mode}
use Rattle.sl_commands.specs.declared.Mode.TheVariants.{Playing, Overdubbing, Multiplying, Replacing, Substituting, OneShot}
use Rattle.looper_rules.specs.Layers.{Cell, Layer, contents, current_length, current_list, fresh_cell, with_current}
use Rattle.looper_rules.specs.Stack.{Stack}
use Rattle.looper_rules.specs.WritePlaces.{Follows}
use Rattle.looper_rules.specs.Writing.{meets_fresh, with_written, write_fits, written}
use Rattle.looper_rules.specs.Loop.{Loop, Deck, is_writing, length_of, at_place, with_stack}
use Rattle.looper_rules.specs.LoopFrame.{ready, heard, heard_from, sound_at, new_frame, how_in, wraps, goes_on, writes, frame_later}
use Rattle.looper_rules.specs.LoopSpans.{loop_over, loop_heard_over}
use Rattle.loop_tape.specs.Pools.{PoolOf}
use Rattle.loop_tape.specs.Tapes.{at}
use Rattle.layer_memory.specs.Seen.{Held, seen as seen_layers, reach}
use Rattle.layer_memory.specs.Spans.{AllFit, WritesSpan, written_span}
use Rattle.layer_memory.specs.Sharing.{IsShared}
use Rattle.loop_strip.specs.Strips.{loop_map, seen, reach_in, Owns, Did}
use Rattle.loop_strip.specs.declared.parts.Parts.{Parts}
use Rattle.loop_strip.specs.Parts.{loop_of, strip_of, IsWhole}
use Rattle.loop_strip.specs.Rows.{WritesOver, IsRow}
use Rattle.loop_strip.proofs.RowsOver.{row_written, row_heard}
use Rattle.loop_strip.proofs.DidLemmas.{seen-is, seen_deck, reaches, did_kept, did_as, did_then, did_also}
use Rattle.loop_strip.proofs.OpeningLemmas.{layers_of}
use Rattle.loop_strip.proofs.LoopLemmas.{length-mapped}
use Rattle.loop_strip.proofs.FrameLemmas.{seen_stack, inside, follows_for}
use Rattle.loop_strip.proofs.PassLemmas.{written_as}
use Rattle.loop_strip.proofs.StretchLemmas.{not_same, whole_over}

-- a loop in this mode, forward
abbrev pub forward_in : {A : Type 0} → Mode → Loop A → Loop A
forward_in mode l = record l { deck = record l.deck { mode = mode; backward = false } }

-- a write over a cell leaves the cells behind it, and their number
set_behind : (cs : List (Cell Sound)) (place k : ℕ) (c : Cell Sound) → place < k →
    sound_at (contents (slice_set cs place c)) k ≡ sound_at (contents cs) k
set_behind [] place k c less = refl
set_behind (d ∷ cs) zero zero c less = absurd (omega (arith, less))
set_behind (d ∷ cs) zero (suc k) c less = refl
set_behind (d ∷ cs) (suc place) zero c less = absurd (omega (arith, less))
set_behind (d ∷ cs) (suc place) (suc k) c less = set_behind cs place k c (omega (arith, less))

layers_behind : (ls : List (Layer Sound)) (place k more : ℕ) (x : Sound) → place < k →
    sound_at (current_list (with_current (with_written Forward place x more) ls)) k ≡ sound_at
    (current_list ls) k
layers_behind [] place k more x less = refl
layers_behind (l ∷ ls) place k more x less = set_behind l.cells place k (fresh_cell x) less

written_behind : (s : Stack Sound) (place k : ℕ) (x : Sound) → place < k →
    sound_at (current_list (written Forward place x s).layers) k ≡ sound_at (current_list s.layers)
    k
written_behind s place k x less =
    written_as (meets_fresh Forward place s) Forward place x s
    (λ ls. sound_at (current_list ls) k ≡ sound_at (current_list s.layers) k)
    (λ more. layers_behind s.layers place k more x less)

set_cells : (cs : List (Cell Sound)) (place : ℕ) (c : Cell Sound) →
    length (slice_set cs place c) ≡ length cs
set_cells [] place c = refl
set_cells (d ∷ cs) zero c = refl
set_cells (d ∷ cs) (suc place) c = ap suc (set_cells cs place c)

layers_length : (ls : List (Layer Sound)) (place more : ℕ) (x : Sound) →
    current_length (with_current (with_written Forward place x more) ls) ≡ current_length ls
layers_length [] place more x = refl
layers_length (l ∷ ls) place more x = set_cells l.cells place (fresh_cell x)

written_length : (s : Stack Sound) (place : ℕ) (x : Sound) →
    current_length (written Forward place x s).layers ≡ current_length s.layers
written_length s place x =
    written_as (meets_fresh Forward place s) Forward place x s
    (λ ls. current_length ls ≡ current_length s.layers)
    (λ more. layers_length s.layers place more x)

-- one frame of a row
no_border : (place len : ℕ) → place + 1 < len → wraps false place len ≡ false
no_border place len less = not_same (place + 1) len less

row_frame : (mode : Mode) (x : Sound) (reach : ℕ) (l : Loop Sound) → WritesOver mode →
    l.deck.pos + 1 < length_of l → write_fits reach Forward l.deck.pos l.stack ≡ true →
    frame_later x reach (forward_in mode l) ≡ at_place (l.deck.pos + 1)
    (with_stack (written Forward l.deck.pos
    (new_frame mode l.controls.feedback (sound_at (current_list l.stack.layers) l.deck.pos) x)
    l.stack) (forward_in mode l))
row_frame Overdubbing x reach l over ahead fit =
    let y = new_frame Overdubbing l.controls.feedback
    (sound_at (current_list l.stack.layers) l.deck.pos) x
    in let next : Loop Sound =
    with_stack (written Forward l.deck.pos y l.stack) (forward_in Overdubbing l)
    in ap (λ b. writes b x (forward_in Overdubbing l)) fit
    ∙ ap (λ b. goes_on b next)
    (no_border l.deck.pos (length_of next) (let n = written_length l.stack l.deck.pos y in
    omega (arith, n, ahead)))
row_frame Replacing x reach l over ahead fit =
    let next : Loop Sound =
    with_stack (written Forward l.deck.pos x l.stack) (forward_in Replacing l)
    in ap (λ b. writes b x (forward_in Replacing l)) fit
    ∙ ap (λ b. goes_on b next)
    (no_border l.deck.pos (length_of next) (let n = written_length l.stack l.deck.pos x in
    omega (arith, n, ahead)))
row_frame Substituting x reach l over ahead fit =
    let next : Loop Sound =
    with_stack (written Forward l.deck.pos x l.stack) (forward_in Substituting l)
    in ap (λ b. writes b x (forward_in Substituting l)) fit
    ∙ ap (λ b. goes_on b next)
    (no_border l.deck.pos (length_of next) (let n = written_length l.stack l.deck.pos x in
    omega (arith, n, ahead)))
row_frame _ x reach l over ahead fit = absurd over

row_over : (mode : Mode) (xs : List Sound) (reach : ℕ) (list : List Sound) (l : Loop Sound) →
    WritesOver mode → l.deck.pos + length xs < length_of l →
    ((k : ℕ) → l.deck.pos ≤ k → sound_at (current_list l.stack.layers) k ≡ sound_at list k) →
    AllFit reach (row_written mode l.controls.feedback list l.deck.pos xs) l.deck.pos l.stack →
    loop_over xs reach (forward_in mode l) ≡ at_place (l.deck.pos + length xs)
    (with_stack (written_span (row_written mode l.controls.feedback list l.deck.pos xs) l.deck.pos
    l.stack) (forward_in mode l))
row_over mode [] reach list l over ahead same fit = let z : l.deck.pos + 0 ≡ l.deck.pos =
    omega arith in ap (λ n. at_place n (forward_in mode l)) (sym z)
row_over mode (x ∷ xs) reach list l over ahead same fit =
    let y = new_frame mode l.controls.feedback (sound_at list l.deck.pos) x
    in let now : new_frame mode l.controls.feedback
    (sound_at (current_list l.stack.layers) l.deck.pos) x ≡ y =
    ap (λ o. new_frame mode l.controls.feedback o x) (same l.deck.pos (omega arith))
    in let next : Loop Sound =
    at_place (l.deck.pos + 1) (with_stack (written Forward l.deck.pos y l.stack) l)
    in let first : frame_later x reach (forward_in mode l) ≡ forward_in mode next =
    row_frame mode x reach l over (omega (arith, ahead)) fit.0
    ∙ ap (λ z. at_place (l.deck.pos + 1)
    (with_stack (written Forward l.deck.pos z l.stack) (forward_in mode l))) now
    in let n = written_length l.stack l.deck.pos y
    in let count : l.deck.pos + 1 + length xs ≡ l.deck.pos + suc (length xs) = omega arith
    in ap (loop_over xs reach) first
    ∙ row_over mode xs reach list next over (omega (arith, n, ahead))
    (λ k le. written_behind l.stack l.deck.pos k y (omega (arith, le))
    ∙ same k (omega (arith, le))) fit.1
    ∙ ap (λ m. at_place m
    (with_stack (written_span (row_written mode l.controls.feedback list (l.deck.pos + 1) xs)
    (l.deck.pos + 1) next.stack) (forward_in mode l))) count

heard_now : (mode : Mode) (x : Sound) (reach : ℕ) (l : Loop Sound) → WritesOver mode →
    heard (ready x reach (forward_in mode l)) ≡ heard_from mode (current_list l.stack.layers)
    l.deck.pos
heard_now Overdubbing x reach l over = refl
heard_now Replacing x reach l over = refl
heard_now Substituting x reach l over = refl
heard_now _ x reach l over = absurd over

heard_same : (mode : Mode) (now list : List Sound) (place : ℕ) →
    sound_at now place ≡ sound_at list place →
    heard_from mode now place ≡ heard_from mode list place
heard_same Playing now list place is = is
heard_same Overdubbing now list place is = is
heard_same Multiplying now list place is = is
heard_same Substituting now list place is = is
heard_same OneShot now list place is = is
heard_same _ now list place is = refl

row_sounds : (mode : Mode) (xs : List Sound) (reach : ℕ) (list : List Sound) (l : Loop Sound) →
    WritesOver mode → l.deck.pos + length xs < length_of l →
    ((k : ℕ) → l.deck.pos ≤ k → sound_at (current_list l.stack.layers) k ≡ sound_at list k) →
    AllFit reach (row_written mode l.controls.feedback list l.deck.pos xs) l.deck.pos l.stack →
    loop_heard_over xs reach (forward_in mode l) ≡ row_heard mode list l.deck.pos xs
row_sounds mode [] reach list l over ahead same fit = refl
row_sounds mode (x ∷ xs) reach list l over ahead same fit =
    let y = new_frame mode l.controls.feedback (sound_at list l.deck.pos) x
    in let now : new_frame mode l.controls.feedback
    (sound_at (current_list l.stack.layers) l.deck.pos) x ≡ y =
    ap (λ o. new_frame mode l.controls.feedback o x) (same l.deck.pos (omega arith))
    in let next : Loop Sound =
    at_place (l.deck.pos + 1) (with_stack (written Forward l.deck.pos y l.stack) l)
    in let first : frame_later x reach (forward_in mode l) ≡ forward_in mode next =
    row_frame mode x reach l over (omega (arith, ahead)) fit.0
    ∙ ap (λ z. at_place (l.deck.pos + 1)
    (with_stack (written Forward l.deck.pos z l.stack) (forward_in mode l))) now
    in let n = written_length l.stack l.deck.pos y
    in ap₂ (λ h m. h ∷ loop_heard_over xs reach m)
    (heard_now mode x reach l over ∙ heard_same mode (current_list l.stack.layers) list l.deck.pos
    (same l.deck.pos (omega arith))) first
    ∙ ap (λ hs. heard_from mode list l.deck.pos ∷ hs)
    (row_sounds mode xs reach list next over (omega (arith, n, ahead))
    (λ k le. written_behind l.stack l.deck.pos k y (omega (arith, le))
    ∙ same k (omega (arith, le))) fit.1)

-- a loop in this mode that goes forward
pub forward_same : (mode : Mode) (l : Loop Sound) → l.deck.mode ≡ mode → l.deck.backward ≡ false →
    l ≡ forward_in mode l
forward_same mode l is forward =
    ap₂ (λ m b. record l { deck = record l.deck { mode = m; backward = b } }) is forward

-- a row leaves the list with its frames written
pub loop_row : (mode : Mode) (xs : List Sound) (reach : ℕ) (l : Loop Sound) → l.deck.mode ≡ mode →
    IsRow mode (length xs) l.deck.backward l.deck.pos (length_of l) →
    AllFit reach (row_written mode l.controls.feedback (current_list l.stack.layers) l.deck.pos xs)
    l.deck.pos l.stack →
    loop_over xs reach l ≡ at_place (l.deck.pos + length xs)
    (with_stack (written_span (row_written mode l.controls.feedback (current_list l.stack.layers)
    l.deck.pos xs) l.deck.pos l.stack) l)
loop_row mode xs reach l is row fit =
    let here = forward_same mode l is row.forward
    in ap (loop_over xs reach) here ∙ row_over mode xs reach (current_list l.stack.layers) l
    row.over row.ahead (λ k le. refl) fit
    ∙ ap (λ m. at_place (l.deck.pos + length xs)
    (with_stack (written_span (row_written mode l.controls.feedback (current_list l.stack.layers)
    l.deck.pos xs) l.deck.pos l.stack) m)) (sym here)

-- and what is heard of it
pub loop_row_heard : (mode : Mode) (xs : List Sound) (reach : ℕ) (l : Loop Sound) →
    l.deck.mode ≡ mode → IsRow mode (length xs) l.deck.backward l.deck.pos (length_of l) →
    AllFit reach (row_written mode l.controls.feedback (current_list l.stack.layers) l.deck.pos xs)
    l.deck.pos l.stack →
    loop_heard_over xs reach l ≡ row_heard mode (current_list l.stack.layers) l.deck.pos xs
loop_row_heard mode xs reach l is row fit =
    ap (loop_heard_over xs reach) (forward_same mode l is row.forward) ∙ row_sounds mode xs reach
    (current_list l.stack.layers) l row.over row.ahead (λ k le. refl) fit

-- the frames of a row by their index
written_length_of : (mode : Mode) (feedback : ℕ) (list : List Sound) (place : ℕ) (xs : List Sound) →
    length (row_written mode feedback list place xs) ≡ length xs
written_length_of mode feedback list place [] = refl
written_length_of mode feedback list place (x ∷ xs) =
    ap suc (written_length_of mode feedback list (place + 1) xs)

heard_length_of : (mode : Mode) (list : List Sound) (place : ℕ) (xs : List Sound) →
    length (row_heard mode list place xs) ≡ length xs
heard_length_of mode list place [] = refl
heard_length_of mode list place (x ∷ xs) = ap suc (heard_length_of mode list (place + 1) xs)

written_at : (mode : Mode) (feedback : ℕ) (list : List Sound) (place : ℕ) (xs : List Sound)
    (k : ℕ) → k < length xs → get_or (row_written mode feedback list place xs) k silence ≡ new_frame
    mode feedback (sound_at list (place + k)) (get_or xs k silence)
written_at mode feedback list place [] k less = absurd (omega (arith, less))
written_at mode feedback list place (x ∷ xs) zero less = let z : place + 0 ≡ place = omega arith in
    ap (λ n. new_frame mode feedback (sound_at list n) x) (sym z)
written_at mode feedback list place (x ∷ xs) (suc k) less =
    let z : place + 1 + k ≡ place + suc k = omega arith in
    written_at mode feedback list (place + 1) xs k (omega (arith, less))
    ∙ ap (λ n. new_frame mode feedback (sound_at list n) (get_or xs k silence)) z

heard_at : (mode : Mode) (list : List Sound) (place : ℕ) (xs : List Sound) (k : ℕ) → k < length xs →
    get_or (row_heard mode list place xs) k silence ≡ heard_from mode list (place + k)
heard_at mode list place [] k less = absurd (omega (arith, less))
heard_at mode list place (x ∷ xs) zero less = let z : place + 0 ≡ place = omega arith in
    ap (λ n. heard_from mode list n) (sym z)
heard_at mode list place (x ∷ xs) (suc k) less =
    let z : place + 1 + k ≡ place + suc k = omega arith in
    heard_at mode list (place + 1) xs k (omega (arith, less)) ∙ ap (λ n. heard_from mode list n) z

over_old : (mode : Mode) (feedback : ℕ) (list : List Sound) (place : ℕ) (x : Sound) →
    WritesOver mode → new_frame mode feedback (heard_from mode list place) x ≡ new_frame mode
    feedback (sound_at list place) x
over_old Overdubbing feedback list place x over = refl
over_old Replacing feedback list place x over = refl
over_old Substituting feedback list place x over = refl
over_old _ feedback list place x over = absurd over

-- what was heard of a list, and what is written, from frames by their index
row_heard_is : (n : ℕ) (mode : Mode) (list : List Sound) (place : ℕ) (xs hs : List Sound) →
    n ≤ length xs → length xs ≡ length hs →
    ((k : ℕ) → k < length hs → get_or hs k silence ≡ heard_from mode list (place + k)) →
    take n hs ≡ row_heard mode list place (take n xs)
row_heard_is n mode list place xs hs le same sounds =
    let a = length-take-le n xs le in
    let b = length-take-le n hs (omega (arith, le, same)) in
    let c = heard_length_of mode list place (take n xs) in
    ext_get_or silence (take n hs) (row_heard mode list place (take n xs)) (omega (arith, a, b, c))
    (λ k less. get_or-take n hs k silence (omega (arith, less, b))
    ∙ sounds k (omega (arith, less, b, le, same))
    ∙ sym (heard_at mode list place (take n xs) k (omega (arith, less, a, b))))

row_written_is : (n : ℕ) (mode : Mode) (feedback : ℕ) (list : List Sound) (place : ℕ)
    (xs hs ys : List Sound) → WritesOver mode → n ≤ length xs → length xs ≡ length hs →
    length ys ≡ length xs →
    ((k : ℕ) → k < length hs → get_or hs k silence ≡ heard_from mode list (place + k)) →
    ((k : ℕ) → k < length xs → get_or ys k silence ≡ new_frame mode feedback (get_or hs k silence)
    (get_or xs k silence)) → take n ys ≡ row_written mode feedback list place (take n xs)
row_written_is n mode feedback list place xs hs ys over le same long sounds news =
    let a = length-take-le n xs le in
    let b = length-take-le n ys (omega (arith, le, long)) in
    let c = written_length_of mode feedback list place (take n xs) in
    ext_get_or silence (take n ys) (row_written mode feedback list place (take n xs))
    (omega (arith, a, b, c))
    (λ k less. get_or-take n ys k silence (omega (arith, less, b))
    ∙ news k (omega (arith, less, b, le))
    ∙ ap (λ h. new_frame mode feedback h (get_or xs k silence))
    (sounds k (omega (arith, less, b, le, same)))
    ∙ over_old mode feedback list (place + k) (get_or xs k silence) over
    ∙ ap (λ x. new_frame mode feedback (sound_at list (place + k)) x)
    (sym (get_or-take n xs k silence (omega (arith, less, b))))
    ∙ sym (written_at mode feedback list place (take n xs) k (omega (arith, less, a, b))))

-- a shorter row
row_part : (mode : Mode) (n m : ℕ) (backward : Bool) (place len : ℕ) → n ≤ m →
    IsRow mode m backward place len → IsRow mode n backward place len
row_part mode n m backward place len le r = let a = r.ahead in
    record { over = r.over; forward = r.forward; ahead = omega (arith, le, a) }

-- what a row does to a strip
row_seen : (ys : List Sound) (s : Parts) (h : Held) (p p' : PoolOf) →
    WritesSpan ys s.deck.pos s.layers h p p' → seen (strip_of (layers_of s h)) p' ≡ with_stack
    (written_span ys s.deck.pos (seen (strip_of s) p).stack) (seen (strip_of s) p)
unfolding seen
row_seen ys s h p p' w =
    ap (λ (t : Stack Sound). with_stack t (loop_map (at s.layers.tape p) (loop_of s))) w.seen

row_fits : (ys zs : List Sound) (s : Parts) (h : Held) (p p' : PoolOf) → Owns (strip_of s) p →
    ys ≡ zs → WritesSpan ys s.deck.pos s.layers h p p' →
    AllFit (reach_in (strip_of s) p) zs (seen (strip_of s) p).deck.pos (seen (strip_of s) p).stack
unfolding seen
row_fits ys zs s h p p' o is w =
    subst (λ ts. AllFit (reach_in (strip_of s) p) ts s.deck.pos (seen_layers s.layers p)) is
    (subst (λ r. AllFit r ys s.deck.pos (seen_layers s.layers p)) (reaches s p o) w.fits)

row_frames : (mode : Mode) (xs ys : List Sound) (s : Parts) (p : PoolOf) →
    ys ≡ row_written mode s.controls.feedback (current_list (seen_layers s.layers p).layers)
    s.deck.pos xs → ys ≡ row_written mode (seen (strip_of s) p).controls.feedback
    (current_list (seen (strip_of s) p).stack.layers) (seen (strip_of s) p).deck.pos xs
unfolding seen
row_frames mode xs ys s p is = is

row_place : (mode : Mode) (n : ℕ) (s : Parts) (p : PoolOf) →
    IsRow mode n s.deck.backward s.deck.pos (length_of (loop_of s)) →
    IsRow mode n (seen (strip_of s) p).deck.backward (seen (strip_of s) p).deck.pos
    (length_of (seen (strip_of s) p))
row_place mode n s p h =
    let l = seen (strip_of s) p
    in let same : length_of (loop_of s) ≡ length_of l =
    sym (length-mapped _ (loop_of s)) ∙ ap length_of (sym (seen-is (strip_of s) p))
    in subst (λ m. IsRow mode n l.deck.backward l.deck.pos m) same
    (subst (λ (d : Deck). IsRow mode n d.backward d.pos (length_of (loop_of s)))
    (sym (seen_deck (strip_of s) p)) h)

did_rowed : (mode : Mode) (xs ys : List Sound) (s s' : Parts) (h : Held) (p p' : PoolOf) →
    Owns (strip_of s) p → s.deck.mode ≡ mode →
    IsRow mode (length xs) s.deck.backward s.deck.pos (length_of (loop_of s)) →
    ys ≡ row_written mode s.controls.feedback (current_list (seen_layers s.layers p).layers)
    s.deck.pos xs →
    WritesSpan ys s.deck.pos s.layers h p p' → IsShared h → s'.layers.tape ≡ h.tape →
    IsShared s'.layers → loop_of s' ≡ at_place (s.deck.pos + length xs)
    (loop_of (layers_of s h)) → Did (loop_over xs) (strip_of s) (strip_of s') p p'
did_rowed mode xs ys s s' h p p' o is row yis w shared tape shared' to =
    let l = seen (strip_of s) p
    in let deck = seen_deck (strip_of s) p
    in let first : Did (λ reach k. with_stack (written_span ys s.deck.pos k.stack) k) (strip_of s)
    (strip_of (layers_of s h)) p p' =
    did_kept (λ reach k. with_stack (written_span ys s.deck.pos k.stack) k) s (layers_of s h) p
    p' o w.keeps shared (row_seen ys s h p p' w)
    in let second : Did (λ reach k. at_place (s.deck.pos + length xs) k) (strip_of (layers_of s h))
    (strip_of s') p' p' =
    did_as (λ reach k. at_place (s.deck.pos + length xs) k)
    (λ reach k. at_place (s.deck.pos + length xs) k) (layers_of s h) s' p' first.owns tape
    shared' (λ f r k. refl) to
    in let over : loop_over xs (reach_in (strip_of s) p) l ≡ at_place (l.deck.pos + length xs)
    (with_stack (written_span
    (row_written mode l.controls.feedback (current_list l.stack.layers) l.deck.pos xs)
    l.deck.pos l.stack) l) =
    loop_row mode xs (reach_in (strip_of s) p) l (ap (λ (d : Deck). d.mode) deck ∙ is)
    (row_place mode (length xs) s p row)
    (row_fits ys _ s h p p' o (row_frames mode xs ys s p yis) w)
    in let same : at_place (s.deck.pos + length xs)
    (with_stack (written_span ys s.deck.pos l.stack) l) ≡ loop_over xs (reach_in (strip_of s) p)
    l =
    ap (λ (d : Deck). at_place (d.pos + length xs) (with_stack (written_span ys d.pos l.stack) l))
    (sym deck)
    ∙ ap (λ zs. at_place (l.deck.pos + length xs)
    (with_stack (written_span zs l.deck.pos l.stack) l)) (row_frames mode xs ys s p yis)
    ∙ sym over
    in did_also same (did_then first second)

-- the first of the frames of a row that was offered
pub did_row : (n : ℕ) (mode : Mode) (xs hs ys : List Sound) (s s' : Parts) (h : Held)
    (p p' : PoolOf) → Owns (strip_of s) p → s.deck.mode ≡ mode →
    IsRow mode (length xs) s.deck.backward s.deck.pos (length_of (loop_of s)) → n ≤ length xs →
    length xs ≡ length hs → length ys ≡ length xs →
    ((k : ℕ) → k < length hs →
    get_or hs k silence ≡ heard_from mode (current_list (seen_layers s.layers p).layers)
    (s.deck.pos + k)) →
    ((k : ℕ) → k < length xs → get_or ys k silence ≡ new_frame mode s.controls.feedback
    (get_or hs k silence) (get_or xs k silence)) →
    WritesSpan (take n ys) s.deck.pos s.layers h p p' → IsShared h → s'.layers.tape ≡ h.tape →
    IsShared s'.layers → loop_of s' ≡ at_place (s.deck.pos + n) (loop_of (layers_of s h)) →
    Did (loop_over (take n xs)) (strip_of s) (strip_of s') p p'
did_row n mode xs hs ys s s' h p p' o is row le same long sounds news w shared tape shared' to =
    let count = length-take-le n xs le
    in let list = current_list (seen_layers s.layers p).layers
    in let part = row_part mode (length (take n xs)) (length xs) s.deck.backward s.deck.pos
    (length_of (loop_of s)) (omega (arith, count, le)) row
    in did_rowed mode (take n xs) (take n ys) s s' h p p' o is part
    (row_written_is n mode s.controls.feedback list s.deck.pos xs hs ys row.over le same long
    sounds news) w shared tape shared'
    (to ∙ ap (λ m. at_place (s.deck.pos + m) (loop_of (layers_of s h))) (sym count))

-- the same with the pool
pub heard_row : (n : ℕ) (mode : Mode) (xs hs ys : List Sound) (s : Parts) (h : Held)
    (p p' : PoolOf) → Owns (strip_of s) p → s.deck.mode ≡ mode →
    IsRow mode (length xs) s.deck.backward s.deck.pos (length_of (loop_of s)) → n ≤ length xs →
    length xs ≡ length hs → length ys ≡ length xs →
    ((k : ℕ) → k < length hs →
    get_or hs k silence ≡ heard_from mode (current_list (seen_layers s.layers p).layers)
    (s.deck.pos + k)) →
    ((k : ℕ) → k < length xs → get_or ys k silence ≡ new_frame mode s.controls.feedback
    (get_or hs k silence) (get_or xs k silence)) →
    WritesSpan (take n ys) s.deck.pos s.layers h p p' →
    take n hs ≡ loop_heard_over (take n xs) (reach_in (strip_of s) p) (seen (strip_of s) p)
heard_row n mode xs hs ys s h p p' o is row le same long sounds news w =
    let l = seen (strip_of s) p
    in let deck = seen_deck (strip_of s) p
    in let count = length-take-le n xs le
    in let list = current_list (seen_layers s.layers p).layers
    in let part = row_part mode (length (take n xs)) (length xs) s.deck.backward s.deck.pos
    (length_of (loop_of s)) (omega (arith, count, le)) row
    in let yis = row_written_is n mode s.controls.feedback list s.deck.pos xs hs ys row.over le same
    long sounds news
    in row_heard_is n mode list s.deck.pos xs hs le same sounds
    ∙ ap (λ t. row_heard mode (current_list t.layers) s.deck.pos (take n xs)) (sym (seen_stack s p))
    ∙ ap (λ (d : Deck). row_heard mode (current_list l.stack.layers) d.pos (take n xs)) (sym deck)
    ∙ sym (loop_row_heard mode (take n xs) (reach_in (strip_of s) p) l
    (ap (λ (d : Deck). d.mode) deck ∙ is) (row_place mode (length (take n xs)) s p part)
    (row_fits (take n ys) _ s h p p' o (row_frames mode (take n xs) (take n ys) s p yis) w))

-- a row begins within the list
pub row_inside : (mode : Mode) (s : Parts) → IsWhole s → s.deck.mode ≡ mode → WritesOver mode →
    s.deck.pos < length_of (loop_of s)
row_inside Overdubbing s w is over = inside Overdubbing s w is tt tt
row_inside Replacing s w is over = inside Replacing s w is tt tt
row_inside Substituting s w is over = inside Substituting s w is tt tt
row_inside _ s w is over = absurd over

-- its layer is open
pub row_open : (mode : Mode) (s : Parts) → IsWhole s → s.deck.mode ≡ mode → WritesOver mode →
    IsTrue s.layers.writing
row_open Overdubbing s w is over = subst (λ b. IsTrue b) (sym (w.writing ∙ ap is_writing is)) refl
row_open Replacing s w is over = subst (λ b. IsTrue b) (sym (w.writing ∙ ap is_writing is)) refl
row_open Substituting s w is over = subst (λ b. IsTrue b) (sym (w.writing ∙ ap is_writing is)) refl
row_open _ s w is over = absurd over

-- its first write goes on with the streak
pub row_follows : (mode : Mode) (s : Parts) → IsWhole s → s.deck.mode ≡ mode → WritesOver mode →
    s.deck.backward ≡ false → Follows s.layers.stack.streak Forward s.deck.pos
row_follows Overdubbing s w is over forward =
    follows_for Overdubbing s Forward w is refl (ap (λ b. how_in Overdubbing b) (sym forward))
row_follows Replacing s w is over forward =
    follows_for Replacing s Forward w is refl (ap (λ b. how_in Replacing b) (sym forward))
row_follows Substituting s w is over forward =
    follows_for Substituting s Forward w is refl (ap (λ b. how_in Substituting b) (sym forward))
row_follows _ s w is over forward = absurd over

-- its mode is written
pub row_writing : (mode now : Mode) → now ≡ mode → WritesOver mode → true ≡ is_writing now
row_writing Overdubbing now is over = sym (ap is_writing is)
row_writing Replacing now is over = sym (ap is_writing is)
row_writing Substituting now is over = sym (ap is_writing is)
row_writing _ now is over = absurd over

pub ruleset rows = (row_inside, row_open, row_follows, whole_over)

-- what a span of the list is, heard in each mode
span_at : (list : List Sound) (place n k : ℕ) → k < n →
    get_or (take n (drop place list)) k silence ≡ sound_at list (place + k)
span_at list place n k less = get_or-take n (drop place list) k silence less
    ∙ get_or-drop place list k silence

-- what is heard where the list is heard
pub hear_over : (list hs : List Sound) (place n k : ℕ) → hs ≡ take n (drop place list) →
    k < length hs → get_or hs k silence ≡ sound_at list (place + k)
hear_over list hs place n k is less =
    let long = ap length is in
    let few = length-take n (drop place list) in
    ap (λ ts. get_or ts k silence) is ∙ span_at list place n k (omega (arith, less, long, few))

-- and where it is not
pub hear_none : (mode : Mode) (list : List Sound) (n place len k m : ℕ) (backward : Bool) →
    IsRow mode m backward place len → (mode ≡ Overdubbing → ⊥) → (mode ≡ Substituting → ⊥) →
    get_or (replicate n silence) k silence ≡ heard_from mode list (place + k)
hear_none Overdubbing list n place len k m backward row a b = absurd (a refl)
hear_none Substituting list n place len k m backward row a b = absurd (b refl)
hear_none Replacing list n place len k m backward row a b =
    grind (
      arith,
      get_or-replicate n k silence silence,
      get_or_past (replicate n silence) k silence,
      length-replicate n silence,
    )
hear_none _ list n place len k m backward row a b = absurd row.over

pub ruleset hears = (hear_over, hear_none)

-- a frame alone, where a row had none
pub did_after : (xs : List Sound) (n : ℕ) (s s1 s2 : Parts) (p p1 p2 : PoolOf) → n ≡ 0 →
    Did (loop_over (take n xs)) (strip_of s) (strip_of s1) p p1 →
    Did (loop_over (take 1 xs)) (strip_of s1) (strip_of s2) p1 p2 →
    Did (loop_over (take 1 xs)) (strip_of s) (strip_of s2) p p2
did_after xs n s s1 s2 p p1 p2 none first second =
    let still : Did (loop_over (take 0 xs)) (strip_of s) (strip_of s1) p p1 =
    subst (λ k. Did (loop_over (take k xs)) (strip_of s) (strip_of s1) p p1) none first
    in did_then still second

-- what is heard behind no frames
pub heard_after : (xs hs : List Sound) (n : ℕ) (s s1 : Parts) (p p1 : PoolOf) → n ≡ 0 →
    Did (loop_over (take n xs)) (strip_of s) (strip_of s1) p p1 →
    hs ≡ loop_heard_over (take 1 xs) (reach_in (strip_of s1) p1) (seen (strip_of s1) p1) →
    hs ≡ loop_heard_over (take 1 xs) (reach_in (strip_of s) p) (seen (strip_of s) p)
heard_after xs hs n s s1 p p1 none first sound =
    let still : Did (loop_over (take 0 xs)) (strip_of s) (strip_of s1) p p1 =
    subst (λ k. Did (loop_over (take k xs)) (strip_of s) (strip_of s1) p p1) none first
    in sound ∙ ap₂ (λ r l. loop_heard_over (take 1 xs) r l) still.reach still.seen

-- the first frames of a part of the input
pub taken_twice : (xs : List Sound) (n m : ℕ) → n ≤ m → take n (take m xs) ≡ take n xs
taken_twice xs zero m le = refl
taken_twice [] (suc n) zero le = refl
taken_twice [] (suc n) (suc m) le = refl
taken_twice (x ∷ xs) (suc n) zero le = absurd (omega (arith, le))
taken_twice (x ∷ xs) (suc n) (suc m) le = ap (λ ts. x ∷ ts) (taken_twice xs n m (omega (arith, le)))

-- the first of a part are the first of the whole
pub taken_part : (n m : ℕ) (part rest new : List Sound) → n ≤ length part → new ≡ part ++ rest →
    take n new ≡ take n part
taken_part zero m part rest new le is = refl
taken_part (suc n) m [] rest new le is = absurd (omega (arith, le))
taken_part (suc n) m (y ∷ ys) rest new le is = ap (take (suc n)) is
    ∙ ap (λ ts. y ∷ ts) (taken_part n m ys rest (ys ++ rest) (omega (arith, le)) refl)

pub ruleset takes = (did_after, heard_after, taken_twice, taken_part)
