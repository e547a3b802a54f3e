-- A stretch of a loop is its frames one by one.
use Rattle.std.proofs.Common.{◌≡◌, ℕ, zero, suc, ◌+◌, ◌-◌, ◌≤◌, ◌<◌, Bool, true, false, List, [], ◌∷◌, ◌++◌, length, take, drop, reverse, replicate, refl, sym, ap, ap₂, subst, ◌∙◌, arith, take-add, drop-drop}
use Rattle.std.proofs.lemmas.Bool.{ne_eqb}
use Rattle.std.proofs.lemmas.List.{length-map, length-take-le, reverse-append}
use Rattle.sl_base.specs.Limits.{max_list_frames}
use Rattle.std.specs.Prelude.{⊤, ◌==◌}
use Rattle.sl_base.specs.Sounds.{Sound, silence}
use Rattle.sl_commands.specs.declared.Mode.{Mode}
use Rattle.sl_commands.specs.declared.Mode.TheVariants.{Off, WaitStart, Recording, Playing, Overdubbing, Multiplying, Inserting, Replacing, Muted, OneShot, Substituting, Paused}
use Rattle.looper_rules.specs.Layers.{Layer, content_of, current_cells, current_list, current_length}
use Rattle.looper_rules.specs.Loop.{Loop, Deck, Controls, is_writing, length_of, at_place}
use Rattle.looper_rules.specs.LoopFrame.{ready, heard, heard_from, sound_at, wraps, next_place, goes_on, frame_later}
use Rattle.looper_rules.specs.LoopSpans.{loop_over, loop_heard_over}
use Rattle.looper_rules.specs.States.{InMode}
use Rattle.looper_rules.specs.Reached.{Unchanged, Keeps as KeepsLoop}
use Rattle.looper_laws.proofs.Kept.LoopFrame.{framed_keeps}
use Rattle.looper_laws.proofs.Kept.Verbs.{set_to}
use Rattle.loop_tape.specs.Pools.{PoolOf}
use Rattle.layer_memory.specs.Seen.{seen as seen_layers}
use Rattle.layer_memory.specs.Sharing.{IsShared}
use Rattle.loop_strip.specs.Strips.{seen, reach_in, Owns, Did}
use Rattle.loop_strip.specs.declared.parts.Parts.{Parts}
use Rattle.loop_strip.specs.Parts.{loop_of, strip_of, IsWhole}
use Rattle.loop_strip.specs.Quiet.{AreSoft}
use Rattle.loop_strip.specs.Stretches.{places_ahead, place_on, place_behind, part_of, part_heard, IsAhead, IsStretch}
use Rattle.loop_strip.proofs.LoopLemmas.{length-mapped}
use Rattle.loop_strip.proofs.DidLemmas.{seen-is, seen_deck, seen_controls, did_as, did_also}
use Rattle.loop_strip.proofs.FrameLemmas.{seen_stack, whole_did, inside, list_short}
use Rattle.loop_strip.proofs.PassLemmas.{did_one, heard_one, take_part}
use Rattle.loop_strip.proofs.QuietLemmas.{soft_ready, soft_later, taken}

-- the modes in which a loop goes on place by place and nothing is written
abbrev pub IsMoving : Mode → Type 0
IsMoving Playing = ⊤
IsMoving Muted = ⊤
IsMoving OneShot = ⊤
IsMoving _ = ⊥

-- places
pub not_same : (n m : ℕ) → n < m → (n == m) ≡ false
not_same n m less = ne_eqb n m (λ is. omega (arith, less, is))

not_zero : (n : ℕ) → 1 ≤ n → (n == 0) ≡ false
not_zero n some = ne_eqb n 0 (λ is. omega (arith, some, is))

-- a place with frames ahead is not at the border
pub no_wrap : (n : ℕ) (backward : Bool) (place len : ℕ) → IsAhead (suc n) backward place len →
    wraps backward place len ≡ false
no_wrap n true place len h = let a = h.ahead in not_zero place (omega (arith, a))
no_wrap n false place len h = let a = h.ahead in not_same (place + 1) len (omega (arith, a))

-- one place on there is one frame less ahead
pub ahead_next : (n : ℕ) (backward : Bool) (place len : ℕ) → IsAhead (suc n) backward place len →
    IsAhead n backward (next_place backward place) len
ahead_next n true place len h = let a = h.ahead in let i = h.inside in
    record { inside = omega (arith, a, i); ahead = omega (arith, a, i) }
ahead_next n false place len h = let a = h.ahead in let i = h.inside in
    record { inside = omega (arith, a, i); ahead = omega (arith, a, i) }

on_none : (backward : Bool) (place : ℕ) → place_on backward 0 place ≡ place
on_none true place = omega arith
on_none false place = omega arith

on_next : (n : ℕ) (backward : Bool) (place : ℕ) →
    place_on backward n (next_place backward place) ≡ place_on backward (suc n) place
on_next n true place = omega arith
on_next n false place = omega arith

-- parts of a list
drop_at : (list : List Sound) (place : ℕ) → place < length list →
    drop place list ≡ sound_at list place ∷ drop (place + 1) list
drop_at [] place less = absurd (omega (arith, less))
drop_at (x ∷ xs) zero less = refl
drop_at (x ∷ xs) (suc n) less = let more : suc n + 1 ≡ suc (n + 1) = omega arith in
    rw more (drop_at xs n (omega (arith, less)))

part_next : (n place : ℕ) (list : List Sound) → place < length list →
    sound_at list place ∷ take n (drop (place + 1) list) ≡ take (suc n) (drop place list)
part_next n place list less = rw (drop_at list place less) refl

take_one : (place : ℕ) (list : List Sound) → place < length list →
    take 1 (drop place list) ≡ sound_at list place ∷ []
take_one place list less = rw (drop_at list place less) refl

take_last : (n a place : ℕ) (list : List Sound) → a + n ≡ place → place < length list →
    take (suc n) (drop a list) ≡ take n (drop a list) ++ sound_at list place ∷ []
take_last n a place list is less =
    let more : suc n ≡ n + 1 = omega arith
    in ap (λ k. take k (drop a list)) more
    ∙ take-add n 1 (drop a list)
    ∙ ap (λ xs. take n (drop a list) ++ take 1 xs) (drop-drop n a list)
    ∙ ap (λ k. take n (drop a list) ++ take 1 (drop k list)) is
    ∙ ap (λ xs. take n (drop a list) ++ xs) (take_one place list less)

part_back : (n place : ℕ) (list : List Sound) → suc n ≤ place → place < length list →
    sound_at list place ∷ reverse (take n (drop (place - 1 + 1 - n) list)) ≡ reverse
    (take (suc n) (drop (place + 1 - suc n) list))
part_back n place list some less =
    let a = place - n
    in let first : place - 1 + 1 - n ≡ a = omega (arith, some)
    in let then : place + 1 - suc n ≡ a = omega (arith, some)
    in ap (λ k. sound_at list place ∷ reverse (take n (drop k list))) first
    ∙ sym (reverse-append (take n (drop a list)) (sound_at list place ∷ []))
    ∙ ap reverse (sym (take_last n a place list (omega (arith, some)) less))
    ∙ ap (λ k. reverse (take (suc n) (drop k list))) (sym then)

-- one frame of a loop that goes on
pub next_frame : (mode : Mode) (x : Sound) (reach : ℕ) (l : Loop Sound) → IsMoving mode →
    wraps l.deck.backward l.deck.pos (length_of l) ≡ false →
    frame_later x reach (set_to mode l) ≡ at_place (next_place l.deck.backward l.deck.pos)
    (set_to mode l)
next_frame Playing x reach l moving is = ap (λ b. goes_on b (set_to Playing l)) is
next_frame Muted x reach l moving is = ap (λ b. goes_on b (set_to Muted l)) is
next_frame OneShot x reach l moving is = ap (λ b. goes_on b (set_to OneShot l)) is
next_frame _ x reach l moving is = absurd moving

moving_over : (mode : Mode) (xs : List Sound) (reach : ℕ) (l : Loop Sound) → IsMoving mode →
    IsAhead (length xs) l.deck.backward l.deck.pos (length_of l) →
    loop_over xs reach (set_to mode l) ≡ at_place (place_on l.deck.backward (length xs) l.deck.pos)
    (set_to mode l)
moving_over mode [] reach l moving h =
    ap (λ p. at_place p (set_to mode l)) (sym (on_none l.deck.backward l.deck.pos))
moving_over mode (x ∷ xs) reach l moving h =
    let next : Loop Sound = at_place (next_place l.deck.backward l.deck.pos) l
    in ap (loop_over xs reach)
    (next_frame mode x reach l moving
    (no_wrap (length xs) l.deck.backward l.deck.pos (length_of l) h))
    ∙ moving_over mode xs reach next moving
    (ahead_next (length xs) l.deck.backward l.deck.pos (length_of l) h)
    ∙ ap (λ p. at_place p (set_to mode l)) (on_next (length xs) l.deck.backward l.deck.pos)

list_length : (layers : List (Layer Sound)) → length (current_list layers) ≡ current_length layers
list_length layers = length-map (current_cells layers) content_of

part_more : (n : ℕ) (backward : Bool) (place : ℕ) (list : List Sound) →
    IsAhead (suc n) backward place (length list) →
    sound_at list place ∷ part_of backward n (next_place backward place) list ≡ part_of backward
    (suc n) place list
part_more n true place list h = part_back n place list h.ahead h.inside
part_more n false place list h = part_next n place list h.inside

part_none : (backward : Bool) (place : ℕ) (list : List Sound) → [] ≡ part_of backward 0 place list
part_none true place list = refl
part_none false place list = refl

sounding_heard : (mode : Mode) (xs : List Sound) (reach : ℕ) (l : Loop Sound) → IsMoving mode →
    IsAhead (length xs) l.deck.backward l.deck.pos (length_of l) →
    ((x : Sound) (m : Loop Sound) →
    heard (ready x reach (set_to mode m)) ≡ sound_at (current_list m.stack.layers) m.deck.pos) →
    loop_heard_over xs reach (set_to mode l) ≡ part_of l.deck.backward (length xs) l.deck.pos
    (current_list l.stack.layers)
sounding_heard mode [] reach l moving h sounds =
    part_none l.deck.backward l.deck.pos (current_list l.stack.layers)
sounding_heard mode (x ∷ xs) reach l moving h sounds =
    let list = current_list l.stack.layers
    in let next : Loop Sound = at_place (next_place l.deck.backward l.deck.pos) l
    in ap₂ (λ s m. s ∷ loop_heard_over xs reach m) (sounds x l)
    (next_frame mode x reach l moving
    (no_wrap (length xs) l.deck.backward l.deck.pos (length_of l) h))
    ∙ ap (λ rest. sound_at list l.deck.pos ∷ rest)
    (sounding_heard mode xs reach next moving
    (ahead_next (length xs) l.deck.backward l.deck.pos (length_of l) h) sounds)
    ∙ part_more (length xs) l.deck.backward l.deck.pos list
    (subst (λ n. IsAhead (suc (length xs)) l.deck.backward l.deck.pos n)
    (sym (list_length l.stack.layers)) h)

muted_heard : (xs : List Sound) (reach : ℕ) (l : Loop Sound) →
    IsAhead (length xs) l.deck.backward l.deck.pos (length_of l) →
    loop_heard_over xs reach (set_to Muted l) ≡ replicate (length xs) silence
muted_heard [] reach l h = refl
muted_heard (x ∷ xs) reach l h =
    let next : Loop Sound = at_place (next_place l.deck.backward l.deck.pos) l
    in ap (λ m. silence ∷ loop_heard_over xs reach m)
    (next_frame Muted x reach l tt
    (no_wrap (length xs) l.deck.backward l.deck.pos (length_of l) h))
    ∙ ap (λ rest. silence ∷ rest)
    (muted_heard xs reach next
    (ahead_next (length xs) l.deck.backward l.deck.pos (length_of l) h))

-- a loop that stays where it is
off_over : (xs : List Sound) (reach : ℕ) (l : Loop Sound) →
    loop_over xs reach (set_to Off l) ≡ set_to Off l
off_over [] reach l = refl
off_over (x ∷ xs) reach l = off_over xs reach l

off_heard : (xs : List Sound) (reach : ℕ) (l : Loop Sound) →
    loop_heard_over xs reach (set_to Off l) ≡ replicate (length xs) silence
off_heard [] reach l = refl
off_heard (x ∷ xs) reach l = ap (λ rest. silence ∷ rest) (off_heard xs reach l)

paused_over : (xs : List Sound) (reach : ℕ) (l : Loop Sound) →
    loop_over xs reach (set_to Paused l) ≡ set_to Paused l
paused_over [] reach l = refl
paused_over (x ∷ xs) reach l = paused_over xs reach l

paused_heard : (xs : List Sound) (reach : ℕ) (l : Loop Sound) →
    loop_heard_over xs reach (set_to Paused l) ≡ replicate (length xs) silence
paused_heard [] reach l = refl
paused_heard (x ∷ xs) reach l = ap (λ rest. silence ∷ rest) (paused_heard xs reach l)

soft_over : (xs : List Sound) (reach : ℕ) (l : Loop Sound) → l.deck.mode ≡ WaitStart →
    AreSoft l.controls.rec_thresh xs → loop_over xs reach l ≡ l
soft_over [] reach l is soft = refl
soft_over (x ∷ xs) reach l is soft = ap (loop_over xs reach) (soft_later l is x soft.0 reach)
    ∙ soft_over xs reach l is soft.1

soft_heard : (xs : List Sound) (reach : ℕ) (l : Loop Sound) → l.deck.mode ≡ WaitStart →
    AreSoft l.controls.rec_thresh xs → loop_heard_over xs reach l ≡ replicate (length xs) silence
soft_heard [] reach l is soft = refl
soft_heard (x ∷ xs) reach l is soft =
    ap₂ (λ s m. s ∷ loop_heard_over xs reach m)
    (ap heard (soft_ready l is x soft.0 reach)
    ∙ ap (λ m. heard_from m (current_list l.stack.layers) l.deck.pos) is)
    (soft_later l is x soft.0 reach)
    ∙ ap (λ rest. silence ∷ rest) (soft_heard xs reach l is soft.1)

no_frames : (xs : List Sound) → length xs ≡ 0 → xs ≡ []
no_frames [] is = refl
no_frames (x ∷ xs) is = absurd (omega (arith, is))

none_over : (xs : List Sound) (reach : ℕ) (l : Loop Sound) → length xs ≡ 0 →
    loop_over xs reach l ≡ l
none_over xs reach l is = ap (λ ys. loop_over ys reach l) (no_frames xs is)

none_heard : (xs : List Sound) (reach : ℕ) (l : Loop Sound) → length xs ≡ 0 →
    loop_heard_over xs reach l ≡ replicate (length xs) silence
none_heard xs reach l is = ap (λ ys. loop_heard_over ys reach l) (no_frames xs is)
    ∙ ap (λ n. replicate n silence) (sym is)

-- a stretch in each mode
over_in : (mode : Mode) (xs : List Sound) (reach : ℕ) (l : Loop Sound) →
    IsStretch mode xs l.controls.rec_thresh l.deck.backward l.deck.pos (length_of l) →
    loop_over xs reach (set_to mode l) ≡ at_place
    (place_behind mode l.deck.backward (length xs) l.deck.pos) (set_to mode l)
over_in Off xs reach l h = off_over xs reach l
over_in Paused xs reach l h = paused_over xs reach l
over_in WaitStart xs reach l h = soft_over xs reach (set_to WaitStart l) refl h
over_in Playing xs reach l h = moving_over Playing xs reach l tt h
over_in Muted xs reach l h = moving_over Muted xs reach l tt h
over_in OneShot xs reach l h = moving_over OneShot xs reach l tt h
over_in Recording xs reach l h = none_over xs reach (set_to Recording l) h
over_in Overdubbing xs reach l h = none_over xs reach (set_to Overdubbing l) h
over_in Multiplying xs reach l h = none_over xs reach (set_to Multiplying l) h
over_in Inserting xs reach l h = none_over xs reach (set_to Inserting l) h
over_in Replacing xs reach l h = none_over xs reach (set_to Replacing l) h
over_in Substituting xs reach l h = none_over xs reach (set_to Substituting l) h

heard_in : (mode : Mode) (xs : List Sound) (reach : ℕ) (l : Loop Sound) →
    IsStretch mode xs l.controls.rec_thresh l.deck.backward l.deck.pos (length_of l) →
    loop_heard_over xs reach (set_to mode l) ≡ part_heard mode l.deck.backward (length xs)
    l.deck.pos (current_list l.stack.layers)
heard_in Off xs reach l h = off_heard xs reach l
heard_in Paused xs reach l h = paused_heard xs reach l
heard_in WaitStart xs reach l h = soft_heard xs reach (set_to WaitStart l) refl h
heard_in Playing xs reach l h = sounding_heard Playing xs reach l tt h (λ x m. refl)
heard_in Muted xs reach l h = muted_heard xs reach l h
heard_in OneShot xs reach l h = sounding_heard OneShot xs reach l tt h (λ x m. refl)
heard_in Recording xs reach l h = none_heard xs reach (set_to Recording l) h
heard_in Overdubbing xs reach l h = none_heard xs reach (set_to Overdubbing l) h
heard_in Multiplying xs reach l h = none_heard xs reach (set_to Multiplying l) h
heard_in Inserting xs reach l h = none_heard xs reach (set_to Inserting l) h
heard_in Replacing xs reach l h = none_heard xs reach (set_to Replacing l) h
heard_in Substituting xs reach l h = none_heard xs reach (set_to Substituting l) h

-- a loop in its own mode
pub set_same : (mode : Mode) (l : Loop Sound) → l.deck.mode ≡ mode → l ≡ set_to mode l
set_same mode l is = ap (λ m. set_to m l) is

stretch_over : (mode : Mode) (xs : List Sound) (reach : ℕ) (l : Loop Sound) → l.deck.mode ≡ mode →
    IsStretch mode xs l.controls.rec_thresh l.deck.backward l.deck.pos (length_of l) →
    loop_over xs reach l ≡ at_place (place_behind mode l.deck.backward (length xs) l.deck.pos) l
stretch_over mode xs reach l is h =
    ap (loop_over xs reach) (set_same mode l is) ∙ over_in mode xs reach l h
    ∙ sym (ap (λ m. at_place (place_behind mode l.deck.backward (length xs) l.deck.pos) m)
    (set_same mode l is))

stretch_heard : (mode : Mode) (xs : List Sound) (reach : ℕ) (l : Loop Sound) → l.deck.mode ≡ mode →
    IsStretch mode xs l.controls.rec_thresh l.deck.backward l.deck.pos (length_of l) →
    loop_heard_over xs reach l ≡ part_heard mode l.deck.backward (length xs) l.deck.pos
    (current_list l.stack.layers)
stretch_heard mode xs reach l is h = ap (loop_heard_over xs reach) (set_same mode l is)
    ∙ heard_in mode xs reach l h

-- a stretch of a strip is one of its loop of frames
stretch_seen : (mode : Mode) (xs : List Sound) (s : Parts) (p : PoolOf) →
    IsStretch mode xs s.controls.rec_thresh s.deck.backward s.deck.pos (length_of (loop_of s)) →
    IsStretch mode xs (seen (strip_of s) p).controls.rec_thresh (seen (strip_of s) p).deck.backward
    (seen (strip_of s) p).deck.pos (length_of (seen (strip_of s) p))
stretch_seen mode xs s p h =
    let l = seen (strip_of s) p
    in let same : length_of (loop_of s) ≡ length_of l =
    sym (length-mapped _ (loop_of s)) ∙ ap length_of (sym (seen-is (strip_of s) p))
    in subst (λ n. IsStretch mode xs l.controls.rec_thresh l.deck.backward l.deck.pos n) same
    (subst (λ (d : Deck). IsStretch mode xs l.controls.rec_thresh d.backward d.pos
    (length_of (loop_of s))) (sym (seen_deck (strip_of s) p))
    (subst (λ (c : Controls). IsStretch mode xs c.rec_thresh s.deck.backward s.deck.pos
    (length_of (loop_of s))) (sym (seen_controls (strip_of s) p)) h))

-- what a stretch does to a strip
pub did_stretched : (mode : Mode) (xs : List Sound) (n : ℕ) (s s' : Parts) (p : PoolOf) →
    Owns (strip_of s) p → s.deck.mode ≡ mode →
    IsStretch mode xs s.controls.rec_thresh s.deck.backward s.deck.pos (length_of (loop_of s)) →
    n ≡ length xs → s'.layers.tape ≡ s.layers.tape → IsShared s'.layers →
    loop_of s' ≡ at_place (place_behind mode s.deck.backward n s.deck.pos) (loop_of s) →
    Did (loop_over xs) (strip_of s) (strip_of s') p p
did_stretched mode xs n s s' p o is h same tape shared done =
    let l = seen (strip_of s) p
    in let place = place_behind mode s.deck.backward (length xs) s.deck.pos
    in let to : loop_of s' ≡ at_place place (loop_of s) =
    done ∙ ap (λ k. at_place (place_behind mode s.deck.backward k s.deck.pos) (loop_of s)) same
    in let deck = seen_deck (strip_of s) p
    in let over : at_place place l ≡ loop_over xs (reach_in (strip_of s) p) l =
    ap (λ (d : Deck). at_place (place_behind mode d.backward (length xs) d.pos) l) (sym deck)
    ∙ sym (stretch_over mode xs (reach_in (strip_of s) p) l (ap (λ (d : Deck). d.mode) deck ∙ is)
    (stretch_seen mode xs s p h))
    in did_also over (did_as (λ reach k. at_place place k) (λ reach k. at_place place k) s s' p o
    tape shared (λ f reach k. refl) to)

-- what is heard of a stretch
pub heard_stretched : (mode : Mode) (xs hs : List Sound) (n : ℕ) (s : Parts) (p : PoolOf) →
    s.deck.mode ≡ mode → IsStretch mode xs s.controls.rec_thresh s.deck.backward s.deck.pos
    (length_of (loop_of s)) → n ≡ length xs →
    hs ≡ part_heard mode s.deck.backward n s.deck.pos
    (current_list (seen_layers s.layers p).layers) →
    hs ≡ loop_heard_over xs (reach_in (strip_of s) p) (seen (strip_of s) p)
heard_stretched mode xs hs n s p is h same sounds =
    let l = seen (strip_of s) p
    in let deck = seen_deck (strip_of s) p
    in sounds
    ∙ ap (λ k. part_heard mode s.deck.backward k s.deck.pos
    (current_list (seen_layers s.layers p).layers)) same
    ∙ ap (λ t. part_heard mode s.deck.backward (length xs) s.deck.pos (current_list t.layers))
    (sym (seen_stack s p))
    ∙ ap (λ (d : Deck). part_heard mode d.backward (length xs) d.pos (current_list l.stack.layers))
    (sym deck)
    ∙ sym (stretch_heard mode xs (reach_in (strip_of s) p) l (ap (λ (d : Deck). d.mode) deck ∙ is)
    (stretch_seen mode xs s p h))

over_keeps : (xs : List Sound) (a : Unchanged) (l : Loop Sound) → KeepsLoop a l →
    KeepsLoop a (loop_over xs a.reach l)
over_keeps [] a l h = h
over_keeps (x ∷ xs) a l h = over_keeps xs a (frame_later x a.reach l) (framed_keeps x h)

-- frames keep the parts whole
pub whole_over : (xs : List Sound) (s s' : Parts) (p p' : PoolOf) → IsWhole s →
    Did (loop_over xs) (strip_of s) (strip_of s') p p' → s'.pinned ≡ s.pinned →
    s'.layers.writing ≡ is_writing s'.deck.mode → IsWhole s'
whole_over xs s s' p p' w d pinned writing =
    whole_did (loop_over xs) s s' p p' (over_keeps xs) w d pinned writing

-- how many frames are taken
pub ahead_taken : (n : ℕ) (xs : List Sound) (backward : Bool) (place len : ℕ) → place < len →
    n ≤ places_ahead backward place len → IsAhead (length (take n xs)) backward place len
ahead_taken n xs backward place len inside few =
    record { inside = inside; ahead = (let less = taken n xs in omega (arith, less, few)) }

-- a moving loop is within its list
pub place_inside : (mode : Mode) (s : Parts) → IsWhole s → s.deck.mode ≡ mode → IsMoving mode →
    s.deck.pos < length_of (loop_of s)
place_inside Playing s w is moving = inside Playing s w is tt tt
place_inside Muted s w is moving = inside Muted s w is tt tt
place_inside OneShot s w is moving = inside OneShot s w is tt tt
place_inside _ s w is moving = absurd moving

-- pos is no further than a list can be
pos_in : (mode : Mode) (layers redo : List (Layer ℕ)) (pos : ℕ) (backward : Bool) →
    InMode mode layers redo pos backward → pos ≤ current_length layers
pos_in Off layers redo pos backward h = let is = h.0.1 in omega (arith, is)
pos_in WaitStart [] redo pos backward h = let is = h.0 in omega (arith, is)
pos_in WaitStart (l ∷ ls) redo pos backward h = let less = h.0.1 in omega (arith, less)
pos_in Recording layers redo pos backward h = let is = h.2 in omega (arith, is)
pos_in Overdubbing layers redo pos backward h = let less = h.2 in omega (arith, less)
pos_in Replacing layers redo pos backward h = let less = h.2 in omega (arith, less)
pos_in Substituting layers redo pos backward h = let less = h.2 in omega (arith, less)
pos_in Inserting layers redo pos backward h = let less = h.0.2 in omega (arith, less)
pos_in Multiplying layers redo pos backward h = h.2
pos_in Playing layers redo pos backward h = let less = h.0.1 in omega (arith, less)
pos_in Muted layers redo pos backward h = let less = h.0.1 in omega (arith, less)
pos_in OneShot layers redo pos backward h = let less = h.0.1 in omega (arith, less)
pos_in Paused layers redo pos backward h = let less = h.0.1 in omega (arith, less)

-- a place is within bounds
pub pos_short : (s : Parts) → IsWhole s → s.deck.pos ≤ max_list_frames
pos_short s w = list_short s w
    (pos_in s.deck.mode s.layers.stack.layers s.layers.stack.redo s.deck.pos s.deck.backward
    w.loop.in_mode)

-- the first of a list are few
pub few_taken : (n m : ℕ) (xs : List Sound) → n ≤ m → length (take n xs) ≤ m
few_taken n m xs few = let less = taken n xs in omega (arith, less, few)

-- and as many as asked
pub long_taken : (n : ℕ) (xs : List Sound) → n ≤ length xs → length (take n xs) ≡ n
long_taken n xs le = length-take-le n xs le

pub ruleset stretching = (
  ahead_taken,
  place_inside,
  pos_short,
  few_taken,
  long_taken,
  did_stretched,
  heard_stretched,
  whole_over,
  did_one,
  heard_one,
  take_part,
)
