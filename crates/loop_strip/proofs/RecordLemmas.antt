-- A recording is what was played.
use Rattle.std.proofs.Common.{◌≡◌, ℕ, zero, suc, ◌+◌, ◌-◌, ◌%◌, ◌≤◌, ◌<◌, Bool, true, false, not, ◌||◌, ◌&&◌, List, [], ◌∷◌, ◌++◌, length, None, is_some, refl, sym, ap, subst, ◌∙◌, cond, arith, nat_le, nat_lt, append-nil, append_assoc}
use Rattle.std.specs.Prelude.{◌==◌}
use Rattle.std.proofs.lemmas.Bool.{le-leb, lt-ltb, ltb-false, ne_eqb}
use Rattle.std.proofs.lemmas.List.{length-map, length-append}
use Rattle.sl_base.specs.Limits.{chunk_frames, max_list_frames, max_layers, max_seams}
use Rattle.sl_base.specs.Sounds.{Sound}
use Rattle.sl_commands.specs.declared.How.TheVariants.{Append}
use Rattle.sl_commands.specs.declared.Verb.TheVariants.{Rec}
use Rattle.sl_commands.specs.declared.Mode.TheVariants.{Off, WaitStart, Recording}
use Rattle.sl_commands.specs.declared.Started.TheVariants.{Ok}
use Rattle.looper_rules.specs.Layers.{Cell, Layer, fresh_cell, content_of, contents, total_seams, with_current, current_cells, current_list, current_length}
use Rattle.looper_rules.specs.Room.{chunks_of, has_room}
use Rattle.looper_rules.specs.Opening.{opening_tape, empty_layer, opening}
use Rattle.looper_rules.specs.Writing.{with_written, newly_written}
use Rattle.looper_rules.specs.Loop.{Controls, Loop, length_of, at_place, with_stack}
use Rattle.looper_rules.specs.Closing.{closed_recording, closed, finished_layer}
use Rattle.looper_rules.specs.Starting.{records}
use Rattle.looper_rules.specs.LoopFrame.{fits, writes, frame_later}
use Rattle.looper_rules.specs.LoopSpans.{loop_over}
use Rattle.looper_rules.specs.Verbs.{acts}
use Rattle.looper_rules.specs.Presses.{given_at_once, given}
use Rattle.looper_laws.proofs.Kept.Layers.{contents-old_cells, total_seams-cons}
use Rattle.looper_laws.proofs.Kept.Opening.{not_refused}
use Rattle.looper_laws.proofs.Kept.Verbs.{set_to}
use Rattle.loop_tape.specs.Pools.{PoolOf}
use Rattle.loop_strip.specs.Strips.{StripOf, seen, reach_in, Did}
use Rattle.loop_strip.specs.Laws.{IsRecording}
use Rattle.loop_strip.proofs.DidLemmas.{did_then}

-- a recording of these frames, on a tape that began at this length
record IsRecorded (ys : List Sound) (start : ℕ) (controls : Controls)
    (l : Loop Sound) : Type 0 where
  mode : l.deck.mode ≡ Recording
  list : current_list l.stack.layers ≡ ys
  tape : l.stack.tape ≡ start + length ys
  some : 1 ≤ length l.stack.layers
  seams : (is_some l.stack.streak || nat_le (total_seams l.stack.layers) (max_seams - 2)) ≡ true
  same : l.controls ≡ controls

-- there is room for one more
pub room_for : (reach tape : ℕ) → chunks_of (tape + 1) ≤ reach → has_room reach tape ≡ true
room_for reach tape fits = room_by (tape % chunk_frames) refl
  where
    room_by : (part : ℕ) → tape % chunk_frames ≡ part → has_room reach tape ≡ true
    room_by zero is =
        ap (λ n. not (n == 0) || nat_lt (chunks_of tape) reach) is
        ∙ lt-ltb (chunks_of tape) reach (omega (arith, is, fits))
    room_by (suc n) is =
        ap (λ m. not (m == 0) || nat_lt (chunks_of tape) reach) is
        ∙ ap (λ b. not b || nat_lt (chunks_of tape) reach)
        (ne_eqb (suc n) 0 (λ no. omega (arith, no)))

-- three that are true
pub and_three : (a b c : Bool) → a ≡ true → b ≡ true → c ≡ true → (a && b && c) ≡ true
and_three true true true x y z = refl
and_three false b c x y z = let no : ⊥ = cc in absurd no
and_three true false c x y z = let no : ⊥ = cc in absurd no
and_three true true false x y z = let no : ⊥ = cc in absurd no

length_listed : (layers : List (Layer Sound)) (ys : List Sound) → current_list layers ≡ ys →
    current_length layers ≡ length ys
length_listed layers ys is = sym (length-map (current_cells layers) content_of) ∙ ap length is

-- the list with one frame more
list_more : (place seams : ℕ) (x : Sound) (layers : List (Layer Sound)) → 1 ≤ length layers →
    current_list (with_current (with_written Append place x seams) layers) ≡ current_list layers
    ++ x ∷ []
list_more place seams x [] some = absurd (omega (arith, some))
list_more place seams x (l ∷ ls) some = contents_more l.cells
  where
    contents_more : (cells : List (Cell Sound)) →
        contents (cells ++ fresh_cell x ∷ []) ≡ contents cells ++ x ∷ []
    contents_more [] = refl
    contents_more (c ∷ cs) = ap (λ zs. c.content ∷ zs) (contents_more cs)

count_more : (place seams : ℕ) (x : Sound) (layers : List (Layer Sound)) →
    length (with_current (with_written Append place x seams) layers) ≡ length layers
count_more place seams x [] = refl
count_more place seams x (l ∷ ls) = refl

-- one frame more
recorded_more : (ys : List Sound) (x : Sound) (start reach : ℕ) (controls : Controls)
    (l : Loop Sound) → IsRecorded ys start controls (set_to Recording l) →
    chunks_of (start + length ys + 1) ≤ reach → length ys < max_list_frames →
    IsRecorded (ys ++ x ∷ []) start controls (frame_later x reach (set_to Recording l))
recorded_more ys x start reach controls l h room short =
    let l0 : Loop Sound = set_to Recording l
    in let k : Loop Sound = with_stack (newly_written Append l.deck.pos x l.stack) l0
    in let tape = h.tape
    in let long = length_listed l.stack.layers ys h.list
    in let fit : fits reach l0 ≡ true =
    and_three (has_room reach l.stack.tape)
    (is_some l.stack.streak || nat_le (total_seams l.stack.layers) (max_seams - 2))
    (nat_lt (current_length l.stack.layers) max_list_frames)
    (room_for reach l.stack.tape (subst (λ n. chunks_of (n + 1) ≤ reach) (sym tape) room)) h.seams
    (lt-ltb (current_length l.stack.layers) max_list_frames (omega (arith, long, short)))
    in let later : frame_later x reach l0 ≡ at_place (length_of k) k = ap (λ b. writes b x l0) fit
    in let more : length (ys ++ x ∷ []) ≡ length ys + 1 = length-append ys (x ∷ [])
    in subst (λ (m : Loop Sound). IsRecorded (ys ++ x ∷ []) start controls m) (sym later) (record {
      mode = refl;
      list = list_more l.deck.pos _ x l.stack.layers h.some ∙ ap (λ zs. zs ++ x ∷ []) h.list;
      tape = omega (arith, tape, more);
      some = let same =
          count_more l.deck.pos (cond (is_some l.stack.streak) 0 2) x l.stack.layers in
          let some = h.some in omega (arith, same, some);
      seams = refl;
      same = h.same;
    })

to_recording : (l : Loop Sound) → l.deck.mode ≡ Recording → l ≡ set_to Recording l
to_recording l is = ap (λ m. set_to m l) is

recorded_over : (xs ys : List Sound) (start reach : ℕ) (controls : Controls) (l : Loop Sound) →
    IsRecorded ys start controls l → chunks_of (start + (length ys + length xs)) ≤ reach →
    length ys + length xs ≤ max_list_frames →
    IsRecorded (ys ++ xs) start controls (loop_over xs reach l)
recorded_over [] ys start reach controls l h room short =
    subst (λ zs. IsRecorded zs start controls l) (sym (append-nil ys)) h
recorded_over (x ∷ xs) ys start reach controls l h room short =
    let l0 : Loop Sound = set_to Recording l
    in let is = to_recording l h.mode
    in let more : length (ys ++ x ∷ []) ≡ length ys + 1 = length-append ys (x ∷ [])
    in let one : chunks_of (start + length ys + 1) ≤ reach = omega (arith, room)
    in let next = recorded_more ys x start reach controls l
    (subst (λ (m : Loop Sound). IsRecorded ys start controls m) is h) one (omega (arith, short))
    in let there = recorded_over xs (ys ++ x ∷ []) start reach controls (frame_later x reach l0)
    next (omega (arith, room, more)) (omega (arith, short, more))
    in subst (λ (m : Loop Sound). IsRecorded (ys ++ x ∷ xs) start controls
    (loop_over xs reach (frame_later x reach m))) (sym is)
    (subst (λ zs. IsRecorded zs start controls (loop_over xs reach (frame_later x reach l0)))
    (append_assoc ys (x ∷ []) xs) there)

-- as it opens
opens_recording : (reach : ℕ) (l : Loop Sound) → opening reach true l.stack ≡ Ok →
    IsRecorded [] (opening_tape l.stack) l.controls (records Ok l)
opens_recording reach l granted =
    let refused = not_refused (nat_le max_layers (length l.stack.layers))
    (nat_lt (max_seams - 2) (total_seams l.stack.layers + 0))
    (has_room reach (opening_tape l.stack)) granted
    in let few : total_seams l.stack.layers + 0 ≤ max_seams - 2 =
    ltb-false (max_seams - 2) (total_seams l.stack.layers + 0) refused.1
    in let total : total_seams (records Ok l).stack.layers ≡ 0 + total_seams l.stack.layers =
    total_seams-cons (empty_layer (opening_tape l.stack)) l.stack.layers
    in record {
      mode = refl;
      list = refl;
      tape = omega arith;
      some = omega arith;
      seams = le-leb (total_seams (records Ok l).stack.layers) (max_seams - 2)
          (omega (arith, few, total));
      same = refl;
    }

-- as it closes
pub finished_list : (tape : ℕ) (layers : List (Layer Sound)) →
    current_list (with_current (finished_layer None tape) layers) ≡ current_list layers
finished_list tape [] = refl
finished_list tape (l ∷ ls) = contents-old_cells (contents l.cells)

closes_recording : (xs : List Sound) (start : ℕ) (controls : Controls) (l : Loop Sound) →
    IsRecorded xs start controls (set_to Recording l) → 1 ≤ length xs →
    IsRecording xs (closed (set_to Recording l))
closes_recording xs start controls l h some =
    let long = length_listed l.stack.layers xs h.list
    in let not_empty : (length_of (set_to Recording l) == 0) ≡ false =
    ne_eqb (current_length l.stack.layers) 0 (λ none. omega (arith, long, some, none))
    in subst (λ b. IsRecording xs
    (closed_recording b (nat_le (length l.stack.layers) 1) (set_to Recording l))) (sym not_empty)
    (record {
      list = finished_list l.stack.tape l.stack.layers ∙ h.list;
      mode = refl;
      pos = refl;
    })

-- `record` acts at once
records_now : (reach : ℕ) (l : Loop Sound) → l.deck.mode ≡ Off → l.controls.quantize ≡ 0 →
    l.controls.rec_thresh ≡ 0 → opening reach true l.stack ≡ Ok → given Rec reach l ≡ records Ok l
records_now reach l off now unheard granted =
    ap (λ n. given_at_once (n == 0 || false) Rec reach l) now
    ∙ ap (λ m. acts Rec reach (set_to m l)) off
    ∙ ap (λ n. cond (nat_lt 0 n) (set_to WaitStart l)
    (records (opening reach true l.stack) (set_to Off l))) unheard
    ∙ ap (λ a. records a (set_to Off l)) granted

recording_closes : (reach : ℕ) (l : Loop Sound) → l.deck.mode ≡ Recording →
    l.controls.quantize ≡ 0 → given Rec reach l ≡ closed (set_to Recording l)
recording_closes reach l is now = ap (λ n. given_at_once (n == 0 || false) Rec reach l) now
    ∙ ap (λ m. acts Rec reach (set_to m l)) is

recording_made : (xs : List Sound) (reach : ℕ) (l : Loop Sound) → l.deck.mode ≡ Off →
    l.controls.quantize ≡ 0 → l.controls.rec_thresh ≡ 0 → opening reach true l.stack ≡ Ok →
    1 ≤ length xs → length xs ≤ max_list_frames →
    chunks_of (opening_tape l.stack + length xs) ≤ reach →
    IsRecording xs (given Rec reach (loop_over xs reach (given Rec reach l)))
recording_made xs reach l off now unheard granted some short room =
    let first = records_now reach l off now unheard granted
    in let m : Loop Sound = loop_over xs reach (records Ok l)
    in let there : IsRecorded xs (opening_tape l.stack) l.controls m =
    recorded_over xs [] (opening_tape l.stack) reach l.controls (records Ok l)
    (opens_recording reach l granted) (omega (arith, room)) (omega (arith, short))
    in let now_there : m.controls.quantize ≡ 0 = ap (λ (c : Controls). c.quantize) there.same ∙ now
    in subst (λ (k : Loop Sound). IsRecording xs (given Rec reach (loop_over xs reach k)))
    (sym first)
    (subst (λ (k : Loop Sound). IsRecording xs k)
    (sym (recording_closes reach m there.mode now_there))
    (closes_recording xs (opening_tape l.stack) l.controls m
    (subst (λ (k : Loop Sound). IsRecorded xs (opening_tape l.stack) l.controls k)
    (to_recording m there.mode) there) some))

-- what the calls leave is the recording
pub strip_records : (xs : List Sound) (s s1 s2 s3 : StripOf) (p p1 p2 p3 : PoolOf) →
    Did (given Rec) s s1 p p1 → Did (loop_over xs) s1 s2 p1 p2 → Did (given Rec) s2 s3 p2 p3 →
    (seen s p).deck.mode ≡ Off → (seen s p).controls.quantize ≡ 0 →
    (seen s p).controls.rec_thresh ≡ 0 → opening (reach_in s p) true (seen s p).stack ≡ Ok →
    1 ≤ length xs → length xs ≤ max_list_frames →
    chunks_of (opening_tape (seen s p).stack + length xs) ≤ reach_in s p →
    IsRecording xs (seen s3 p3)
strip_records xs s s1 s2 s3 p p1 p2 p3 a b c off now unheard granted some short room =
    let all = did_then (did_then a b) c
    in subst (λ (k : Loop Sound). IsRecording xs k) (sym all.seen)
    (recording_made xs (reach_in s p) (seen s p) off now unheard granted some short room)
