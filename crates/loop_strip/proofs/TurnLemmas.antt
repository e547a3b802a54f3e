-- One turn of an overdub.
use Rattle.std.proofs.Common.{◌≡◌, ℕ, suc, ◌+◌, ◌-◌, ◌≤◌, true, false, ◌||◌, ◌&&◌, List, [], ◌∷◌, ◌++◌, length, map, is_some, refl, sym, ap, ap₂, subst, ◌∙◌, cond, arith, nat_le, nat_lt, append_assoc, append-nil}
use Rattle.std.specs.Prelude.{slice_get, slice_set}
use Rattle.std.proofs.lemmas.Bool.{le-leb, ltb-false, eq-eqb}
use Rattle.std.proofs.lemmas.List.{length-map, length-append}
use Rattle.sl_base.specs.Limits.{max_layers, max_seams}
use Rattle.sl_base.specs.Sounds.{Sound, summed, clamped_sound, scaled_sound}
use Rattle.sl_commands.specs.declared.How.TheVariants.{Forward, Backward}
use Rattle.sl_commands.specs.declared.Verb.TheVariants.{Overdub}
use Rattle.sl_commands.specs.declared.Mode.TheVariants.{Overdubbing}
use Rattle.sl_commands.specs.declared.Started.TheVariants.{Ok}
use Rattle.looper_rules.specs.Layers.{Cell, Layer, content_of, fresh_cell, old_cell, old_cells, is_fresh, contents, total_seams, with_current, current_cells, current_list, current_length, current_seams}
use Rattle.looper_rules.specs.Room.{chunks_of, has_room}
use Rattle.looper_rules.specs.Opening.{opening_tape, new_layer, opening}
use Rattle.looper_rules.specs.Writing.{overwrites, new_cell_fits, with_written, rewritten, newly_written, written}
use Rattle.looper_rules.specs.Loop.{Controls, Loop, length_of, with_stack}
use Rattle.looper_rules.specs.Closing.{closed}
use Rattle.looper_rules.specs.Starting.{layers_on}
use Rattle.looper_rules.specs.LoopFrame.{ready, heard, fits, with_input, sound_at, wraps, wrapped_place, next_place, goes_on, writes, frame_later}
use Rattle.looper_rules.specs.LoopSpans.{loop_over, loop_heard_over}
use Rattle.looper_rules.specs.Verbs.{acts}
use Rattle.looper_rules.specs.Presses.{given}
use Rattle.looper_laws.proofs.Kept.Layers.{contents-old_cells, total_seams-cons}
use Rattle.looper_laws.proofs.Kept.Opening.{not_refused}
use Rattle.looper_laws.proofs.Kept.Verbs.{set_to}
use Rattle.loop_tape.specs.Pools.{PoolOf}
use Rattle.loop_strip.specs.Strips.{StripOf, seen, reach_in, Did}
use Rattle.loop_strip.specs.Moving.{IsAtRest}
use Rattle.loop_strip.specs.Laws.{overdubbed, IsRecording}
use Rattle.loop_strip.proofs.DidLemmas.{did_then}
use Rattle.loop_strip.proofs.StretchLemmas.{not_same}
use Rattle.loop_strip.proofs.RecordLemmas.{room_for, and_three, finished_list}
use Rattle.loop_strip.proofs.LawLemmas.{given_now, overdub_opens}

-- cells of which the first ones were written
abbrev pub cells_of : List Sound → List Sound → List (Cell Sound)
cells_of done back = map fresh_cell done ++ old_cells back

cells_list : (done back : List Sound) → contents (cells_of done back) ≡ done ++ back
cells_list [] back = contents-old_cells back
cells_list (d ∷ ds) back = ap (λ zs. d ∷ zs) (cells_list ds back)

cells_length : (done back : List Sound) → length (cells_of done back) ≡ length done + length back
cells_length done back =
    let a = length-append (map fresh_cell done) (old_cells back)
    in let b = length-map done fresh_cell
    in let c = length-map back old_cell
    in omega (arith, a, b, c)

cell_there : (done : List Sound) (o : Sound) (os : List Sound) →
    is_fresh (slice_get (cells_of done (o ∷ os)) (length done)) ≡ false
cell_there [] o os = refl
cell_there (d ∷ ds) o os = cell_there ds o os

sound_there : (done : List Sound) (o : Sound) (os : List Sound) →
    sound_at (done ++ o ∷ os) (length done) ≡ o
sound_there [] o os = refl
sound_there (d ∷ ds) o os = sound_there ds o os

cells_set : (done : List Sound) (o v : Sound) (os : List Sound) →
    slice_set (cells_of done (o ∷ os)) (length done) (fresh_cell v) ≡ cells_of (done ++ v ∷ []) os
cells_set [] o v os = refl
cells_set (d ∷ ds) o v os = ap (λ cs. fresh_cell d ∷ cs) (cells_set ds o v os)

-- an overdub of which so much is done, on a tape that began at this length
record IsUnderway (done back : List Sound) (start : ℕ) (controls : Controls)
    (l : Loop Sound) : Type 0 where
  mode : l.deck.mode ≡ Overdubbing
  forward : l.deck.backward ≡ false
  cells : current_cells l.stack.layers ≡ cells_of done back
  pos : l.deck.pos ≡ length done
  tape : l.stack.tape ≡ start + length done
  some : 1 ≤ length l.stack.layers
  seams : (is_some l.stack.streak || nat_le (total_seams l.stack.layers) (max_seams - 2)) ≡ true
  same : l.controls ≡ controls

-- a whole turn of it
record IsTurned (list : List Sound) (controls : Controls) (l : Loop Sound) : Type 0 where
  mode : l.deck.mode ≡ Overdubbing
  list_is : current_list l.stack.layers ≡ list
  pos : l.deck.pos ≡ 0
  same : l.controls ≡ controls

cells_written : (place seams : ℕ) (v : Sound) (layers : List (Layer Sound)) → 1 ≤ length layers →
    current_cells (with_current (with_written Forward place v seams) layers) ≡ slice_set
    (current_cells layers) place (fresh_cell v)
cells_written place seams v [] some = absurd (omega (arith, some))
cells_written place seams v (l ∷ ls) some = refl

count_written : (place seams : ℕ) (v : Sound) (layers : List (Layer Sound)) →
    length (with_current (with_written Forward place v seams) layers) ≡ length layers
count_written place seams v [] = refl
count_written place seams v (l ∷ ls) = refl

-- the new frame
abbrev pub mixed_on : ℕ → Sound → Sound → Sound
mixed_on feedback o x = clamped_sound (summed (scaled_sound o feedback) x)

-- the loop with it
abbrev pub frame_on : Sound → Loop Sound → Loop Sound
frame_on v l = with_stack (newly_written Forward l.deck.pos v l.stack) l

module _ (done : List Sound) (o : Sound) (os : List Sound) (x : Sound) (start reach : ℕ)
    (controls : Controls) (l : Loop Sound)
    (h : IsUnderway done (o ∷ os) start controls (set_to Overdubbing l)) where
  place_sound : sound_at (current_list l.stack.layers) l.deck.pos ≡ o
  place_sound =
      ap₂ (λ cs p. sound_at (contents cs) p) h.cells h.pos
      ∙ ap (λ zs. sound_at zs (length done)) (cells_list done (o ∷ os)) ∙ sound_there done o os

  place_stale : is_fresh (slice_get (current_cells l.stack.layers) l.deck.pos) ≡ false
  place_stale = ap₂ (λ cs p. is_fresh (slice_get cs p)) h.cells h.pos ∙ cell_there done o os

  -- what is written
  with_it : with_input x (set_to Overdubbing l) ≡ newly_written Forward l.deck.pos
      (mixed_on controls.feedback o x) l.stack
  with_it =
      ap (λ b. written (cond b Backward Forward) l.deck.pos
      (mixed_on l.controls.feedback (sound_at (current_list l.stack.layers) l.deck.pos) x)
      l.stack) h.forward
      ∙ ap (λ b. cond b (rewritten Forward l.deck.pos
      (mixed_on l.controls.feedback (sound_at (current_list l.stack.layers) l.deck.pos) x)
      l.stack) (newly_written Forward l.deck.pos
      (mixed_on l.controls.feedback (sound_at (current_list l.stack.layers) l.deck.pos) x)
      l.stack)) place_stale
      ∙ ap₂ (λ (c : Controls) s. newly_written Forward l.deck.pos (mixed_on c.feedback s x) l.stack)
      h.same place_sound

  it_fits : chunks_of (start + length done + 1) ≤ reach → fits reach (set_to Overdubbing l) ≡ true
  it_fits room =
      ap (λ b. (overwrites (cond b Backward Forward)
      && is_fresh (slice_get (current_cells l.stack.layers) l.deck.pos))
      || new_cell_fits reach (cond b Backward Forward) l.stack) h.forward
      ∙ ap (λ b. b || new_cell_fits reach Forward l.stack) place_stale
      ∙ and_three (has_room reach l.stack.tape)
      (is_some l.stack.streak || nat_le (total_seams l.stack.layers) (max_seams - 2)) true
      (room_for reach l.stack.tape (subst (λ n. chunks_of (n + 1) ≤ reach) (sym h.tape) room))
      h.seams refl

  it_goes : chunks_of (start + length done + 1) ≤ reach →
      frame_later x reach (set_to Overdubbing l) ≡
      (let k : Loop Sound = frame_on (mixed_on controls.feedback o x) (set_to Overdubbing l) in
      goes_on (wraps l.deck.backward l.deck.pos (length_of k)) k)
  it_goes room =
      ap (λ b. writes b x (set_to Overdubbing l)) (it_fits room)
      ∙ ap (λ s. let k : Loop Sound = with_stack s (set_to Overdubbing l) in
      goes_on (wraps l.deck.backward l.deck.pos (length_of k)) k) with_it

  it_sounds : heard (ready x reach (set_to Overdubbing l)) ≡ o
  it_sounds = place_sound

  cells_then : current_cells (newly_written Forward l.deck.pos (mixed_on controls.feedback o x)
      l.stack).layers ≡ cells_of (done ++ mixed_on controls.feedback o x ∷ []) os
  cells_then =
      cells_written l.deck.pos (cond (is_some l.stack.streak) 0 2) (mixed_on controls.feedback o x)
      l.stack.layers h.some
      ∙ ap₂ (λ cs p. slice_set cs p (fresh_cell (mixed_on controls.feedback o x))) h.cells h.pos
      ∙ cells_set done o (mixed_on controls.feedback o x) os

  long_then : length
      (current_cells (newly_written Forward l.deck.pos (mixed_on controls.feedback o x)
      l.stack).layers) ≡ length done + 1 + length os
  long_then =
      let a = ap length cells_then
      in let b = cells_length (done ++ mixed_on controls.feedback o x ∷ []) os
      in let c = length-append done (mixed_on controls.feedback o x ∷ [])
      in omega (arith, a, b, c)

-- a frame that isn't the last of the turn
underway_more : (done : List Sound) (o : Sound) (os : List Sound) (x : Sound) (start reach : ℕ)
    (controls : Controls) (l : Loop Sound) → IsUnderway done (o ∷ os) start controls
    (set_to Overdubbing l) → chunks_of (start + length done + 1) ≤ reach → 1 ≤ length os →
    IsUnderway (done ++ mixed_on controls.feedback o x ∷ []) os start controls
    (frame_later x reach (set_to Overdubbing l))
underway_more done o os x start reach controls l h room more =
    let v = mixed_on controls.feedback o x
    in let k : Loop Sound = frame_on v (set_to Overdubbing l)
    in let long = long_then done o os x start reach controls l h
    in let pos = h.pos
    in let on : wraps l.deck.backward l.deck.pos (length_of k) ≡ false =
    ap (λ b. wraps b l.deck.pos (length_of k)) h.forward
    ∙ not_same (l.deck.pos + 1) (length_of k) (omega (arith, long, pos, more))
    in let count = length-append done (v ∷ [])
    in let tape = h.tape
    in subst (λ (m : Loop Sound). IsUnderway (done ++ v ∷ []) os start controls m)
    (sym (it_goes done o os x start reach controls l h room))
    (subst (λ b. IsUnderway (done ++ v ∷ []) os start controls (goes_on b k)) (sym on) (record {
      mode = refl;
      forward = h.forward;
      cells = cells_then done o os x start reach controls l h;
      pos = ap (λ b. next_place b l.deck.pos) h.forward ∙ omega (arith, pos, count);
      tape = omega (arith, tape, count);
      some = let same = count_written l.deck.pos (cond (is_some l.stack.streak) 0 2) v
          l.stack.layers in let some = h.some in omega (arith, same, some);
      seams = refl;
      same = h.same;
    }))

-- the last one
turn_ends : (done : List Sound) (o x : Sound) (start reach : ℕ) (controls : Controls)
    (l : Loop Sound) → IsUnderway done (o ∷ []) start controls (set_to Overdubbing l) →
    chunks_of (start + length done + 1) ≤ reach →
    IsTurned (done ++ mixed_on controls.feedback o x ∷ []) controls
    (frame_later x reach (set_to Overdubbing l))
turn_ends done o x start reach controls l h room =
    let v = mixed_on controls.feedback o x
    in let k : Loop Sound = frame_on v (set_to Overdubbing l)
    in let long = long_then done o [] x start reach controls l h
    in let pos = h.pos
    in let round : wraps l.deck.backward l.deck.pos (length_of k) ≡ true =
    ap (λ b. wraps b l.deck.pos (length_of k)) h.forward
    ∙ eq-eqb (l.deck.pos + 1) (length_of k) (omega (arith, long, pos))
    in subst (λ (m : Loop Sound). IsTurned (done ++ v ∷ []) controls m)
    (sym (it_goes done o [] x start reach controls l h room))
    (subst (λ b. IsTurned (done ++ v ∷ []) controls (goes_on b k)) (sym round) (record {
      mode = refl;
      list_is = ap contents (cells_then done o [] x start reach controls l h)
          ∙ cells_list (done ++ v ∷ []) [] ∙ append-nil (done ++ v ∷ []);
      pos = ap (λ b. wrapped_place b (length_of k)) h.forward;
      same = h.same;
    }))

to_overdub : (l : Loop Sound) → l.deck.mode ≡ Overdubbing → l ≡ set_to Overdubbing l
to_overdub l is = ap (λ m. set_to m l) is

-- a turn gives the mixed list, and what is heard is the old one
record IsTurn (list old : List Sound) (controls : Controls) (xs : List Sound) (reach : ℕ)
    (l : Loop Sound) : Type 0 where
  turned : IsTurned list controls (loop_over xs reach l)
  heard_is : loop_heard_over xs reach l ≡ old

turn_over : (done : List Sound) (o : Sound) (os : List Sound) (x : Sound) (xs : List Sound)
    (start reach : ℕ) (controls : Controls) (l : Loop Sound) →
    IsUnderway done (o ∷ os) start controls l → length xs ≡ length os →
    chunks_of (start + (length done + 1 + length xs)) ≤ reach →
    IsTurn (done ++ overdubbed controls.feedback (o ∷ os) (x ∷ xs)) (o ∷ os) controls (x ∷ xs) reach
    l
turn_over done o [] x [] start reach controls l h same room =
    let is = to_overdub l h.mode
    in let h0 = subst (λ (m : Loop Sound). IsUnderway done (o ∷ []) start controls m) is h
    in subst (λ (m : Loop Sound). IsTurn (done ++ overdubbed controls.feedback (o ∷ []) (x ∷ []))
    (o ∷ []) controls (x ∷ []) reach m) (sym is) (record {
      turned = turn_ends done o x start reach controls l h0 (omega (arith, room));
      heard_is = ap (λ s. s ∷ []) (it_sounds done o [] x start reach controls l h0);
    })
turn_over done o [] x (y ∷ ys) start reach controls l h same room = absurd (omega (arith, same))
turn_over done o (p ∷ ps) x [] start reach controls l h same room = absurd (omega (arith, same))
turn_over done o (p ∷ ps) x (y ∷ ys) start reach controls l h same room =
    let is = to_overdub l h.mode
    in let l0 : Loop Sound = set_to Overdubbing l
    in let h0 = subst (λ (m : Loop Sound). IsUnderway done (o ∷ p ∷ ps) start controls m) is h
    in let v = mixed_on controls.feedback o x
    in let count = length-append done (v ∷ [])
    in let next = underway_more done o (p ∷ ps) x start reach controls l h0
    (chunks_less (start + length done + 1) (start + (length done + 1 + suc (length ys))) reach
    (omega arith) room) (omega arith)
    in let rest = turn_over (done ++ v ∷ []) p ps y ys start reach controls (frame_later x reach l0)
    next (omega (arith, same)) (chunks_less (start + (length (done ++ v ∷ []) + 1 + length ys))
    (start + (length done + 1 + suc (length ys))) reach (omega (arith, count)) room)
    in let list = append_assoc done (v ∷ []) (overdubbed controls.feedback (p ∷ ps) (y ∷ ys))
    in subst (λ (m : Loop Sound).
    IsTurn (done ++ overdubbed controls.feedback (o ∷ p ∷ ps) (x ∷ y ∷ ys)) (o ∷ p ∷ ps) controls
    (x ∷ y ∷ ys) reach m) (sym is) (record {
      turned = subst (λ zs. IsTurned zs controls
          (loop_over (y ∷ ys) reach (frame_later x reach l0))) list rest.turned;
      heard_is = ap₂ (λ s zs. s ∷ zs) (it_sounds done o (p ∷ ps) x start reach controls l h0)
          rest.heard_is;
    })
  where
    chunks_less : (n m reach : ℕ) → n ≤ m → chunks_of m ≤ reach → chunks_of n ≤ reach
    chunks_less n m reach less within = omega (arith, less, within)

-- as it opens
new_cells : (tape : ℕ) (layers : List (Layer Sound)) →
    (new_layer false tape layers).cells ≡ old_cells (current_list layers)
new_cells tape [] = refl
new_cells tape (l ∷ ls) = refl

new_seams : (tape : ℕ) (layers : List (Layer Sound)) →
    (new_layer false tape layers).seams ≡ current_seams layers
new_seams tape [] = refl
new_seams tape (l ∷ ls) = refl

opens_over : (o : Sound) (os : List Sound) (reach : ℕ) (l : Loop Sound) → l.deck.backward ≡ false →
    l.deck.pos ≡ 0 → current_list l.stack.layers ≡ o ∷ os → opening reach false l.stack ≡ Ok →
    IsUnderway [] (o ∷ os) (opening_tape l.stack) l.controls (layers_on Ok Overdubbing l)
opens_over o os reach l forward pos list granted =
    let layers = l.stack.layers
    in let top = new_layer false (opening_tape l.stack) layers
    in let refused = not_refused (nat_le max_layers (length layers))
    (nat_lt (max_seams - 2) (total_seams layers + current_seams layers))
    (has_room reach (opening_tape l.stack)) granted
    in let few : total_seams layers + current_seams layers ≤ max_seams - 2 =
    ltb-false (max_seams - 2) (total_seams layers + current_seams layers) refused.1
    in let own = new_seams (opening_tape l.stack) layers
    in let total : total_seams (layers_on Ok Overdubbing l).stack.layers ≡ top.seams
    + total_seams layers = total_seams-cons top layers
    in record {
      mode = refl;
      forward = forward;
      cells = new_cells (opening_tape l.stack) layers ∙ ap old_cells list;
      pos = pos;
      tape = omega arith;
      some = omega arith;
      seams = le-leb (total_seams (layers_on Ok Overdubbing l).stack.layers) (max_seams - 2)
          (omega (arith, few, own, total));
      same = refl;
    }

-- as it closes
overdub_closes : (reach : ℕ) (l : Loop Sound) → l.deck.mode ≡ Overdubbing →
    l.controls.quantize ≡ 0 → given Overdub reach l ≡ closed (set_to Overdubbing l)
overdub_closes reach l is now = given_now l reach now ∙ ap (λ m. acts Overdub reach (set_to m l)) is

closes_turn : (list : List Sound) (controls : Controls) (l : Loop Sound) →
    IsTurned list controls l → IsRecording list (closed (set_to Overdubbing l))
closes_turn list controls l h =
    record {
      list = finished_list l.stack.tape l.stack.layers ∙ h.list_is;
      mode = refl;
      pos =
          h.pos;
    }

-- a whole turn, opened and closed
record IsTurnOf (xs : List Sound) (reach : ℕ) (l : Loop Sound) : Type 0 where
  made : IsRecording (overdubbed l.controls.feedback (current_list l.stack.layers) xs)
      (given Overdub reach (loop_over xs reach (given Overdub reach l)))
  heard_is : loop_heard_over xs reach (given Overdub reach l) ≡ current_list l.stack.layers

turn_made : (old xs : List Sound) (reach : ℕ) (l : Loop Sound) → current_list l.stack.layers ≡ old →
    l.controls.quantize ≡ 0 → IsAtRest l.deck.mode → l.deck.backward ≡ false → l.deck.pos ≡ 0 →
    opening reach false l.stack ≡ Ok →
    length xs ≡ length old → 1 ≤ length xs → chunks_of (opening_tape l.stack + length xs) ≤ reach →
    IsTurnOf xs reach l
turn_made [] xs reach l list now rests forward pos granted same some room =
    absurd (omega (arith, same, some))
turn_made (o ∷ os) [] reach l list now rests forward pos granted same some room =
    absurd (omega (arith, some))
turn_made (o ∷ os) (x ∷ xs) reach l list now rests forward pos granted same some room =
    let first : given Overdub reach l ≡ layers_on Ok Overdubbing l =
    given_now l reach now ∙ overdub_opens l reach rests granted
    in let turn = turn_over [] o os x xs (opening_tape l.stack) reach l.controls
    (layers_on Ok Overdubbing l) (opens_over o os reach l forward pos list granted)
    (omega (arith, same)) (omega (arith, room))
    in let m : Loop Sound = loop_over (x ∷ xs) reach (layers_on Ok Overdubbing l)
    in let there = turn.turned
    in let now_there : m.controls.quantize ≡ 0 = ap (λ (c : Controls). c.quantize) there.same ∙ now
    in record {
      made =
          subst (λ zs. IsRecording (overdubbed l.controls.feedback zs (x ∷ xs))
          (given Overdub reach (loop_over (x ∷ xs) reach (given Overdub reach l)))) (sym list)
          (subst (λ (k : Loop Sound). IsRecording (overdubbed l.controls.feedback (o ∷ os) (x ∷ xs))
          (given Overdub reach (loop_over (x ∷ xs) reach k))) (sym first)
          (subst (λ (k : Loop Sound). IsRecording (overdubbed l.controls.feedback (o ∷ os) (x ∷ xs))
          k) (sym (overdub_closes reach m there.mode now_there))
          (closes_turn (overdubbed l.controls.feedback (o ∷ os) (x ∷ xs)) l.controls m there)));
      heard_is = ap (λ k. loop_heard_over (x ∷ xs) reach k) first ∙ turn.heard_is ∙ sym list;
    }

list_long : (layers : List (Layer Sound)) → length (current_list layers) ≡ current_length layers
list_long layers = length-map (current_cells layers) content_of

-- what the calls leave is the mixed list
pub strip_turns : (xs : List Sound) (s s1 s2 s3 : StripOf) (p p1 p2 p3 : PoolOf) →
    Did (given Overdub) s s1 p p1 → Did (loop_over xs) s1 s2 p1 p2 →
    Did (given Overdub) s2 s3 p2 p3 →
    (seen s p).controls.quantize ≡ 0 → IsAtRest (seen s p).deck.mode →
    (seen s p).deck.backward ≡ false → (seen s p).deck.pos ≡ 0 →
    opening (reach_in s p) false (seen s p).stack ≡ Ok →
    length xs ≡ length_of (seen s p) → 1 ≤ length xs →
    chunks_of (opening_tape (seen s p).stack + length xs) ≤ reach_in s p →
    IsRecording (overdubbed (seen s p).controls.feedback (current_list (seen s p).stack.layers) xs)
    (seen s3 p3)
strip_turns xs s s1 s2 s3 p p1 p2 p3 a b c now rests forward pos granted same some room =
    let l = seen s p
    in let all = did_then (did_then a b) c
    in let turn = turn_made (current_list l.stack.layers) xs (reach_in s p) l refl now rests forward
    pos granted (same ∙ sym (list_long l.stack.layers)) some room
    in subst (λ (k : Loop Sound). IsRecording
    (overdubbed l.controls.feedback (current_list l.stack.layers) xs) k) (sym all.seen) turn.made

-- and the old list was heard
pub strip_hears : (xs hs : List Sound) (s s1 : StripOf) (p p1 : PoolOf) →
    Did (given Overdub) s s1 p p1 → hs ≡ loop_heard_over xs (reach_in s1 p1) (seen s1 p1) →
    (seen s p).controls.quantize ≡ 0 → IsAtRest (seen s p).deck.mode →
    (seen s p).deck.backward ≡ false → (seen s p).deck.pos ≡ 0 →
    opening (reach_in s p) false (seen s p).stack ≡ Ok →
    length xs ≡ length_of (seen s p) → 1 ≤ length xs →
    chunks_of (opening_tape (seen s p).stack + length xs) ≤ reach_in s p →
    hs ≡ current_list (seen s p).stack.layers
strip_hears xs hs s s1 p p1 a sounds now rests forward pos granted same some room =
    let l = seen s p
    in let turn = turn_made (current_list l.stack.layers) xs (reach_in s p) l refl now rests forward
    pos granted (same ∙ sym (list_long l.stack.layers)) some room
    in sounds ∙ ap₂ (λ r k. loop_heard_over xs r k) a.reach a.seen ∙ turn.heard_is
