-- Frames that are written within a loop's budget are quiet.
use Rattle.std.proofs.Common.{◌≡◌, ℕ, zero, suc, ◌+◌, ◌-◌, ◌%◌, ◌/◌, ◌≤◌, ◌<◌, Bool, true, false, not, ◌||◌, ◌&&◌, List, [], ◌∷◌, length, is_some, refl, sym, ap, ap₂, subst, ◌∙◌, arith, cond, nat_le, nat_lt}
use Rattle.std.proofs.lemmas.Bool.{le-leb, lt-ltb, ne_eqb}
use Rattle.std.specs.Prelude.{◌==◌}
use Rattle.sl_base.specs.Limits.{chunk_frames, max_list_frames, max_seams}
use Rattle.sl_base.specs.Sounds.{Sound}
use Rattle.sl_commands.specs.declared.How.{How}
use Rattle.sl_commands.specs.declared.Mode.{Mode}
use Rattle.sl_commands.specs.declared.Mode.TheVariants.{Recording, Overdubbing, Multiplying, Inserting, Replacing, Substituting, OneShot}
use Rattle.sl_commands.specs.declared.Face.{Face}
use Rattle.looper_rules.specs.Layers.{Layer, total_seams, with_current, current_length, current_base_length, current_cycle}
use Rattle.looper_rules.specs.Stack.{Stack}
use Rattle.looper_rules.specs.Room.{chunks_of, has_room}
use Rattle.looper_rules.specs.Writing.{overwrites, meets_fresh, new_cell_fits, with_written, rewritten, newly_written}
use Rattle.looper_rules.specs.Loop.{Loop, Deck, is_writing, length_of, at_place, with_stack, face_of}
use Rattle.looper_rules.specs.LoopFrame.{how_in, fits, with_input, wraps, wrapped_mode, next_place, goes_on, stops_if, advanced_in, writes, passes, ready_in, ready, after, frame_later}
use Rattle.looper_rules.specs.FacesLater.{face_goes_on, face_later_in, face_later}
use Rattle.looper_rules.specs.LoopSpans.{IsQuietFrame, AreQuiet}
use Rattle.looper_rules.specs.States.{IsRecorded, IsOpenOver, InMode}
use Rattle.looper_rules.specs.Reached.{Unchanged, Keeps as KeepsLoop}
use Rattle.looper_laws.proofs.Kept.Layers.{total_seams-cons}
use Rattle.looper_laws.proofs.Kept.LoopFrame.{framed_keeps}
use Rattle.looper_laws.proofs.Kept.Verbs.{set_to}
use Rattle.looper_laws.proofs.Kept.Writing.{current_length-over, current_length-added}
use Rattle.loop_tape.specs.Pools.{PoolOf}
use Rattle.loop_tape.specs.Tapes.{at}
use Rattle.loop_strip.specs.Strips.{seen, reach_in}
use Rattle.loop_strip.specs.declared.parts.Parts.{Parts}
use Rattle.loop_strip.specs.Parts.{loop_of, strip_of, IsWhole}
use Rattle.loop_strip.specs.Quiet.{IsQuietFor}
use Rattle.loop_strip.specs.Stretches.{IsAhead}
use Rattle.loop_strip.specs.Budgets.{IsInChunk, GoesOnIn, IsAmple}
use Rattle.layer_memory.proofs.SeenLemmas.{total-mapped, lengths-mapped}
use Rattle.loop_strip.proofs.DidLemmas.{seen-is, seen_deck}
use Rattle.loop_strip.proofs.FrameLemmas.{seen_keeps}
use Rattle.loop_strip.proofs.Whole.{own}
use Rattle.loop_strip.proofs.LoopLemmas.{length-mapped}
use Rattle.loop_strip.proofs.StretchLemmas.{not_same, no_wrap, ahead_next, next_frame, set_same, place_inside}
use Rattle.loop_strip.proofs.QuietLemmas.{on_face, on_tape, quiet_once, quiet_still}

-- the length of a list behind a write in this mode
abbrev pub length_behind : Mode → ℕ → ℕ
length_behind Recording len = len + 1
length_behind Inserting len = len + 1
length_behind _ len = len

-- what a write leaves of a stack
record IsWritten {A : Type 0} (mode : Mode) (s t : Stack A) : Type 0 where
  cycle : current_cycle t.layers ≡ current_cycle s.layers
  base : current_base_length t.layers ≡ current_base_length s.layers
  count : length t.layers ≡ length s.layers
  redo : t.redo ≡ s.redo
  pin : t.pin ≡ s.pin
  seams : total_seams t.layers ≤ total_seams s.layers + 2
  tape_from : s.tape ≤ t.tape
  tape_to : t.tape ≤ s.tape + 1
  long : current_length t.layers ≡ length_behind mode (current_length s.layers)

-- the layers behind it
abbrev pub layers_behind : {A : Type 0} → How → ℕ → A → ℕ → List (Layer A) → List (Layer A)
layers_behind how place x seams layers = with_current (with_written how place x seams) layers

behind_cycle : {A : Type 0} (how : How) (place : ℕ) (x : A) (seams : ℕ) (layers : List (Layer A)) →
    current_cycle (layers_behind how place x seams layers) ≡ current_cycle layers
behind_cycle how place x seams [] = refl
behind_cycle how place x seams (l ∷ ls) = refl

behind_base : {A : Type 0} (how : How) (place : ℕ) (x : A) (seams : ℕ) (layers : List (Layer A)) →
    current_base_length (layers_behind how place x seams layers) ≡ current_base_length layers
behind_base how place x seams [] = refl
behind_base how place x seams (l ∷ ls) = refl

behind_count : {A : Type 0} (how : How) (place : ℕ) (x : A) (seams : ℕ) (layers : List (Layer A)) →
    length (layers_behind how place x seams layers) ≡ length layers
behind_count how place x seams [] = refl
behind_count how place x seams (l ∷ ls) = refl

behind_seams : {A : Type 0} (how : How) (place : ℕ) (x : A) (seams : ℕ) (layers : List (Layer A)) →
    total_seams (layers_behind how place x seams layers) ≤ total_seams layers + seams
behind_seams how place x seams [] = omega arith
behind_seams how place x seams (l ∷ ls) =
    (let before = total_seams-cons l ls in
    let after = total_seams-cons (with_written how place x seams l) ls in omega arith)

few_seams : (b : Bool) → cond b 0 2 ≤ 2
few_seams true = omega arith
few_seams false = omega arith

-- lengths, by the mode
way : (mode : Mode) (backward : Bool) → mode ≡ Recording → overwrites (how_in mode backward) ≡ false
way mode backward is = ap (λ m. overwrites (how_in m backward)) is

long_behind : {A : Type 0} (mode : Mode) (backward : Bool) (place : ℕ) (x : A) (seams : ℕ)
    (layers redo : List (Layer A)) (other : Bool) → is_writing mode ≡ true →
    InMode mode layers redo place other →
    current_length (layers_behind (how_in mode backward) place x seams layers) ≡ length_behind mode
    (current_length layers)
long_behind Recording backward place x seams layers redo other writing in_mode =
    current_length-added IsRecorded (how_in Recording backward) place x seams layers in_mode.0 refl
    (let is = in_mode.2 in omega (arith, is))
long_behind Inserting backward place x seams layers redo other writing in_mode =
    current_length-added IsOpenOver (how_in Inserting backward) place x seams layers in_mode.0.0
    refl (let is = in_mode.0.2 in omega (arith, is))
long_behind Overdubbing true place x seams layers redo other writing in_mode =
    current_length-over (how_in Overdubbing true) place x seams layers refl
long_behind Overdubbing false place x seams layers redo other writing in_mode =
    current_length-over (how_in Overdubbing false) place x seams layers refl
long_behind Multiplying true place x seams layers redo other writing in_mode =
    current_length-over (how_in Multiplying true) place x seams layers refl
long_behind Multiplying false place x seams layers redo other writing in_mode =
    current_length-over (how_in Multiplying false) place x seams layers refl
long_behind Replacing true place x seams layers redo other writing in_mode =
    current_length-over (how_in Replacing true) place x seams layers refl
long_behind Replacing false place x seams layers redo other writing in_mode =
    current_length-over (how_in Replacing false) place x seams layers refl
long_behind Substituting true place x seams layers redo other writing in_mode =
    current_length-over (how_in Substituting true) place x seams layers refl
long_behind Substituting false place x seams layers redo other writing in_mode =
    current_length-over (how_in Substituting false) place x seams layers refl
long_behind _ backward place x seams layers redo other writing in_mode = let no : ⊥ = cc in
    absurd no

written_by : {A : Type 0} (fresh : Bool) (mode : Mode) (backward : Bool) (place : ℕ) (x : A)
    (s : Stack A) (other : Bool) → is_writing mode ≡ true →
    InMode mode s.layers s.redo place other →
    IsWritten mode s (cond fresh (rewritten (how_in mode backward) place x s)
    (newly_written (how_in mode backward) place x s))
written_by true mode backward place x s other writing in_mode = let how = how_in mode backward in
    record {
      cycle = behind_cycle how place x 0 s.layers;
      base = behind_base how place x 0 s.layers;
      count = behind_count how place x 0 s.layers;
      redo = refl;
      pin = refl;
      seams = let more = behind_seams how place x 0 s.layers in omega (arith, more);
      tape_from = omega arith;
      tape_to = omega arith;
      long = long_behind mode backward place x 0 s.layers s.redo other writing in_mode;
    }
written_by false mode backward place x s other writing in_mode = let how = how_in mode backward in
    let seams = cond (is_some s.streak) 0 2 in record {
      cycle = behind_cycle how place x seams s.layers;
      base = behind_base how place x seams s.layers;
      count = behind_count how place x seams s.layers;
      redo = refl;
      pin = refl;
      seams = let more = behind_seams how place x seams s.layers in
          let few = few_seams (is_some s.streak) in omega (arith, more, few);
      tape_from = omega arith;
      tape_to = omega arith;
      long = long_behind mode backward place x seams s.layers s.redo other writing in_mode;
    }

-- within the budget a write fits, whatever is reached
room_there : (reach n tape : ℕ) → IsInChunk (suc n) tape → has_room reach tape ≡ true
room_there reach n tape h = ap (λ b. not b || nat_lt (chunks_of tape) reach)
    (ne_eqb (tape % chunk_frames) 0 (λ is. let some = h.begun in omega (arith, some, is)))

or_right : (a b : Bool) → b ≡ true → (a || b) ≡ true
or_right true b is = refl
or_right false b is = is

and_both : (a b c : Bool) → a ≡ true → b ≡ true → c ≡ true → (a && b && c) ≡ true
and_both true true true a b c = refl
and_both false y z a b c = let no : ⊥ = cc in absurd no
and_both true false z a b c = let no : ⊥ = cc in absurd no
and_both true true false a b c = let no : ⊥ = cc in absurd no

le_true : (n m : ℕ) → n ≤ m → nat_le n m ≡ true
le_true n m h = le-leb n m h

lt_true : (n m : ℕ) → n < m → nat_lt n m ≡ true
lt_true n m h = lt-ltb n m h

fits_there : (reach n : ℕ) (l : Loop Sound) → IsAmple (suc n) l → fits reach l ≡ true
fits_there reach n l h =
    let how = how_in l.deck.mode l.deck.backward
    in let c = h.chunk (omega arith)
    in let seams = h.seams
    in let short = h.short
    in or_right (meets_fresh how l.deck.pos l.stack) (new_cell_fits reach how l.stack)
    (and_both (has_room reach l.stack.tape)
    (is_some l.stack.streak || nat_le (total_seams l.stack.layers) (max_seams - 2))
    (overwrites how || nat_lt (current_length l.stack.layers) max_list_frames)
    (room_there reach n l.stack.tape c)
    (or_right (is_some l.stack.streak) _
    (le_true (total_seams l.stack.layers) (max_seams - 2) (omega (arith, seams))))
    (or_right (overwrites how) _
    (lt_true (current_length l.stack.layers) max_list_frames (omega (arith, short)))))

-- the loop behind such a frame
abbrev pub with_frame : Sound → Loop Sound → Loop Sound
with_frame x l = with_stack (with_input x l) l

input_written : (x : Sound) (mode : Mode) (a : Unchanged) (l : Loop Sound) →
    is_writing mode ≡ true → KeepsLoop a (set_to mode l) →
    IsWritten mode l.stack (with_input x (set_to mode l))
input_written x mode a l writing h =
    written_by (meets_fresh (how_in mode l.deck.backward) l.deck.pos l.stack) mode l.deck.backward
    l.deck.pos _ l.stack l.deck.backward writing h.loop.in_mode

-- its face
face_with : (l : Loop Sound) (mode : Mode) (t : Stack Sound) → IsWritten mode l.stack t →
    face_of (with_stack t l) ≡ record (face_of l) { length = length_behind mode (length_of l) }
face_with l mode t w =
    ap (λ n. let f : Face = record (face_of (with_stack t l)) { length = n } in f) w.long
    ∙ ap (λ n. let f : Face = record (face_of (with_stack t l))
    { length = length_behind mode (length_of l); cycle = n } in f) w.cycle
    ∙ ap (λ n. let f : Face =
    record (face_of (with_stack t l)) {
      length = length_behind mode (length_of l);
      cycle =
          current_cycle l.stack.layers;
      base = n;
    } in f) w.base
    ∙ ap (λ n. let f : Face =
    record (face_of (with_stack t l)) {
      length = length_behind mode (length_of l);
      cycle =
          current_cycle l.stack.layers;
      base = current_base_length l.stack.layers;
      layers = n;
    } in f)
    w.count
    ∙ ap (λ ls. let f : Face =
    record (face_of (with_stack t l)) {
      length = length_behind mode (length_of l);
      cycle =
          current_cycle l.stack.layers;
      base = current_base_length l.stack.layers;
      layers =
          length l.stack.layers;
      redo = length ls;
    } in f) w.redo
    ∙ ap (λ p. let f : Face =
    record (face_of l) { length = length_behind mode (length_of l); pinned = is_some p } in f)
    w.pin

-- the chunks of its tape
same_chunks : (n tape tape' : ℕ) → IsInChunk (suc n) tape → tape ≤ tape' → tape' ≤ tape + 1 →
    chunks_of tape' ≡ chunks_of tape
same_chunks n tape tape' c from to = let some = c.begun in let within = c.within in
    omega (arith, some, within, from, to)

less_chunk : (n tape tape' : ℕ) → IsInChunk (suc n) tape → tape ≤ tape' → tape' ≤ tape + 1 → 1 ≤ n →
    IsInChunk n tape'
less_chunk n tape tape' c from to some = let begun = c.begun in let within = c.within in
    record {
      begun = omega (arith, begun, within, from, to, some);
      within =
          omega (arith, begun, within, from, to, some);
    }

-- what goes on with the budget of one frame less
ample_less : (n : ℕ) (mode : Mode) (l : Loop Sound) (t : Stack Sound) (m : Loop Sound) →
    IsAmple (suc n) l → l.deck.mode ≡ mode → IsWritten mode l.stack t → m.stack.layers ≡ t.layers →
    m.stack.tape ≡ t.tape →
    GoesOnIn m.deck.mode n m.deck (length_of m) → IsAmple n m
ample_less n mode l t m h is w layers tape goes = record {
  chunk = λ some. subst (IsInChunk n) (sym tape)
      (less_chunk n l.stack.tape t.tape (h.chunk (omega arith)) w.tape_from w.tape_to some);
  seams = let total : total_seams m.stack.layers ≡ total_seams t.layers = ap total_seams layers in
      let few = w.seams in let all = h.seams in omega (arith, total, few, all);
  short = let same : length_of m ≡ length_behind mode (length_of l) =
      ap current_length layers ∙ w.long in let most = length_most mode (length_of l) in
      let all = h.short in omega (arith, same, most, all);
  goes_on = goes;
}
  where
    length_most : (mode : Mode) (len : ℕ) → length_behind mode len ≤ len + 1
    length_most Recording len = omega arith
    length_most Inserting len = omega arith
    length_most _ len = omega arith

-- a quiet frame behind which the budget is one frame less
record IsSpent (n : ℕ) (x : Sound) (l : Loop Sound) : Type 0 where
  frame : IsQuietFrame x l
  writing : is_writing (frame_later x 0 l).deck.mode ≡ true
  ample : IsAmple n (frame_later x 0 l)

spent : (n : ℕ) (x : Sound) (l m : Loop Sound) → ((reach : ℕ) → ready x reach l ≡ l) →
    ((reach : ℕ) → after x reach l ≡ m) → m.deck.mode ≡ l.deck.mode →
    is_writing l.deck.mode ≡ true →
    chunks_of m.stack.tape ≡ chunks_of l.stack.tape → face_of m ≡ face_later (face_of l) →
    IsAmple n m → IsSpent n x l
spent n x l m r a mode writing chunks face ample =
    let later : frame_later x 0 l ≡ m = ap (after x 0) (r 0) ∙ a 0
    in record {
      frame = record {
        ready_is = λ reach. r reach ∙ sym (r 0);
        after_is = λ reach. ap (after x reach) (r 0) ∙ a reach ∙ sym (a 0)
            ∙ sym (ap (after x 0) (r 0));
        chunks = ap (λ (k : Loop Sound). chunks_of k.stack.tape) later ∙ chunks;
        mode = ap (λ (k : Loop Sound). k.deck.mode) later ∙ mode;
        face = ap face_of later ∙ face;
      };
      writing = ap (λ (k : Loop Sound). is_writing k.deck.mode) later ∙ ap is_writing mode
          ∙ writing;
      ample = subst (λ (k : Loop Sound). IsAmple n k) (sym later) ample;
    }

chunks_there : (n : ℕ) (mode : Mode) (l : Loop Sound) (t : Stack Sound) → IsAmple (suc n) l →
    IsWritten mode l.stack t → chunks_of t.tape ≡ chunks_of l.stack.tape
chunks_there n mode l t h w =
    same_chunks n l.stack.tape t.tape (h.chunk (omega arith)) w.tape_from w.tape_to

-- a mode that writes over its list
goes_mode : (round : Bool) (k : Loop Sound) → wrapped_mode k.deck.mode ≡ k.deck.mode →
    (goes_on round k).deck.mode ≡ k.deck.mode
goes_mode true k is = is
goes_mode false k is = refl

goes_layers : (round : Bool) (k : Loop Sound) → (goes_on round k).stack.layers ≡ k.stack.layers
goes_layers true k = refl
goes_layers false k = refl

goes_tape : (round : Bool) (k : Loop Sound) → (goes_on round k).stack.tape ≡ k.stack.tape
goes_tape true k = refl
goes_tape false k = refl

over_spent : (mode : Mode) (n : ℕ) (x : Sound) (a : Unchanged) (l : Loop Sound) →
    is_writing mode ≡ true → KeepsLoop a (set_to mode l) → IsAmple (suc n) (set_to mode l) →
    ((reach : ℕ) → ready x reach (set_to mode l) ≡ set_to mode l) →
    ((k : Loop Sound) →
    advanced_in mode k ≡ goes_on (wraps k.deck.backward k.deck.pos (length_of k)) k) →
    wrapped_mode mode ≡ mode →
    ((len : ℕ) → length_behind mode len ≡ len) →
    ((f : Face) → face_later_in mode f ≡ face_goes_on (wraps f.backward f.pos f.length) f) →
    ((k len : ℕ) (d : Deck) → GoesOnIn mode k d len) → IsSpent n x (set_to mode l)
over_spent mode n x a l writing h ample r adv stays long later free =
    let l0 : Loop Sound = set_to mode l
    in let t = with_input x l0
    in let k : Loop Sound = with_stack t l0
    in let w = input_written x mode a l writing h
    in let round = wraps l.deck.backward l.deck.pos (length_of k)
    in let same : length_of k ≡ length_of l0 = w.long ∙ long (length_of l0)
    in let face : face_of k ≡ face_of l0 = face_with l0 mode t w
    ∙ ap (λ len. let f : Face = record (face_of l0) { length = len } in f) (long (length_of l0))
    in spent n x l0 (goes_on round k) r
    (λ reach. ap (λ b. passes b x reach l0) writing
    ∙ ap (λ b. writes b x l0) (fits_there reach n l0 ample) ∙ adv k)
    (goes_mode round k stays) writing
    (on_tape round k ∙ chunks_there n mode l0 t ample w)
    (on_face round k ∙ ap₂ (λ b f. face_goes_on b f) (ap (wraps l.deck.backward l.deck.pos) same)
    face ∙ sym (later (face_of l0)))
    (ample_less n mode l0 t (goes_on round k) ample refl w (goes_layers round k) (goes_tape round k)
    (subst (λ m. GoesOnIn m n (goes_on round k).deck (length_of (goes_on round k)))
    (sym (goes_mode round k stays))
    (free n (length_of (goes_on round k)) (goes_on round k).deck)))

-- a recording
recording_spent : (n : ℕ) (x : Sound) (a : Unchanged) (l : Loop Sound) →
    KeepsLoop a (set_to Recording l) → IsAmple (suc n) (set_to Recording l) →
    IsSpent n x (set_to Recording l)
recording_spent n x a l h ample =
    let l0 : Loop Sound = set_to Recording l
    in let t = with_input x l0
    in let k : Loop Sound = with_stack t l0
    in let w = input_written x Recording a l refl h
    in spent n x l0 (at_place (length_of k) k) (λ reach. refl)
    (λ reach. ap (λ b. writes b x l0) (fits_there reach n l0 ample)) refl refl
    (chunks_there n Recording l0 t ample w)
    (ap (λ (f : Face). let g : Face = record f { pos = f.length } in g)
    (face_with l0 Recording t w))
    (ample_less n Recording l0 t (at_place (length_of k) k) ample refl w refl refl tt)

-- an insert, and a multiply
inserting_spent : (n : ℕ) (x : Sound) (a : Unchanged) (l : Loop Sound) →
    KeepsLoop a (set_to Inserting l) → IsAmple (suc n) (set_to Inserting l) →
    IsSpent n x (set_to Inserting l)
inserting_spent n x a l h ample =
    let l0 : Loop Sound = set_to Inserting l
    in let t = with_input x l0
    in let k : Loop Sound = with_stack t l0
    in let w = input_written x Inserting a l refl h
    in let next : Loop Sound = at_place (l.deck.pos + 1) k
    in spent n x l0 next (λ reach. refl)
    (λ reach. ap (λ b. writes b x l0) (fits_there reach n l0 ample)
    ∙ ap (λ b. stops_if b next) ample.goes_on) refl refl
    (chunks_there n Inserting l0 t ample w)
    (ap (λ (f : Face). let g : Face = record f { pos = l.deck.pos + 1 } in g)
    (face_with l0 Inserting t w))
    (ample_less n Inserting l0 t next ample refl w refl refl ample.goes_on)

not_at_end : (n pos len : ℕ) → pos + suc n ≤ len → (pos == len) ≡ false
not_at_end n pos len h = not_same pos len (omega (arith, h))

multiplying_spent : (n : ℕ) (x : Sound) (a : Unchanged) (l : Loop Sound) →
    KeepsLoop a (set_to Multiplying l) → IsAmple (suc n) (set_to Multiplying l) →
    IsSpent n x (set_to Multiplying l)
multiplying_spent n x a l h ample =
    let l0 : Loop Sound = set_to Multiplying l
    in let t = with_input x l0
    in let k : Loop Sound = with_stack t l0
    in let w = input_written x Multiplying a l refl h
    in let next : Loop Sound = at_place (l.deck.pos + 1) k
    in let before : (l.deck.pos == length_of l0) ≡ false =
    not_at_end n l.deck.pos (length_of l0) ample.goes_on.1
    in spent n x l0 next (λ reach. ap (λ b. ready_in Multiplying b l0) before)
    (λ reach. ap (λ b. writes b x l0) (fits_there reach n l0 ample)
    ∙ ap (λ b. stops_if b next) ample.goes_on.0) refl refl
    (chunks_there n Multiplying l0 t ample w)
    (ap (λ (f : Face). let g : Face = record f { pos = l.deck.pos + 1 } in g)
    (face_with l0 Multiplying t w)
    ∙ ap (λ b. let g : Face =
    record (face_of l0) {
      pos = l.deck.pos + 1;
      length = cond b (length_of l0 + current_base_length l.stack.layers)
          (length_of l0);
    } in g) (sym before))
    (ample_less n Multiplying l0 t next ample refl w refl refl (
      ample.goes_on.0,
      (let all = ample.goes_on.1 in let same = w.long in omega (arith, all, same)),
    ))

ample_in : (mode : Mode) (n : ℕ) (x : Sound) (a : Unchanged) (l : Loop Sound) →
    is_writing mode ≡ true → KeepsLoop a (set_to mode l) → IsAmple (suc n) (set_to mode l) →
    IsSpent n x (set_to mode l)
ample_in Recording n x a l writing h ample = recording_spent n x a l h ample
ample_in Inserting n x a l writing h ample = inserting_spent n x a l h ample
ample_in Multiplying n x a l writing h ample = multiplying_spent n x a l h ample
ample_in Overdubbing n x a l writing h ample = over_spent Overdubbing n x a l refl h ample
    (λ reach. refl) (λ k. refl) refl (λ len. refl) (λ f. refl) (λ k len d. tt)
ample_in Replacing n x a l writing h ample = over_spent Replacing n x a l refl h ample
    (λ reach. refl) (λ k. refl) refl (λ len. refl) (λ f. refl) (λ k len d. tt)
ample_in Substituting n x a l writing h ample = over_spent Substituting n x a l refl h ample
    (λ reach. refl) (λ k. refl) refl (λ len. refl) (λ f. refl) (λ k len d. tt)
ample_in _ n x a l writing h ample = let no : ⊥ = cc in absurd no

-- frames within the budget
ample_quiet : (n : ℕ) (xs : List Sound) (a : Unchanged) (l : Loop Sound) → KeepsLoop a l →
    is_writing l.deck.mode ≡ true → IsAmple n l → length xs ≤ n → AreQuiet xs l
ample_quiet n [] a l h writing ample few = tt
ample_quiet zero (x ∷ xs) a l h writing ample few = absurd (omega (arith, few))
ample_quiet (suc n) (x ∷ xs) a l h writing ample few =
    let s = ample_in l.deck.mode n x a l writing h ample
    in let later : frame_later x a.reach l ≡ frame_later x 0 l =
    ap (after x a.reach) (s.frame.ready_is a.reach) ∙ s.frame.after_is a.reach
    in (
      s.frame,
      ample_quiet n xs a (frame_later x 0 l)
          (subst (λ (k : Loop Sound). KeepsLoop a k) later (framed_keeps x h)) s.writing s.ample
          (omega (arith, few)),
    )

-- the budget of a strip is that of its loop of frames
ample_seen : (n : ℕ) (s : Parts) (p : PoolOf) → IsAmple n (loop_of s) →
    IsAmple n (seen (strip_of s) p)
ample_seen n s p h =
    let f = at s.layers.tape p
    in subst (λ (l : Loop Sound). IsAmple n l) (sym (seen-is (strip_of s) p)) (record {
      chunk = h.chunk;
      seams = let same = total-mapped f s.layers.stack.layers in let few = h.seams in
          omega (arith, same, few);
      short = let same = lengths-mapped f s.layers.stack.layers in let few = h.short in
          omega (arith, same, few);
      goes_on = subst (λ len. GoesOnIn s.deck.mode n (loop_of s).deck len)
          (sym (lengths-mapped f s.layers.stack.layers)) h.goes_on;
    })

-- a loop that writes, with ample room, is quiet
pub quiet_ample : (n : ℕ) (s : Parts) → IsWhole s → is_writing s.deck.mode ≡ true → 1 ≤ n →
    (1 ≤ n → IsAmple n (loop_of s)) → IsQuietFor n (strip_of s)
quiet_ample n s w writing some ample = λ p x xs reach less.
    let l = seen (strip_of s) p
    in let here : is_writing l.deck.mode ≡ true =
    ap (λ (d : Deck). is_writing d.mode) (seen_deck (strip_of s) p) ∙ writing
    in let all = ample_quiet n (x ∷ xs) (own (reach_in (strip_of s) p) s) l (seen_keeps s p w) here
    (ample_seen n s p (ample some)) (omega (arith, less))
    in subst (λ (k : Loop Sound). AreQuiet xs k)
    (sym (ap (after x reach) (all.0.ready_is reach) ∙ all.0.after_is reach)) all.1

-- a OneShot before the border of its list
shot_frame : (n : ℕ) (x : Sound) (l : Loop Sound) →
    IsAhead (suc n) l.deck.backward l.deck.pos (length_of l) → IsQuietFrame x (set_to OneShot l)
shot_frame n x l h =
    let off = no_wrap n l.deck.backward l.deck.pos (length_of l) h
    in let later = next_frame OneShot x 0 l tt off
    in record {
      ready_is = λ reach. refl;
      after_is = λ reach. refl;
      chunks = ap (λ (k : Loop Sound). chunks_of k.stack.tape) later;
      mode = ap (λ (k : Loop Sound). k.deck.mode) later;
      face = ap face_of later ∙ ap (λ b. face_goes_on b (face_of (set_to OneShot l))) (sym off);
    }

shot_quiet : (n : ℕ) (xs : List Sound) (l : Loop Sound) →
    IsAhead n l.deck.backward l.deck.pos (length_of l) → length xs ≤ n →
    AreQuiet xs (set_to OneShot l)
shot_quiet n [] l h few = tt
shot_quiet zero (x ∷ xs) l h few = absurd (omega (arith, few))
shot_quiet (suc n) (x ∷ xs) l h few =
    let later = next_frame OneShot x 0 l tt (no_wrap n l.deck.backward l.deck.pos (length_of l) h)
    in (
      shot_frame n x l h,
      subst (λ (k : Loop Sound). AreQuiet xs k) (sym later)
          (shot_quiet n xs (at_place (next_place l.deck.backward l.deck.pos) l)
          (ahead_next n l.deck.backward l.deck.pos (length_of l) h) (omega (arith, few))),
    )

-- a OneShot is quiet up to its border
pub quiet_shot : (n : ℕ) (s : Parts) → s.deck.mode ≡ OneShot → 1 ≤ n →
    IsAhead n s.deck.backward s.deck.pos (length_of (loop_of s)) → IsQuietFor n (strip_of s)
quiet_shot n s is some h = λ p x xs reach less.
    let l = seen (strip_of s) p
    in let deck = seen_deck (strip_of s) p
    in let same : length_of (loop_of s) ≡ length_of l =
    sym (length-mapped (at s.layers.tape p) (loop_of s))
    ∙ ap length_of (sym (seen-is (strip_of s) p))
    in let ahead : IsAhead n l.deck.backward l.deck.pos (length_of l) =
    subst (λ (d : Deck). IsAhead n d.backward d.pos (length_of l)) (sym deck)
    (subst (λ len. IsAhead n s.deck.backward s.deck.pos len) same h)
    in let all : AreQuiet (x ∷ xs) l = subst (λ (k : Loop Sound). AreQuiet (x ∷ xs) k)
    (sym (set_same OneShot l (ap (λ (d : Deck). d.mode) deck ∙ is)))
    (shot_quiet n (x ∷ xs) l ahead (omega (arith, less)))
    in subst (λ (k : Loop Sound). AreQuiet xs k)
    (sym (ap (after x reach) (all.0.ready_is reach) ∙ all.0.after_is reach)) all.1

-- a smaller budget
pub ample_from : (n c : ℕ) (mode : Mode) (s : Parts) → s.deck.mode ≡ mode →
    (1 ≤ c → IsInChunk c s.layers.stack.tape) → n ≤ c →
    n ≤ (max_seams - total_seams s.layers.stack.layers) / 2 →
    n ≤ max_list_frames - length_of (loop_of s) →
    (1 ≤ n → GoesOnIn mode n (loop_of s).deck (length_of (loop_of s))) → 1 ≤ n →
    IsAmple n (loop_of s)
ample_from n c mode s is chunk few seams short goes some = record {
  chunk = λ more. let whole = chunk (omega (arith, few, some)) in let begun = whole.begun in
      let within = whole.within in record { begun = begun; within = omega (arith, within, few) };
  seams = omega (arith, seams, some);
  short = omega (arith, short, some);
  goes_on = subst (λ m. GoesOnIn m n (loop_of s).deck (length_of (loop_of s))) (sym is) (goes some);
}

pub ruleset budgeting = (ample_from)

pub ruleset budgets = (quiet_ample, quiet_shot, quiet_once)

pub ruleset quieting = (quiet_still, quiet_once, place_inside)
