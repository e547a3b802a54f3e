-- What is left to the next unit is one frame less when the face has gone on by one.
use Rattle.std.proofs.Common.{◌≡◌, ℕ, zero, suc, ◌+◌, ◌-◌, ◌%◌, ◌/◌, ◌<◌, ◌≤◌, Bool, true, false, not, ◌&&◌, ◌||◌, Option, Some, None, refl, sym, ap, ap₂, ◌∙◌, subst, arith, min, max, cond, nat_lt, nat_le}
use Rattle.std.specs.Prelude.{◌==◌, IsTrue}
use Rattle.std.proofs.Math.Nat.{zero-mod, mod-zero, mod_self, mod-eq_of_lt, mod-lt}
use Rattle.std.proofs.lemmas.Bool.{eqb-true, eqb-false, eq-eqb, ne_eqb, lt-ltb, ltb-true, leb-true, le-leb, and_parts, and_from, or_parts, cond-false, cond-true, not-true, not-false, not_from_true, or_from, cond_both}
use Rattle.sl_commands.specs.declared.Mode.{Mode}
use Rattle.sl_commands.specs.declared.Mode.TheVariants.{Off, WaitStart, Recording, Playing, Overdubbing, Multiplying, Inserting, Replacing, Muted, OneShot, Substituting, Paused}
use Rattle.sl_commands.specs.declared.Face.{Face}
use Rattle.looper_rules.specs.LoopFrame.{wraps, wrapped_place, wrapped_mode, next_place}
use Rattle.looper_rules.specs.Boundaries.{is_running, unit_of, source_at_unit}
use Rattle.looper_rules.specs.FacesLater.{face_goes_on, extended_length, face_later_in, face_later}
use Rattle.quantise_sync.specs.Distances.{frames_up, frames_forward, frames_through, is_whole, frames_in, is_placed_in, is_placed, frames_unless, frames_to_unit, IsPlacedWhereRunning}
use Rattle.quantise_sync.proofs.MultipleLemmas.{unless, unless-other, up_later, forward_later, forward_end, backward_later, frames_forward-suc}

-- what is left, of a face that runs and is placed
left_of_placed : (quantize : ℕ) (face : Face) → is_running face.mode ≡ true →
    is_placed face ≡ true →
    frames_to_unit quantize face ≡ frames_unless (face.pos % unit_of quantize face == 0) quantize
    face
left_of_placed quantize face runs placed =
    ap₂ (λ a b. frames_unless (not (a && b) || face.pos % unit_of quantize face == 0) quantize face)
    runs placed

-- a number of frames that is left, by its test
some_unless : (b : Bool) (quantize : ℕ) (face : Face) (frames : ℕ) →
    frames_in face.mode quantize face ≡ Some frames →
    frames_unless b quantize face ≡ Some (unless b frames)
some_unless true quantize face frames is = refl
some_unless false quantize face frames is = is

-- what a step has to show: one frame less, and still placed
pub record OneLess (quantize : ℕ) (later : Face) (frames : ℕ) : Type 0 where
  pub left : frames_to_unit quantize later ≡ Some frames
  pub placed : is_placed later ≡ true

-- a face that runs, is placed and has so many frames left
one_less :
    (quantize : ℕ) (later : Face) (frames left : ℕ) → is_running later.mode ≡ true →
    is_placed later ≡ true →
    frames_in later.mode quantize later ≡ Some left →
    unless (later.pos % unit_of quantize later == 0) left ≡ frames →
    OneLess quantize later frames
one_less quantize later frames left runs placed is less =
    record {
      left = left_of_placed quantize later runs placed
          ∙ some_unless (later.pos % unit_of quantize later == 0) quantize later left is
          ∙ ap Some less;
      placed = placed;
    }

-- what is alike in the modes that go through the list
record Through (mode : Mode) : Type 0 where
  later : (face : Face) →
      face_later_in mode face ≡ face_goes_on (wraps face.backward face.pos face.length) face
  runs : is_running mode ≡ true
  placed : (face : Face) → is_placed_in mode face ≡ nat_lt face.pos face.length
  left : (quantize : ℕ) (face : Face) →
      frames_in mode quantize face ≡ Some
      (frames_through face.backward (unit_of quantize face) face.pos face.length)

abbrev goes_through : Mode → Bool
goes_through Playing = true
goes_through Overdubbing = true
goes_through Replacing = true
goes_through Substituting = true
goes_through Muted = true
goes_through OneShot = true
goes_through _ = false

through : (mode : Mode) → goes_through mode ≡ true → Through mode
through Playing is =
    record { later = λ f. refl; runs = refl; placed = λ f. refl; left = λ q f. refl }
through Overdubbing is =
    record { later = λ f. refl; runs = refl; placed = λ f. refl; left = λ q f. refl }
through Replacing is =
    record { later = λ f. refl; runs = refl; placed = λ f. refl; left = λ q f. refl }
through Substituting is =
    record { later = λ f. refl; runs = refl; placed = λ f. refl; left = λ q f. refl }
through Muted is = record { later = λ f. refl; runs = refl; placed = λ f. refl; left = λ q f. refl }
through OneShot is =
    record { later = λ f. refl; runs = refl; placed = λ f. refl; left = λ q f. refl }
through Off is = cc
through WaitStart is = cc
through Recording is = cc
through Multiplying is = cc
through Inserting is = cc
through Paused is = cc

wrapped_goes_through : (mode : Mode) → goes_through mode ≡ true →
    goes_through (wrapped_mode mode) ≡ true
wrapped_goes_through OneShot is = refl
wrapped_goes_through Playing is = refl
wrapped_goes_through Overdubbing is = refl
wrapped_goes_through Replacing is = refl
wrapped_goes_through Substituting is = refl
wrapped_goes_through Muted is = refl
wrapped_goes_through Off is = cc
wrapped_goes_through WaitStart is = cc
wrapped_goes_through Recording is = cc
wrapped_goes_through Multiplying is = cc
wrapped_goes_through Inserting is = cc
wrapped_goes_through Paused is = cc

-- a face that goes through its list, at another place of it
one_less_through :
    (quantize frames : ℕ) (later : Face) → Through later.mode → later.pos < later.length →
    unless (later.pos % unit_of quantize later == 0)
    (frames_through later.backward (unit_of quantize later) later.pos later.length) ≡ frames →
    OneLess quantize later frames
one_less_through quantize frames later t placed less =
    one_less quantize later frames
    (frames_through later.backward (unit_of quantize later) later.pos later.length) t.runs
    (t.placed later ∙ lt-ltb later.pos later.length placed) (t.left quantize later) less

-- 0 is 0 whether it is let stand or not
unless-itself : (n : ℕ) → unless (n == 0) n ≡ n
unless-itself zero = refl
unless-itself (suc n) = ap (λ b. unless b (suc n)) (ne_eqb (suc n) 0 (λ is. omega arith))

unless-zero : (b : Bool) → unless b 0 ≡ 0
unless-zero true = refl
unless-zero false = refl

unless-at_zero : (unit frames : ℕ) → unless (0 % unit == 0) frames ≡ 0
unless-at_zero unit frames = ap (λ b. unless b frames) (eq-eqb (0 % unit) 0 (zero-mod unit))

-- no number is a multiple and isn't
both : {P : Type 0} (unit at : ℕ) → (at % unit == 0) ≡ false → at % unit ≡ 0 → P
both unit at isnt is = absurd (eqb-false (at % unit) 0 isnt is)

-- one place on in this direction, by whether it wraps around
goes_on_less :
    (back wrap : Bool) (quantize frames : ℕ) (face : Face) → goes_through face.mode ≡ true →
    face.backward ≡ back →
    wraps back face.pos face.length ≡ wrap → face.pos < face.length →
    (face.pos % unit_of quantize face == 0) ≡ false →
    frames_through back (unit_of quantize face) face.pos face.length ≡ suc frames →
    OneLess quantize (face_goes_on wrap face) frames
goes_on_less true true quantize frames face goes is wrap placed isnt left =
    both (unit_of quantize face) face.pos isnt
    (ap (λ n. n % unit_of quantize face) (eqb-true face.pos 0 wrap)
    ∙ zero-mod (unit_of quantize face))
goes_on_less true false quantize frames face goes is wrap placed isnt left =
    let some : face.pos ≡ 0 → ⊥ = eqb-false face.pos 0 wrap
    in let unit = unit_of quantize face
    in let before : face.pos - 1 + 1 ≡ face.pos = omega arith
    in let isnt' : ((face.pos - 1 + 1) % unit == 0) ≡ false =
    subst (λ n. (n % unit == 0) ≡ false) (sym before) isnt
    in let step : (face.pos - 1) % unit + 1 ≡ face.pos % unit =
    backward_later unit (face.pos - 1) isnt' ∙ ap (λ n. n % unit) before
    in let less : (face.pos - 1) % unit ≡ frames = omega arith
    in let later : Face = record face { pos = next_place face.backward face.pos }
    in let place : later.pos ≡ face.pos - 1 = ap (λ b. next_place b face.pos) is
    in one_less_through quantize frames later (through face.mode goes) (omega arith)
    (ap₂ (λ b n. unless (n % unit == 0) (frames_through b unit n face.length)) is place
    ∙ unless-itself ((face.pos - 1) % unit) ∙ less)
goes_on_less false true quantize frames face goes is wrap placed isnt left =
    let last : face.pos + 1 ≡ face.length = eqb-true (face.pos + 1) face.length wrap
    in let unit = unit_of quantize face
    in let one = forward_end unit face.pos face.length last
    in let none : 0 ≡ frames = omega arith
    in let later : Face =
    record face { mode = wrapped_mode face.mode; pos = wrapped_place face.backward face.length }
    in let place : later.pos ≡ 0 = ap (λ b. wrapped_place b face.length) is
    in one_less_through quantize frames later
    (through (wrapped_mode face.mode) (wrapped_goes_through face.mode goes)) (omega arith)
    (ap (λ n. unless (n % unit == 0) (frames_through face.backward unit n face.length)) place
    ∙ unless-at_zero unit (frames_through face.backward unit 0 face.length) ∙ none)
goes_on_less false false quantize frames face goes is wrap placed isnt left =
    let more : face.pos + 1 ≡ face.length → ⊥ = eqb-false (face.pos + 1) face.length wrap
    in let unit = unit_of quantize face
    in let inside : face.pos + 1 < face.length = omega arith
    in let step = forward_later unit face.pos face.length inside isnt
    in let less : unless ((face.pos + 1) % unit == 0)
    (frames_forward unit (face.pos + 1) face.length) ≡ frames = omega arith
    in let later : Face = record face { pos = next_place face.backward face.pos }
    in let place : later.pos ≡ face.pos + 1 = ap (λ b. next_place b face.pos) is
    in one_less_through quantize frames later (through face.mode goes) (omega arith)
    (ap₂ (λ b n. unless (n % unit == 0) (frames_through b unit n face.length)) is place ∙ less)

-- the unit, where it is the whole length and where it isn't
unit-whole : (quantize : ℕ) (face : Face) → is_whole quantize ≡ true →
    unit_of quantize face ≡ face.length
unit-whole quantize face whole =
    let parts = and_parts (not (quantize == 1)) (not (quantize == 2)) whole
    in cond-false _ _ _ (not-true (quantize == 1) parts.0)
    ∙ cond-false _ _ _ (not-true (quantize == 2) parts.1)

unit_by : (one two : Bool) (first second length length' : ℕ) → (not one && not two) ≡ false →
    cond one first (cond two second length') ≡ cond one first (cond two second length)
unit_by true two first second length length' isnt = refl
unit_by false true first second length length' isnt = refl
unit_by false false first second length length' isnt = cc

unit-part : (quantize pos length : ℕ) (face : Face) → is_whole quantize ≡ false →
    unit_of quantize (record face { pos = pos; length = length }) ≡ unit_of quantize face
unit-part quantize pos length face part = unit_by (quantize == 1) (quantize == 2) face.cycle
    (max 1 (face.cycle / 8)) face.length length part

-- up to the next multiple, from the next number
pub record Rising (unit at frames : ℕ) : Type 0 where
  pub now : ℕ
  pub later : frames_up unit (at + 1) ≡ Some now
  pub less : unless ((at + 1) % unit == 0) now ≡ frames

frames_up-suc : (unit at : ℕ) → frames_up (suc unit) at ≡ Some (suc unit - at % suc unit)
frames_up-suc unit at = cond-false _ _ _ (ne_eqb (suc unit) 0 (λ is. omega arith))

some_is : (m n : ℕ) → Some m ≡ Some n → m ≡ n
some_is m n is = cc

-- frames up to a unit, from a place that is at none
pub rising : (unit at frames : ℕ) → (at % unit == 0) ≡ false →
    frames_up unit at ≡ Some (suc frames) → Rising unit at frames
rising zero at frames isnt left = cc
rising (suc unit) at frames isnt left =
    let step = up_later unit at isnt
    in let here : suc unit - at % suc unit ≡ suc frames =
    some_is _ _ (sym (frames_up-suc unit at) ∙ left)
    in record {
      now = suc unit - (at + 1) % suc unit;
      later = frames_up-suc unit (at + 1);
      less = (let less : unless ((at + 1) % suc unit == 0) (suc unit - (at + 1) % suc unit)
          ≡ frames = omega arith in less);
    }

-- only a unit of 0 is never reached
pub never_rises : (unit at : ℕ) → frames_up unit at ≡ None → unit ≡ 0
never_rises zero at never = refl
never_rises (suc unit) at never = let some = frames_up-suc unit at in cc

-- a number that isn't 0 is no multiple of 0
pub no_multiple : (unit at : ℕ) → unit ≡ 0 → ((at + 1) % unit == 0) ≡ false
no_multiple unit at none = ne_eqb ((at + 1) % unit) 0 (λ is. let rest = mod-zero (at + 1) in
    let same = ap (λ u. (at + 1) % u) none in omega arith)

-- a multiply that is at its whole length after one frame less
whole_less : (frames at length : ℕ) → length - at ≡ suc frames →
    unless ((at + 1) % length == 0) (length - (at + 1)) ≡ frames
whole_less zero at length left =
    let none : length - (at + 1) ≡ 0 = omega arith
    in ap (unless ((at + 1) % length == 0)) none ∙ unless-zero ((at + 1) % length == 0)
whole_less (suc frames) at length left =
    let inside : at + 1 < length = omega arith
    in let rest = mod-eq_of_lt inside
    in let step = unless-other length (at + 1) (length - (at + 1)) (λ is. omega arith)
    in omega arith

-- what is known of a face that has so many frames left, or never comes to a unit
record Left (quantize : ℕ) (face : Face) (left : Option ℕ) : Type 0 where
  runs : is_running face.mode ≡ true
  placed : is_placed face ≡ true
  isnt : (face.pos % unit_of quantize face == 0) ≡ false
  is : frames_in face.mode quantize face ≡ left

-- the place and the length of a multiply one frame later
multiply_placed : (face : Face) → is_placed_in Multiplying face ≡ true →
    (nat_le (face.pos + 1) (extended_length face) && nat_lt 0 face.base) ≡ true
multiply_placed face placed =
    let parts = and_parts (nat_le face.pos face.length) (nat_lt 0 face.base) placed
    in let least = leb-true face.pos face.length parts.0
    in let some = ltb-true 0 face.base parts.1
    in let inside : face.pos + 1 ≤ extended_length face =
    cond_both (face.pos == face.length) (face.length + face.base) face.length
    (λ n. face.pos + 1 ≤ n) (λ is. omega arith)
    (λ isnt. let other = eqb-false face.pos face.length isnt in omega arith)
    in and_from _ _ (le-leb (face.pos + 1) (extended_length face) inside) parts.1

extended-short : (face : Face) (frames : ℕ) → face.length - face.pos ≡ suc frames →
    extended_length face ≡ face.length
extended-short face frames left = cond-false _ _ _ (ne_eqb face.pos face.length (λ is. omega arith))

multiply_less :
    (whole : Bool) (quantize frames : ℕ) (face : Face) → is_whole quantize ≡ whole →
    let now : Face = record face { mode = Multiplying } in
    Left quantize now (Some (suc frames)) → OneLess quantize (face_later_in Multiplying now) frames
multiply_less true quantize frames face whole h =
    let now : Face = record face { mode = Multiplying }
    in let later = face_later_in Multiplying now
    in let left : face.length - face.pos ≡ suc frames =
    some_is _ _ (sym (cond-true _ _ _ whole) ∙ h.is)
    in let long : extended_length now ≡ face.length = extended-short now frames left
    in let unit : unit_of quantize later ≡ face.length = unit-whole quantize later whole ∙ long
    in one_less quantize later frames (later.length - later.pos) refl (multiply_placed now h.placed)
    (cond-true _ _ _ whole)
    (ap₂ (λ u n. unless ((face.pos + 1) % u == 0) (n - (face.pos + 1))) unit long
    ∙ whole_less frames face.pos face.length left)
multiply_less false quantize frames face part h =
    let now : Face = record face { mode = Multiplying }
    in let later = face_later_in Multiplying now
    in let unit : unit_of quantize later ≡ unit_of quantize now =
    unit-part quantize (face.pos + 1) (extended_length now) now part
    in let up = rising (unit_of quantize now) face.pos frames h.isnt
    (sym (cond-false _ _ _ part) ∙ h.is)
    in one_less quantize later frames up.now refl (multiply_placed now h.placed)
    (cond-false _ _ _ part ∙ ap (λ u. frames_up u (face.pos + 1)) unit ∙ up.later)
    (ap (λ u. unless ((face.pos + 1) % u == 0) up.now) unit ∙ up.less)

-- an insert
insert_placed : (face : Face) → nat_lt face.pos face.length ≡ true →
    nat_lt (face.pos + 1) (face.length + 1) ≡ true
insert_placed face placed = let inside = ltb-true face.pos face.length placed in
    lt-ltb (face.pos + 1) (face.length + 1) (omega arith)

insert_less :
    (whole : Bool) (quantize frames : ℕ) (face : Face) → is_whole quantize ≡ whole →
    let now : Face = record face { mode = Inserting } in
    Left quantize now (Some (suc frames)) → OneLess quantize (face_later_in Inserting now) frames
insert_less true quantize frames face whole h =
    let never : None ≡ Some (suc frames) = sym (cond-true _ _ _ whole) ∙ h.is
    in cc
insert_less false quantize frames face part h =
    let now : Face = record face { mode = Inserting }
    in let later = face_later_in Inserting now
    in let unit : unit_of quantize later ≡ unit_of quantize now =
    unit-part quantize (face.pos + 1) (face.length + 1) now part
    in let up = rising (unit_of quantize now) face.pos frames h.isnt
    (sym (cond-false _ _ _ part) ∙ h.is)
    in one_less quantize later frames up.now refl (insert_placed now h.placed)
    (cond-false _ _ _ part ∙ ap (λ u. frames_up u (face.pos + 1)) unit ∙ up.later)
    (ap (λ u. unless ((face.pos + 1) % u == 0) up.now) unit ∙ up.less)

-- a face that goes through its list
through_less : (quantize frames : ℕ) (face : Face) → goes_through face.mode ≡ true →
    Left quantize face (Some (suc frames)) → OneLess quantize (face_later face) frames
through_less quantize frames face goes h =
    let t = through face.mode goes
    in let inside = ltb-true face.pos face.length (sym (t.placed face) ∙ h.placed)
    in let left : frames_through face.backward (unit_of quantize face) face.pos face.length ≡ suc
    frames = some_is _ _ (sym (t.left quantize face) ∙ h.is)
    in subst (λ later. OneLess quantize later frames) (sym (t.later face))
    (goes_on_less face.backward (wraps face.backward face.pos face.length) quantize frames face goes
    refl refl inside h.isnt left)

less_in : (mode : Mode) (quantize frames : ℕ) (face : Face) → let now : Face =
    record face { mode = mode } in
    Left quantize now (Some (suc frames)) → OneLess quantize (face_later now) frames
less_in Multiplying quantize frames face h =
    multiply_less (is_whole quantize) quantize frames face refl h
less_in Inserting quantize frames face h =
    insert_less (is_whole quantize) quantize frames face refl h
less_in Playing quantize frames face h =
    through_less quantize frames (record face { mode = Playing }) refl h
less_in Overdubbing quantize frames face h =
    through_less quantize frames (record face { mode = Overdubbing }) refl h
less_in Replacing quantize frames face h =
    through_less quantize frames (record face { mode = Replacing }) refl h
less_in Substituting quantize frames face h =
    through_less quantize frames (record face { mode = Substituting }) refl h
less_in Muted quantize frames face h =
    through_less quantize frames (record face { mode = Muted }) refl h
less_in OneShot quantize frames face h =
    through_less quantize frames (record face { mode = OneShot }) refl h
less_in Off quantize frames face h = (let no = h.runs in cc)
less_in WaitStart quantize frames face h = (let no = h.runs in cc)
less_in Recording quantize frames face h = (let no = h.runs in cc)
less_in Paused quantize frames face h = (let no = h.runs in cc)

-- a face that never comes to a unit goes on so
never :
    (quantize : ℕ) (later : Face) → is_running later.mode ≡ true → is_placed later ≡ true →
    frames_in later.mode quantize later ≡ None →
    (later.pos % unit_of quantize later == 0) ≡ false → frames_to_unit quantize later ≡ None
never quantize later runs placed is isnt =
    left_of_placed quantize later runs placed ∙ ap (λ b. frames_unless b quantize later) isnt ∙ is

multiply_never : (whole : Bool) (quantize : ℕ) (face : Face) → is_whole quantize ≡ whole →
    let now : Face = record face { mode = Multiplying } in
    Left quantize now None → frames_to_unit quantize (face_later_in Multiplying now) ≡ None
multiply_never true quantize face whole h =
    let some : Some (face.length - face.pos) ≡ None = sym (cond-true _ _ _ whole) ∙ h.is
    in cc
multiply_never false quantize face part h =
    let now : Face = record face { mode = Multiplying }
    in let later = face_later_in Multiplying now
    in let unit : unit_of quantize later ≡ unit_of quantize now =
    unit-part quantize (face.pos + 1) (extended_length now) now part
    in let none : unit_of quantize later ≡ 0 =
    unit ∙ never_rises (unit_of quantize now) face.pos (sym (cond-false _ _ _ part) ∙ h.is)
    in never quantize later refl (multiply_placed now h.placed)
    (cond-false _ _ _ part ∙ ap (λ u. frames_up u (face.pos + 1)) none)
    (no_multiple (unit_of quantize later) face.pos none)

insert_never : (whole : Bool) (quantize : ℕ) (face : Face) → is_whole quantize ≡ whole →
    let now : Face = record face { mode = Inserting } in
    Left quantize now None → frames_to_unit quantize (face_later_in Inserting now) ≡ None
insert_never true quantize face whole h =
    let now : Face = record face { mode = Inserting }
    in let later = face_later_in Inserting now
    in let unit : unit_of quantize later ≡ face.length + 1 = unit-whole quantize later whole
    in let inside = ltb-true face.pos face.length h.placed
    in let rest : (face.pos + 1) % (face.length + 1) ≡ face.pos + 1 =
    mod-eq_of_lt (let less : face.pos + 1 < face.length + 1 = omega arith in less)
    in never quantize later refl (insert_placed now h.placed) (cond-true _ _ _ whole)
    (ap (λ u. (face.pos + 1) % u == 0) unit
    ∙ ne_eqb ((face.pos + 1) % (face.length + 1)) 0 (λ is. omega arith))
insert_never false quantize face part h =
    let now : Face = record face { mode = Inserting }
    in let later = face_later_in Inserting now
    in let unit : unit_of quantize later ≡ unit_of quantize now =
    unit-part quantize (face.pos + 1) (face.length + 1) now part
    in let none : unit_of quantize later ≡ 0 =
    unit ∙ never_rises (unit_of quantize now) face.pos (sym (cond-false _ _ _ part) ∙ h.is)
    in never quantize later refl (insert_placed now h.placed)
    (cond-false _ _ _ part ∙ ap (λ u. frames_up u (face.pos + 1)) none)
    (no_multiple (unit_of quantize later) face.pos none)

through_never : {P : Type 0} (quantize : ℕ) (face : Face) → goes_through face.mode ≡ true →
    Left quantize face None → P
through_never quantize face goes h =
    let some : Some (frames_through face.backward (unit_of quantize face) face.pos face.length)
    ≡ None = sym ((through face.mode goes).left quantize face) ∙ h.is
    in cc

never_in : (mode : Mode) (quantize : ℕ) (face : Face) → let now : Face =
    record face { mode = mode } in
    Left quantize now None → frames_to_unit quantize (face_later now) ≡ None
never_in Multiplying quantize face h = multiply_never (is_whole quantize) quantize face refl h
never_in Inserting quantize face h = insert_never (is_whole quantize) quantize face refl h
never_in Playing quantize face h = through_never quantize (record face { mode = Playing }) refl h
never_in Overdubbing quantize face h =
    through_never quantize (record face { mode = Overdubbing }) refl h
never_in Replacing quantize face h =
    through_never quantize (record face { mode = Replacing }) refl h
never_in Substituting quantize face h =
    through_never quantize (record face { mode = Substituting }) refl h
never_in Muted quantize face h = through_never quantize (record face { mode = Muted }) refl h
never_in OneShot quantize face h = through_never quantize (record face { mode = OneShot }) refl h
never_in Off quantize face h = (let no = h.runs in cc)
never_in WaitStart quantize face h = (let no = h.runs in cc)
never_in Recording quantize face h = (let no = h.runs in cc)
never_in Paused quantize face h = (let no = h.runs in cc)

-- what is left, read back
left_by :
    (needs_none : Bool) (quantize : ℕ) (face : Face) (left : Option ℕ) →
    (not (is_running face.mode && is_placed face) || face.pos % unit_of quantize face == 0)
    ≡ needs_none →
    frames_unless needs_none quantize face ≡ left → (left ≡ Some 0 → ⊥) → Left quantize face left
left_by true quantize face left is none some = absurd (some (sym none))
left_by false quantize face left is left_is some =
    let parts = or_parts (not (is_running face.mode && is_placed face))
    (face.pos % unit_of quantize face == 0) is
    in let both = and_parts (is_running face.mode) (is_placed face)
    (not-false (is_running face.mode && is_placed face) parts.0)
    in record { runs = both.0; placed = both.1; isnt = parts.1; is = left_is }

left_of : (quantize : ℕ) (face : Face) (left : Option ℕ) → frames_to_unit quantize face ≡ left →
    (left ≡ Some 0 → ⊥) → Left quantize face left
left_of quantize face left is some =
    left_by (not (is_running face.mode && is_placed face) || face.pos % unit_of quantize face == 0)
    quantize face left refl is some

-- such a face isn't at a unit
isnt_at_unit : (quantize : ℕ) (face : Face) (left : Option ℕ) → Left quantize face left →
    source_at_unit quantize (Some face) ≡ false
isnt_at_unit quantize face left h = or_from (not (is_running face.mode))
    (face.pos % unit_of quantize face == 0) (not_from_true (is_running face.mode) h.runs) h.isnt

-- a face that has frames to go is at no unit
pub not_now : (quantize : ℕ) (face : Face) (left : Option ℕ) → frames_to_unit quantize face ≡ left →
    (left ≡ Some 0 → ⊥) → source_at_unit quantize (Some face) ≡ false
not_now quantize face left is some =
    isnt_at_unit quantize face left (left_of quantize face left is some)

-- a frame later there is one frame less to go
pub one_frame_less : (quantize frames : ℕ) (face : Face) →
    frames_to_unit quantize face ≡ Some (suc frames) → OneLess quantize (face_later face) frames
one_frame_less quantize frames face is = less_in face.mode quantize frames face
    (left_of quantize face (Some (suc frames)) is (λ none. cc))

-- what never comes never comes a frame later
pub never_comes : (quantize : ℕ) (face : Face) → frames_to_unit quantize face ≡ None →
    frames_to_unit quantize (face_later face) ≡ None
never_comes quantize face is =
    never_in face.mode quantize face (left_of quantize face None is (λ none. cc))

-- there is always a frame left up to a multiple
pub up_has_some : (unit at : ℕ) → frames_up unit at ≡ Some 0 → ⊥
up_has_some zero at is = cc
up_has_some (suc unit) at is =
    let below : at % suc unit < suc unit = mod-lt at (omega arith)
    in let none : suc unit - at % suc unit ≡ 0 = some_is _ _ (sym (frames_up-suc unit at) ∙ is)
    in omega arith

-- and through a list, from a place that isn't one
forward_has_some : (unit at length : ℕ) → at < length → frames_forward unit at length ≡ 0 → ⊥
forward_has_some zero at length inside is = omega arith
forward_has_some (suc unit) at length inside is =
    let below : at % suc unit < suc unit = mod-lt at (omega arith)
    in let whole = frames_forward-suc unit at length
    in omega arith

through_has_some : (back : Bool) (unit at length : ℕ) → at < length → (at % unit == 0) ≡ false →
    frames_through back unit at length ≡ 0 → ⊥
through_has_some true unit at length inside isnt is = eqb-false (at % unit) 0 isnt is
through_has_some false unit at length inside isnt is = forward_has_some unit at length inside is

multiply_has_some : (whole : Bool) (quantize : ℕ) (face : Face) → is_whole quantize ≡ whole →
    Left quantize (record face { mode = Multiplying }) (Some 0) → ⊥
multiply_has_some true quantize face whole h =
    let now : Face = record face { mode = Multiplying }
    in let none : face.length - face.pos ≡ 0 = some_is _ _ (sym (cond-true _ _ _ whole) ∙ h.is)
    in let parts = and_parts (nat_le face.pos face.length) (nat_lt 0 face.base) h.placed
    in let least = leb-true face.pos face.length parts.0
    in let same : face.pos ≡ face.length = omega arith
    in let rest : face.pos % unit_of quantize now ≡ 0 =
    ap₂ (λ a u. a % u) same (unit-whole quantize now whole) ∙ mod_self face.length
    in eqb-false (face.pos % unit_of quantize now) 0 h.isnt rest
multiply_has_some false quantize face part h =
    up_has_some (unit_of quantize (record face { mode = Multiplying })) face.pos
    (sym (cond-false _ _ _ part) ∙ h.is)

insert_has_some : (whole : Bool) (quantize : ℕ) (face : Face) → is_whole quantize ≡ whole →
    Left quantize (record face { mode = Inserting }) (Some 0) → ⊥
insert_has_some true quantize face whole h =
    let no : None ≡ Some 0 = sym (cond-true _ _ _ whole) ∙ h.is
    in cc
insert_has_some false quantize face part h =
    up_has_some (unit_of quantize (record face { mode = Inserting })) face.pos
    (sym (cond-false _ _ _ part) ∙ h.is)

list_has_some : (quantize : ℕ) (face : Face) → goes_through face.mode ≡ true →
    Left quantize face (Some 0) → ⊥
list_has_some quantize face goes h =
    let t = through face.mode goes
    in let inside = ltb-true face.pos face.length (sym (t.placed face) ∙ h.placed)
    in through_has_some face.backward (unit_of quantize face) face.pos face.length inside h.isnt
    (some_is _ _ (sym (t.left quantize face) ∙ h.is))

has_some : (mode : Mode) (quantize : ℕ) (face : Face) →
    Left quantize (record face { mode = mode }) (Some 0) → ⊥
has_some Multiplying quantize face h = multiply_has_some (is_whole quantize) quantize face refl h
has_some Inserting quantize face h = insert_has_some (is_whole quantize) quantize face refl h
has_some Playing quantize face h = list_has_some quantize (record face { mode = Playing }) refl h
has_some Overdubbing quantize face h =
    list_has_some quantize (record face { mode = Overdubbing }) refl h
has_some Replacing quantize face h =
    list_has_some quantize (record face { mode = Replacing }) refl h
has_some Substituting quantize face h =
    list_has_some quantize (record face { mode = Substituting }) refl h
has_some Muted quantize face h = list_has_some quantize (record face { mode = Muted }) refl h
has_some OneShot quantize face h = list_has_some quantize (record face { mode = OneShot }) refl h
has_some Off quantize face h = (let no = h.runs in cc)
has_some WaitStart quantize face h = (let no = h.runs in cc)
has_some Recording quantize face h = (let no = h.runs in cc)
has_some Paused quantize face h = (let no = h.runs in cc)

-- a face with no frame left is at a unit, where it is placed
at_unit_by :
    (runs multiple : Bool) (quantize : ℕ) (face : Face) → is_running face.mode ≡ runs →
    (face.pos % unit_of quantize face == 0) ≡ multiple →
    IsPlacedWhereRunning face → frames_unless (not (runs && is_placed face) || multiple) quantize
    face ≡ Some 0 → (not runs || multiple) ≡ true
at_unit_by false multiple quantize face runs is placed left = refl
at_unit_by true true quantize face runs is placed left = refl
at_unit_by true false quantize face runs is placed left =
    let here : is_placed face ≡ true = placed runs
    in let now : frames_in face.mode quantize face ≡ Some 0 =
    sym (ap (λ b. frames_unless (not (true && b) || false) quantize face) here) ∙ left
    in absurd (has_some face.mode quantize face
    (record { runs = runs; placed = here; isnt = is; is = now }))

-- a face with no frame to go is at a unit
pub at_unit : (quantize : ℕ) (face : Face) → frames_to_unit quantize face ≡ Some 0 →
    IsPlacedWhereRunning face → source_at_unit quantize (Some face) ≡ true
at_unit quantize face left placed =
    at_unit_by (is_running face.mode) (face.pos % unit_of quantize face == 0) quantize face refl
    refl placed left
