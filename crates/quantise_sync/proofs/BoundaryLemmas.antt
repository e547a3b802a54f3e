-- No boundary comes before the frames that are left, and one comes behind them.
use Rattle.std.proofs.Common.{◌≡◌, ℕ, zero, suc, ◌+◌, ◌-◌, ◌%◌, ◌<◌, ◌≤◌, Bool, true, false, not, ◌||◌, List, [], ◌∷◌, map, Option, Some, None, option_map, refl, sym, ap, ap₂, ◌∙◌, subst, arith, ℤ, pos, negsuc, cond, add-zero}
use Rattle.std.specs.Prelude.{⊤, ◌==◌, IsTrue, slice_get}
use Rattle.std.specs.List.{AllByRecursion}
use Rattle.std.proofs.lemmas.Option.{slice_get-map}
use Rattle.std.proofs.lemmas.Bool.{eqb-false, ne_eqb, eqb-true, eq-eqb, or_from, or_right}
use Rattle.sl_commands.specs.declared.Face.{Face}
use Rattle.looper_rules.specs.Boundaries.{source_at_unit, source_at_boundary, is_boundary}
use Rattle.looper_rules.specs.FacesLater.{face_later, face_behind, is_boundary_behind}
use Rattle.quantise_sync.specs.Distances.{frames_up, frames_to_unit, frames_to_unit_of, frames_to_pulse, frames_to_boundary, is_placed, IsPlacedWhereRunning}
use Rattle.quantise_sync.proofs.MultipleLemmas.{unless}
use Rattle.quantise_sync.proofs.FaceLemmas.{OneLess, not_now, one_frame_less, never_comes, at_unit, Rising, rising, never_rises, no_multiple, up_has_some}

-- so many frames come before what is left
abbrev pub IsBelow : ℕ → Option ℕ → Type 0
IsBelow n None = ⊤
IsBelow n (Some left) = n < left

-- no frame is below none
none_below : {P : Type 0} (n : ℕ) (left : Option ℕ) → Some 0 ≡ left → IsBelow n left → P
none_below n None is below = cc
none_below n (Some zero) is below = absurd (omega arith)
none_below n (Some (suc left)) is below = cc

-- a face
unit_before : (n quantize : ℕ) (face : Face) (left : Option ℕ) →
    frames_to_unit quantize face ≡ left → IsBelow n left →
    source_at_unit quantize (Some (face_behind n face)) ≡ false
unit_before zero quantize face (Some zero) is below = absurd (omega arith)
unit_before zero quantize face (Some (suc left)) is below =
    not_now quantize face (Some (suc left)) is (λ none. cc)
unit_before zero quantize face None is below = not_now quantize face None is (λ none. cc)
unit_before (suc n) quantize face (Some zero) is below = absurd (omega arith)
unit_before (suc n) quantize face (Some (suc left)) is below =
    unit_before n quantize (face_later face) (Some left) (one_frame_less quantize left face is).left
    (let less : n < left = omega arith in less)
unit_before (suc n) quantize face None is below =
    unit_before n quantize (face_later face) None (never_comes quantize face is) tt

unit_reached : (n quantize : ℕ) (face : Face) → frames_to_unit quantize face ≡ Some n →
    IsPlacedWhereRunning face → source_at_unit quantize (Some (face_behind n face)) ≡ true
unit_reached zero quantize face is placed = at_unit quantize face is placed
unit_reached (suc n) quantize face is placed = let less = one_frame_less quantize n face is in
    unit_reached n quantize (face_later face) less.left (λ runs. less.placed)

-- a face, where there is one
unit_of_before : (n quantize : ℕ) (face : Option Face) (left : Option ℕ) →
    frames_to_unit_of quantize face ≡ left → IsBelow n left →
    source_at_unit quantize (option_map (face_behind n) face) ≡ false
unit_of_before n quantize (Some face) left is below = unit_before n quantize face left is below
unit_of_before n quantize None left is below = none_below n left is below

unit_of_reached : (n quantize : ℕ) (face : Option Face) → frames_to_unit_of quantize face ≡ Some n →
    ((there : Face) → face ≡ Some there → IsPlacedWhereRunning there) →
    source_at_unit quantize (option_map (face_behind n) face) ≡ true
unit_of_reached n quantize (Some face) is placed =
    unit_reached n quantize face is (placed face refl)
unit_of_reached n quantize None is placed = refl

-- a number that rises, up to its next multiple: what is left, read back
pulse_by : (multiple : Bool) (unit at : ℕ) (left : Option ℕ) → (at % unit == 0) ≡ multiple →
    frames_to_pulse unit at ≡ left → (left ≡ Some 0 → ⊥) → ((at % unit == 0) ≡ false)
    × (frames_up unit at ≡ left)
pulse_by true unit at left is frames some =
    absurd (some (sym frames ∙ ap (λ b. cond b (Some 0) (frames_up unit at)) is))
pulse_by false unit at left is frames some =
    (is, sym (ap (λ b. cond b (Some 0) (frames_up unit at)) is) ∙ frames)

pulse_now : (unit at : ℕ) (left : Option ℕ) → frames_to_pulse unit at ≡ left → (left ≡ Some 0 → ⊥) →
    ((at % unit == 0) ≡ false) × (frames_up unit at ≡ left)
pulse_now unit at left is some = pulse_by (at % unit == 0) unit at left refl is some

pulse_later_by : (multiple : Bool) (unit at now frames : ℕ) → ((at + 1) % unit == 0) ≡ multiple →
    frames_up unit (at + 1) ≡ Some now → unless multiple now ≡ frames →
    frames_to_pulse unit (at + 1) ≡ Some frames
pulse_later_by true unit at now frames is up less =
    ap (λ b. cond b (Some 0) (frames_up unit (at + 1))) is ∙ ap Some less
pulse_later_by false unit at now frames is up less =
    ap (λ b. cond b (Some 0) (frames_up unit (at + 1))) is ∙ up ∙ ap Some less

pulse_less : (unit at frames : ℕ) → frames_to_pulse unit at ≡ Some (suc frames) →
    frames_to_pulse unit (at + 1) ≡ Some frames
pulse_less unit at frames is =
    let now = pulse_now unit at (Some (suc frames)) is (λ none. cc)
    in let up = rising unit at frames now.0 now.1
    in pulse_later_by ((at + 1) % unit == 0) unit at up.now frames refl up.later up.less

pulse_never : (unit at : ℕ) → frames_to_pulse unit at ≡ None → frames_to_pulse unit (at + 1) ≡ None
pulse_never unit at is =
    let now = pulse_now unit at None is (λ none. cc)
    in let none = never_rises unit at now.1
    in ap (λ b. cond b (Some 0) (frames_up unit (at + 1))) (no_multiple unit at none)
    ∙ ap (λ u. frames_up u (at + 1)) none

pulse_zero : (multiple : Bool) (unit at : ℕ) → (at % unit == 0) ≡ multiple →
    frames_to_pulse unit at ≡ Some 0 → (at % unit == 0) ≡ true
pulse_zero true unit at is left = is
pulse_zero false unit at is left =
    absurd (up_has_some unit at (sym (ap (λ b. cond b (Some 0) (frames_up unit at)) is) ∙ left))

-- the number so many later
add-suc_later : (at n : ℕ) → at + 1 + n ≡ at + suc n
add-suc_later at n = omega arith

pulse_before : (n unit at : ℕ) (left : Option ℕ) → frames_to_pulse unit at ≡ left → IsBelow n left →
    ((at + n) % unit == 0) ≡ false
pulse_before zero unit at (Some zero) is below = absurd (omega arith)
pulse_before zero unit at (Some (suc left)) is below =
    rw (add-zero at) (pulse_now unit at (Some (suc left)) is (λ none. cc)).0
pulse_before zero unit at None is below =
    rw (add-zero at) (pulse_now unit at None is (λ none. cc)).0
pulse_before (suc n) unit at (Some zero) is below = absurd (omega arith)
pulse_before (suc n) unit at (Some (suc left)) is below =
    subst (λ m. (m % unit == 0) ≡ false) (add-suc_later at n)
    (pulse_before n unit (at + 1) (Some left) (pulse_less unit at left is)
    (let less : n < left = omega arith in less))
pulse_before (suc n) unit at None is below =
    subst (λ m. (m % unit == 0) ≡ false) (add-suc_later at n)
    (pulse_before n unit (at + 1) None (pulse_never unit at is) tt)

pulse_reached : (n unit at : ℕ) → frames_to_pulse unit at ≡ Some n → ((at + n) % unit == 0) ≡ true
pulse_reached zero unit at is = rw (add-zero at) (pulse_zero (at % unit == 0) unit at refl is)
pulse_reached (suc n) unit at is = subst (λ m. (m % unit == 0) ≡ true) (add-suc_later at n)
    (pulse_reached n unit (at + 1) (pulse_less unit at n is))

-- the source's boundary
source_before : (n : ℕ) (source : ℤ) (quantize pulse frame : ℕ) (faces : List Face)
    (left : Option ℕ) → frames_to_boundary source quantize pulse frame faces ≡ left →
    IsBelow n left →
    source_at_boundary source quantize pulse (frame + n) (map (face_behind n) faces) ≡ false
source_before n (pos zero) quantize pulse frame faces left is below = none_below n left is below
source_before n (pos (suc k)) quantize pulse frame faces left is below =
    ap (source_at_unit quantize) (slice_get-map (face_behind n) faces k)
    ∙ unit_of_before n quantize (slice_get faces k) left is below
source_before n (negsuc m) quantize pulse frame faces left is below =
    pulse_before n pulse frame left is below

-- what holds of each face holds of the one that is there
placed_at : (faces : List Face) (k : ℕ) → AllByRecursion IsPlacedWhereRunning faces →
    (there : Face) → slice_get faces k ≡ Some there → IsPlacedWhereRunning there
placed_at [] k all there is = cc
placed_at (face ∷ faces) zero all there is = let same : face ≡ there = cc in
    subst IsPlacedWhereRunning same all.0
placed_at (face ∷ faces) (suc k) all there is = placed_at faces k all.1 there is

source_reached : (n : ℕ) (source : ℤ) (quantize pulse frame : ℕ) (faces : List Face) →
    frames_to_boundary source quantize pulse frame faces ≡ Some n →
    AllByRecursion IsPlacedWhereRunning faces →
    source_at_boundary source quantize pulse (frame + n) (map (face_behind n) faces) ≡ true
source_reached n (pos zero) quantize pulse frame faces is all = refl
source_reached n (pos (suc k)) quantize pulse frame faces is all =
    ap (source_at_unit quantize) (slice_get-map (face_behind n) faces k)
    ∙ unit_of_reached n quantize (slice_get faces k) is (placed_at faces k all)
source_reached n (negsuc m) quantize pulse frame faces is all = pulse_reached n pulse frame is

-- the boundary of a loop that waits
pub boundary_before : (n : ℕ) (source : ℤ) (quantize pulse frame : ℕ) (faces : List Face)
    (left : Option ℕ) → (quantize == 0) ≡ false →
    frames_to_boundary source quantize pulse frame faces ≡ left → IsBelow n left →
    is_boundary_behind source quantize pulse frame faces n ≡ false
boundary_before n source quantize pulse frame faces left waits is below =
    or_from _ _ waits (source_before n source quantize pulse frame faces left is below)

-- so many frames on, there is a boundary
pub boundary_reached : (n : ℕ) (source : ℤ) (quantize pulse frame : ℕ) (faces : List Face) →
    frames_to_boundary source quantize pulse frame faces ≡ Some n →
    AllByRecursion IsPlacedWhereRunning faces →
    is_boundary_behind source quantize pulse frame faces n ≡ true
boundary_reached n source quantize pulse frame faces is all =
    or_right _ _ (source_reached n source quantize pulse frame faces is all)
