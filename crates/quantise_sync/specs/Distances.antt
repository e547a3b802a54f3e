-- How many frames it is from a face to the next unit, while it goes on by one frame after another:
-- None where none comes.
-- - A number that rises by one a frame: up to the next multiple of the unit.
-- - Forward through a list: the same, or to the list's end, where pos becomes 0, whichever is
--   nearer. Backward: down to the multiple below.
-- - A multiply rises without end, and is at its whole length before it is extended. An insert's
--   length rises with pos, so it never comes to its whole length.
-- A face is placed where pos is below the length, or at it in a multiply over a base that isn't
-- empty.
-- "Boundaries" in docs/rules.md.
use Rattle.std.specs.Prelude.{ℕ, zero, suc, ◌-◌, ◌%◌, min, ℤ, pos, negsuc, Bool, true, false, ◌&&◌, ◌||◌, not, IsTrue, List, Option, Some, None, slice_get, nat_lt, nat_le, ◌==◌, if◌then◌else◌}
use Rattle.sl_commands.specs.declared.Mode.{Mode}
use Rattle.sl_commands.specs.declared.Mode.TheVariants.{Multiplying, Inserting}
use Rattle.sl_commands.specs.declared.Face.{Face}
use Rattle.looper_rules.specs.Boundaries.{is_running, unit_of}

-- up to the next multiple, from a number that isn't one
abbrev pub frames_up : ℕ → ℕ → Option ℕ
frames_up unit at = if unit == 0 then None else Some (unit - at % unit)

-- forward through a list of this length, from a place that isn't a multiple
abbrev pub frames_forward : ℕ → ℕ → ℕ → ℕ
frames_forward unit at length = if unit == 0 then length - at else
    min (unit - at % unit) (length - at)

-- through a list in this direction
abbrev pub frames_through : Bool → ℕ → ℕ → ℕ → ℕ
frames_through true unit at length = at % unit
frames_through false unit at length = frames_forward unit at length

-- the unit is the whole length
abbrev pub is_whole : ℕ → Bool
is_whole quantize = not (quantize == 1) && not (quantize == 2)

-- from a face in this mode that isn't at a unit
abbrev pub frames_in : Mode → ℕ → Face → Option ℕ
frames_in Multiplying quantize face =
    if is_whole quantize then Some (face.length - face.pos) else
    frames_up (unit_of quantize face) face.pos
frames_in Inserting quantize face = if is_whole quantize then None else
    frames_up (unit_of quantize face) face.pos
frames_in _ quantize face =
    Some (frames_through face.backward (unit_of quantize face) face.pos face.length)

-- a face in this mode is placed
abbrev pub is_placed_in : Mode → Face → Bool
is_placed_in Multiplying face = nat_le face.pos face.length && nat_lt 0 face.base
is_placed_in _ face = nat_lt face.pos face.length

abbrev pub is_placed : Face → Bool
is_placed face = is_placed_in face.mode face

-- a face that is at a unit, or isn't running or placed, needs no frame
abbrev pub frames_unless : Bool → ℕ → Face → Option ℕ
frames_unless true quantize face = Some 0
frames_unless false quantize face = frames_in face.mode quantize face

-- from a face to the next unit
abbrev pub frames_to_unit : ℕ → Face → Option ℕ
frames_to_unit quantize face =
    frames_unless (not (is_running face.mode && is_placed face) || face.pos % unit_of quantize face
    == 0) quantize face

-- from a face, where there is one
abbrev pub frames_to_unit_of : ℕ → Option Face → Option ℕ
frames_to_unit_of quantize None = Some 0
frames_to_unit_of quantize (Some face) = frames_to_unit quantize face

-- from a frame to the next pulse
abbrev pub frames_to_pulse : ℕ → ℕ → Option ℕ
frames_to_pulse pulse frame = if frame % pulse == 0 then Some 0 else frames_up pulse frame

-- from a moment to the source's next boundary
abbrev pub frames_to_boundary : ℤ → ℕ → ℕ → ℕ → List Face → Option ℕ
frames_to_boundary (pos zero) quantize pulse frame faces = Some 0
frames_to_boundary (pos (suc k)) quantize pulse frame faces =
    frames_to_unit_of quantize (slice_get faces k)
frames_to_boundary (negsuc _) quantize pulse frame faces = frames_to_pulse pulse frame

-- the source of a boundary is placed, where it is a loop that runs
abbrev pub IsPlacedWhereRunning : Face → Type 0
IsPlacedWhereRunning face = IsTrue (is_running face.mode) → IsTrue (is_placed face)
