-- What a face is one frame later, where every write and extension fits and no layer closes: a
-- Recording is one frame longer, and pos is its length; an insert is one frame longer and one place
-- on; a multiply at its length is longer by its base, and one place on; a loop that plays its list
-- or writes over it goes one place on in its direction and round at the list's border, where
-- OneShot becomes Muted. Off, WaitStart and Paused stay as they are.
-- So the next boundary can be told from the faces of one moment.
-- "Boundaries" in docs/rules.md.
use Rattle.std.specs.Prelude.{ℕ, zero, suc, ◌+◌, ℤ, Bool, true, false, List, map, ◌==◌, if◌then◌else◌}
use Rattle.sl_commands.specs.declared.Mode.{Mode}
use Rattle.sl_commands.specs.declared.Mode.TheVariants.{Off, WaitStart, Recording, Multiplying, Inserting, Paused}
use Rattle.sl_commands.specs.declared.Face.{Face}
use Rattle.looper_rules.specs.LoopFrame.{wraps, wrapped_place, wrapped_mode, next_place}
use Rattle.looper_rules.specs.Boundaries.{is_boundary}

-- a face one place on in its list, by whether it wraps around
abbrev pub face_goes_on : Bool → Face → Face
face_goes_on true face =
    record face { mode = wrapped_mode face.mode; pos = wrapped_place face.backward face.length }
face_goes_on false face = record face { pos = next_place face.backward face.pos }

-- the length of a multiply once its frame has begun
abbrev pub extended_length : Face → ℕ
extended_length face = if face.pos == face.length then face.length + face.base else face.length

-- a face in this mode, one frame later
abbrev pub face_later_in : Mode → Face → Face
face_later_in Off face = face
face_later_in WaitStart face = face
face_later_in Paused face = face
face_later_in Recording face = record face { pos = face.length + 1; length = face.length + 1 }
face_later_in Inserting face = record face { pos = face.pos + 1; length = face.length + 1 }
face_later_in Multiplying face = record face { pos = face.pos + 1; length = extended_length face }
face_later_in _ face = face_goes_on (wraps face.backward face.pos face.length) face

-- a face one frame later
abbrev pub face_later : Face → Face
face_later face = face_later_in face.mode face

-- a face so many frames later
abbrev pub face_behind : ℕ → Face → Face
face_behind zero face = face
face_behind (suc frames) face = face_behind frames (face_later face)

-- whether so many frames behind this one is a boundary for a loop with this quantize
abbrev pub is_boundary_behind : ℤ → ℕ → ℕ → ℕ → List Face → ℕ → Bool
is_boundary_behind source quantize pulse frame faces frames =
    is_boundary source quantize pulse (frame + frames) (map (face_behind frames) faces)
