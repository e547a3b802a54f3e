-- A waiting verb acts at a boundary. Where quantize of its loop is 0 (set while it waits), each
-- frame is one. Else, by sync_source:
-- - 0: each frame;
-- - -3: the frames that are multiples of pulse;
-- - k above 0: the frames at which loop number k, counted from 1, has a pos that is a multiple of
--   the unit. The unit is its cycle for quantize 1, the greater of 1 and an eighth of its cycle,
--   rounded down, for 2, and its length for 3. That loop has to be running, in Playing,
--   Overdubbing, Multiplying, Inserting, Replacing, Substituting, Muted or OneShot; where it isn't,
--   each frame is a boundary.
-- All faces are those of the moment after the entries of the frame.
-- "Boundaries" in docs/rules.md.
use Rattle.std.specs.Prelude.{ℕ, zero, suc, ◌/◌, ◌%◌, max, ℤ, pos, negsuc, Bool, true, false, ◌||◌, not, List, Option, Some, None, slice_get, ◌==◌, if◌then◌else◌}
use Rattle.sl_commands.specs.declared.Mode.{Mode}
use Rattle.sl_commands.specs.declared.Mode.TheVariants.{Playing, Overdubbing, Multiplying, Inserting, Replacing, Substituting, Muted, OneShot}
use Rattle.sl_commands.specs.declared.Face.{Face}

-- whether a loop in this mode is running
abbrev pub is_running : Mode → Bool
is_running Playing = true
is_running Overdubbing = true
is_running Multiplying = true
is_running Inserting = true
is_running Replacing = true
is_running Substituting = true
is_running Muted = true
is_running OneShot = true
is_running _ = false

-- the unit of a source, by the quantize of the loop that waits
abbrev pub unit_of : ℕ → Face → ℕ
unit_of quantize source =
    if quantize == 1 then source.cycle
    else if quantize == 2 then max 1 (source.cycle / 8)
    else source.length

-- whether the source loop, where there is one, is at a unit or isn't running
abbrev pub source_at_unit : ℕ → Option Face → Bool
source_at_unit quantize None = true
source_at_unit quantize (Some source) =
    not (is_running source.mode) || source.pos % unit_of quantize source == 0

-- whether the source is at a boundary: faces, pulse and frame
abbrev pub source_at_boundary : ℤ → ℕ → ℕ → ℕ → List Face → Bool
source_at_boundary (pos zero) quantize pulse frame faces = true
source_at_boundary (pos (suc k)) quantize pulse frame faces =
    source_at_unit quantize (slice_get faces k)
source_at_boundary (negsuc _) quantize pulse frame faces = frame % pulse == 0

-- whether a frame is a boundary for a loop with this quantize
abbrev pub is_boundary : ℤ → ℕ → ℕ → ℕ → List Face → Bool
is_boundary source quantize pulse frame faces =
    quantize == 0 || source_at_boundary source quantize pulse frame faces
