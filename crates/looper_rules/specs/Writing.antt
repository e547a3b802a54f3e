-- A write puts one frame over the one at a place, before it, or at the end of the open layer's
-- list.
-- Over a fresh cell it keeps the tape length and ends the streak, and it always fits.
-- Every other write makes a new cell: it adds one to the tape length, leaves the cell fresh, adds 2
-- seams where no streak goes on, and then a streak goes on. It fits where the loop has room, and a
-- streak goes on or the total seams are at most 65534, and, before a place or at the end, the list
-- has fewer than 16777216 frames.
-- Extending appends the base, not fresh, and adds its seams. It fits where the list then has at
-- most 16777216 frames and the total seams are at most 65536.
-- "Writing" in docs/rules.md.
use Rattle.std.specs.Prelude.{ℕ, ◌+◌, ◌-◌, Bool, true, false, ◌&&◌, ◌||◌, List, [], ◌∷◌, ◌++◌, Some, None, is_some, slice_get, slice_set, insert, nat_lt, nat_le, if◌then◌else◌}
use Rattle.sl_commands.specs.declared.How.{How}
use Rattle.sl_commands.specs.declared.How.TheVariants.{Forward, Backward, Insert, Append}
use Rattle.sl_base.specs.Limits.{max_seams, max_list_frames}
use Rattle.looper_rules.specs.Layers.{Cell, Layer, fresh_cell, old_cells, is_fresh, total_seams, with_current, current_cells, current_length, current_base_length, current_base_seams}
use Rattle.looper_rules.specs.Stack.{Stack}
use Rattle.looper_rules.specs.Room.{has_room}

-- whether the frame takes the place of another
abbrev pub overwrites : How → Bool
overwrites Forward = true
overwrites Backward = true
overwrites Insert = false
overwrites Append = false

-- whether the write meets a fresh cell
abbrev pub meets_fresh : {A : Type 0} → How → ℕ → Stack A → Bool
meets_fresh how place s = overwrites how && is_fresh (slice_get (current_cells s.layers) place)

-- whether a write of a new cell fits
abbrev pub new_cell_fits : {A : Type 0} → ℕ → How → Stack A → Bool
new_cell_fits reach how s =
    has_room reach s.tape
    && (is_some s.streak || nat_le (total_seams s.layers) (max_seams - 2))
    && (overwrites how || nat_lt (current_length s.layers) max_list_frames)

-- whether a write fits
abbrev pub write_fits : {A : Type 0} → ℕ → How → ℕ → Stack A → Bool
write_fits reach how place s = meets_fresh how place s || new_cell_fits reach how s

-- the cells with a new one in its place
abbrev pub with_cell : {A : Type 0} → How → ℕ → Cell A → List (Cell A) → List (Cell A)
with_cell Forward place c cells = slice_set cells place c
with_cell Backward place c cells = slice_set cells place c
with_cell Insert place c cells = insert cells place c
with_cell Append place c cells = cells ++ c ∷ []

-- the layer with a fresh cell more, or in the place of another, and these seams more
abbrev pub with_written : {A : Type 0} → How → ℕ → A → ℕ → Layer A → Layer A
with_written how place a seams l =
    record l {
      cells = with_cell how place (fresh_cell a) l.cells;
      seams = l.seams + seams;
    }

-- the stack after a write over a fresh cell
abbrev pub rewritten : {A : Type 0} → How → ℕ → A → Stack A → Stack A
rewritten how place a s =
    record s { layers = with_current (with_written how place a 0) s.layers; streak = None }

-- the stack after a write that makes a new cell
abbrev pub newly_written : {A : Type 0} → How → ℕ → A → Stack A → Stack A
newly_written how place a s =
    record s {
      layers = with_current (with_written how place a (if is_some s.streak then 0 else 2)) s.layers;
      tape = s.tape + 1;
      streak = Some (record { place = place; how = how });
    }

-- the stack after a write that fits
abbrev pub written : {A : Type 0} → How → ℕ → A → Stack A → Stack A
written how place a s = if meets_fresh how place s then rewritten how place a s else
    newly_written how place a s

-- whether the base fits once more
abbrev pub extension_fits : {A : Type 0} → Stack A → Bool
extension_fits s =
    nat_le (current_length s.layers + current_base_length s.layers) max_list_frames
    && nat_le (total_seams s.layers + current_base_seams s.layers) max_seams

-- the layer with its base once more
abbrev pub with_base : {A : Type 0} → Layer A → Layer A
with_base l = record l { cells = l.cells ++ old_cells l.base; seams = l.seams + l.base_seams }

-- the stack with the open layer extended
abbrev pub extended : {A : Type 0} → Stack A → Stack A
extended s = record s { layers = with_current with_base s.layers }

-- the stack with the open layer extended, or as it is
abbrev pub extended_if : {A : Type 0} → Bool → Stack A → Stack A
extended_if true s = extended s
extended_if false s = s
