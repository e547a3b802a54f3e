-- The layer that is being written: its addresses in pieces, a floor from which on they are fresh,
-- the address that the next write takes, which is above all of them, its seams, and the streak that
-- goes on.
-- "The layer that is written" in docs/rules.md.
use Rattle.std.specs.Prelude.{◌≡◌, ◌≤◌, ℕ, zero, suc, ◌+◌, List, ◌++◌, length, take, Option, Some, None}
use Rattle.sl_base.specs.Limits.{max_list_frames, max_seams}
use Rattle.sl_commands.specs.declared.How.{How}
use Rattle.sl_commands.specs.declared.How.TheVariants.{Forward}
use Rattle.looper_rules.specs.Stack.{LastWrite}
use Rattle.pieces.specs.Pieces.{Piece, Solid, addresses}
use Rattle.pieces.specs.Splitting.{before}
use Rattle.lazy_fill.specs.Addresses.{Below, Once}
use Rattle.lazy_fill.specs.Streaks.{HasStreak, more_seams, pieces_written, with_address}

-- what a fill is seen as
pub record FillOf : Type 0 where
  pub cells : List ℕ
  pub floor : ℕ
  pub next : ℕ
  pub seams : ℕ
  pub streak : Option LastWrite
  pub pieces : List Piece

-- what always holds of it: no address of a fresh cell stands twice, and the pieces are at most the
-- seams
pub record IsFill (f : FillOf) : Type 0 where
  pub floor : f.floor ≤ f.next
  pub below : Below f.next f.cells
  pub once : Once f.floor f.cells
  pub seams : f.seams ≤ max_seams
  pub short : length f.cells ≤ max_list_frames
  pub cells : f.cells ≡ addresses f.pieces
  pub few : length f.pieces ≤ f.seams
  pub solid : Solid f.pieces
  pub streak : HasStreak f.streak f.next f.pieces

-- nothing is written yet, from these pieces on, at addresses from the floor on
abbrev pub fill_started : List Piece → ℕ → ℕ → FillOf
fill_started ps seams floor =
    record {
      cells = addresses ps;
      floor = floor;
      next = floor;
      seams = seams;
      streak = None;
      pieces =
          ps;
    }

-- the next address written
abbrev pub fill_written : How → ℕ → FillOf → FillOf
fill_written how place f =
    record {
      cells = with_address how place f.next f.cells;
      floor = f.floor;
      next = f.next + 1;
      seams = f.seams + more_seams f.streak;
      streak = Some (record { place = place; how = how });
      pieces = pieces_written how place f.next f.pieces;
    }

-- so many addresses written in a row, each over the one at its place
abbrev pub fill_written_span : ℕ → ℕ → FillOf → FillOf
fill_written_span zero place f = f
fill_written_span (suc k) place f = fill_written_span k (place + 1) (fill_written Forward place f)

-- the streak ended
abbrev pub fill_broken : FillOf → FillOf
fill_broken f = record f { streak = None }

-- more pieces behind, which aren't fresh
abbrev pub fill_extended : List Piece → ℕ → FillOf → FillOf
fill_extended ps more f =
    record f {
      cells = f.cells ++ addresses ps;
      seams = f.seams + more;
      pieces = f.pieces ++ ps;
    }

-- no cell fresh any more
abbrev pub fill_frozen : FillOf → FillOf
fill_frozen f = record f { floor = f.next; streak = None }

-- the first so many of a list, or all
abbrev pub cut_list : Option ℕ → List ℕ → List ℕ
cut_list None xs = xs
cut_list (Some k) xs = take k xs

-- the pieces of the first so many addresses, or all
abbrev pub cut_pieces : Option ℕ → List Piece → List Piece
cut_pieces None ps = ps
cut_pieces (Some k) ps = before k ps

-- cut to so many cells, or not
abbrev pub fill_cut : Option ℕ → FillOf → FillOf
fill_cut cut f = record f {
  cells = cut_list cut f.cells;
  streak = None;
  pieces =
      cut_pieces cut f.pieces;
}
