-- A write puts an address over the one at a place (forward or backward), before it, or at the end.
-- While a streak goes on, the piece of its last write goes on to the next address.
-- "Pieces" and "The layer that is written" in docs/rules.md.
use Rattle.std.specs.Prelude.{◌≤◌, ◌<◌, ℕ, ◌+◌, ⊤, List, ◌∷◌, [], ◌++◌, Option, Some, None, is_some, slice_set, insert, if◌then◌else◌}
use Rattle.sl_base.specs.Limits.{max_list_frames}
use Rattle.sl_commands.specs.declared.How.{How}
use Rattle.sl_commands.specs.declared.How.TheVariants.{Forward, Backward, Insert, Append}
use Rattle.looper_rules.specs.Stack.{LastWrite}
use Rattle.pieces.specs.Pieces.{Piece}
use Rattle.pieces.specs.OneMore.{Continues, ContinuesBackward, inserted, joined, overwritten, overwritten_backward}

-- the list with an address written
abbrev pub with_address : How → ℕ → ℕ → List ℕ → List ℕ
with_address Forward place a xs = slice_set xs place a
with_address Backward place a xs = slice_set xs place a
with_address Insert place a xs = insert xs place a
with_address Append place a xs = xs ++ a ∷ []

-- the pieces with an address written
abbrev pub pieces_written : How → ℕ → ℕ → List Piece → List Piece
pieces_written Forward place a ps = overwritten place a ps
pieces_written Backward place a ps = overwritten_backward place a ps
pieces_written Insert place a ps = inserted place a ps
pieces_written Append place a ps = joined a ps

-- the list is short enough for a write
abbrev pub IsShort : How → ℕ → Type 0
IsShort Forward len = len ≤ max_list_frames
IsShort Backward len = len ≤ max_list_frames
IsShort Insert len = len < max_list_frames
IsShort Append len = len < max_list_frames

-- what a write adds to the seams
abbrev pub more_seams : Option LastWrite → ℕ
more_seams streak = if is_some streak then 0 else 2

-- a piece goes on to this address where a write at the place puts it
abbrev pub MeetsPiece : How → ℕ → ℕ → List Piece → Type 0
MeetsPiece Forward place next ps = Continues place next ps
MeetsPiece Insert place next ps = Continues place next ps
MeetsPiece Append place next ps = Continues place next ps
MeetsPiece Backward place next ps = ContinuesBackward (place + 1) next ps

-- behind a write at this place, its piece goes on to this address
abbrev pub IsStreakOn : How → ℕ → ℕ → List Piece → Type 0
IsStreakOn Forward place next ps = Continues (place + 1) next ps
IsStreakOn Insert place next ps = Continues (place + 1) next ps
IsStreakOn Append place next ps = Continues (place + 1) next ps
IsStreakOn Backward place next ps = ContinuesBackward place next ps

-- while a streak goes on, the piece of its last write goes on to the next address
abbrev pub HasStreak : Option LastWrite → ℕ → List Piece → Type 0
HasStreak None next ps = ⊤
HasStreak (Some last) next ps = IsStreakOn last.how last.place next ps
