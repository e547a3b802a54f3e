-- What a fill is seen as, of its inside.
-- "The layer that is written" in docs/rules.md.
use Rattle.std.specs.Prelude.{◌≡◌, Option, Some, None}
use Rattle.sl_base.specs.Limits.{max_seams}
use Rattle.looper_rules.specs.Stack.{LastWrite}
use Rattle.pieces.specs.Pieces.{addresses}
use Rattle.lazy_fill.specs.Fills.{FillOf, IsFill}
use Rattle.lazy_fill.specs.declared.fill.Last.{Last}
use Rattle.lazy_fill.specs.declared.fill.Fill.TheInside.{Inside}

-- the streak that goes on
abbrev pub streak_of : Option Last → Option LastWrite
streak_of None = None
streak_of (Some l) = Some (record { place = l.place; how = l.how })

-- the fill of its parts
abbrev pub fill_of : Inside → FillOf
fill_of s =
    record {
      cells = addresses s.list.items;
      floor = s.floor;
      next = s.next;
      seams = s.seams;
      streak = streak_of s.streak;
      pieces = s.list.items;
    }

-- what always holds
pub record HoldsFill (s : Inside) : Type 0 where
  pub fill : IsFill (fill_of s)
  pub room : s.list.room ≡ max_seams
