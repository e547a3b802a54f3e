-- A run is read from IN, from a session where one is named, and from JOURNAL. Where no session is
-- named it begins with so many empty loops, 1 to 16. There are so many chunks for all loops.
-- "The files of a run" in docs/formats.md.
use Rattle.std.specs.Prelude.{◌≤◌, ℕ, List, Option, length, IfSome, IsTrue}
use Rattle.sl_base.specs.Limits.{max_session_name}
use Rattle.sl_commands.specs.Settings.{is_loop_count}

-- what is named
pub record Named : Type 0 where
  pub input : List ℕ
  pub session : Option (List ℕ)
  pub loops : ℕ
  pub journal : List ℕ
  pub chunks : ℕ

-- the session's files have names, and so many loops there may be
pub record IsNamed (n : Named) : Type 0 where
  pub session : IfSome n.session (λ name. length name ≤ max_session_name)
  pub loops : IsTrue (is_loop_count n.loops)
