-- A live session begins with a session file where one is named, else with so many empty loops, 1 to
-- 16, at a rate. Its bindings are read from a file where one is named. There are so many chunks for
-- all loops.
-- "The files of a live session" in docs/formats.md.
use Rattle.std.specs.Prelude.{◌≤◌, ℕ, List, Option, length, IfSome, IsTrue}
use Rattle.sl_base.specs.Limits.{max_session_name}
use Rattle.sl_commands.specs.Settings.{is_rate, is_loop_count}

-- what is named
pub record LiveNamed : Type 0 where
  pub session : Option (List ℕ)
  pub bind : Option (List ℕ)
  pub rate : ℕ
  pub loops : ℕ
  pub chunks : ℕ

-- the session's files have names, and the rate and so many loops there may be
pub record IsLiveNamed (n : LiveNamed) : Type 0 where
  pub session : IfSome n.session (λ name. length name ≤ max_session_name)
  pub rate : IsTrue (is_rate n.rate)
  pub loops : IsTrue (is_loop_count n.loops)
