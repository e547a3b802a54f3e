-- A command is for one loop, for all loops, or for the selected one. What is read or saved is never
-- all loops, and a release is for the loop of a loop's save, or for all loops where a session was
-- saved.
-- A set and a get name a loop's control, a global set and a global get one of the looper's. What is
-- set lies in the control's range. A release tells how the save ended: 0 written, 1 the keeper
-- failed, 4 no memory.
-- The name of a session has at most 48 bytes. In messages and texts a target is a number.
-- "Commands" in docs/rules.md.
use Rattle.std.specs.Prelude.{ℕ, ℤ, pos, negsuc, Option, Some, None, if◌then◌else◌, Bool, true, false, ◌&&◌, ◌||◌, not, ◌==◌, nat_le, nat_lt, List, length}
use Rattle.sl_base.specs.Limits.{max_session_name}
use Rattle.sl_base.specs.Names.{is_name}
use Rattle.sl_commands.specs.declared.command.Target.{Target}
use Rattle.sl_commands.specs.declared.command.Target.TheVariants.{One, All, Selected}
use Rattle.sl_commands.specs.declared.command.Command.{Command}
use Rattle.sl_commands.specs.declared.command.Command.TheVariants.{Down, Up, Hit, Set, SetGlobal, Get, GetGlobal, SaveLoop, SaveSession, Release, Quit}
use Rattle.sl_commands.specs.Controls.{is_of_loop, is_in_range}

-- the table of targets as numbers: a loop's index, -1 for all loops, -3 for the selected one
abbrev pub target_number : Target → ℤ
target_number (One i) = pos i
target_number All = negsuc 0
target_number Selected = negsuc 2

-- the target with this number, where there is one; an index is at most 255
abbrev pub numbered_target : ℤ → Option Target
numbered_target (pos n) = if nat_le n 255 then Some (One n) else None
numbered_target (negsuc n) = if n == 0 then Some All else if n == 2 then Some Selected else None

-- the target names no loop that isn't there
abbrev pub is_target : ℕ → Target → Bool
is_target loops (One i) = nat_lt i loops
is_target loops All = true
is_target loops Selected = true

-- the same, where all loops at once are no target
abbrev pub is_single_target : ℕ → Target → Bool
is_single_target loops (One i) = nat_lt i loops
is_single_target loops All = false
is_single_target loops Selected = true

-- the same for a release, where the selected loop is no target
abbrev pub is_release_target : ℕ → Target → Bool
is_release_target loops (One i) = nat_lt i loops
is_release_target loops All = true
is_release_target loops Selected = false

-- how a save may end
abbrev pub is_outcome : ℕ → Bool
is_outcome o = o == 0 || o == 1 || o == 4

-- a name with which the names of a session's files are names too
abbrev pub is_session_name : List ℕ → Bool
is_session_name name = is_name name && nat_le (length name) max_session_name

-- the command says nothing that is out of range, for so many loops
abbrev pub is_allowed : ℕ → Command → Bool
is_allowed loops (Down target verb) = is_target loops target
is_allowed loops (Up target verb) = is_target loops target
is_allowed loops (Hit target verb) = is_target loops target
is_allowed loops (Set target control value) = is_target loops target && is_of_loop control
    && is_in_range control value loops
is_allowed loops (SetGlobal control value) =
    not (is_of_loop control) && is_in_range control value loops
is_allowed loops (Get target control) = is_single_target loops target && is_of_loop control
is_allowed loops (GetGlobal control) = not (is_of_loop control)
is_allowed loops (SaveLoop target name) = is_single_target loops target && is_name name
is_allowed loops (SaveSession name) = is_session_name name
is_allowed loops (Release target outcome) = is_release_target loops target && is_outcome outcome
is_allowed loops Quit = true
