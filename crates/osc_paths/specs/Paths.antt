-- A path is `/sl/`, a loop's number, -1 or -3, `/` and a word; or `/` and a word.
-- "OSC paths" in docs/formats.md.
use Rattle.std.specs.Prelude.{◌≡◌, ℕ, Bool, true, if◌then◌else◌, List, [], ◌∷◌, ◌++◌, take, drop, Option, Some, None, IsTrue, codes, option_map}
use Rattle.std.specs.Str.{bytes_eq}
use Rattle.std.specs.Fmt.{signed_decimal}
use Rattle.sl_commands.specs.declared.command.Target.{Target}
use Rattle.sl_commands.specs.declared.command.Target.TheVariants.{One, All, Selected}
use Rattle.sl_commands.specs.Commands.{target_number, is_target, is_single_target}
use Rattle.osc_paths.specs.declared.path.Path.{Path}
use Rattle.osc_paths.specs.declared.path.Path.TheVariants.{Down, Up, Hit, Set, Get, SaveLoop, SetGlobal, GetGlobal, SaveSession, Ping, Quit}
use Rattle.osc_paths.specs.Texts.{cut_at, number_up_to, ◌>>=◌}

-- a path's line in the table: the loops that it is for, its word, and the tags of its arguments
pub record PathRow : Type 0 where
  pub target : Option Target
  pub word : List ℕ
  pub tags : List ℕ

-- a line on a loop's path
abbrev pub loop_line : Target → List ℕ → List ℕ → PathRow
loop_line target word tags = record { target = Some target; word = word; tags = tags }

-- a line on a path of the looper
abbrev pub looper_line : List ℕ → List ℕ → PathRow
looper_line word tags = record { target = None; word = word; tags = tags }

-- the table of paths
abbrev pub path_row : Path → PathRow
path_row (Down target) = loop_line target (codes "down") (codes "s")
path_row (Up target) = loop_line target (codes "up") (codes "s")
path_row (Hit target) = loop_line target (codes "hit") (codes "s")
path_row (Set target) = loop_line target (codes "set") (codes "si")
path_row (Get target) = loop_line target (codes "get") (codes "sss")
path_row (SaveLoop target) = loop_line target (codes "save_loop") (codes "sssss")
path_row SetGlobal = looper_line (codes "set") (codes "si")
path_row GetGlobal = looper_line (codes "get") (codes "sss")
path_row SaveSession = looper_line (codes "save_session") (codes "sss")
path_row Ping = looper_line (codes "ping") (codes "ss")
path_row Quit = looper_line (codes "quit") []

-- the path names no loop that isn't there, and reads and saves no loops at once
abbrev pub is_open : ℕ → Path → Bool
is_open loops (Down target) = is_target loops target
is_open loops (Up target) = is_target loops target
is_open loops (Hit target) = is_target loops target
is_open loops (Set target) = is_target loops target
is_open loops (Get target) = is_single_target loops target
is_open loops (SaveLoop target) = is_single_target loops target
is_open loops _ = true

-- what stands before the word and its `/`
abbrev pub place_of : Option Target → List ℕ
place_of None = []
place_of (Some target) = codes "/sl/" ++ signed_decimal (target_number target)

-- the address of a path
abbrev pub address_of : Path → List ℕ
address_of path = place_of (path_row path).target ++ (47 ∷ (path_row path).word)

-- the bytes are the address of a path that is there, for so many loops
pub record IsPath (loops : ℕ) (path : Path) (bytes : List ℕ) : Type 0 where
  pub there : IsTrue (is_open loops path)
  pub spelled : bytes ≡ address_of path

-- the same, read from left to right

abbrev pub target_in : List ℕ → Option Target
target_in bytes =
    if bytes_eq bytes (codes "-1") then Some All
    else if bytes_eq bytes (codes "-3") then Some Selected
    else option_map One (number_up_to 255 bytes)

abbrev pub loop_path : Target → List ℕ → Option Path
loop_path target word =
    if bytes_eq word (codes "down") then Some (Down target)
    else if bytes_eq word (codes "up") then Some (Up target)
    else if bytes_eq word (codes "hit") then Some (Hit target)
    else if bytes_eq word (codes "set") then Some (Set target)
    else if bytes_eq word (codes "get") then Some (Get target)
    else if bytes_eq word (codes "save_loop") then Some (SaveLoop target)
    else None

abbrev pub looper_path : List ℕ → Option Path
looper_path address =
    if bytes_eq address (codes "/set") then Some SetGlobal
    else if bytes_eq address (codes "/get") then Some GetGlobal
    else if bytes_eq address (codes "/save_session") then Some SaveSession
    else if bytes_eq address (codes "/ping") then Some Ping
    else if bytes_eq address (codes "/quit") then Some Quit
    else None

unfoldable pub path_behind : List ℕ → Option Path
path_behind bytes = do
  parts ← cut_at 47 bytes
  target ← target_in parts.0
  loop_path target parts.1

abbrev pub any_path : List ℕ → Option Path
any_path address = if bytes_eq (codes "/sl/") (take 4 address) then
    path_behind (drop 4 address) else looper_path address

-- the path that an address names, for so many loops
abbrev pub path_in : ℕ → List ℕ → Option Path
path_in loops address = any_path address >>= λ path. if is_open loops path then Some path else None
