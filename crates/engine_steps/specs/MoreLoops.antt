-- A looper may have more loops than a journal speaks of: loops that begin empty, at the end of the
-- list. An entry speaks of the fewer where it is valid for them and names no target of all loops,
-- as a session's save does too.
-- "Entries and replies" in docs/rules.md.
use Rattle.std.specs.Prelude.{◌≡◌, ⊤, ℕ, true, List, ◌++◌}
use Rattle.sl_commands.specs.declared.Target.TheVariants.{All}
use Rattle.sl_commands.specs.declared.Command.{Command}
use Rattle.sl_commands.specs.declared.Command.TheVariants.{Down, Up, Hit, Set, SaveSession, Release}
use Rattle.sl_commands.specs.declared.Entry.{Entry}
use Rattle.sl_commands.specs.declared.StripSettings.{StripSettings}
use Rattle.sl_commands.specs.Settings.{LooperSettings}
use Rattle.sl_commands.specs.Entries.{is_valid}

-- a command names no target of all loops
abbrev pub NamesOneLoop : Command → Type 0
NamesOneLoop (Down All verb) = ⊥
NamesOneLoop (Up All verb) = ⊥
NamesOneLoop (Hit All verb) = ⊥
NamesOneLoop (Set All control value) = ⊥
NamesOneLoop (SaveSession name) = ⊥
NamesOneLoop (Release All outcome) = ⊥
NamesOneLoop _ = ⊤

-- an entry speaks of so many loops alone
pub record SpeaksOf (loops : ℕ) (e : Entry) : Type 0 where
  pub valid : is_valid loops e ≡ true
  pub single : NamesOneLoop e.command

-- settings with more loops behind the others
abbrev pub with_more : List StripSettings → LooperSettings → LooperSettings
with_more more settings = record settings { strips = settings.strips ++ more }
