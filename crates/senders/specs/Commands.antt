-- What a sender has accepted: commands, each with where its reply goes, if it asks for one.
-- "Senders" in docs/rules.md.
use Rattle.std.specs.Prelude.{◌≡◌, ℕ, Bool, true, false, ◌||◌, List, [], ◌∷◌, map, Option, Some, None, IsTrue}
use Rattle.sl_commands.specs.declared.command.Command.{Command}
use Rattle.sl_commands.specs.declared.command.Command.TheVariants.{Get, GetGlobal, SaveLoop, SaveSession, Quit}
use Rattle.sl_commands.specs.Commands.{is_allowed}
use Rattle.sl_commands.specs.Entries.{is_sender}
use Rattle.osc_paths.specs.declared.request.ReturnTo.{ReturnTo}
use Rattle.senders.specs.declared.accepted.Accepted.{Accepted}

-- a command with where its reply goes
abbrev pub accepted : Command → Option ReturnTo → Accepted
accepted command answer = record { command = command; answer = answer }

-- the commands that were accepted, in order
abbrev pub command_in : Accepted → Command
command_in a = a.command

abbrev pub commands_in : List Accepted → List Command
commands_in list = map command_in list

-- the command ends the session
abbrev pub is_quit : Command → Bool
is_quit Quit = true
is_quit _ = false

-- a quit was accepted
abbrev pub has_quit : List Accepted → Bool
has_quit [] = false
has_quit (a ∷ rest) = is_quit a.command || has_quit rest

-- the command has a reply
abbrev pub asks : Command → Bool
asks (Get target control) = true
asks (GetGlobal control) = true
asks (SaveLoop target name) = true
asks (SaveSession name) = true
asks _ = false

-- there is a return address
abbrev pub has_return : Option ReturnTo → Bool
has_return None = false
has_return (Some to) = true

-- this sender may send the command, where there are so many loops, and there is a return address
-- exactly where the command has a reply
pub record IsGood (sender loops : ℕ) (a : Accepted) : Type 0 where
  pub sends : IsTrue (is_sender sender a.command)
  pub within : IsTrue (is_allowed loops a.command)
  pub returns : has_return a.answer ≡ asks a.command

-- each is such a command
abbrev pub AreGood : ℕ → ℕ → List Accepted → Type 0
AreGood sender loops [] = Unit {0}
AreGood sender loops (a ∷ rest) = IsGood sender loops a × AreGood sender loops rest
