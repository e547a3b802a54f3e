-- An entry is a command with the frame at which it applies, its sender, and its number among this
-- sender's entries. Senders are 0 for OSC, 1 for MIDI and 2 for the saver. Releases come from the
-- saver alone, and it sends nothing else. A list of entries is stamped where frames never fall, and
-- each sender's numbers are 0, 1, 2 and so on in order.
-- "Entries" in docs/rules.md.
use Rattle.std.specs.Prelude.{◌≡◌, ◌≤◌, ℕ, ◌+◌, Bool, true, ◌&&◌, ◌==◌, nat_le, nat_lt, List, [], ◌∷◌, ◌++◌, length, filter, map}
use Rattle.sl_commands.specs.declared.command.Command.{Command}
use Rattle.sl_commands.specs.declared.command.Command.TheVariants.{Release}
use Rattle.sl_commands.specs.declared.entry.Entry.{Entry}
use Rattle.sl_commands.specs.Commands.{is_allowed}

-- the sender may send this command
abbrev pub is_sender : ℕ → Command → Bool
is_sender sender (Release target outcome) = sender == 2
is_sender sender _ = nat_lt sender 2

-- the entry is valid, for so many loops
abbrev pub is_valid : ℕ → Entry → Bool
is_valid loops e = is_sender e.sender e.command && is_allowed loops e.command

-- the entries of one sender, in order
abbrev pub entries_of : ℕ → List Entry → List Entry
entries_of sender es = filter (λ e. e.sender == sender) es

-- the command of an entry
abbrev pub command_in : Entry → Command
command_in e = e.command

-- the commands of one sender, in order
abbrev pub commands_of : ℕ → List Entry → List Command
commands_of sender es = map command_in (entries_of sender es)

-- the frame of the last entry, or the one given where there is none
abbrev pub last_frame_from : ℕ → List Entry → ℕ
last_frame_from frame [] = frame
last_frame_from frame (e ∷ es) = last_frame_from e.frame es

-- the frame of the last entry, or 0 where there is none
abbrev pub last_frame : List Entry → ℕ
last_frame es = last_frame_from 0 es

-- an entry may be stamped behind these: its frame isn't below the last, its number is how many its
-- sender has
abbrev pub may_be_next : List Entry → Entry → Bool
may_be_next before e =
    nat_le (last_frame before) e.frame && e.seq == length (entries_of e.sender before)

-- each entry may be stamped behind those before it
abbrev pub are_stamped_behind : List Entry → List Entry → Bool
are_stamped_behind before [] = true
are_stamped_behind before (e ∷ es) =
    may_be_next before e && are_stamped_behind (before ++ e ∷ []) es

-- the entries are stamped
abbrev pub are_stamped : List Entry → Bool
are_stamped es = are_stamped_behind [] es

-- frames never fall, and none is below the one given
abbrev pub FramesNeverFall : ℕ → List Entry → Type 0
FramesNeverFall frame [] = Unit {0}
FramesNeverFall frame (e ∷ es) = (frame ≤ e.frame) × FramesNeverFall e.frame es

-- the numbers of entries go up by one, from the one given
abbrev pub AreNumberedFrom : ℕ → List Entry → Type 0
AreNumberedFrom number [] = Unit {0}
AreNumberedFrom number (e ∷ es) = (e.seq ≡ number) × AreNumberedFrom (number + 1) es

-- what stamped means, in one sentence: frames never fall, and each sender's numbers are 0, 1, 2 and
-- so on
pub record IsStamped (es : List Entry) : Type 0 where
  pub frames : FramesNeverFall 0 es
  pub numbers : (sender : ℕ) → AreNumberedFrom 0 (entries_of sender es)
