-- What MIDI plays gives a verb or sets a control of a loop, and is allowed for the loops: what is
-- bound is so.
-- "Serving" in docs/rules.md.
use Rattle.std.specs.Prelude.{ℕ, List}
use Rattle.std.specs.List.{AllByRecursion}
use Rattle.midi_bindings.specs.Played.{MayBePlayed}
use Rattle.senders.specs.declared.accepted.Accepted.{Accepted}
use Rattle.senders.specs.Commands.{commands_in}

-- each accepted command may be played, for so many loops
abbrev pub ArePlayed : ℕ → List Accepted → Type 0
ArePlayed loops accepted = AllByRecursion (MayBePlayed loops) (commands_in accepted)
