-- What `live` does, by its words: they ask for a session, or they aren't those of one.
-- - Status 2 comes exactly where the words aren't in the grammar: nothing is touched then but the
--   console, which is told the status.
-- - Else the session is played or not (`Plays`). Status 3 comes where a file that is named is
--   missing or not in its form, unless 4 or 8 does; 9 comes where all files are good and the
--   session needs more chunks than there are, unless 4 or 8 does.
-- "Statuses" in docs/formats.md.
use Rattle.std.specs.Prelude.{◌≡◌, ◌⊎◌, ◌↔◌, ℕ, List, Option, Some, None, IfSome}
use Rattle.sl_ports.specs.Effects.{TellsTo}
use Rattle.sl_ports.specs.Files.{Files}
use Rattle.sl_ports.specs.declared.keepers.Keeper.{Ghosts as Keeper}
use Rattle.sl_ports.specs.declared.sinks.Sink.{Ghosts as Sink}
use Rattle.live_ports.specs.declared.link.Link.{Ghosts as Link}
use Rattle.live_ports.specs.declared.source.Source.{Ghosts as Source}
use Rattle.command_words.specs.LiveWords.{LiveAsked}
use Rattle.command_words.specs.declared.fault.WordsFault.{WordsFault}
use Rattle.command_words.specs.declared.fault.WordsFault.TheVariants.{Words as OtherWords, Memory as NoRoom}
use Rattle.console_lines.specs.Statuses.{status_number, status_line}
use Rattle.console_lines.specs.declared.status.Status.TheVariants.{Words, Memory}
use Rattle.live_files.specs.LiveReading.{ExceedsLive, FirstBadLive}
use Rattle.live_run.specs.declared.outside.Outside.{Outside}
use Rattle.live_run.specs.declared.outside.End.{End}
use Rattle.live_run.specs.Playing.{named_in, Plays}

-- the console was told that the words mean nothing here, and nothing else was touched
pub record IsOtherWords {P A O L M C : Type 0} (c : Sink C) (old : Outside P A O L M C)
    (e : End P A O L M C) : Type 0 where
  pub told : TellsTo c old.console e.outside.console (status_line Words)
  pub status_is : e.status ≡ status_number Words
  pub untouched : e.outside ≡ record old { console = e.outside.console }
  pub no_session : e.session ≡ None

-- there was no memory to read the words, and nothing was touched
pub record LacksWords {P A O L M C : Type 0} (old : Outside P A O L M C)
    (e : End P A O L M C) : Type 0 where
  pub status_is : e.status ≡ status_number Memory
  pub untouched : e.outside ≡ old
  pub no_session : e.session ≡ None

-- why there is no session
abbrev pub IsTurnedAway : {P A O L M C : Type 0} → Sink C → WordsFault → Outside P A O L M C →
    End P A O L M C → Type 0
IsTurnedAway c OtherWords old e = IsOtherWords c old e
IsTurnedAway c NoRoom old e = LacksWords old e

-- one of the numbers of a status
abbrev pub IsLiveNumber : ℕ → Type 0
IsLiveNumber n = (n ≡ 0) ⊎ (n ≡ 2) ⊎ (n ≡ 3) ⊎ (n ≡ 4) ⊎ (n ≡ 5) ⊎ (n ≡ 6) ⊎ (n ≡ 7) ⊎ (n ≡ 8)
    ⊎ (n ≡ 9) ⊎ (n ≡ 10)

-- a named file is missing or not in its form, or all are good and the session needs more chunks
-- than there are
abbrev pub TellsBadFiles : Files → LiveAsked → ℕ → Type 0
TellsBadFiles files asked status =
    ((name : List ℕ) (kind line : ℕ) → FirstBadLive (Some files) (named_in asked) name kind line →
    (status ≡ 3) ⊎ (status ≡ 4) ⊎ (status ≡ 8))
    × (ExceedsLive (Some files) (named_in asked) → (status ≡ 9) ⊎ (status ≡ 4) ⊎ (status ≡ 8))

-- what `live` does, by what its words ask for
pub record RunsLive {P A O L M C : Type 0} (k : Keeper P) (a : Source A) (o : Sink O) (l : Link L)
    (m : Source M) (c : Sink C) (asked : Option LiveAsked) (old : Outside P A O L M C)
    (e : End P A O L M C) : Type 0 where
  pub statuses : IsLiveNumber e.status
  pub words : (e.status ≡ 2) ↔ (asked ≡ None)
  pub other_words : asked ≡ None → IsOtherWords c old e
  pub session : IfSome asked (λ x. LacksWords old e ⊎ Plays k a o l m c x old e)
  pub bad_files : IfSome asked (λ x. IfSome (k.files old.keeper) (λ files.
      TellsBadFiles files x e.status))
