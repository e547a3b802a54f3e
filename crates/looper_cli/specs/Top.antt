-- What the program does, by its first word: `live` plays a session, and the other commands go over
-- files and a console. Of these the devices of a session are as before, and there is none.
-- "Statuses" in docs/formats.md.
use Rattle.std.specs.Prelude.{◌≡◌, ◌≢◌, ◌⊎◌, ◌↔◌, ℕ, Bool, false, List, [], ◌∷◌, Option, Some, None, IfSome, codes}
use Rattle.std.specs.Io.KnownBytes.{Appends}
use Rattle.std.specs.Str.{bytes_eq}
use Rattle.sl_base.specs.Counting.{Rose}
use Rattle.sl_ports.specs.Effects.{TellsTo}
use Rattle.sl_ports.specs.Texts.{AppendsPrefix}
use Rattle.sl_ports.specs.declared.keepers.Keeper.{Ghosts as Keeper}
use Rattle.sl_ports.specs.declared.sinks.Sink.{Ghosts as Sink}
use Rattle.command_words.specs.Words.{Asked, asked_in}
use Rattle.console_lines.specs.Statuses.{IsStatusNumber, status_line}
use Rattle.console_lines.specs.declared.status.Status.TheVariants.{Words, ReadFault, WriteFault, Limit}
use Rattle.live_run.specs.declared.outside.Outside.{Outside}
use Rattle.live_run.specs.declared.outside.End.{End}
use Rattle.looper_cli.specs.Endings.{StaysWhole, IsDone, NamesBad, IsBadFor, CannotWrite, IsBeyondFor, WritesAtMost}

-- the first word is `live`
abbrev pub asks_for_live : List (List ℕ) → Bool
asks_for_live [] = false
asks_for_live (first ∷ words) = bytes_eq first (codes "live")

-- how another command ends: what holds at each status, and which status comes where
pub record EndsPlain {P C : Type 0} (k : Keeper P) (s : Sink C) (asked : Option Asked)
    (old new : P) (before after : C) (status : ℕ) : Type 0 where
  pub statuses : IsStatusNumber status
  pub words : (status ≡ 2) ↔ (asked ≡ None)
  pub words_text : status ≡ 2 → TellsTo s before after (status_line Words)
  pub done : status ≡ 0 → IfSome asked (λ x. IsDone x (k.files old) (k.files new)
      (Appends (s.held before) (s.held after)))
  pub counts : status ≡ 0 → StaysWhole k old new × (s.faults after ≡ s.faults before)
  pub bad_file : status ≡ 3 → IfSome asked (λ x. NamesBad x (k.files old) (TellsTo s before after))
  pub bad_file_always : IfSome asked (λ x. IfSome (k.files old) (λ files.
      (name : List ℕ) (kind line : ℕ) → IsBadFor x (Some files) name kind line →
      (status ≡ 3) ⊎ (status ≡ 4) ⊎ (status ≡ 8)))
  pub limit : status ≡ 9 → IfSome asked (λ x. IsBeyondFor x (k.files old))
      × TellsTo s before after (status_line Limit)
  pub limit_always : IfSome asked (λ x. IfSome (k.files old) (λ files. IsBeyondFor x (Some files) →
      (status ≡ 4) ⊎ (status ≡ 8) ⊎ (status ≡ 9)))
  pub read_fault : status ≡ 4 → Rose (k.read_faults old) (k.read_faults new)
      × TellsTo s before after (status_line ReadFault)
  pub write_fault : status ≡ 5 → IfSome asked (λ x. (CannotWrite k x old new
      × TellsTo s before after (status_line WriteFault))
      ⊎ (Rose (s.faults before) (s.faults after)
      × IsDone x (k.files old) (k.files new) (AppendsPrefix (s.held before) (s.held after))))
  pub reads : status ≢ 4 → k.read_faults new ≡ k.read_faults old
  pub writes : status ≢ 5 → k.write_faults new ≡ k.write_faults old
  pub words_touch_nothing : status ≡ 2 → new ≡ old
  pub unchanged : (status ≡ 2) ⊎ (status ≡ 3) ⊎ (status ≡ 4) ⊎ (status ≡ 9) →
      k.files new ≡ k.files old
  pub memory : status ≡ 8 → IfSome asked (λ x. WritesAtMost x (k.files old) (k.files new))
      × (after ≡ before)

-- the same over all that stands outside
pub record RunsPlain {P A O L M C : Type 0} (k : Keeper P) (s : Sink C) (words : List (List ℕ))
    (old : Outside P A O L M C) (e : End P A O L M C) : Type 0 where
  pub ends : EndsPlain k s (asked_in words) old.keeper e.outside.keeper old.console
      e.outside.console e.status
  pub unused : e.outside
      ≡ record old { keeper = e.outside.keeper; console = e.outside.console }
  pub no_session : e.session ≡ None
