-- A release answers the save whose pins it takes away: its reply has the sender and the number of
-- the entry that asked for this save. That entry stands before the release in the list, and its
-- frame isn't later. Only the saver sends releases, and sends nothing else. None answers two saves:
-- so where as many saves are answered as the saver has entries, each of these answers one.
-- "Saves" in docs/rules.md.
use Rattle.std.specs.Prelude.{◌≡◌, ◌+◌, ◌≤◌, List, [], ◌∷◌, length, take, Contains, Some}
use Rattle.sl_base.specs.Sounds.{Sound}
use Rattle.sl_commands.specs.declared.Entry.{Entry}
use Rattle.sl_commands.specs.declared.Reply.{Reply}
use Rattle.sl_commands.specs.Entries.{entries_of}
use Rattle.looper_rules.specs.Looper.{Looper}
use Rattle.looper_rules.specs.Saves.{Save}
use Rattle.looper_rules.specs.Entries.{reply, save}
use Rattle.looper_rules.specs.Run.{run}
use Rattle.looper_rules.specs.Unanswered.{still_unanswered, unanswered}
use Rattle.run_laws.specs.Places.{met, ComesWithEntry}
use Rattle.run_laws.specs.Questions.{question, answered}

-- the saves that are unanswered where an entry stands behind these
abbrev pub unanswered_before : List Entry → Entry → List Sound → Looper → List Save
unanswered_before before e input l = unanswered before (take e.frame input) l

-- the reply of a release that stands behind these entries answers the save of one of them
pub record AnswersASaveBefore (before : List Entry) (release : Entry) (input : List Sound)
    (l : Looper) (answer : Reply) : Type 0 where
  pub made : Save
  -- one of the entries before made the save, at no later frame
  pub comes : ComesWithEntry save before input l made
  pub frame : comes.entry.frame ≤ release.frame
  -- this entry's question is the one that is answered
  pub asked : question comes.entry ≡ Some (answered answer)
  -- no release before answered it, and this one does
  pub waits : Contains (unanswered_before before release input l) made
  pub ends : still_unanswered release.command (made ∷ []) ≡ []

-- a release gives a reply, which answers the save of an entry before it
pub record StandsBehindItsSave (before : List Entry) (release : Entry) (input : List Sound)
    (l : Looper) : Type 0 where
  pub answer : Reply
  pub gives : reply release (met before release input l) ≡ Some answer
  pub save_before : AnswersASaveBefore before release input l answer

-- as many saves of a run are answered as the saver has entries
abbrev pub AsManyAnswered : List Entry → List Sound → Looper → Type 0
AsManyAnswered es input l =
    length (run es input l).saves ≡ length (unanswered es input l) + length (entries_of 2 es)
