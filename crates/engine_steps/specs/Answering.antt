-- A release of the target that is due takes exactly the oldest of the saves that no release has
-- answered. It leaves those behind it, and those whose blocks are still sent, and its reply is
-- given. A block that is sent leaves the looper, the journal, the frames, and the saves that wait.
-- "Saves" and "Blocks of a save" in docs/rules.md.
use Rattle.std.specs.Prelude.{◌≡◌, List, ◌∷◌, IsTrue, is_some}
use Rattle.sl_commands.specs.declared.Target.{Target}
use Rattle.sl_commands.specs.declared.Entry.{Entry}
use Rattle.looper_rules.specs.Saves.{Save}
use Rattle.looper_rules.specs.Entries.{reply}
use Rattle.engine_steps.specs.Engines.{EngineOf, waiting, took}

-- an entry answers the oldest save, which has this target, and no other
pub record AnswersOldest (target : Target) (en : Entry) (e : EngineOf) : Type 0 where
  pub oldest : Save
  pub rest : List Save
  pub before : e.due ≡ oldest ∷ rest
  pub target_is : oldest.target ≡ target
  pub due : (took en e).due ≡ rest
  pub sending : (took en e).sending ≡ e.sending
  pub replied : IsTrue (is_some (reply en e.looper))

-- all but the place in the blocks stays
pub record OnlySends (e next : EngineOf) : Type 0 where
  pub looper : next.looper ≡ e.looper
  pub journal : next.journal ≡ e.journal
  pub frames : next.frames ≡ e.frames
  pub saves : waiting next ≡ waiting e
