-- An engine is in step with what went in and came out where these are the run of its journal: the
-- output, the replies and the saves so far, and the looper. The saves that it holds are the
-- unanswered ones of that run, and the blocks that were sent, followed by those that are left, are
-- the blocks of all its saves, in their order. Its journal is stamped, and has the quota with which
-- the engine began.
-- "The run" and "Blocks of a save" in docs/rules.md.
use Rattle.std.specs.Prelude.{◌≡◌, ◌≤◌, ◌<◌, ℕ, List, [], ◌∷◌, ◌++◌, length, All, Option, option_to_list, IsTrue}
use Rattle.sl_base.specs.Sounds.{Sound}
use Rattle.sl_commands.specs.declared.Block.{Block}
use Rattle.sl_commands.specs.declared.Entry.{Entry}
use Rattle.sl_commands.specs.declared.Reply.{Reply}
use Rattle.sl_commands.specs.Entries.{are_stamped}
use Rattle.looper_rules.specs.Saves.{Save}
use Rattle.looper_rules.specs.Run.{run}
use Rattle.looper_rules.specs.Unanswered.{unanswered}
use Rattle.looper_rules.specs.SaveBlocks.{blocks_of_save, blocks_for_all}
use Rattle.engine_steps.specs.Engines.{EngineOf, Beginning, first_looper, waiting, left}

-- what went in and came out so far: frames, replies, saves and the blocks that were sent
pub record SoFar : Type 0 where
  pub input : List Sound
  pub output : List Sound
  pub replies : List Reply
  pub saves : List Save
  pub sent : List Block

-- nothing yet
abbrev pub nothing : SoFar
nothing = record { input = []; output = []; replies = []; saves = []; sent = [] }

-- with what a taken entry gave
abbrev pub with_taken : Option Reply → Option Save → SoFar → SoFar
with_taken answer made s =
    record s {
      replies = s.replies ++ option_to_list answer;
      saves =
          s.saves ++ option_to_list made;
    }

-- with some frames
abbrev pub with_frames : List Sound → List Sound → SoFar → SoFar
with_frames xs out s = record s { input = s.input ++ xs; output = s.output ++ out }

-- with one block more
abbrev pub with_block : Option Block → SoFar → SoFar
with_block b s = record s { sent = s.sent ++ option_to_list b }

-- of the first of these saves a block is left
abbrev pub IsPart : List Save → ℕ → Type 0
IsPart [] part = part ≡ 0
IsPart (s ∷ saves) part = part < length (blocks_of_save s)

-- the run of the journal is what went in and came out
pub record IsInStep (b : Beginning) (s : SoFar) (e : EngineOf) : Type 0 where
  pub ran : run e.journal.entries s.input (first_looper b)
      ≡ record { output = s.output; replies = s.replies; saves = s.saves; looper = e.looper }
  pub frames : e.frames ≡ length s.input
  pub before : All (λ (en : Entry). en.frame ≤ e.frames) e.journal.entries
  pub unanswered : waiting e ≡ unanswered e.journal.entries s.input (first_looper b)
  pub blocks : blocks_for_all s.saves ≡ s.sent ++ left e
  pub part : IsPart e.sending e.part
  pub quota : e.journal.quota ≡ b.quota
  pub stamped : IsTrue (are_stamped e.journal.entries)
