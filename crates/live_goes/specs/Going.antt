-- An engine goes on where it takes more commands and outcomes, gives more replies and sends more
-- blocks, with no frames between. Whatever engine and rings were in step with, they are so with
-- these behind what had passed. Such steps compose.
-- "The engine between its rings" in docs/rules.md.
use Rattle.std.specs.Prelude.{◌≡◌, ◌≤◌, ◌<◌, ℕ, zero, suc, List, [], ◌∷◌, ◌++◌, length, Option, None, option_to_list}
use Rattle.sl_commands.specs.declared.Command.{Command}
use Rattle.sl_commands.specs.declared.Reply.{Reply}
use Rattle.sl_commands.specs.declared.Block.{Block}
use Rattle.engine_steps.specs.Engines.{EngineOf}
use Rattle.live_steps.specs.Passed.{Passed, all_replies}
use Rattle.live_steps.specs.InStep.{StayInStep, AreInSomeStep}
use Rattle.looper_rules.specs.SaveBlocks.{ends_in}

-- commands and outcomes that were taken, and replies and blocks that were given
pub record More : Type 0 where
  pub osc : List Command
  pub midi : List Command
  pub saver : List ℕ
  pub replies : List Reply
  pub blocks : List Block

-- nothing
abbrev pub no_more : More
no_more = record { osc = []; midi = []; saver = []; replies = []; blocks = [] }

-- this, and that behind it
abbrev pub and_then : More → More → More
and_then m n =
    record {
      osc = m.osc ++ n.osc;
      midi = m.midi ++ n.midi;
      saver = m.saver ++ n.saver;
      replies = m.replies ++ n.replies;
      blocks = m.blocks ++ n.blocks;
    }

-- a command of sender 0 or 1, and its reply
abbrev pub one_command : ℕ → Command → Option Reply → More
one_command zero c answer = record no_more { osc = c ∷ []; replies = option_to_list answer }
one_command (suc sender) c answer =
    record no_more { midi = c ∷ []; replies = option_to_list answer }

-- an outcome, and the reply to its release
abbrev pub one_outcome : ℕ → Option Reply → More
one_outcome o answer = record no_more { saver = o ∷ []; replies = option_to_list answer }

-- a block
abbrev pub one_block : Block → More
one_block b = record no_more { blocks = b ∷ [] }

-- this behind what had passed
abbrev pub more_passed : More → Passed → Passed
more_passed m p =
    record p {
      osc = p.osc ++ m.osc;
      midi = p.midi ++ m.midi;
      saver = p.saver ++ m.saver;
      replies = p.replies ++ m.replies;
      blocks = p.blocks ++ m.blocks;
    }

-- the held reply behind those that were put
abbrev pub put_held : Passed → Passed
put_held p = record p { replies = all_replies p; held = None }

-- an engine went on by so much
pub record Goes (e e' : EngineOf) (m : More) : Type 0 where
  pub step : (p : Passed) → p.held ≡ None → StayInStep e p e' (more_passed m p)
  pub quota : e'.journal.quota ≡ e.journal.quota
  pub frames : e'.frames ≡ e.frames

-- an engine stands behind what passed, with nothing held: it is in step, and no sender is beyond
-- its quota
pub record Stands (e : EngineOf) (p : Passed) : Type 0 where
  pub step : AreInSomeStep e p
  pub free : p.held ≡ None
  pub osc : length p.osc ≤ e.journal.quota
  pub midi : length p.midi ≤ e.journal.quota

-- the outcome of one more save is owed: fewer were taken than saves ended in the blocks
pub record Owes (e : EngineOf) (p : Passed) : Type 0 where
  pub stands : Stands e p
  pub more : length p.saver < ends_in p.blocks
