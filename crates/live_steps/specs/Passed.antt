-- Between the engine and the other activities stand five rings: OSC and MIDI commands and outcomes
-- of saves come in, replies and blocks of saves go out. What passed the engine's ends of them is
-- all that the engine's side knows of the rings. A reply that found its ring full is held, and
-- comes behind the replies that were put.
-- "The engine between its rings" in docs/rules.md.
use Rattle.std.specs.Prelude.{◌≡◌, ℕ, zero, suc, List, [], ◌∷◌, ◌++◌, Option, None, option_to_list}
use Rattle.sl_commands.specs.declared.Command.{Command}
use Rattle.sl_commands.specs.declared.Command.TheVariants.{Release}
use Rattle.sl_commands.specs.declared.Reply.{Reply}
use Rattle.sl_commands.specs.declared.Block.{Block}
use Rattle.looper_rules.specs.Saves.{Save}

-- what was taken from the rings of OSC, MIDI and the saver, what was put on the reply ring and is
-- held for it, and what was put on the block ring
pub record Passed : Type 0 where
  pub osc : List Command
  pub midi : List Command
  pub saver : List ℕ
  pub replies : List Reply
  pub held : Option Reply
  pub blocks : List Block

-- nothing yet
abbrev pub none_passed : Passed
none_passed =
    record { osc = []; midi = []; saver = []; replies = []; held = None; blocks = [] }

-- all replies, with the one that is held
abbrev pub all_replies : Passed → List Reply
all_replies p = p.replies ++ option_to_list p.held

-- the releases of these saves with these outcomes, one for each
abbrev pub releases_of : List Save → List ℕ → List Command
releases_of [] outcomes = []
releases_of (s ∷ saves) [] = []
releases_of (s ∷ saves) (outcome ∷ outcomes) =
    Release s.target outcome ∷ releases_of saves outcomes

-- a command was taken from the ring of sender 0 or 1, and its reply is held
abbrev pub with_command : ℕ → Command → Option Reply → Passed → Passed
with_command zero c answer p = record p { osc = p.osc ++ c ∷ []; held = answer }
with_command (suc sender) c answer p = record p { midi = p.midi ++ c ∷ []; held = answer }

-- an outcome was taken, and the reply to its release is held
abbrev pub with_outcome : ℕ → Option Reply → Passed → Passed
with_outcome o answer p = record p { saver = p.saver ++ o ∷ []; held = answer }

-- a block was put
abbrev pub with_block : Block → Passed → Passed
with_block b p = record p { blocks = p.blocks ++ b ∷ [] }

-- the held reply was put, or nothing was
pub record PutsHeld (p next : Passed) : Type 0 where
  pub osc : next.osc ≡ p.osc
  pub midi : next.midi ≡ p.midi
  pub saver : next.saver ≡ p.saver
  pub blocks : next.blocks ≡ p.blocks
  pub replies : all_replies next ≡ all_replies p
