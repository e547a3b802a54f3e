-- What is sent of blocks is in their order.
use Rattle.std.proofs.Common.{refl, ℕ, Bool, true, false, ◌&&◌, List, [], ◌∷◌, ◌++◌, IsTrue}
use Rattle.sl_commands.specs.declared.block.Block.{Block}
use Rattle.sl_commands.specs.Blocks.{may_follow, may_all_follow}
use Rattle.event_rings.specs.Known.{EachFollows}

-- a block may follow those before it
abbrev pub follows : List Block → Block → ℕ → Type 0
follows sent block bound = IsTrue (may_follow sent block bound)

-- both are true
both_true : (a b : Bool) → IsTrue a → IsTrue b → IsTrue (a && b)
both_true true b is other = other
both_true false b is other = is

-- where each may follow those before it, all may
pub all_follow : (bound : ℕ) (before blocks : List Block) →
    EachFollows follows bound before blocks → IsTrue (may_all_follow before blocks bound)
all_follow bound before [] each = refl
all_follow bound before (b ∷ bs) each =
    both_true (may_follow before b bound) (may_all_follow (before ++ b ∷ []) bs bound) each.0
    (all_follow bound (before ++ b ∷ []) bs each.1)
