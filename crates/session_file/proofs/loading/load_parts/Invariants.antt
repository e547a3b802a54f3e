use Rattle.std.proofs.Common.{◌≡◌, length, take, false}
use Rattle.sl_ports.specs.Effects.{OnlyReads}
use Rattle.session_file.specs.Loading.{AreParts}
use Rattle.session_file.proofs.loading.load_parts.Given as goal

abbrev pub invariant-loop-index : goal.invariant-loop-index
invariant-loop-index g l =
    OnlyReads g.P.Keeper l.fn.keeper l.keeper false
    × AreParts (g.P.Keeper.files l.fn.keeper) l.session 0 (take l.index l.strips) l.lists
    × (length l.lists ≡ l.index)
