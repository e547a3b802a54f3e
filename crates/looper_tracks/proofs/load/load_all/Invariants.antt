use Rattle.std.proofs.Common.{length}
use Rattle.looper_tracks.proofs.LoadLemmas.{Loading}
use Rattle.looper_tracks.proofs.load.load_all.Given as goal

abbrev pub invariant-loop-k : goal.invariant-loop-k
invariant-loop-k l = Loading l.strips l.lists l.chunks (length l.fn.pool.free) l.tracks l.pool l.k
