use Rattle.std.proofs.Common.{rules}
use Rattle.looper_tracks.proofs.SweepLemmas.{sweeping_more}
use Rattle.looper_tracks.proofs.sweep.give_all.Goals as goal

pub loop-k-preserved : goal.loop-k-preserved
loop-k-preserved c = search (rules, sweeping_more)
