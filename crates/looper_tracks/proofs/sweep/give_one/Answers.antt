use Rattle.std.proofs.Common.{rules}
use Rattle.looper_tracks.proofs.SweepLemmas.{one_done, none_done}
use Rattle.looper_tracks.proofs.sweep.give_one.Goals as goal

pub returns-then-index-tracks : goal.returns-then-index-tracks
returns-then-index-tracks c = search (rules, one_done)

pub returns-else-index-tracks : goal.returns-else-index-tracks
returns-else-index-tracks c = search (rules, none_done)
