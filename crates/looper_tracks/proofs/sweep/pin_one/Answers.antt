use Rattle.std.proofs.lemmas.List.{get_or_default}
use Rattle.looper_tracks.proofs.ReadLemmas.{free_on}
use Rattle.looper_tracks.proofs.SweepLemmas.{one_alone, none_done}
use Rattle.looper_tracks.proofs.sweep.pin_one.Goals as goal

pub pin-requires : goal.pin-requires
pin-requires c =
    record {
      free =
          free_on _ _ _ _ c.if-index-tracks.true (get_or_default _ _ _ _ c.if-index-tracks.true)
          c.requires.free;
    }

pub returns-then-index-tracks : goal.returns-then-index-tracks
returns-then-index-tracks c =
    one_alone _ _ _ _ _ _ c.if-index-tracks.true c.requires.inside c.pin.ensures

pub returns-else-index-tracks : goal.returns-else-index-tracks
returns-else-index-tracks c = none_done _ _ _ _ c.if-index-tracks.false c.requires.inside
