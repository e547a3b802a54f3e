use Rattle.std.proofs.Common.{arith, ◌<◌, length}
use Rattle.std.proofs.lemmas.List.{get_or_default}
use Rattle.looper_tracks.proofs.ReadLemmas.{free_left}
use Rattle.looper_tracks.proofs.SweepLemmas.{sweeping_alone}
use Rattle.looper_tracks.proofs.sweep.pin_all.Goals as goal

pub pin-requires : goal.pin-requires
pin-requires c =
    let less : c.loop-k.k < length c.loop-k.tracks =
    omega (arith, c.loop-k-test.true, c.loop-k.auto.tracks)
    in record {
      free =
          free_left _ _ _ _ _ less (get_or_default _ _ _ _ less) c.loop-k.invariant.rest
          c.requires.free;
    }

pub loop-k-preserved : goal.loop-k-preserved
loop-k-preserved c =
    sweeping_alone _ _ _ _ _ _ _ c.loop-k.invariant c.loop-k-test.true c.pin.ensures
