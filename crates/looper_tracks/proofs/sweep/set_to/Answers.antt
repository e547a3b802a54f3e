use Rattle.std.proofs.Common.{w32, sym, subst}
use Rattle.std.proofs.lemmas.Int.{to_z-of_z}
use Rattle.looper_rules.specs.Looper.{on_loop, at_target}
use Rattle.looper_rules.specs.Entries.{sets}
use Rattle.looper_tracks.specs.Track.{DidAll}
use Rattle.looper_tracks.proofs.sweep.set_to.Goals as goal

pub returns-in-All : goal.returns-in-All
returns-in-All c =
    subst
    (λ t. DidAll (at_target t c.args.selected (on_loop (sets c.args.control c.args.value)))
    c.args.tracks.now c.set_all.new.tracks c.args.pool.now c.args.pool.now) (sym c.in-All.is)
    (rw (to_z-of_z w32 c.args.value c.ranges.value) at c.set_all.ensures)
