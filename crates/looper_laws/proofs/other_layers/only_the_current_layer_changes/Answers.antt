use Rattle.looper_rules.specs.Verbs.{acts}
use Rattle.looper_rules.specs.LoopFrame.{frame_later}
use Rattle.looper_rules.specs.Frame.{at_boundaries}
use Rattle.looper_laws.proofs.Others.Stacks.{IsDone}
use Rattle.looper_laws.proofs.Others.Loops.{acts_done}
use Rattle.looper_laws.proofs.Others.Frames.{frame_done}
use Rattle.looper_laws.proofs.Others.Tracks.{applied_stays, at_boundaries_stays, framed_from_stays}
use Rattle.looper_laws.proofs.other_layers.only_the_current_layer_changes.Goals as goal

pub returns-clause-verbs : goal.returns-clause-verbs
returns-clause-verbs c verb reach l =
    (let done : IsDone reach l.stack (acts verb reach l).stack = acts_done verb l in done.others)

pub returns-clause-frames : goal.returns-clause-frames
returns-clause-frames c x reach l =
    (let done : IsDone reach l.stack (frame_later x reach l).stack = frame_done x l in done.others)

pub returns-clause-entries : goal.returns-clause-entries
returns-clause-entries c = applied_stays

pub returns-clause-boundaries : goal.returns-clause-boundaries
returns-clause-boundaries c = at_boundaries_stays

pub returns-clause-framed : goal.returns-clause-framed
returns-clause-framed c frame x l = framed_from_stays x (at_boundaries frame l)
