use Rattle.looper_rules.specs.Presses.{given, released}
use Rattle.looper_rules.specs.LoopFrame.{frame_later}
use Rattle.looper_rules.specs.Frame.{at_boundary}
use Rattle.looper_laws.proofs.Others.Stacks.{IsDone}
use Rattle.looper_laws.proofs.Others.Frames.{frame_done}
use Rattle.looper_laws.proofs.Others.Tracks.{given_done, released_done, at_boundary_done}
use Rattle.looper_laws.proofs.shared_room.what_is_done_to_a_loop_stays_in_reach.Goals as goal

pub returns-clause-hit : goal.returns-clause-hit
returns-clause-hit c verb reach l fits =
    (let done : IsDone reach l.stack (given verb reach l).stack = given_done verb l in
    done.chunks fits)

pub returns-clause-down : goal.returns-clause-down
returns-clause-down c verb frame reach l fits =
    (let done : IsDone reach l.stack (given verb reach l).stack = given_done verb l in
    done.chunks fits)

pub returns-clause-up : goal.returns-clause-up
returns-clause-up c verb frame long_press reach l fits =
    (let done : IsDone reach l.stack (released verb frame long_press reach l).stack =
    released_done verb frame long_press l in done.chunks fits)

pub returns-clause-set : goal.returns-clause-set
returns-clause-set c control value reach l fits = fits.chunks

pub returns-clause-boundary : goal.returns-clause-boundary
returns-clause-boundary c g frame faces reach l fits =
    (let done : IsDone reach l.stack (at_boundary g frame faces reach l).stack =
    at_boundary_done g frame faces l in done.chunks fits)

pub returns-clause-frame : goal.returns-clause-frame
returns-clause-frame c x reach l fits =
    (let done : IsDone reach l.stack (frame_later x reach l).stack = frame_done x l in
    done.chunks fits)
