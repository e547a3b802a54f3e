use Rattle.looper_rules.specs.Looper.{faces_of, itself, on_loop}
use Rattle.looper_rules.specs.LoopFrame.{frame_later}
use Rattle.looper_rules.specs.Frame.{at_boundary, played, played_on}
use Rattle.looper_laws.proofs.Others.Stacks.{IsDone}
use Rattle.looper_laws.proofs.Others.Frames.{frame_done}
use Rattle.looper_laws.proofs.Others.Tracks.{at_boundary_done}
use Rattle.looper_laws.proofs.Room.Sharing.{has_room-left_by, has_room-own_tape, looper_shares, swept_in_turn, on_target_in_turn}
use Rattle.looper_laws.proofs.shared_room.the_room_that_passes_on_is_what_the_others_leave.Goals as goal

pub returns-clause-room : goal.returns-clause-room
returns-clause-room c = has_room-left_by

pub returns-clause-own_tape : goal.returns-clause-own_tape
returns-clause-own_tape c = has_room-own_tape

pub returns-clause-commands : goal.returns-clause-commands
returns-clause-commands c target act l stays shares = on_target_in_turn target act l stays shares

pub returns-clause-boundaries : goal.returns-clause-boundaries
returns-clause-boundaries c frame l shares =
    swept_in_turn itself (on_loop (at_boundary l.globals frame (faces_of l))) l
    (λ reach t fits. (let done : IsDone reach t.loop.stack
    (at_boundary l.globals frame (faces_of l) reach t.loop).stack =
    at_boundary_done l.globals frame (faces_of l) t.loop in done.chunks fits))
    shares

pub returns-clause-frames : goal.returns-clause-frames
returns-clause-frames c x l shares =
    swept_in_turn played_on (played l.globals.fade_step x) l
    (λ reach t fits. (let done : IsDone reach t.loop.stack (frame_later x reach t.loop).stack =
    frame_done x t.loop in done.chunks fits))
    shares

pub returns-clause-kept_commands : goal.returns-clause-kept_commands
returns-clause-kept_commands c done target act l stays h =
    returns-clause-commands c target act l stays (looper_shares done l h.looper)

pub returns-clause-kept_boundaries : goal.returns-clause-kept_boundaries
returns-clause-kept_boundaries c done frame l h =
    returns-clause-boundaries c frame l (looper_shares done l h.looper)

pub returns-clause-kept_frames : goal.returns-clause-kept_frames
returns-clause-kept_frames c done x l h =
    returns-clause-frames c x l (looper_shares done l h.looper)
