use Rattle.looper_laws.proofs.Kept.LoopFrame.{framed_keeps}
use Rattle.looper_laws.proofs.reached.a_frame_keeps_the_loop.Goals as goal

pub returns : goal.returns
returns c x a l h = framed_keeps x h
