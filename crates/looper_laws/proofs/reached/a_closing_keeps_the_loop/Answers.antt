use Rattle.looper_laws.proofs.Kept.Closing.{closed_keeps}
use Rattle.looper_laws.proofs.reached.a_closing_keeps_the_loop.Goals as goal

pub returns : goal.returns
returns c a l h writing = closed_keeps writing h
