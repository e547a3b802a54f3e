use Rattle.std.proofs.Common.{rules}
use Rattle.whole_looper.proofs.LooperLemmas.{loop_made, session_made, set_range}
use Rattle.whole_looper.proofs.looper.Looper.perform.Goals as goal

pub returns-in-SaveLoop-clause-save : goal.returns-in-SaveLoop-clause-save
returns-in-SaveLoop-clause-save c =
    loop_made _ _ _ _ _ c.in-SaveLoop.is c.save_loop.ensures.save c.save_loop.ensures.there

pub returns-in-SaveSession-clause-save : goal.returns-in-SaveSession-clause-save
returns-in-SaveSession-clause-save c =
    session_made _ _ _ _ c.in-SaveSession.is c.save_session.ensures.save

pub set-requires : goal.set-requires
set-requires c = record { range = search (rules, set_range) }
