use Rattle.whole_looper.proofs.SpanLemmas.{turn_done}
use Rattle.whole_looper.proofs.looper.Looper.turn.Goals as goal

pub returns-clause-begun : goal.returns-clause-begun
returns-clause-begun c =
    turn_done _ _ _ _ c.args.output.now _ _ _ _ _ c.begin_span-n.ensures.within
    c.begin_span-n.ensures.some c.requires.lengths c.play.auto.output c.begin_span-n.ensures.met
    c.begin_span-n.ensures.span c.play.ensures
