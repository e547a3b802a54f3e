use Rattle.std.proofs.Common.{ap}
use Rattle.looper_rules.specs.Layers.{current_list}
use Rattle.loop_strip.proofs.LawLemmas.{strip_taken_back}
use Rattle.loop_strip.proofs.laws.undo_takes_an_overdub_back.Goals as goal

pub returns-clause-layers : goal.returns-clause-layers
returns-clause-layers c = strip_taken_back

pub returns-clause-list : goal.returns-clause-list
returns-clause-list c =
    λ xs s s1 s2 s3 p p1 p2 p3 h did. ap current_list
    (strip_taken_back xs s s1 s2 s3 p p1 p2 p3 h did)
