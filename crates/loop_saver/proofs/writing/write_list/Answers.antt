use Rattle.std.proofs.Common.{◌<◌, length, subst, ◌∙◌, arith}
use Rattle.loop_saver.specs.Accepting.{Writes}
use Rattle.loop_saver.proofs.AcceptLemmas.{some_list}
use Rattle.loop_saver.proofs.writing.write_list.Goals as goal

pub returns-in-Ok-clause-value : goal.returns-in-Ok-clause-value
returns-in-Ok-clause-value g c =
    let some : 0 < length c.args.list.now = omega arith in
    subst (λ files. Writes g.P.Keeper files c.args.keeper.now c.write.new.keeper c.write.result)
    (some_list c.args.rate c.args.name.now c.deref.result.now c.args.list.now some
    (c.deref.ensures.value ∙ c.in-Ok.ensures)) c.write.ensures.value
