use Rattle.std.proofs.Common.{◌∷◌, [], subst, ◌∙◌}
use Rattle.loop_saver.specs.Accepting.{Writes}
use Rattle.loop_saver.proofs.writing.write_text.Goals as goal

pub returns-in-Ok-clause-value : goal.returns-in-Ok-clause-value
returns-in-Ok-clause-value g c =
    subst (λ bytes. Writes g.P.Keeper (record { name = c.args.name.now; bytes = bytes } ∷ [])
    c.args.keeper.now c.write.new.keeper c.write.result)
    (c.deref.ensures.value ∙ c.in-Ok.ensures) c.write.ensures.value
