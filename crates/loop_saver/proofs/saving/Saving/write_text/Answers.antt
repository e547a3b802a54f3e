use Rattle.std.proofs.Common.{subst, sym}
use Rattle.sl_commands.specs.declared.Target.{Target}
use Rattle.loop_saver.specs.Savers.{SavingOf}
use Rattle.loop_saver.specs.SavedFiles.{text_file}
use Rattle.loop_saver.specs.Accepting.{Writes}
use Rattle.loop_saver.proofs.saving.Saving.write_text.Goals as goal

pub returns-in-All-clause-value : goal.returns-in-All-clause-value
returns-in-All-clause-value g c =
    subst (λ (s : SavingOf). Writes g.P.Keeper (text_file s.underway.target s.name s.settings)
    c.args.keeper.now c.write_text.new.keeper c.write_text.result) c.self.view_is
    (subst (λ (t : Target).
    Writes g.P.Keeper (text_file t c.self.inside.name c.self.inside.settings) c.args.keeper.now
    c.write_text.new.keeper c.write_text.result) (sym c.in-All.is)
    c.write_text.ensures.value)
