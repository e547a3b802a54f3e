use Rattle.std.proofs.Common.{refl, sym, subst, ◌≡◌, List, []}
use Rattle.sl_base.specs.Sounds.{Sound}
use Rattle.sl_commands.specs.Settings.{LooperSettings}
use Rattle.looper_rules.specs.Reached.{AreLists}
use Rattle.looper_laws.proofs.Kept.Starts.{new_begins}
use Rattle.looper_engine.proofs.tests.begun.Goals as goal

pub new-requires-2-clause-lists : goal.new-requires-2-clause-lists
new-requires-2-clause-lists c =
    subst (λ (lists : List (List Sound)). AreLists c.with_defaults.result.strips lists)
    (sym c.new.ensures)
    (subst (λ (s : LooperSettings). AreLists s.strips []) (sym c.with_defaults.ensures)
    (new_begins 48000 c.args.loops c.args.chunks refl c.requires.loops).lengths)
