use Rattle.std.proofs.Common.{rules, refl, sym, subst, ◌≡◌, true, List, []}
use Rattle.sl_base.specs.Sounds.{Sound}
use Rattle.sl_commands.specs.Settings.{LooperSettings, is_loop_count}
use Rattle.looper_rules.specs.Reached.{AreLists}
use Rattle.looper_laws.proofs.Kept.Starts.{new_begins}
use Rattle.looper_engine.specs.Beginnings.{beginning_of}
use Rattle.benches.proofs.engine.session.begun.Goals as goal

pub new-requires-2-clause-lists : goal.new-requires-2-clause-lists
new-requires-2-clause-lists c =
    let count : is_loop_count c.args.loops ≡ true = search rules
    in subst (λ (lists : List (List Sound)). AreLists c.with_defaults.result.strips lists)
    (sym c.new.ensures)
    (subst (λ (s : LooperSettings). AreLists s.strips []) (sym c.with_defaults.ensures)
    (new_begins 48000 c.args.loops 4096 refl count).lengths)

pub returns-in-Ok : goal.returns-in-Ok
returns-in-Ok c =
    record {
      begins = (beginning_of _ _, c.in-Ok.ensures.begins, refl, c.in-Ok.ensures.value);
    }
