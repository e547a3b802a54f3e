use Rattle.std.proofs.Common.{subst, sym}
use Rattle.std.specs.List.{AllByRecursion}
use Rattle.looper_rules.specs.Run.{run, start}
use Rattle.looper_rules.specs.SaveBlocks.{IsMade}
use Rattle.run_laws.proofs.Saves.Made.{save-made, begun-made, run_from-made, sent_in_order}
use Rattle.run_laws.proofs.Saves.Numbers.{run-numbers}
use Rattle.run_laws.proofs.Runs.Cuts.{run-run_from}
use Rattle.run_laws.proofs.Runs.Sizes.{start-selects}
use Rattle.looper_laws.proofs.Kept.Starts.{begins}
use Rattle.run_laws.proofs.sent_saves.each_save_of_a_run_may_be_sent.Goals as goal

pub returns-clause-made : goal.returns-clause-made
returns-clause-made c frame e l s h made = save-made frame e l s h made

pub returns-clause-begun : goal.returns-clause-begun
returns-clause-begun c frame es xs l h = begun-made frame es xs l h

pub returns-clause-from : goal.returns-clause-from
returns-clause-from c frame es xs l h = run_from-made frame es xs l h

pub returns-clause-run : goal.returns-clause-run
returns-clause-run c s chunks lists es input h =
    let l = start s chunks lists in
    subst (λ ran. AllByRecursion IsMade ran.saves) (sym (run-run_from es input l))
    (run_from-made 0 es input l (begins s chunks lists h))

pub returns-clause-sent : goal.returns-clause-sent
returns-clause-sent c s chunks lists es input h =
    let l = start s chunks lists in
    sent_in_order 0 (run es input l).saves (returns-clause-run c s chunks lists es input h)
    (run-numbers es input l (start-selects s chunks lists h.in_range))
