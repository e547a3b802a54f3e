use Rattle.std.proofs.Common.{ap}
use Rattle.looper_rules.specs.Run.{Ran}
use Rattle.run_laws.proofs.Runs.Places.{run-around}
use Rattle.run_laws.proofs.Runs.Comes.{saves_come}
use Rattle.run_laws.proofs.saved_lists.saves_are_those_at_their_entries.Goals as goal

pub returns-clause-made : goal.returns-clause-made
returns-clause-made c = λ before e after input l never.
    ap (λ (r : Ran). r.saves) (run-around before e after input l never)

pub returns-clause-comes : goal.returns-clause-comes
returns-clause-comes c = saves_come
