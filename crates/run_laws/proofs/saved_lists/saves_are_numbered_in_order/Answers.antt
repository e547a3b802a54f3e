use Rattle.run_laws.proofs.Saves.Numbers.{run-numbers, run-count_of_saves}
use Rattle.run_laws.proofs.saved_lists.saves_are_numbered_in_order.Goals as goal

pub returns-clause-numbers : goal.returns-clause-numbers
returns-clause-numbers c = run-numbers

pub returns-clause-count : goal.returns-clause-count
returns-clause-count c = run-count_of_saves
