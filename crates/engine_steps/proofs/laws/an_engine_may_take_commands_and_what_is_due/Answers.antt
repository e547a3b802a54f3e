use Rattle.engine_steps.proofs.ClearLemmas.{commands_clear_nothing, nothing_left_clears, due_clears}
use Rattle.engine_steps.proofs.ReachedLemmas.{waiting_apart}
use Rattle.engine_steps.proofs.laws.an_engine_may_take_commands_and_what_is_due.Goals as goal

pub returns-clause-commands : goal.returns-clause-commands
returns-clause-commands c = commands_clear_nothing

pub returns-clause-rest : goal.returns-clause-rest
returns-clause-rest c = nothing_left_clears

pub returns-clause-due : goal.returns-clause-due
returns-clause-due c b s en e target outcome begin h due is =
    due_clears en e target outcome due is (waiting_apart b s e begin h)
