use Rattle.run_laws.proofs.Answers.Runs.{length-run_output}
use Rattle.journal_run.proofs.laws.a_run_is_as_long_as_its_input.Goals as goal

pub returns : goal.returns
returns c = λ entries input looper. length-run_output entries input.frames looper
