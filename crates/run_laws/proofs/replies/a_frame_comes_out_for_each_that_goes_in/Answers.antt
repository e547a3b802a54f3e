use Rattle.run_laws.proofs.Answers.Runs.{length-run_output}
use Rattle.run_laws.proofs.Runs.Sizes.{run-keeps_loops}
use Rattle.run_laws.proofs.replies.a_frame_comes_out_for_each_that_goes_in.Goals as goal

pub returns-clause-output : goal.returns-clause-output
returns-clause-output c = length-run_output

pub returns-clause-loops : goal.returns-clause-loops
returns-clause-loops c = run-keeps_loops
