use Rattle.engine_steps.proofs.DueLemmas.{oldest_answered}
use Rattle.engine_steps.proofs.laws.a_release_of_what_is_due_answers_the_oldest_save.Goals as goal

pub returns : goal.returns
returns c = oldest_answered
