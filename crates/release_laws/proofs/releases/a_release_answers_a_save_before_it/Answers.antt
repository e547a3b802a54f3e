use Rattle.release_laws.proofs.BehindLemmas.{release_behind}
use Rattle.release_laws.proofs.releases.a_release_answers_a_save_before_it.Goals as goal

pub returns : goal.returns
returns c = λ settings chunks initial before e after input answer begins never of_saver gives.
    release_behind settings chunks initial before e after input answer never of_saver gives
