use Rattle.live_files.proofs.LiveLemmas.{one_first_bad}
use Rattle.live_files.proofs.laws.live_files_have_one_first_bad_file.Goals as goal

pub returns : goal.returns
returns c = one_first_bad
