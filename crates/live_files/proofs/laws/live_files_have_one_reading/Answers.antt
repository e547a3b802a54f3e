use Rattle.live_files.proofs.LiveLemmas.{one_live}
use Rattle.live_files.proofs.laws.live_files_have_one_reading.Goals as goal

pub returns : goal.returns
returns c = one_live
