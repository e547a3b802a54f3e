use Rattle.release_laws.proofs.LiveLemmas.{as_many, live_behind}
use Rattle.release_laws.proofs.live.a_live_session_releases_each_save_behind_it.Goals as goal

pub returns-clause-many : goal.returns-clause-many
returns-clause-many c = as_many

pub returns-clause-behind : goal.returns-clause-behind
returns-clause-behind c = live_behind
