use Rattle.live_files.proofs.LiveLemmas.{live_or_bad, live_or_limit}
use Rattle.live_files.proofs.laws.live_files_are_read_or_refused.Goals as goal

pub returns-clause-file : goal.returns-clause-file
returns-clause-file c files n t name kind line named is =
    live_or_bad files n t name kind line named is.holds

pub returns-clause-limit : goal.returns-clause-limit
returns-clause-limit c = live_or_limit

pub returns-clause-order : goal.returns-clause-order
returns-clause-order c files n name kind line named beyond =
    live_or_bad files n beyond.contents name kind line named beyond.holds
