use Rattle.senders.proofs.HearingLemmas.{hears_joined}
use Rattle.senders.proofs.laws.what_is_heard_in_parts_is_heard.Goals as goal

pub returns : goal.returns
returns c = hears_joined
