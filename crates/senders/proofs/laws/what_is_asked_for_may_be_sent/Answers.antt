use Rattle.senders.proofs.RequestLemmas.{good_request}
use Rattle.senders.proofs.laws.what_is_asked_for_may_be_sent.Goals as goal

pub returns : goal.returns
returns c = good_request
