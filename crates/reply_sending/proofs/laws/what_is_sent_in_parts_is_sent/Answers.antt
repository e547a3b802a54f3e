use Rattle.reply_sending.proofs.SendingLemmas.{sending_joined}
use Rattle.reply_sending.proofs.laws.what_is_sent_in_parts_is_sent.Goals as goal

pub returns : goal.returns
returns c = λ replies others pongs more old mid new. sending_joined replies others pongs more old
    mid new
