use Rattle.reply_sending.proofs.AddressLemmas.{address_of}
use Rattle.reply_sending.proofs.laws.what_asked_has_an_address.Goals as goal

pub returns : goal.returns
returns c loops accepted reply command good own at asked =
    address_of loops accepted reply command good own at asked
