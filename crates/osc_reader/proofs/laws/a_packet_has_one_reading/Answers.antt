use Rattle.std.proofs.Common.{◌∙◌, sym}
use Rattle.osc_reader.proofs.FieldLemmas.{ok_is}
use Rattle.osc_reader.proofs.PacketLemmas.{packet_again}
use Rattle.osc_reader.proofs.laws.a_packet_has_one_reading.Goals as goal

pub returns : goal.returns
returns c = λ bytes messages others one other.
    ok_is messages others (sym (packet_again bytes messages one) ∙ packet_again bytes others other)
