use Rattle.osc_reader.proofs.FaultLemmas.{packet_in}
use Rattle.osc_reader.proofs.laws.a_fault_stands_in_its_packet.Goals as goal

pub returns : goal.returns
returns c = packet_in
