use Rattle.std.proofs.Common.{List, Result, subst}
use Rattle.osc_reader.specs.declared.fault.PacketFault.{PacketFault}
use Rattle.osc_reader.specs.declared.message.Message.{Message}
use Rattle.osc_reader.specs.Places.{Gives}
use Rattle.osc_reader.proofs.PacketLemmas.{packet_found, packet_again}
use Rattle.osc_reader.proofs.packet.read_packet.Goals as goal

pub returns-clause-found : goal.returns-clause-found
returns-clause-found c = packet_found c.args.bytes.now c.packet_at.result c.packet_at.ensures

pub returns-clause-only : goal.returns-clause-only
returns-clause-only c =
    λ messages is. subst (λ (read : Result (List Message) PacketFault). Gives (λ given. given)
    c.packet_at.result read) (packet_again c.args.bytes.now messages is) c.packet_at.ensures
