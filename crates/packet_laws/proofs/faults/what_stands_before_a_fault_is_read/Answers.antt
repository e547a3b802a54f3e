use Rattle.packet_laws.proofs.PartLemmas.{packet_first, packet_same}
use Rattle.packet_laws.proofs.faults.what_stands_before_a_fault_is_read.Goals as goal

pub returns-clause-first : goal.returns-clause-first
returns-clause-first c = packet_first

pub returns-clause-same : goal.returns-clause-same
returns-clause-same c = packet_same
