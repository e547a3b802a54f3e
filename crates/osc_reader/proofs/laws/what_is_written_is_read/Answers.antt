use Rattle.osc_reader.proofs.WrittenLemmas.{written_is_a_packet}
use Rattle.osc_reader.proofs.laws.what_is_written_is_read.Goals as goal

pub returns : goal.returns
returns c = λ address args begins plain fits within.
    written_is_a_packet address args begins plain fits within
