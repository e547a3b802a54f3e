use Rattle.session_file.proofs.ReadingLemmas.{value_wrong}
use Rattle.session_file.proofs.reading.Reading.value.Goals as goal

pub returns-in-Err-clause-fault : goal.returns-in-Err-clause-fault
returns-in-Err-clause-fault c =
    value_wrong c.args.self.now c.args.setting c.args.loops c.in_ok-line.line.now
    c.in_ok-line.behind.now c.in-Err.kind c.fault.result c.in_ok-line.ensures.front
    c.in_ok-line.ensures.found
    c.requires.due c.requires.loops c.requires.few c.in-Err.ensures.wrong c.fault.ensures.line
    c.fault.ensures.kind
