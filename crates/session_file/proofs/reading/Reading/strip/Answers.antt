use Rattle.session_file.proofs.ReadingLemmas.{strip_wrong, strip_order}
use Rattle.session_file.proofs.reading.Reading.strip.Goals as goal

pub returns-in-Err-clause-fault : goal.returns-in-Err-clause-fault
returns-in-Err-clause-fault c =
    strip_wrong c.args.self.now c.args.index c.args.loops c.in_ok-line.line.now
    c.in_ok-line.behind.now c.in-Err.kind c.fault.result c.in_ok-line.ensures.front
    c.in_ok-line.ensures.found
    c.requires.loops c.requires.place c.requires.few c.in-Err.ensures.wrong c.fault.ensures.line
    c.fault.ensures.kind

pub returns-then-said-index-clause-fault : goal.returns-then-said-index-clause-fault
returns-then-said-index-clause-fault c =
    let found = c.in-Ok.ensures.found in
    strip_order c.args.self.now c.args.index c.args.loops c.in-Ok.read.0 c.in-Ok.read.1
    c.in_ok-line.line.now c.in_ok-line.behind.now c.fault-then-said-index.result
    c.in_ok-line.ensures.front c.in_ok-line.ensures.found
    c.requires.loops c.requires.place c.requires.few found.0 found.1 found.2 c.if-said-index.true
    c.fault-then-said-index.ensures.line c.fault-then-said-index.ensures.kind
