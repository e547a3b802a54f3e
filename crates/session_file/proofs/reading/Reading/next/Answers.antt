use Rattle.std.proofs.Common.{rules}
use Rattle.text_lines.specs.Lines.{Lacks}
use Rattle.text_lines.specs.FirstFaults.{IsReadUpTo}
use Rattle.session_file.specs.Sessions.{session_form}
use Rattle.session_file.proofs.ReadingLemmas.{none_first}
use Rattle.session_file.proofs.reading.Reading.next.Goals as goal

pub returns-in-None-clause-fault : goal.returns-in-None-clause-fault
returns-in-None-clause-fault c =
    let read : IsReadUpTo session_form c.args.self.now.bytes c.args.self.now.lines
    c.args.self.now.rest = search rules in
    let lacks : Lacks 10 c.args.self.now.rest = search rules in
    none_first c.args.self.now c.fault.result read lacks c.fault.ensures.line c.fault.ensures.kind
