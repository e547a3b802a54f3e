use Rattle.std.proofs.Common.{◌≡◌, ◌≢◌, rules}
use Rattle.text_lines.specs.Lines.{end_word}
use Rattle.text_lines.proofs.LoopLemmas.{end_read}
use Rattle.session_file.specs.Sessions.{session_form}
use Rattle.session_file.proofs.ReadingLemmas.{end_wrong, end_more, none_by_test, some_by_test}
use Rattle.session_file.proofs.reading.Reading.end.Goals as goal

pub returns-then-ne-clause-fault : goal.returns-then-ne-clause-fault
returns-then-ne-clause-fault c =
    let apart : c.in_ok-line.line.now ≢ end_word = search rules in
    end_wrong c.args.self.now c.in_ok-line.line.now c.in_ok-line.behind.now c.fault.result
    c.in_ok-line.ensures.front c.in_ok-line.ensures.found c.requires apart c.fault.ensures.line
    c.fault.ensures.kind

pub returns-then-not-is_empty-clause-fault : goal.returns-then-not-is_empty-clause-fault
returns-then-not-is_empty-clause-fault c =
    let is : c.in_ok-line.line.now ≡ end_word = search rules in
    let some = some_by_test c.in_ok-line.behind.now c.is_empty.result c.is_empty.ensures
    (search rules) in
    end_more c.args.self.now c.in_ok-line.line.now c.in_ok-line.behind.now c.fault_behind.result
    c.in_ok-line.ensures.front c.in_ok-line.ensures.found c.requires is some
    c.fault_behind.ensures.line c.fault_behind.ensures.kind

pub returns-clause-ok : goal.returns-clause-ok
returns-clause-ok c =
    let is : c.in_ok-line.line.now ≡ end_word = search rules in
    let none = none_by_test c.in_ok-line.behind.now c.is_empty.result c.is_empty.ensures
    (search rules) in
    end_read session_form c.args.self.now.bytes c.args.self.now.lines c.args.self.now.rest
    c.in_ok-line.line.now c.in_ok-line.behind.now c.in_ok-line.ensures.front
    c.in_ok-line.ensures.found is c.requires none
