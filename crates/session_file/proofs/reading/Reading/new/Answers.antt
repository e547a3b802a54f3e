use Rattle.std.proofs.Common.{◌≢◌, rules}
use Rattle.text_lines.proofs.LoopLemmas.{no_header_read}
use Rattle.session_file.specs.Sessions.{session_form, session_header}
use Rattle.session_file.proofs.reading.Reading.new.Goals as goal

pub returns-then-ne-clause-fault : goal.returns-then-ne-clause-fault
returns-then-ne-clause-fault c =
    let apart : c.in-Some.first.now ≢ session_header = search rules in
    no_header_read session_form c.args.bytes.now c.in-Some.first.now c.in-Some.rest.now
    c.in-Some.ensures.found apart
