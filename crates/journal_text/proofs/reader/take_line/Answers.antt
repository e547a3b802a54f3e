use Rattle.std.proofs.Common.{arith}
use Rattle.journal_text.specs.Journals.{no_place}
use Rattle.journal_text.proofs.reader.take_line.Goals as goal

pub returns-in-Some-clause-wrong : goal.returns-in-Some-clause-wrong
returns-in-Some-clause-wrong c =
    no_place (omega (
      arith,
      c.count.ensures.value,
      c.count.ensures.within,
      c.if-count-eq-MAX_LINES.false,
    )) c.in-Ok.entry c.in-Ok.ensures.found.1 c.in-Ok.ensures.found.0
    c.in-Some.ensures.wrong
