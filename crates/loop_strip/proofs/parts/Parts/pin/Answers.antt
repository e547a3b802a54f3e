use Rattle.std.proofs.Common.{true}
use Rattle.loop_strip.proofs.SavingLemmas.{did_pinned, whole_pinned}
use Rattle.loop_strip.proofs.parts.Parts.pin.Goals as goal

pub returns-clause-did : goal.returns-clause-did
returns-clause-did c = did_pinned c.args.self.now c.pin.new.self true c.pin.ensures.stack
    c.pin.ensures.tape c.facts.ensures

pub returns-clause-whole : goal.returns-clause-whole
returns-clause-whole c = whole_pinned c.args.self.now c.pin.new.self c.requires.whole
    c.pin.ensures.stack c.pin.ensures.writing
