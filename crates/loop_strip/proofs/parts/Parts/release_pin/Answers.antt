use Rattle.std.proofs.Common.{false}
use Rattle.loop_strip.proofs.SavingLemmas.{did_unpinned, whole_unpinned}
use Rattle.loop_strip.proofs.parts.Parts.release_pin.Goals as goal

pub returns-clause-did : goal.returns-clause-did
returns-clause-did c = did_unpinned c.args.self.now c.release.new.self false c.release.ensures.stack
    c.release.ensures.tape c.facts.ensures

pub returns-clause-whole : goal.returns-clause-whole
returns-clause-whole c = whole_unpinned c.args.self.now c.release.new.self c.requires.whole
    c.release.ensures.stack c.release.ensures.writing
