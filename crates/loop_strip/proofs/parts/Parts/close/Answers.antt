use Rattle.loop_strip.proofs.Whole.{whole_closed}
use Rattle.loop_strip.proofs.parts.Parts.close.Goals as goal

pub returns-clause-whole : goal.returns-clause-whole
returns-clause-whole c =
    whole_closed c.args.self.now c.close_now.new.self c.requires.whole c.requires.writing
    c.close_now.ensures.ok c.close_now.ensures.writing c.close_now.ensures.pinned
