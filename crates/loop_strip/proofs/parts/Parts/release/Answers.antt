use Rattle.loop_strip.proofs.ActLemmas.{did_released}
use Rattle.loop_strip.proofs.parts.Parts.release.Goals as goal

pub returns-clause-did : goal.returns-clause-did
returns-clause-did c =
    did_released c.is_press_of-held.result c.was_long-long.result c.args.verb c.args.frame
    c.args.long_press c.args.self.now c.release_as.new.self c.args.pool.now c.release_as.new.pool
    c.is_press_of-held.ensures c.was_long-long.ensures c.release_as.ensures.did
