use Rattle.loop_strip.proofs.LoadLemmas.{did_loaded, whole_loaded}
use Rattle.loop_strip.proofs.parts.Parts.load.Goals as goal

pub returns-clause-did : goal.returns-clause-did
returns-clause-did c = did_loaded c.args.self.now c.load.new.self c.args.pool.now c.load.new.pool
    c.args.frames.now c.args.cycle c.requires.owns c.requires.new c.facts.ensures c.load.ensures

pub returns-clause-whole : goal.returns-clause-whole
returns-clause-whole c =
    whole_loaded c.args.self.now c.load.new.self c.args.pool.now c.load.new.pool c.args.frames.now
    c.args.cycle c.requires.whole c.requires.new c.requires.some c.requires.short c.requires.cycle
    c.requires.cycle_within c.load.ensures
