use Rattle.layer_memory.proofs.LoadLemmas.{loads_list}
use Rattle.layer_memory.proofs.layers.Layers.load.Goals as goal

pub returns : goal.returns
returns c = loads_list c.args.self.now c.lay.new.self c.args.pool.now c.lay.new.pool
    c.args.frames.now c.args.cycle c.lay.ensures.stack c.lay.ensures.writing c.facts.ensures.tape
    c.facts.ensures.low c.lay.ensures.whole c.lay.ensures.tape
