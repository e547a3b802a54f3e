use Rattle.std.proofs.Common.{rules}
use Rattle.layer_memory.proofs.WriteLemmas.{rewrites}
use Rattle.layer_memory.proofs.layers.Layers.write_over.Goals as goal

pub returns-in-Some : goal.returns-in-Some
returns-in-Some c =
    rewrites c.args.self.now c.rewrite.new.self c.args.pool.now c.rewrite.new.pool c.args.how
    c.args.place c.in-Some.address c.args.frame c.rewrite.ensures.stack c.rewrite.ensures.tape
    c.rewrite.ensures.writing c.requires.over (search rules) c.facts.ensures.low
    c.in-Some.ensures.alone c.rewrite.ensures.elsewhere c.rewrite.ensures.there
    c.rewrite.ensures.keeps
