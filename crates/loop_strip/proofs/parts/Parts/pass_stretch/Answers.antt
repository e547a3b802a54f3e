use Rattle.std.proofs.Common.{rules, ap}
use Rattle.layer_memory.specs.Seen.{Held}
use Rattle.loop_strip.proofs.StretchLemmas.{did_stretched}
use Rattle.loop_strip.proofs.parts.Parts.pass_stretch.Goals as goal

pub returns-clause-did : goal.returns-clause-did
returns-clause-did c =
    did_stretched c.args.mode c.args.input.now _ c.args.self.now c.go_stretch.new.self
    c.args.pool.now c.requires.owns c.requires.is c.requires.stretch (search rules)
    (ap (λ (h : Held). h.tape) c.go_stretch.ensures.layers) c.facts.ensures
    c.go_stretch.ensures.ok
