use Rattle.loop_strip.specs.Strips.{seen, reach_in}
use Rattle.loop_strip.specs.Parts.{strip_of}
use Rattle.loop_strip.proofs.PassLemmas.{heard_one}
use Rattle.loop_strip.proofs.parts.Parts.take_one.Goals as goal

pub returns-clause-heard : goal.returns-clause-heard
returns-clause-heard c =
    heard_one c.args.input.now c.args.heard.now c.index-input-0.result c.frame.result
    (reach_in (strip_of c.args.self.now) c.args.pool.now)
    (seen (strip_of c.args.self.now) c.args.pool.now) c.requires.some c.requires.same_length
    c.index-input-0.is c.frame.ensures.heard
