use Rattle.std.proofs.Common.{ap, sym, ◌∙◌}
use Rattle.looper_rules.specs.LoopFrame.{advanced_in, overrun_in, how_in}
use Rattle.loop_strip.specs.Parts.{loop_of}
use Rattle.loop_strip.proofs.OpeningLemmas.{layers_of}
use Rattle.loop_strip.proofs.PassLemmas.{next_is, did_wrote, did_overran}
use Rattle.loop_strip.proofs.parts.Parts.pass_writing.Goals as goal

pub returns-then-write-clause-did : goal.returns-then-write-clause-did
returns-then-write-clause-did c =
    did_wrote c.args.frame.now c.mix_in-next.result c.how_in-how.result c.args.self.now
    c.advance_in.new.self c.write.new.self c.args.pool.now c.write.new.pool c.requires.owns
    (next_is c.args.mode c.args.frame.now c.mix_in-next.result c.args.sound.now c.args.self.now
    c.args.pool.now c.requires.is c.requires.heard c.mix_in-next.ensures)
    (c.how_in-how.ensures ∙ ap (λ m. how_in m c.args.self.now.deck.backward) (sym c.requires.is))
    c.if-write.ensures c.facts.ensures c.advance_in.ensures.tape c.facts-then-write.ensures
    (c.advance_in.ensures.ok
    ∙ ap (λ m. advanced_in m (loop_of (layers_of c.args.self.now c.write.new.self)))
    (sym c.requires.is))

pub returns-else-write-clause-did : goal.returns-else-write-clause-did
returns-else-write-clause-did c =
    did_overran c.args.frame.now c.how_in-how.result c.args.self.now c.overrun.new.self
    c.write.new.self c.args.pool.now c.write.new.pool c.requires.owns
    (c.how_in-how.ensures ∙ ap (λ m. how_in m c.args.self.now.deck.backward) (sym c.requires.is))
    c.if-write.ensures c.overrun.ensures.tape c.facts-else-write.ensures
    (c.overrun.ensures.ok
    ∙ ap (λ m. overrun_in m (loop_of (layers_of c.args.self.now c.write.new.self)))
    (sym c.requires.is))
