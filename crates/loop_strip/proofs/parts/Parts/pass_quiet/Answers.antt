use Rattle.std.proofs.Common.{ap, sym, ◌∙◌}
use Rattle.looper_rules.specs.LoopFrame.{advanced_in}
use Rattle.loop_strip.specs.Parts.{loop_of}
use Rattle.loop_strip.proofs.PassLemmas.{did_passed}
use Rattle.loop_strip.proofs.parts.Parts.pass_quiet.Goals as goal

pub returns-clause-did : goal.returns-clause-did
returns-clause-did c =
    did_passed c.args.frame.now c.args.self.now c.advance_in.new.self c.args.pool.now
    c.requires.owns c.advance_in.ensures.tape c.facts.ensures
    (c.advance_in.ensures.ok ∙ ap (λ m. advanced_in m (loop_of c.args.self.now))
    (sym c.requires.is))
