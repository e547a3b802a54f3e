use Rattle.std.proofs.Common.{rules, arith, ◌≡◌, ap, ◌∙◌}
use Rattle.looper_rules.specs.Loop.{length_of}
use Rattle.loop_strip.specs.Parts.{loop_of}
use Rattle.loop_strip.specs.Stretches.{places_ahead}
use Rattle.loop_strip.proofs.BudgetLemmas.{quiet_shot}
use Rattle.loop_strip.proofs.parts.Parts.quiet_shot.Goals as goal

pub returns-else-frames-eq0-clause-quiet : goal.returns-else-frames-eq0-clause-quiet
returns-else-frames-eq0-clause-quiet c =
    let deck = c.args.self.now.deck in
    let is : c.places_ahead-frames.result ≡ places_ahead deck.backward deck.pos
    (length_of (loop_of c.args.self.now)) = c.places_ahead-frames.ensures
    ∙ ap (places_ahead deck.backward deck.pos) c.sizes-sizes.ensures.value.list in
    quiet_shot c.places_ahead-frames.result c.args.self.now c.requires.is (search rules)
    (record { inside = c.requires.inside; ahead = omega (arith, is) })
