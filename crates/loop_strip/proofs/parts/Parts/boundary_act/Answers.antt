use Rattle.std.proofs.Common.{ap, sym}
use Rattle.looper_rules.specs.Loop.{Deck}
use Rattle.looper_rules.specs.Presses.{waiting_acts_from}
use Rattle.loop_strip.specs.Strips.{seen, reach_in}
use Rattle.loop_strip.specs.Parts.{strip_of}
use Rattle.loop_strip.proofs.DidLemmas.{seen_deck, did_also}
use Rattle.loop_strip.proofs.parts.Parts.boundary_act.Goals as goal

pub returns-clause-did : goal.returns-clause-did
returns-clause-did c =
    did_also (ap (λ (d : Deck).
    waiting_acts_from d.waiting (reach_in (strip_of c.args.self.now) c.args.pool.now)
    (seen (strip_of c.args.self.now) c.args.pool.now))
    (sym (seen_deck (strip_of c.args.self.now) c.args.pool.now))) c.act_waiting.ensures.did
