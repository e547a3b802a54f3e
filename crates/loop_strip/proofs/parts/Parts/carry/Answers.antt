use Rattle.loop_states.specs.Moves.{carry}
use Rattle.loop_strip.specs.Strips.{reach_in}
use Rattle.loop_strip.specs.Parts.{strip_of}
use Rattle.loop_strip.proofs.LoopLemmas.{carry-mapped}
use Rattle.loop_strip.proofs.DidLemmas.{did_as}
use Rattle.loop_strip.proofs.parts.Parts.carry.Goals as goal

pub returns-in_default : goal.returns-in_default
returns-in_default c = record {
  ok = c.move_alone.ensures.ok (reach_in (strip_of c.args.self.now) c.args.pool.now);
  did = did_as (λ reach. carry reach c.args.next) (λ reach. carry reach c.args.next) c.args.self.now
      c.move_alone.new.self c.args.pool.now c.requires.owns c.move_alone.ensures.tape
      c.facts.ensures
      (λ f reach l. carry-mapped f reach c.args.next l)
      (c.move_alone.ensures.ok (reach_in (strip_of c.args.self.now) c.args.pool.now));
  whole = c.move_alone.ensures.whole;
}
