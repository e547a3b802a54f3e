use Rattle.std.proofs.Common.{rules, refl, ◌≡◌, ◌≤◌, length}
use Rattle.std.proofs.lemmas.List.{take_rest}
use Rattle.loop_strip.proofs.PassLemmas.{plays_more}
use Rattle.loop_strip.proofs.parts.Parts.play.Goals as goal

pub loop-done-preserved : goal.loop-done-preserved
loop-done-preserved c =
    let within : c.loop-done.done ≤ length c.args.input.now = c.loop-done.invariant.within in
    let same : length c.loop-done.heard ≡ length c.args.heard.now = c.loop-done.invariant.same in
    record {
      within = search rules;
      same = search rules;
      plays = plays_more c.loop-done.done c.take_some-done.result c.args.input.now c.loop-done.heard
          c.take_some-done.new.heard _ _ c.args.self.now c.loop-done.self c.take_some-done.new.self
          c.args.pool.now c.loop-done.pool c.take_some-done.new.pool
          (search rules) (search rules) c.loop-done.invariant.plays
          (rw (take_rest c.args.input.now c.loop-done.done) at c.take_some-done.ensures.did)
          (rw (take_rest c.args.input.now c.loop-done.done) at c.take_some-done.ensures.heard)
          refl c.take_some-done.ensures.whole;
    }
