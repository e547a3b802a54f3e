use Rattle.std.proofs.Common.{◌≡◌, subst, arith}
use Rattle.journal_run.specs.Runs.{PlaysTo}
use Rattle.journal_run.proofs.SpanLemmas.{plays_none, plays_on}
use Rattle.journal_run.proofs.playing.play_to.Goals as goal

pub spans-init : goal.spans-init
spans-init c = record {
  before = omega arith;
  within = c.requires.order;
  played = plays_none c.args.input.now c.args.run.now c.requires.spelled;
}

pub spans-preserved : goal.spans-preserved
spans-preserved c =
    let was = c.spans.invariant in
    let on = plays_on c.args.input.now c.next_span-count.result c.args.run.now c.spans.run
    c.play_span.new.run was.before (omega arith) was.played c.in_ok-play_span.ensures.ok in
    record {
      before = omega (arith, on.0);
      within = omega (arith, on.0);
      played = on.1;
    }

pub spans-smaller : goal.spans-smaller
spans-smaller c =
    let was = c.spans.invariant in
    let on = plays_on c.args.input.now c.next_span-count.result c.args.run.now c.spans.run
    c.play_span.new.run was.before (omega arith) was.played c.in_ok-play_span.ensures.ok in
    omega (arith, on.0)

pub returns-clause-ok : goal.returns-clause-ok
returns-clause-ok c =
    let was = c.spans.invariant in
    let all : c.spans.run.engine.frames ≡ c.args.until = omega arith in
    subst (λ n. PlaysTo c.args.input.now n c.args.run.now c.spans.run) all was.played
