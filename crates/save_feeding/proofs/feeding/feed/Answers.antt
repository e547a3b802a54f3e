use Rattle.std.proofs.Common.{ℕ, ◌∙◌, sym, subst}
use Rattle.std.specs.Prelude.{None}
use Rattle.loop_saver.specs.Savers.{due_for_all}
use Rattle.engine_steps.specs.Engines.{left}
use Rattle.loop_saver.specs.Coming.{Feeds}
use Rattle.save_feeding.proofs.FeedLemmas.{sent_more}
use Rattle.save_feeding.proofs.feeding.feed.Goals as goal

pub feeding-preserved : goal.feeding-preserved
feeding-preserved g c =
    let was = c.feeding.invariant in
    let did = c.in_ok-feed_one.ensures in
    let all = due_for_all c.args.saver.now.rate None (left c.args.engine.now) in
    let on = did.sent was.step.beginning was.step.so_far was.step.step in
    record {
      rate = did.rate ∙ was.rate;
      reads = did.reads ∙ was.reads;
      feeds = subst (λ (r : ℕ). Feeds g.P.Keeper r all c.args.keeper.now c.feed_one.new.keeper
          c.feed_one.new.saver.saving (left c.feed_one.new.engine)) was.rate
          (did.fed all c.args.keeper.now
          (subst (λ (r : ℕ). Feeds g.P.Keeper r all c.args.keeper.now c.feeding.keeper
          c.feeding.saver.saving (left c.feeding.engine)) (sym was.rate) was.feeds));
      step = record {
        beginning = was.step.beginning;
        so_far =
            record was.step.so_far { sent = on.sent };
        step = on.step;
      };
      sent = λ b s h. sent_more b s _ _ (was.sent b s h) (λ t. did.sent b t);
      journal = did.journal ∙ was.journal;
    }

pub returns-in_err-feed_one-clause-sent : goal.returns-in_err-feed_one-clause-sent
returns-in_err-feed_one-clause-sent g c = λ b s h.
    sent_more b s _ _ (c.feeding.invariant.sent b s h) (λ t. c.in_err-feed_one.ensures.sent b t)
