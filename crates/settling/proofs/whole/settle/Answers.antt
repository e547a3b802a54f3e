use Rattle.std.proofs.Common.{refl, subst, [], ◌++◌}
use Rattle.std.specs.Prelude.{option_to_list}
use Rattle.settling.specs.Settled.{LeftOf, unsettled, settling}
use Rattle.settling.specs.Steps.{Fed, feeding}
use Rattle.settling.proofs.SettleLemmas.{may_take, may_feed, settled_from}
use Rattle.settling.proofs.whole.settle.Goals as goal

pub take_left-requires : goal.take_left-requires
take_left-requires g c =
    record {
      may = may_take
          (unsettled c.args.engine.now c.args.reply c.args.saver.now.saving c.args.keeper.now
          c.args.outcome []) c.args.rings c.requires.may;
    }

pub feed_ring-requires : goal.feed_ring-requires
feed_ring-requires g c =
    record {
      served = may_feed
          (unsettled c.args.engine.now c.args.reply c.args.saver.now.saving c.args.keeper.now
          c.args.outcome []) c.args.rings c.requires.may c.take_left.new.engine
          c.take_left.ensures.left.0 c.take_left.ensures.left.2;
    }

pub feed_rest-requires : goal.feed_rest-requires
feed_rest-requires g c =
    record { served = (c.args.rings.blocks.sent, c.feed_ring.ensures.left.2) }

pub returns-clause-settled : goal.returns-clause-settled
returns-clause-settled g c =
    let more = c.telling_composes.ensures.more in
    let first = c.settle_replies.ensures.left in
    let reply = option_to_list c.args.reply in
    let took = c.take_left.ensures.left in
    let ring = c.feed_ring.ensures.left in
    let rest = c.feed_rest.ensures.fed in
    let s = unsettled c.args.engine.now c.args.reply c.args.saver.now.saving c.args.keeper.now
    c.args.outcome [] in
    let u = feeding c.feed_ring.new.engine c.feed_ring.new.saver.saving c.feed_ring.new.keeper in
    let told = first.0 ++ (reply ++ (took.0 ++ (ring.3 ++ rest.1))) in
    let v = settling c.feed_rest.new.engine c.feed_rest.new.saver.saving c.feed_rest.new.keeper
    told in
    let left : LeftOf = record {
      osc = took.2.osc_left;
      midi = took.2.midi_left;
      releases = took.2.releases_left;
      replies = first.0;
      blocks = ring.0;
    } in
    let last = c.feed_rest.new.teller in (
      left,
      told,
      record {
        osc = took.2.osc_are;
        midi = took.2.midi_are;
        releases = took.2.releases_are;
        replies = first.1;
        blocks = ring.1;
      },
      more c.args.teller.now c.settle_replies.new.teller last first.0
          (reply ++ (took.0 ++ (ring.3 ++ rest.1))) first.2
          (more c.settle_replies.new.teller c.tell_some.new.teller last reply
          (took.0 ++ (ring.3 ++ rest.1)) c.tell_some.ensures
          (more c.tell_some.new.teller c.take_left.new.teller last took.0 (ring.3 ++ rest.1) took.1
          (more c.take_left.new.teller c.feed_ring.new.teller last ring.3 rest.1 ring.4 rest.2))),
      settled_from g.P.Keeper c.args.saver.now.rate s left c.take_left.new.engine took.0 ring.3
          rest.1
          u v rest.0 took.2.goes ring.5
          (subst (λ r. Fed g.P.Keeper r rest.0 rest.0 rest.1 u
          (feeding v.engine v.saving v.keeper)) c.feed_ring.ensures.rate rest.3)
          refl c.feed_rest.ensures.none c.feed_rest.ensures.answered,
    )
