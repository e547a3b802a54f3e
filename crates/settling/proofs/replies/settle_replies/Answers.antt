use Rattle.std.proofs.Common.{[], ◌∷◌, ◌++◌}
use Rattle.settling.proofs.TakeLemmas.{drained_none, drained_more, drained_all}
use Rattle.settling.proofs.replies.settle_replies.Goals as goal

pub draining-init : goal.draining-init
draining-init g c =
    ([], drained_none c.args.met.now, c.telling_composes.ensures.none c.args.teller.now)

pub draining-preserved : goal.draining-preserved
draining-preserved g c =
    let i = c.draining.invariant in
    let reply = c.in-Some-drain.reply in (
      i.0 ++ reply ∷ [],
      drained_more _ c.args.met.now c.draining.met c.drain.new.self i.0 reply i.1
          c.drain.ensures.ring c.in-Some-drain.ensures.some,
      c.telling_composes.ensures.more c.args.teller.now c.draining.teller c.tell.new.self i.0
          (reply ∷ []) i.2 c.tell.ensures,
    )

pub returns-in_default : goal.returns-in_default
returns-in_default g c =
    let i = c.draining.invariant in
    record {
      left = (
        i.0,
        drained_all c.args.met.now c.draining.met c.drain.new.self i.0 i.1 c.drain.ensures.ring
            c.in_default.ensures.none,
        i.2,
      );
    }
