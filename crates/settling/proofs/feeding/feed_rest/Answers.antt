use Rattle.std.proofs.Common.{refl, sym, ◌∙◌, subst, [], ◌∷◌, ◌++◌}
use Rattle.settling.specs.Steps.{Fed, feeding}
use Rattle.settling.proofs.FeedLemmas.{fed_none, fed_then, served_answered, none_left}
use Rattle.settling.proofs.feeding.feed_rest.Goals as goal

pub feeding-init : goal.feeding-init
feeding-init g c =
    record {
      rate = refl;
      reads = refl;
      served = c.requires.served;
      blocks = [];
      told = [];
      tells = c.telling_composes.ensures.none c.args.teller.now;
      fed = fed_none g.P.Keeper c.args.saver.now.rate
          (feeding c.args.engine.now c.args.saver.now.saving c.args.keeper.now);
    }

pub feeding-preserved : goal.feeding-preserved
feeding-preserved g c =
    let i = c.feeding.invariant in
    let block = c.in-Some-next_block.block in
    let rate = c.args.saver.now.rate in
    let start = feeding c.args.engine.now c.args.saver.now.saving c.args.keeper.now in
    let before = feeding c.feeding.engine c.feeding.saver.saving c.feeding.keeper in
    let now = feeding c.feed_next.new.engine c.feed_next.new.saver.saving c.feed_next.new.keeper in
    let gave = c.feed_next.ensures.fed in
    record {
      rate = c.feed_next.ensures.rate ∙ i.rate;
      reads = c.feed_next.ensures.reads ∙ i.reads;
      served = c.feed_next.ensures.served;
      blocks = i.blocks ++ block ∷ [];
      told = i.told ++ gave.0;
      tells = c.telling_composes.ensures.more c.args.teller.now c.feeding.teller
          c.feed_next.new.teller i.told gave.0 i.tells gave.1;
      fed = fed_then g.P.Keeper rate i.blocks (block ∷ []) i.blocks (block ∷ []) i.told gave.0 start
          before now i.fed
          (subst (λ r. Fed g.P.Keeper r (block ∷ []) (block ∷ []) gave.0 before now) i.rate gave.2);
    }

pub returns-in-None-next_block-clause-fed : goal.returns-in-None-next_block-clause-fed
returns-in-None-next_block-clause-fed g c =
    let i = c.feeding.invariant in (i.blocks, i.told, i.tells, i.fed)

pub returns-in-None-next_block-clause-none : goal.returns-in-None-next_block-clause-none
returns-in-None-next_block-clause-none g c =
    none_left c.feeding.engine (sym c.next_block.ensures.value ∙ c.in-None-next_block.is)

pub returns-in-None-next_block-clause-answered : goal.returns-in-None-next_block-clause-answered
returns-in-None-next_block-clause-answered g c =
    served_answered c.feeding.engine c.feeding.saver.saving c.feeding.invariant.served.0
    c.feeding.invariant.served.1 (c.next_block.ensures.all_sent c.in-None-next_block.is)
