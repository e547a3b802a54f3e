use Rattle.std.proofs.Common.{refl, ◌∙◌, subst, None}
use Rattle.saver_serving.specs.Serving.{serving, SaverDid}
use Rattle.saver_serving.proofs.ServeLemmas.{did_none, did_then, waited_then, same_over, over_then}
use Rattle.saver_serving.proofs.serving.serve_saver.Goals as goal

pub serving-init : goal.serving-init
serving-init g c =
    record {
      rate = refl;
      reads = refl;
      over = refl;
      ring = same_over c.args.over.now;
      may = c.requires.may;
      did = did_none g.P.Keeper c.args.saver.now.rate c.args.saver.now.saving c.args.keeper.now
          c.args.blocks.now c.args.releases.now None;
    }

pub returns-then-is_over-clause-did : goal.returns-then-is_over-clause-did
returns-then-is_over-clause-did g c =
    let start = serving c.args.saver.now.saving c.args.keeper.now c.args.blocks.now
    c.args.releases.now None in
    let before = serving c.serving.saver.saving c.serving.keeper c.serving.blocks c.serving.releases
    c.serving.held in
    let now = serving c.one_turn-waited.new.saver.saving c.one_turn-waited.new.keeper
    c.one_turn-waited.new.blocks c.one_turn-waited.new.releases c.one_turn-waited.new.held in
    did_then g.P.Keeper c.args.saver.now.rate start before now c.serving.invariant.did
    (subst (λ r. SaverDid g.P.Keeper r before now) c.serving.invariant.rate
    c.one_turn-waited.ensures.did)

pub returns-then-is_over-clause-waited : goal.returns-then-is_over-clause-waited
returns-then-is_over-clause-waited g c =
    let start = serving c.args.saver.now.saving c.args.keeper.now c.args.blocks.now
    c.args.releases.now None in
    let before = serving c.serving.saver.saving c.serving.keeper c.serving.blocks c.serving.releases
    c.serving.held in
    let now = serving c.one_turn-waited.new.saver.saving c.one_turn-waited.new.keeper
    c.one_turn-waited.new.blocks c.one_turn-waited.new.releases c.one_turn-waited.new.held in
    waited_then g.P.Keeper c.args.saver.now.rate c.one_turn-waited.result start before now
    (c.is_over.ensures.some c.if-is_over.true).0 c.serving.invariant.did
    c.one_turn-waited.ensures.waited

pub serving-preserved : goal.serving-preserved
serving-preserved g c =
    let start = serving c.args.saver.now.saving c.args.keeper.now c.args.blocks.now
    c.args.releases.now None in
    let before = serving c.serving.saver.saving c.serving.keeper c.serving.blocks c.serving.releases
    c.serving.held in
    let now = serving c.one_turn-waited.new.saver.saving c.one_turn-waited.new.keeper
    c.one_turn-waited.new.blocks c.one_turn-waited.new.releases c.one_turn-waited.new.held in
    record {
      rate = c.one_turn-waited.ensures.rate ∙ c.serving.invariant.rate;
      reads = c.one_turn-waited.ensures.reads ∙ c.serving.invariant.reads;
      over = c.is_over.ensures.none c.if-is_over.false ∙ c.serving.invariant.over;
      ring = over_then c.args.over.now c.serving.over c.is_over.new.over c.serving.invariant.ring
          c.is_over.ensures.ring;
      may = c.one_turn-waited.ensures.may;
      did = did_then g.P.Keeper c.args.saver.now.rate start before now c.serving.invariant.did
          (subst (λ r. SaverDid g.P.Keeper r before now) c.serving.invariant.rate
          c.one_turn-waited.ensures.did);
    }
