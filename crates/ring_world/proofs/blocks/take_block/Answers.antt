use Rattle.std.proofs.Common.{sym, ◌∙◌}
use Rattle.ring_world.proofs.SaveLemmas.{next_comes, whole_outcome_is, kept_on}
use Rattle.ring_world.proofs.blocks.take_block.Goals as goal

pub accept-saved-requires : goal.accept-saved-requires
accept-saved-requires g c =
    record {
      next = next_comes g.P.Keeper c.args.keeper.now c.args.saver.now c.args.lists.now
          c.in-Some.block.now c.requires.world c.requires.kept (sym c.in-Some.ensures);
    }

pub returns-clause-kept : goal.returns-clause-kept
returns-clause-kept g c = λ first kept.
    kept_on g.P.Keeper first c.args.keeper.now c.accept-saved.new.keeper c.args.saver.now
    c.accept-saved.new.self c.args.lists.now _
    c.in-Some.block.now c.accept-saved.result kept c.accept-saved.ensures.rate
    c.accept-saved.ensures.accepted
    (sym c.in_ok-outcome.ensures.value
    ∙ whole_outcome_is g.P.Keeper c.args.saver.now.rate c.in-Some.block.now
    c.args.saver.now.saving c.accept-saved.new.self.saving c.args.keeper.now
    c.accept-saved.new.keeper c.accept-saved.result c.in_ok-outcome.outcome
    c.accept-saved.ensures.accepted c.in_ok-outcome.ensures.value c.in_ok-outcome.ensures.whole)
    c.in_ok-keep.ensures.passed (sym c.in-Some.ensures)
