use Rattle.std.proofs.Common.{◌≡◌, ◌∷◌, List, ap, ◌∙◌, sym, subst}
use Rattle.sl_commands.specs.declared.Block.{Block}
use Rattle.engine_steps.specs.Engines.{EngineOf, left}
use Rattle.loop_saver.specs.Coming.{Feeds}
use Rattle.loop_saver.proofs.FeedLemmas.{feeds_on}
use Rattle.save_feeding.proofs.FeedLemmas.{feeds_end, left_behind}
use Rattle.save_feeding.proofs.feeding.feed_one.Goals as goal

pub returns-in-Continue-clause-fed : goal.returns-in-Continue-clause-fed
returns-in-Continue-clause-fed g c =
    let e : EngineOf = c.args.engine.now in
    let next : EngineOf = c.block_sent.new.self in
    let rest : left e ≡ c.args.block.now ∷ left next =
    left_behind e c.args.block.now c.requires.step c.requires.next
    ∙ ap (λ (n : EngineOf). c.args.block.now ∷ left n) (sym c.block_sent.ensures.sent) in
    λ all start feeds.
    feeds_on g.P.Keeper c.args.saver.now.rate all start c.args.keeper.now c.accept.new.keeper
    c.args.saver.now.saving c.accept.new.self.saving c.args.block.now (left next)
    c.in-Continue.ensures.accepted
    (subst (λ (bs : List Block). Feeds g.P.Keeper c.args.saver.now.rate all start c.args.keeper.now
    c.args.saver.now.saving bs) rest feeds)

pub returns-in-Finished-clause-fed : goal.returns-in-Finished-clause-fed
returns-in-Finished-clause-fed g c =
    let e : EngineOf = c.args.engine.now in
    let next : EngineOf = c.block_sent.new.self in
    let rest : left e ≡ c.args.block.now ∷ left next =
    left_behind e c.args.block.now c.requires.step c.requires.next
    ∙ ap (λ (n : EngineOf). c.args.block.now ∷ left n) (sym c.block_sent.ensures.sent) in
    λ all start feeds.
    feeds_end g.P.Keeper c.args.saver.now.rate all start c.args.keeper.now c.accept.new.keeper
    c.args.saver.now.saving c.accept.new.self.saving c.args.block.now (left next)
    c.in-Finished.field-0 c.in-Finished.outcome c.ended.result c.in-Finished.ensures.accepted
    c.ended.ensures
    (subst (λ (bs : List Block). Feeds g.P.Keeper c.args.saver.now.rate all start c.args.keeper.now
    c.args.saver.now.saving bs) rest feeds)
