use Rattle.sl_commands.proofs.BlockLemmas.{place_of-save, save_follows}
use Rattle.sl_commands.proofs.laws.a_whole_save_may_follow.Goals as goal

pub returns-clause-done : goal.returns-clause-done
returns-clause-done c = place_of-save c.args.sent.now c.args.save c.args.name.now c.args.target
    c.args.settings.now c.args.lists.now c.requires.due c.requires.save

pub returns-clause-follow : goal.returns-clause-follow
returns-clause-follow c =
    λ bound below. save_follows c.args.sent.now c.args.save c.args.name.now c.args.target
    c.args.settings.now c.args.lists.now bound c.requires.due c.requires.save below
