use Rattle.sl_commands.proofs.BlockLemmas.{follows_own_save}
use Rattle.sl_commands.proofs.laws.a_save_is_sent_to_its_end.Goals as goal

pub returns : goal.returns
returns c = λ save g due may. follows_own_save c.args.sent.now c.args.block.now c.args.bound save g
    due may
