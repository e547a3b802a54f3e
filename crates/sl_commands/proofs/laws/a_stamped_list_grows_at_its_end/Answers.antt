use Rattle.sl_commands.proofs.EntriesLemmas.{are_stamped-push}
use Rattle.sl_commands.proofs.laws.a_stamped_list_grows_at_its_end.Goals as goal

pub returns : goal.returns
returns c = are_stamped-push c.args.entries.now c.args.entry.now
