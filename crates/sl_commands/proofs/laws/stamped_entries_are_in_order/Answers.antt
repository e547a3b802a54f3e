use Rattle.sl_commands.proofs.EntriesLemmas.{stamped_is_in_order, in_order_is_stamped}
use Rattle.sl_commands.proofs.laws.stamped_entries_are_in_order.Goals as goal

pub returns-clause-found : goal.returns-clause-found
returns-clause-found c = stamped_is_in_order c.args.entries.now

pub returns-clause-only : goal.returns-clause-only
returns-clause-only c = in_order_is_stamped c.args.entries.now
