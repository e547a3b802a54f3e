use Rattle.sl_commands.proofs.EntriesLemmas.{commands_of-own, commands_of-other, length-commands_of}
use Rattle.sl_commands.proofs.laws.a_senders_commands_grow_by_its_entry.Goals as goal

pub returns-clause-own : goal.returns-clause-own
returns-clause-own c = commands_of-own

pub returns-clause-others : goal.returns-clause-others
returns-clause-others c = commands_of-other

pub returns-clause-count : goal.returns-clause-count
returns-clause-count c = length-commands_of
