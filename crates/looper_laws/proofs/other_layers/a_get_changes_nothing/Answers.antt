use Rattle.std.proofs.Common.{refl}
use Rattle.sl_commands.specs.declared.Command.TheVariants.{Get, GetGlobal, Quit}
use Rattle.looper_laws.proofs.Others.Refusals.{applied_nothing}
use Rattle.looper_laws.proofs.other_layers.a_get_changes_nothing.Goals as goal

pub returns-clause-of_a_loop : goal.returns-clause-of_a_loop
returns-clause-of_a_loop c frame e target control l its =
    applied_nothing frame e (Get target control) l refl its

pub returns-clause-of_the_looper : goal.returns-clause-of_the_looper
returns-clause-of_the_looper c frame e control l its =
    applied_nothing frame e (GetGlobal control) l refl its

pub returns-clause-quit : goal.returns-clause-quit
returns-clause-quit c frame e l its = applied_nothing frame e Quit l refl its
