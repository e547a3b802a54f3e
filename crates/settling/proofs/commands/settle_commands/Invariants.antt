-- The commands that were drained so far are taken, and the next one may be.
use Rattle.std.proofs.Common.{List}
use Rattle.sl_commands.specs.declared.Command.{Command}
use Rattle.sl_commands.specs.declared.Reply.{Reply}
use Rattle.settling.specs.Standing.{MayCommand}
use Rattle.settling.specs.Steps.{HasDrained, GoesBy, more_commands}
use Rattle.settling.proofs.commands.settle_commands.Given as goal

abbrev pub invariant-draining : goal.invariant-draining
invariant-draining g l = record {
  rest : List Command;
  drained : HasDrained l.fn.met l.met rest;
  may : MayCommand l.fn.sender l.engine l.met;
  told : List Reply;
  tells : g.T.Teller.tells l.fn.teller told l.teller;
  goes : GoesBy (more_commands l.fn.sender rest) told l.fn.engine l.engine;
}
