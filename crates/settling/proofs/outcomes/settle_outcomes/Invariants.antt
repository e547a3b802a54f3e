-- The outcomes that were drained so far are taken, and the next one is owed.
use Rattle.std.proofs.Common.{ℕ, List}
use Rattle.sl_commands.specs.declared.Reply.{Reply}
use Rattle.settling.specs.Standing.{MayRelease}
use Rattle.settling.specs.Steps.{HasDrained, GoesBy, more_outcomes}
use Rattle.settling.proofs.outcomes.settle_outcomes.Given as goal

abbrev pub invariant-draining : goal.invariant-draining
invariant-draining g l = record {
  rest : List ℕ;
  drained : HasDrained l.fn.met l.met rest;
  may : MayRelease l.engine l.met;
  told : List Reply;
  tells : g.T.Teller.tells l.fn.teller told l.teller;
  goes : GoesBy (more_outcomes rest) told l.fn.engine l.engine;
}
