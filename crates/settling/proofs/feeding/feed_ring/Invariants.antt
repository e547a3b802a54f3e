-- The blocks that were drained so far are fed.
use Rattle.std.proofs.Common.{◌≡◌, [], List}
use Rattle.sl_commands.specs.declared.Block.{Block}
use Rattle.sl_commands.specs.declared.Reply.{Reply}
use Rattle.settling.specs.Standing.{IsServed}
use Rattle.settling.specs.Steps.{HasDrained, Fed, feeding}
use Rattle.settling.proofs.feeding.feed_ring.Given as goal

abbrev pub invariant-draining : goal.invariant-draining
invariant-draining g l = record {
  rate : l.saver.rate ≡ l.fn.saver.rate;
  reads : g.P.Keeper.read_faults l.keeper ≡ g.P.Keeper.read_faults l.fn.keeper;
  rest : List Block;
  drained : HasDrained l.fn.met l.met rest;
  served : IsServed l.engine l.saver.saving l.met.taken l.met.sent;
  told : List Reply;
  tells : g.T.Teller.tells l.fn.teller told l.teller;
  fed : Fed g.P.Keeper l.fn.saver.rate rest [] told
      (feeding l.fn.engine l.fn.saver.saving l.fn.keeper)
      (feeding l.engine l.saver.saving l.keeper);
}
