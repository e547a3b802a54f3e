-- The blocks that the engine gave so far are fed.
use Rattle.std.proofs.Common.{◌≡◌, List}
use Rattle.sl_commands.specs.declared.Block.{Block}
use Rattle.sl_commands.specs.declared.Reply.{Reply}
use Rattle.settling.specs.Standing.{IsServed}
use Rattle.settling.specs.Steps.{Fed, feeding}
use Rattle.settling.proofs.feeding.feed_rest.Given as goal

abbrev pub invariant-feeding : goal.invariant-feeding
invariant-feeding g l = record {
  rate : l.saver.rate ≡ l.fn.saver.rate;
  reads : g.P.Keeper.read_faults l.keeper ≡ g.P.Keeper.read_faults l.fn.keeper;
  served : (sent : List Block) × IsServed l.engine l.saver.saving sent sent;
  blocks : List Block;
  told : List Reply;
  tells : g.T.Teller.tells l.fn.teller told l.teller;
  fed : Fed g.P.Keeper l.fn.saver.rate blocks blocks told
      (feeding l.fn.engine l.fn.saver.saving l.fn.keeper)
      (feeding l.engine l.saver.saving l.keeper);
}
