-- The replies that were drained so far are told.
use Rattle.std.proofs.Common.{List}
use Rattle.sl_commands.specs.declared.Reply.{Reply}
use Rattle.settling.specs.Steps.{HasDrained}
use Rattle.settling.proofs.replies.settle_replies.Given as goal

abbrev pub invariant-draining : goal.invariant-draining
invariant-draining g l =
    (rest : List Reply) × HasDrained l.fn.met l.met rest
    × g.T.Teller.tells l.fn.teller rest l.teller
