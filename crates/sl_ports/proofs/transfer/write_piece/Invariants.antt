use Rattle.std.specs.Io.KnownBytes.{Keeps}
use Rattle.sl_ports.proofs.transfer.write_piece.Given as goal

-- a write that was broken off wrote nothing
abbrev pub invariant-tries : goal.invariant-tries
invariant-tries g l = Keeps (g.W.Write.contents l.fn.to) (g.W.Write.contents l.to)
