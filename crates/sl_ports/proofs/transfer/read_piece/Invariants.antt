use Rattle.std.specs.Io.KnownBytes.{Keeps}
use Rattle.sl_ports.proofs.transfer.read_piece.Given as goal

-- a read that was broken off took nothing
abbrev pub invariant-tries : goal.invariant-tries
invariant-tries g l = Keeps (g.F.Read.remaining l.fn.file) (g.F.Read.remaining l.file)
