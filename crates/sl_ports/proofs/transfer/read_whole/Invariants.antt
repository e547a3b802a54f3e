use Rattle.std.specs.Io.KnownBytes.{Consumes}
use Rattle.sl_ports.proofs.transfer.read_whole.Given as goal

-- the bytes so far are those that were taken
abbrev pub invariant-turns : goal.invariant-turns
invariant-turns g l = Consumes (g.F.Read.remaining l.fn.file) (g.F.Read.remaining l.file)
    l.bytes.items
