use Rattle.std.proofs.Common.{◌≡◌, ◌++◌, flat_map, drop}
use Rattle.osc_reader.specs.Written.{out_bytes}
use Rattle.osc_reader.proofs.write.put_args.Given as goal

abbrev pub invariant-values : goal.invariant-values
invariant-values l = l.out.items ++ flat_map out_bytes (drop l.arg-index l.args) ≡ l.fn.out.items
    ++ flat_map out_bytes l.args
