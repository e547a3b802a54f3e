use Rattle.std.proofs.Common.{◌≡◌, ◌++◌, map, drop}
use Rattle.osc_reader.specs.Written.{out_tag}
use Rattle.osc_reader.proofs.write.put_letters.Given as goal

abbrev pub invariant-letters : goal.invariant-letters
invariant-letters l = l.out.items ++ map out_tag (drop l.arg-index l.args) ≡ l.fn.out.items
    ++ map out_tag l.args
