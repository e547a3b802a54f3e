use Rattle.osc_reader.specs.Written.{out_bytes}
use Rattle.osc_reader.proofs.WritingLemmas.{too_many_bytes}
use Rattle.osc_reader.proofs.write.put_args.Goals as goal

pub returns-then-not-put_arg : goal.returns-then-not-put_arg
returns-then-not-put_arg c =
    too_many_bytes out_bytes c.args.args.now c.values.arg-index c.arg-item.result c.values.out.items
    c.args.out.now.items c.values-test.true c.arg-item.is c.values.invariant
    c.if-not-put_arg.ensures
