use Rattle.osc_reader.specs.Written.{out_tag}
use Rattle.osc_reader.proofs.WritingLemmas.{too_many_letters}
use Rattle.osc_reader.proofs.write.put_letters.Goals as goal

pub returns-then-not-put : goal.returns-then-not-put
returns-then-not-put c =
    too_many_letters out_tag c.args.args.now c.letters.arg-index c.arg-item.result
    c.letters.out.items c.args.out.now.items c.letters-test.true c.arg-item.is c.letters.invariant
    c.if-not-put.ensures
