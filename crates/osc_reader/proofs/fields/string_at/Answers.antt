use Rattle.osc_reader.specs.Strings.{is_not_zero}
use Rattle.osc_reader.proofs.ReadingLemmas.{all-before}
use Rattle.osc_reader.proofs.fields.string_at.Goals as goal

pub returns-then-begins_with_zeros-clause-plain : goal.returns-then-begins_with_zeros-clause-plain
returns-then-begins_with_zeros-clause-plain c =
    rw (c.split_at.ensures.front, c.text_size-size.ensures.value)
    (all-before is_not_zero c.args.bytes.now)
