use Rattle.std.proofs.Common.{◌≡◌, drop}
use Rattle.osc_reader.specs.Reading.{args_at}
use Rattle.osc_reader.proofs.ReadingLemmas.{with_args}
use Rattle.osc_reader.proofs.fields.args_at.Given as goal

abbrev pub invariant-tags : goal.invariant-tags
invariant-tags l = with_args l.args.items (args_at (drop l.tag-index l.tags) l.end l.rest) ≡ args_at
    l.tags l.end l.bytes
