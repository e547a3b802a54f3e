use Rattle.std.proofs.Common.{All}
use Rattle.osc_reader.specs.Written.{IsPlain}
use Rattle.vectors.proofs.messages.written.args_of.Given as goal

abbrev pub invariant-words : goal.invariant-words
invariant-words l = All IsPlain l.args.items
