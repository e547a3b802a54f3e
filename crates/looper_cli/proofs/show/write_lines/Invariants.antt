-- What is written, and the lines that are left, are the lines of the loops.
use Rattle.std.proofs.Common.{◌≡◌, ◌++◌, [], drop}
use Rattle.std.specs.String.{string_bytes}
use Rattle.looper_cli.specs.Console.{loop_lines_then}
use Rattle.looper_cli.proofs.show.write_lines.Given as goal

abbrev pub invariant-strips : goal.invariant-strips
invariant-strips l = string_bytes l.text ++ loop_lines_then l.index (drop l.index l.strips)
    [] ≡ string_bytes l.fn.text ++ loop_lines_then 0 l.strips []
