-- The words taken, followed by those of the rest, are the words of the line.
use Rattle.std.proofs.Common.{◌≡◌, ◌++◌, map, length}
use Rattle.text_lines.specs.Lines.{words_in}
use Rattle.text_lines.proofs.line.words_of.Given as goal

abbrev pub invariant-loop : goal.invariant-loop
invariant-loop l = record {
  taken : map (λ word. word.now) l.words.items ++ words_in l.rest ≡ words_in l.line;
  count : length l.words.items ≡ l.counter;
}
