use Rattle.std.proofs.lemmas.List.Splits.{join_with_byte-slice_split}
use Rattle.text_lines.proofs.WordLemmas.{words_come_back}
use Rattle.text_lines.proofs.laws.a_line_is_its_words.Goals as goal

pub returns-clause-line : goal.returns-clause-line
returns-clause-line c = join_with_byte-slice_split 32

pub returns-clause-words : goal.returns-clause-words
returns-clause-words c = words_come_back
