use Rattle.std.specs.String.{string_bytes}
use Rattle.command_words.proofs.WordListLemmas.{short_render}
use Rattle.command_words.proofs.plain.render_of.Goals as goal

pub returns-then-words-lt3 : goal.returns-then-words-lt3
returns-then-words-lt3 c = short_render string_bytes c.args.words.now c.if-words-lt3.true
