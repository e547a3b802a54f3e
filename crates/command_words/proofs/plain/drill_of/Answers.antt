use Rattle.std.proofs.Common.{rules}
use Rattle.std.specs.String.{string_bytes}
use Rattle.command_words.proofs.WordListLemmas.{short_drill, long_drill}
use Rattle.command_words.proofs.plain.drill_of.Goals as goal
use Rattle.command_words.proofs.plain.drill_of.Goals.{in_default-via-then-words-lt2, in_default-via-else-words-lt2+else-words-lt3}

pub returns-in_default : goal.returns-in_default
returns-in_default c =
    elim c.in_default.branch [
      | in_default-via-then-words-lt2 w ↦ short_drill string_bytes c.args.words.now (search rules)
      | in_default-via-else-words-lt2+else-words-lt3 w ↦
          long_drill string_bytes c.args.words.now (search rules)
    ]
