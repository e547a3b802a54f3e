use Rattle.text_lines.proofs.TableLemmas.{short_has_few_digits}
use Rattle.midi_bindings.proofs.word.value_of.Goals as goal

pub returns-in-None-clause-only : goal.returns-in-None-clause-only
returns-in-None-clause-only c value short same = c.in-None.ensures.only value short.0 short.1
    (record { within = short_has_few_digits value short.0 short.1; spelled = same })
