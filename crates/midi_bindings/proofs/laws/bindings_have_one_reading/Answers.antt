use Rattle.text_lines.proofs.ReadingLemmas.{fault_is_one, text_has_no_fault}
use Rattle.midi_bindings.specs.Texts.{bindings_form}
use Rattle.midi_bindings.proofs.WrongLemmas.{bindings_are_settled}
use Rattle.midi_bindings.proofs.TextLemmas.{bindings_are_text}
use Rattle.midi_bindings.proofs.ReaderLemmas.{one_reading}
use Rattle.midi_bindings.proofs.laws.bindings_have_one_reading.Goals as goal

pub returns-clause-bindings : goal.returns-clause-bindings
returns-clause-bindings c = one_reading

pub returns-clause-fault : goal.returns-clause-fault
returns-clause-fault c loops bytes line other kind kind_too few = fault_is_one (bindings_form loops)
    (bindings_are_settled loops few) bytes line other kind kind_too

pub returns-clause-either : goal.returns-clause-either
returns-clause-either c loops bytes bindings line kind few is =
    text_has_no_fault (bindings_form loops) (bindings_are_settled loops few) bytes bindings line
    kind (bindings_are_text loops bytes bindings is)
