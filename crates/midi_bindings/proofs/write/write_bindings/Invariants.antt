-- What is written, and the lines that are left, are the text.
use Rattle.std.proofs.Common.{◌≡◌, ◌++◌, ◌∷◌, [], drop}
use Rattle.std.specs.String.{string_bytes}
use Rattle.text_lines.specs.Lines.{lines_then, end_word}
use Rattle.midi_bindings.specs.Lines.{binding_line}
use Rattle.midi_bindings.specs.Texts.{bindings_text}
use Rattle.midi_bindings.proofs.write.write_bindings.Given as goal

abbrev pub invariant-bindings : goal.invariant-bindings
invariant-bindings l = string_bytes l.out ++ lines_then binding_line (drop l.place l.bindings)
    (end_word ++ (10 ∷ [])) ≡ bindings_text l.bindings
