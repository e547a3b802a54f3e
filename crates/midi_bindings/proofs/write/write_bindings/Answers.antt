use Rattle.std.proofs.Common.{◌≡◌, ◌≤◌, ◌++◌, ◌∷◌, [], length, ◌∙◌, rules}
use Rattle.std.specs.String.{string_bytes}
use Rattle.text_lines.specs.Lines.{end_word}
use Rattle.midi_bindings.specs.Texts.{bindings_text}
use Rattle.midi_bindings.proofs.WriteLemmas.{all_written}
use Rattle.midi_bindings.proofs.write.write_bindings.Goals as goal

pub returns : goal.returns
returns c =
    let done : length c.args.bindings.now ≤ c.bindings.place = search rules in
    let rest = all_written (string_bytes c.bindings.out) c.args.bindings.now c.bindings.place
    (bindings_text c.args.bindings.now) (end_word ++ (10 ∷ [])) done c.bindings.invariant in
    let added : string_bytes c.push_str.new.self ≡ string_bytes c.bindings.out
    ++ (end_word ++ (10 ∷ [])) = search rules in
    added ∙ rest
