use Rattle.std.proofs.Common.{◌≡◌, ap, sym, subst, ℕ, List}
use Rattle.text_lines.specs.FirstFaults.{IsText}
use Rattle.midi_bindings.specs.declared.binding.Binding.{Binding}
use Rattle.midi_bindings.specs.Texts.{bindings_form}
use Rattle.midi_bindings.proofs.TextLemmas.{text_is_bindings}
use Rattle.midi_bindings.proofs.ReaderLemmas.{no_bindings, one_reading}
use Rattle.midi_bindings.proofs.reader.read_bindings.Goals as goal

pub returns-in-Ok-clause-found : goal.returns-in-Ok-clause-found
returns-in-Ok-clause-found c =
    let same : c.lines.inside.so_far ≡ c.in-Ok.lines.1 =
    ap (λ (p : ℕ × List Binding). p.1) c.lines.view_is in
    text_is_bindings c.args.loops c.args.bytes.now c.lines.inside.so_far
    (subst (λ bs. IsText (bindings_form c.args.loops) c.args.bytes.now bs) (sym same)
    c.in-Ok.ensures.found)

pub returns-in-Ok-clause-one : goal.returns-in-Ok-clause-one
returns-in-Ok-clause-one c =
    let same : c.lines.inside.so_far ≡ c.in-Ok.lines.1 =
    ap (λ (p : ℕ × List Binding). p.1) c.lines.view_is in
    λ others. one_reading c.args.loops c.args.bytes.now c.lines.inside.so_far others c.requires
    (text_is_bindings c.args.loops c.args.bytes.now c.lines.inside.so_far
    (subst (λ bs. IsText (bindings_form c.args.loops) c.args.bytes.now bs) (sym same)
    c.in-Ok.ensures.found))

pub returns-in-Err-clause-only : goal.returns-in-Err-clause-only
returns-in-Err-clause-only c =
    no_bindings c.args.loops c.args.bytes.now c.in-Err.why c.requires c.in-Err.ensures.fault
