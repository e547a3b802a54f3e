use Rattle.std.proofs.Common.{◌≡◌, false, map, sym, ◌∙◌}
use Rattle.midi_bindings.specs.Lines.{is_binding}
use Rattle.midi_bindings.proofs.BindingLemmas.{binding_has_words}
use Rattle.midi_bindings.proofs.OneLemmas.{not_valid}
use Rattle.midi_bindings.proofs.line.valid_of.Goals as goal

pub returns-in_default-clause-only : goal.returns-in_default-clause-only
returns-in_default-clause-only c b is same =
    c.in_default.ensures.only b (same, binding_has_words c.args.loops b c.requires is)

pub returns-else-is_allowed-clause-only : goal.returns-else-is_allowed-clause-only
returns-else-is_allowed-clause-only c b is same =
    let found = c.in-Some.ensures.found in
    let bad : is_binding c.args.loops c.in-Some.binding ≡ false =
    sym c.is_allowed.ensures ∙ c.if-is_allowed.false in
    not_valid c.args.loops (map (λ w. w.now) c.args.words.now) c.in-Some.binding b c.requires
    found.1 found.0 bad is same
