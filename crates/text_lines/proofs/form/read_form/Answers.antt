use Rattle.std.proofs.Common.{◌≢◌, refl, sym, ◌∙◌, rules}
use Rattle.sl_commands.specs.declared.fault.TextKind.TheVariants.{Header}
use Rattle.text_lines.proofs.LoopLemmas.{no_header_read}
use Rattle.text_lines.proofs.FormLemmas.{reason_at}
use Rattle.text_lines.proofs.form.read_form.Goals as goal

pub returns-then-ne-clause-fault : goal.returns-then-ne-clause-fault
returns-then-ne-clause-fault g c =
    let form = g.L.FormLines.form (g.L.FormLines.given c.args.none) in
    let apart : c.in-Some.first.now ≢ c.header.result.now = search rules in
    reason_at form c.args.bytes.now 1 1 Header c.fault-then-ne.result c.fault-then-ne.ensures refl
    (no_header_read form c.args.bytes.now c.in-Some.first.now c.in-Some.lines.now
    c.in-Some.ensures.found (λ same. apart (same ∙ sym c.header.ensures)))
