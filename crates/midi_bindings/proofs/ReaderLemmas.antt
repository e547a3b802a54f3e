-- What the reader of bindings answers.
use Rattle.std.proofs.Common.{◌≡◌, ℕ, ◌≤◌, List}
use Rattle.sl_base.specs.Limits.{max_loops}
use Rattle.sl_commands.specs.declared.fault.ReadText.{ReadText}
use Rattle.text_lines.specs.FirstFaults.{IsReason}
use Rattle.text_lines.specs.Taking.{DeniesAll}
use Rattle.text_lines.proofs.FormLemmas.{reason_denies, one_reading as one_text}
use Rattle.midi_bindings.specs.declared.binding.Binding.{Binding}
use Rattle.midi_bindings.specs.Texts.{bindings_form, IsBindings}
use Rattle.midi_bindings.proofs.WrongLemmas.{bindings_are_settled}
use Rattle.midi_bindings.proofs.TextLemmas.{bindings_are_text}

-- where bytes have a fault they are the text of no bindings
pub no_bindings : (loops : ℕ) (bytes : List ℕ) (why : ReadText) → loops ≤ max_loops →
    IsReason (bindings_form loops) bytes why →
    DeniesAll (λ bindings. IsBindings loops bytes bindings) why
no_bindings loops bytes why few =
    reason_denies (bindings_form loops) (IsBindings loops bytes) bytes why
    (bindings_are_settled loops few) (bindings_are_text loops bytes)

-- a text is that of its bindings alone
pub one_reading : (loops : ℕ) (bytes : List ℕ) (bindings others : List Binding) →
    loops ≤ max_loops → IsBindings loops bytes bindings → IsBindings loops bytes others →
    others ≡ bindings
one_reading loops bytes bindings others few is =
    one_text (bindings_form loops) (IsBindings loops bytes) bytes bindings others
    (bindings_are_settled loops few) (bindings_are_text loops bytes)
    (bindings_are_text loops bytes bindings is)
