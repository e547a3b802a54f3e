use Rattle.std.proofs.Common.{◌≡◌, ◌+◌, sym, ◌∙◌, arith}
use Rattle.std.specs.Fmt.{decimal}
use Rattle.std.proofs.lemmas.Fmt.{decimal_injective}
use Rattle.midi_bindings.proofs.word.channel_of.Goals as goal

pub returns-else-number-ge1-clause-only : goal.returns-else-number-ge1-clause-only
returns-else-number-ge1-clause-only c channel low same =
    let words : decimal c.in_ok-number.number ≡ decimal (channel + 1) =
    sym c.in_ok-number.ensures.found.0 ∙ same in
    let one : c.in_ok-number.number ≡ channel + 1 = decimal_injective c.in_ok-number.number
    (channel + 1) (omega (arith, c.in_ok-number.ensures.found.1)) (omega arith) words in
    omega (arith, c.if-number-ge1.false)
