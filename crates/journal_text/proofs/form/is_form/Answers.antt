use Rattle.std.proofs.Common.{sym, map, arith}
use Rattle.std.proofs.lemmas.List.{length-map}
use Rattle.journal_text.proofs.FormLemmas.{short_has_no_form}
use Rattle.journal_text.proofs.form.is_form.Goals as goal

pub returns-in_default : goal.returns-in_default
returns-in_default c =
    sym (short_has_no_form (map (λ w. w.now) c.args.words.now)
    (omega (arith, length-map c.args.words.now (λ w. w.now), c.in_default.len_below)))
