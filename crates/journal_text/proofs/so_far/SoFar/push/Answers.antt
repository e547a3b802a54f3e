use Rattle.std.proofs.Common.{refl, sym, ◌<◌, length, subst, rules}
use Rattle.journal_text.specs.Journals.{max_lines}
use Rattle.journal_text.proofs.SoFarLemmas.{so_far_push}
use Rattle.journal_text.proofs.so_far.SoFar.push.Goals as goal

pub invariant_of-self-2 : goal.invariant_of-self-2
invariant_of-self-2 c =
    so_far_push c.self.inside c.args.entry c.push.new.self _ c.self.invariant
    c.in_ok-push.ensures.ok c.requires.sender (search rules)
    (subst (λ es. length es < max_lines) (sym c.self.view_is) c.requires.room) refl refl refl
