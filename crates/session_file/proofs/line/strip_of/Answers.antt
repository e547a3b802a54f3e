use Rattle.std.proofs.Common.{sym, map, ◌∙◌}
use Rattle.session_file.proofs.StripLemmas.{no_strip}
use Rattle.session_file.proofs.line.strip_of.Goals as goal

pub returns-else-is_cycle_of-clause-only : goal.returns-else-is_cycle_of-clause-only
returns-else-is_cycle_of-clause-only c =
    no_strip (map (λ w. w.now) c.args.words.now) c.in_ok-strip.strip c.in_ok-strip.ensures.found.0
    c.in_ok-strip.ensures.found.1 (sym c.is_cycle_of.ensures ∙ c.if-is_cycle_of.false)
