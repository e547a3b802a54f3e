use Rattle.std.proofs.Common.{sym, subst, []}
use Rattle.std.specs.Prelude.{option_to_list}
use Rattle.settling.specs.Steps.{GoesBy, more_outcomes}
use Rattle.settling.proofs.TakeLemmas.{by_none}
use Rattle.settling.proofs.whole.release_held.Goals as goal

pub returns-in-None : goal.returns-in-None
returns-in-None g c =
    let e = c.args.engine.now in
    record {
      goes = (
        [],
        c.telling_composes.ensures.none c.args.teller.now,
        subst (λ o. GoesBy (more_outcomes (option_to_list o)) [] e e) (sym c.in-None.is)
            (by_none e),
      );
    }
