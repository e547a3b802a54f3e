use Rattle.std.proofs.Common.{◌≡◌, ◌∙◌, rules}
use Rattle.std.specs.Prelude.{Err}
use Rattle.journal_run.proofs.entries.turns.Goals as goal

pub loop-index-preserved : goal.loop-index-preserved
loop-index-preserved g c =
    let was = c.loop-index.invariant in
    let did = c.in_ok-turn.ensures in
    let going = was.coming in
    record {
      reads = did.reads ∙ was.reads;
      coming = record {
        beginning = going.beginning;
        playable = going.playable;
        start = going.start;
        come = did.come going.beginning going.start going.playable going.come;
      };
      come = λ b start playable come. did.come b start playable (was.come b start playable come);
    }

pub returns-in_err-turn-clause-come : goal.returns-in_err-turn-clause-come
returns-in_err-turn-clause-come g c =
    let passed : c.from_residual.result ≡ Err c.in_err-turn.field-0.0 = search rules in
    λ b start playable come.
    rw passed (c.in_err-turn.ensures.come b start playable
    (c.loop-index.invariant.come b start playable come))
