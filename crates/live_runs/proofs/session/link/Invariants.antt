-- The link goes on.
use Rattle.std.proofs.Common.{◌≡◌, false}
use Rattle.live_runs.proofs.session.link.Given as goal

abbrev pub invariant-loop-bytes : goal.invariant-loop-bytes
invariant-loop-bytes l = l.link.ended ≡ false

abbrev pub invariant-loop : goal.invariant-loop
invariant-loop l = l.link.ended ≡ false
