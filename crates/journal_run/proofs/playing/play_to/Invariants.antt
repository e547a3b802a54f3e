-- The frames so far were played and heard.
use Rattle.std.proofs.Common.{◌≤◌, ◌-◌}
use Rattle.journal_run.specs.Runs.{PlaysTo}
use Rattle.journal_run.proofs.playing.play_to.Given as goal

abbrev pub invariant-spans : goal.invariant-spans
invariant-spans l = record {
  before : l.fn.run.engine.frames ≤ l.run.engine.frames;
  within : l.run.engine.frames ≤ l.until;
  played : PlaysTo l.input l.run.engine.frames l.fn.run l.run;
}

abbrev pub decreases-spans : goal.decreases-spans
decreases-spans l = l.until - l.run.engine.frames
