-- What a looper keeps holds at the start, through all frames and through all entries behind them.
use Rattle.looper_rules.specs.Run.{begun, start}
use Rattle.looper_laws.proofs.Kept.Runs.{entered_keeps, begun_keeps, run_keeps}
use Rattle.looper_laws.proofs.Kept.Starts.{runs_begun, runs_entered}
use Rattle.looper_laws.proofs.reached.each_state_of_a_run_is_a_looper.Goals as goal

pub returns-clause-frames : goal.returns-clause-frames
returns-clause-frames c s chunks lists es xs h = runs_begun s chunks lists h es xs

pub returns-clause-entries : goal.returns-clause-entries
returns-clause-entries c s chunks lists es more xs h = runs_entered s chunks lists h es more xs

pub returns-clause-end : goal.returns-clause-end
returns-clause-end c s chunks lists es xs h =
    runs_entered s chunks lists h es (begun 0 es xs (start s chunks lists)).left xs

pub returns-clause-begun : goal.returns-clause-begun
returns-clause-begun c frame es xs l h = begun_keeps frame es xs l h

pub returns-clause-entered : goal.returns-clause-entered
returns-clause-entered c frame es l h = entered_keeps frame es l h

pub returns-clause-from : goal.returns-clause-from
returns-clause-from c frame es xs l h = run_keeps frame es xs l h
