use Rattle.looper_laws.proofs.Kept.Runs.{entry_keeps}
use Rattle.looper_laws.proofs.reached.an_entry_keeps_the_looper.Goals as goal

pub returns : goal.returns
returns c frame e l h = entry_keeps frame e l h
