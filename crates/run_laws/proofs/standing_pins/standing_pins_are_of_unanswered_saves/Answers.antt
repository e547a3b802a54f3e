use Rattle.run_laws.proofs.Saves.Owners.{applied-holds, entered-holds, begun-holds, first-holds, run-holds}
use Rattle.run_laws.proofs.standing_pins.standing_pins_are_of_unanswered_saves.Goals as goal

pub returns-clause-entry : goal.returns-clause-entry
returns-clause-entry c frame e l saves kept h = applied-holds frame e l saves kept h

pub returns-clause-entered : goal.returns-clause-entered
returns-clause-entered c frame es l saves kept h = entered-holds frame es l saves kept h

pub returns-clause-begun : goal.returns-clause-begun
returns-clause-begun c frame es xs l saves kept h = begun-holds frame es xs l saves kept h

pub returns-clause-start : goal.returns-clause-start
returns-clause-start c s chunks lists = first-holds s.strips lists

pub returns-clause-run : goal.returns-clause-run
returns-clause-run c = run-holds
