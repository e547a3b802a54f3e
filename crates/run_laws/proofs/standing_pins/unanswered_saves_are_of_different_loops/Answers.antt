use Rattle.std.proofs.Common.{[], length}
use Rattle.looper_rules.specs.Run.{begun, start}
use Rattle.looper_rules.specs.Unanswered.{unanswered_begun}
use Rattle.run_laws.proofs.Saves.Owners.{begun-holds, first-holds}
use Rattle.run_laws.proofs.Saves.Apart.{some_run, after_apart, entered_apart, begun_apart}
use Rattle.looper_laws.proofs.Kept.Starts.{begins, runs_begun}
use Rattle.run_laws.proofs.standing_pins.unanswered_saves_are_of_different_loops.Goals as goal

pub returns-clause-entry : goal.returns-clause-entry
returns-clause-entry c frame e l saves kept h apart = after_apart frame e l saves kept h apart

pub returns-clause-begun : goal.returns-clause-begun
returns-clause-begun c frame es xs l saves kept h apart =
    begun_apart frame es xs l saves kept h apart

pub returns-clause-run : goal.returns-clause-run
returns-clause-run c s chunks lists es input h =
    let l = start s chunks lists in
    let first = begun 0 es input l in
    let left = unanswered_begun 0 es input l [] in
    entered_apart (length input) first.left first.looper left (runs_begun s chunks lists h es input)
    (begun-holds 0 es input l [] (begins s chunks lists h) (first-holds s.strips lists))
    (begun_apart 0 es input l [] (begins s chunks lists h) (first-holds s.strips lists) tt)

pub returns-clause-some : goal.returns-clause-some
returns-clause-some c es input l = some_run es input l
