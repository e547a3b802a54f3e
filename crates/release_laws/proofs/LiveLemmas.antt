-- A live session answers as many saves as its saver has entries.
use Rattle.std.proofs.Common.{◌≡◌, List, ◌∷◌, ◌++◌, length, ap, subst, arith, length-append}
use Rattle.sl_base.specs.Sounds.{Sound}
use Rattle.sl_commands.specs.declared.Entry.{Entry}
use Rattle.sl_commands.specs.Entries.{FramesNeverFall}
use Rattle.looper_rules.specs.Run.{Ran}
use Rattle.run_laws.proofs.Runs.Cuts.{stamped_never_fall}
use Rattle.engine_steps.specs.Engines.{EngineOf, Beginning, first_looper, waiting}
use Rattle.live_steps.specs.Passed.{Passed}
use Rattle.live_steps.specs.InStep.{AreInStep}
use Rattle.live_steps.proofs.RoomLemmas.{saver_count}
use Rattle.release_laws.specs.Releases.{StandsBehindItsSave, AsManyAnswered}
use Rattle.release_laws.proofs.CountLemmas.{each_behind}

pub as_many : (b : Beginning) (input output : List Sound) (e : EngineOf) (p : Passed) →
    AreInStep b input output e p → AsManyAnswered e.journal.entries input (first_looper b)
as_many b input output e p h =
    let saves = ap (λ (r : Ran). length r.saves) h.engine.ran in
    let both = length-append h.answered (waiting e) in
    let left = ap length h.engine.unanswered in
    let released = saver_count b input output e p h in
    let each = h.each in
    omega arith

pub live_behind : (b : Beginning) (input output : List Sound) (e : EngineOf) (p : Passed)
    (before : List Entry) (en : Entry) (after : List Entry) → AreInStep b input output e p →
    e.journal.entries ≡ before ++ en ∷ after → en.sender ≡ 2 →
    StandsBehindItsSave before en input (first_looper b)
live_behind b input output e p before en after h is of_saver =
    let never = subst (λ es. FramesNeverFall 0 es) is
    (stamped_never_fall e.journal.entries h.engine.stamped) in
    let many = subst (λ es. AsManyAnswered es input (first_looper b)) is
    (as_many b input output e p h) in
    each_behind b.settings b.chunks b.initial h.begins before en after input never many of_saver
