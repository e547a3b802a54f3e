use Rattle.std.proofs.Common.{subst, sym, List, ap, ◌∙◌}
use Rattle.std.specs.Prelude.{option_to_list}
use Rattle.sl_commands.specs.declared.Command.{Command}
use Rattle.looper_rules.specs.Entries.{save}
use Rattle.loop_saver.specs.SavedFiles.{SavedFile, files_for_all}
use Rattle.engine_steps.specs.Engines.{EngineOf, entry_of, left, took}
use Rattle.save_feeding.specs.Feeding.{IsSomehowInStep, WritesAll}
use Rattle.journal_run.specs.Runs.{RunOf}
use Rattle.journal_run.proofs.TakeLemmas.{may_take, taken_may_end, taken_due}
use Rattle.journal_run.proofs.entries.take_entry.Goals as goal

pub take-answer-requires-clause-clears : goal.take-answer-requires-clause-clears
take-answer-requires-clause-clears g c =
    let is = ap (λ (r : RunOf). r.engine) c.run.view_is in
    may_take _ c.run.inside.engine (subst IsSomehowInStep (sym is) c.requires.step)
    (ap left is ∙ c.requires.none)

pub feed-requires-clause-may : goal.feed-requires-clause-may
feed-requires-clause-may g c =
    let e : EngineOf = c.run.inside.engine in
    let is = ap (λ (r : RunOf). r.engine) c.run.view_is in
    taken_may_end (entry_of c.args.entry.now.sender c.args.entry.now.command e) e
    c.take-answer.new.self e.frames
    (c.take-answer.ensures.took
    ∙ ap (λ (d : Command). took (entry_of c.args.entry.now.sender d e) e) c.duplicate.ensures)
    c.facts.ensures.kept (subst IsSomehowInStep (sym is) c.requires.step)
    (ap left is ∙ c.requires.none)

pub returns-clause-files : goal.returns-clause-files
returns-clause-files g c =
    let e : EngineOf = c.run.inside.engine in
    let is = ap (λ (r : RunOf). r.engine) c.run.view_is in
    let due = taken_due (entry_of c.args.entry.now.sender c.args.entry.now.command e) e
    c.take-answer.new.self c.run.inside.saver.rate
    (c.take-answer.ensures.took
    ∙ ap (λ (d : Command). took (entry_of c.args.entry.now.sender d e) e) c.duplicate.ensures)
    (subst IsSomehowInStep (sym is) c.requires.step) (ap left is ∙ c.requires.none) in
    let same = ap (λ (r : RunOf). files_for_all r.saver.rate (option_to_list
    (save (entry_of c.args.entry.now.sender c.args.entry.now.command r.engine) r.engine.looper)))
    c.run.view_is in
    subst (λ (fs : List SavedFile). WritesAll g.P.Keeper fs c.args.keeper.now c.feed.new.keeper
    c.feed.result) (due ∙ same) c.feed.ensures.files
