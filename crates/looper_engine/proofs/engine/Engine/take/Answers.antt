use Rattle.std.proofs.Common.{rules, ◌≡◌, subst, sym}
use Rattle.engine_steps.specs.Engines.{entry_of}
use Rattle.looper_rules.specs.Entries.{reply}
use Rattle.looper_engine.specs.EngineParts.{IsEngine}
use Rattle.looper_engine.proofs.TakenLemmas.{Taken, taken_place, taken_is, taken_keeps, taken_steps}
use Rattle.looper_engine.proofs.engine.Engine.take.Goals as goal

pub join-requires : goal.join-requires
join-requires c =
    taken_place c.self.inside.looper c.self.inside.journal c.self.inside.frames_done
    c.self.inside.queue c.settle.new.self c.args.self.now c.args.sender c.count-seq.result
    c.args.command c.made_save.result
    c.released_by-released.result c.self.view_is c.self.invariant c.requires.clears
    c.count-seq.ensures.value (search rules) c.released_by-released.ensures c.settle.ensures

pub invariant_of-self : goal.invariant_of-self
invariant_of-self c =
    let fields : Taken c.self.inside.looper c.apply-applied.new.self c.self.inside.journal
    c.stamp.new.journal c.self.inside.frames_done c.self.inside.queue c.settle.new.self
    c.join.new.self c.args.sender c.count-seq.result c.args.command c.made_save.result
    c.released_by-released.result = search rules
    in let is = taken_is _ _ _ _ _ _ _ _ c.args.self.now _ _ _ _ _ c.self.view_is c.self.invariant
    c.requires.clears fields
    in subst IsEngine (sym is)
    (taken_keeps c.args.sender c.args.command c.args.self.now c.requires.clears
    (subst IsEngine c.self.view_is c.self.invariant))

pub returns-clause-took : goal.returns-clause-took
returns-clause-took c =
    let fields : Taken c.self.inside.looper c.apply-applied.new.self c.self.inside.journal
    c.stamp.new.journal c.self.inside.frames_done c.self.inside.queue c.settle.new.self
    c.join.new.self c.args.sender c.count-seq.result c.args.command c.made_save.result
    c.released_by-released.result = search rules
    in taken_is _ _ _ _ _ _ _ _ c.args.self.now _ _ _ _ _ c.self.view_is c.self.invariant
    c.requires.clears fields

pub returns-clause-in_step : goal.returns-clause-in_step
returns-clause-in_step c =
    let fields : Taken c.self.inside.looper c.apply-applied.new.self c.self.inside.journal
    c.stamp.new.journal c.self.inside.frames_done c.self.inside.queue c.settle.new.self
    c.join.new.self c.args.sender c.count-seq.result c.args.command c.made_save.result
    c.released_by-released.result = search rules
    in let answers : c.apply-applied.result.answer ≡ reply
    (entry_of c.args.sender c.args.command c.args.self.now) c.args.self.now.looper =
    search rules
    in taken_steps c.args.sender c.args.command c.args.self.now _ c.apply-applied.result.answer
    c.requires.clears
    (taken_is _ _ _ _ _ _ _ _ c.args.self.now _ _ _ _ _ c.self.view_is c.self.invariant
    c.requires.clears fields) answers
