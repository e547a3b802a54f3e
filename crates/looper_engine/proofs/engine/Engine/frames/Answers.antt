use Rattle.std.proofs.Common.{sym, ap, ◌∙◌, subst}
use Rattle.engine_steps.specs.Engines.{went_on, put_out}
use Rattle.looper_engine.specs.EngineParts.{IsEngine}
use Rattle.looper_engine.proofs.PlayedLemmas.{went_on_is, went_on_keeps, went_on_steps}
use Rattle.looper_engine.proofs.engine.Engine.frames.Goals as goal

pub invariant_of-self : goal.invariant_of-self
invariant_of-self c =
    let e = c.args.self.now
    in let is = went_on_is c.args.input.now _ _ _ _ _ c.self.invariant c.frames.ensures.looper
    ∙ ap (went_on c.args.input.now) c.self.view_is
    in subst IsEngine (sym is)
    (went_on_keeps c.args.input.now e c.requires.limit
    (subst IsEngine c.self.view_is c.self.invariant))

pub returns-clause-engine : goal.returns-clause-engine
returns-clause-engine c = went_on_is c.args.input.now _ _ _ _ _ c.self.invariant
    c.frames.ensures.looper ∙ ap (went_on c.args.input.now) c.self.view_is

pub returns-clause-in_step : goal.returns-clause-in_step
returns-clause-in_step c =
    went_on_steps c.args.input.now _ c.args.self.now _
    (went_on_is c.args.input.now _ _ _ _ _ c.self.invariant c.frames.ensures.looper
    ∙ ap (went_on c.args.input.now) c.self.view_is)
    (c.frames.ensures.output ∙ ap (put_out c.args.input.now) c.self.view_is)
