use Rattle.std.proofs.Common.{rules, ◌≡◌, ◌<◌, length, map}
use Rattle.looper_rules.specs.Room.{used}
use Rattle.looper_rules.specs.Run.{start}
use Rattle.looper_engine.proofs.StartLemmas.{beginning, start_kept, start_free}
use Rattle.looper_engine.proofs.engine.Engine.new.Goals as goal

pub over-requires-clause-kept : goal.over-requires-clause-kept
over-requires-clause-kept c =
    let looper : c.in_ok-looper.looper ≡ start c.args.setup.now.settings c.args.setup.now.chunks
    c.args.initial.now = search rules
    in let fits : c.args.setup.now.chunks < used (map length c.args.initial.now) → ⊥ = search rules
    in start_kept c.args.setup.now.settings c.args.setup.now.chunks c.args.initial.now
    c.in_ok-looper.looper looper
    (beginning c.args.setup.now.settings c.args.setup.now.chunks c.args.initial.now
    c.facts.ensures c.requires.lists fits)

pub over-requires-clause-free : goal.over-requires-clause-free
over-requires-clause-free c =
    let looper : c.in_ok-looper.looper ≡ start c.args.setup.now.settings c.args.setup.now.chunks
    c.args.initial.now = search rules
    in start_free c.args.setup.now.settings c.args.setup.now.chunks c.args.initial.now
    c.in_ok-looper.looper looper
