use Rattle.std.proofs.Common.{ℕ, false, refl, ap}
use Rattle.looper_rules.specs.Stack.{Stack}
use Rattle.sl_commands.specs.declared.Mode.TheVariants.{Recording}
use Rattle.sl_commands.specs.declared.Started.TheVariants.{Layers, Seams, Room}
use Rattle.loop_strip.specs.Parts.{loop_of}
use Rattle.loop_strip.proofs.OpeningLemmas.{layers_of, did_record_opened}
use Rattle.loop_strip.proofs.FrameLemmas.{did_woken, did_missed}
use Rattle.loop_strip.proofs.parts.Parts.wake_up.Goals as goal

pub returns-in-Ok-clause-did : goal.returns-in-Ok-clause-did
returns-in-Ok-clause-did c =
    did_woken c.args.self.now
    (record (layers_of c.args.self.now c.start_layer.new.self)
    { deck = record c.args.self.now.deck { mode = Recording; pos = 0; backward = false } })
    c.args.pool.now c.start_layer.new.pool c.in-Ok.ensures.answer c.requires.owns
    (did_record_opened c.args.self.now
    (record (layers_of c.args.self.now c.start_layer.new.self)
    { deck = record c.args.self.now.deck { mode = Recording; pos = 0; backward = false } })
    c.args.pool.now c.start_layer.new.pool c.requires.owns c.in-Ok.ensures.answer
    c.in-Ok.ensures.after c.facts.ensures
    (ap (λ (u : Stack ℕ).
    record (loop_of (record (layers_of c.args.self.now c.start_layer.new.self)
    { deck = record c.args.self.now.deck { mode = Recording; pos = 0; backward = false } }))
    { stack = u }) c.in-Ok.ensures.after.stack))

pub returns-in-Layers-clause-did : goal.returns-in-Layers-clause-did
returns-in-Layers-clause-did c =
    did_missed c.args.self.now c.miss.new.self c.start_layer.new.self c.args.pool.now
    c.start_layer.new.pool Layers c.requires.owns c.in-Layers.ensures.answer
    c.in-Layers.ensures.after c.miss.ensures.layers c.miss.ensures.ok refl

pub returns-in-Seams-clause-did : goal.returns-in-Seams-clause-did
returns-in-Seams-clause-did c =
    did_missed c.args.self.now c.miss-in-Seams.new.self c.start_layer.new.self c.args.pool.now
    c.start_layer.new.pool Seams c.requires.owns c.in-Seams.ensures.answer c.in-Seams.ensures.after
    c.miss-in-Seams.ensures.layers c.miss-in-Seams.ensures.ok refl

pub returns-in-Room-clause-did : goal.returns-in-Room-clause-did
returns-in-Room-clause-did c =
    did_missed c.args.self.now c.miss-in-Room.new.self c.start_layer.new.self c.args.pool.now
    c.start_layer.new.pool Room c.requires.owns c.in-Room.ensures.answer c.in-Room.ensures.after
    c.miss-in-Room.ensures.layers c.miss-in-Room.ensures.ok refl
