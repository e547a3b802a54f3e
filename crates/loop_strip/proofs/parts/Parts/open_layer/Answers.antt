use Rattle.std.proofs.Common.{ℕ, false, refl, ap}
use Rattle.looper_rules.specs.Stack.{Stack}
use Rattle.looper_rules.specs.Starting.{layers_on}
use Rattle.sl_commands.specs.declared.Started.TheVariants.{Layers, Seams, Room}
use Rattle.loop_strip.specs.Parts.{loop_of}
use Rattle.loop_strip.proofs.OpeningLemmas.{refused_layer, opened_as, did_layer_opened, whole_layered, layers_of, opens_writing}
use Rattle.loop_strip.proofs.parts.Parts.open_layer.Goals as goal

pub returns-in-Ok-clause-ok : goal.returns-in-Ok-clause-ok
returns-in-Ok-clause-ok c =
    opened_as (λ a l. layers_on a c.args.mode l) false c.args.self.now c.args.pool.now _
    c.requires.owns c.in-Ok.ensures.answer
    (ap (λ (u : Stack ℕ).
    record (loop_of (record (layers_of c.args.self.now c.start_layer.new.self)
    { deck = record c.args.self.now.deck { mode = c.args.mode } })) { stack = u })
    c.in-Ok.ensures.after.stack)

pub returns-in-Ok-clause-did : goal.returns-in-Ok-clause-did
returns-in-Ok-clause-did c =
    did_layer_opened c.args.mode c.args.self.now
    (record (layers_of c.args.self.now c.start_layer.new.self)
    { deck = record c.args.self.now.deck { mode = c.args.mode } }) c.args.pool.now
    c.start_layer.new.pool c.requires.owns c.in-Ok.ensures.answer c.in-Ok.ensures.after
    c.facts.ensures
    (ap (λ (u : Stack ℕ).
    record (loop_of (record (layers_of c.args.self.now c.start_layer.new.self)
    { deck = record c.args.self.now.deck { mode = c.args.mode } })) { stack = u })
    c.in-Ok.ensures.after.stack)

pub returns-in-Ok-clause-whole : goal.returns-in-Ok-clause-whole
returns-in-Ok-clause-whole c =
    whole_layered c.args.mode c.args.self.now
    (record (layers_of c.args.self.now c.start_layer.new.self)
    { deck = record c.args.self.now.deck { mode = c.args.mode } }) c.args.pool.now c.requires.owns
    c.requires.whole c.requires.rests c.requires.way (returns-in-Ok-clause-ok c)
    (opens_writing c.args.mode c.args.self.now.deck.backward _ c.requires.way
    c.in-Ok.ensures.after.writing) refl

pub returns-in-Layers-clause-ok : goal.returns-in-Layers-clause-ok
returns-in-Layers-clause-ok c =
    (refused_layer c.args.mode c.args.self.now c.refuse.new.self c.start_layer.new.self
    c.args.pool.now c.start_layer.new.pool Layers c.requires.owns c.in-Layers.ensures.answer
    c.in-Layers.ensures.after c.refuse.ensures.layers c.refuse.ensures.ok refl).ok

pub returns-in-Layers-clause-did : goal.returns-in-Layers-clause-did
returns-in-Layers-clause-did c =
    (refused_layer c.args.mode c.args.self.now c.refuse.new.self c.start_layer.new.self
    c.args.pool.now c.start_layer.new.pool Layers c.requires.owns c.in-Layers.ensures.answer
    c.in-Layers.ensures.after c.refuse.ensures.layers c.refuse.ensures.ok refl).did

pub returns-in-Seams-clause-ok : goal.returns-in-Seams-clause-ok
returns-in-Seams-clause-ok c =
    (refused_layer c.args.mode c.args.self.now c.refuse-in-Seams.new.self c.start_layer.new.self
    c.args.pool.now c.start_layer.new.pool Seams c.requires.owns c.in-Seams.ensures.answer
    c.in-Seams.ensures.after c.refuse-in-Seams.ensures.layers c.refuse-in-Seams.ensures.ok refl).ok

pub returns-in-Seams-clause-did : goal.returns-in-Seams-clause-did
returns-in-Seams-clause-did c =
    (refused_layer c.args.mode c.args.self.now c.refuse-in-Seams.new.self c.start_layer.new.self
    c.args.pool.now c.start_layer.new.pool Seams c.requires.owns c.in-Seams.ensures.answer
    c.in-Seams.ensures.after c.refuse-in-Seams.ensures.layers c.refuse-in-Seams.ensures.ok refl).did

pub returns-in-Room-clause-ok : goal.returns-in-Room-clause-ok
returns-in-Room-clause-ok c =
    (refused_layer c.args.mode c.args.self.now c.refuse-in-Room.new.self c.start_layer.new.self
    c.args.pool.now c.start_layer.new.pool Room c.requires.owns c.in-Room.ensures.answer
    c.in-Room.ensures.after c.refuse-in-Room.ensures.layers c.refuse-in-Room.ensures.ok refl).ok

pub returns-in-Room-clause-did : goal.returns-in-Room-clause-did
returns-in-Room-clause-did c =
    (refused_layer c.args.mode c.args.self.now c.refuse-in-Room.new.self c.start_layer.new.self
    c.args.pool.now c.start_layer.new.pool Room c.requires.owns c.in-Room.ensures.answer
    c.in-Room.ensures.after c.refuse-in-Room.ensures.layers c.refuse-in-Room.ensures.ok refl).did
