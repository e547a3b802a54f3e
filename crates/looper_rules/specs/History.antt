-- Undo closes an open layer. If a layer is left, the current one moves to the redo layers. If then
-- no layer is left the mode is Off and pos 0, else pos becomes pos mod the length, and the mode
-- stays (closing has made it Playing). Redo moves the next redo layer back, if there is one. From
-- Off the mode becomes Playing with pos 0, else pos becomes pos mod the length and the mode stays.
-- Undo of all repeats undo until no layer is left, redo of all repeats redo until no redo layer is
-- left.
-- "History: undo and redo" in docs/rules.md.
use Rattle.std.specs.Prelude.{◌%◌, Bool, true, false, List, [], ◌∷◌}
use Rattle.sl_commands.specs.declared.Mode.{Mode}
use Rattle.sl_commands.specs.declared.Mode.TheVariants.{Off, Playing}
use Rattle.looper_rules.specs.Layers.{Layer}
use Rattle.looper_rules.specs.Stack.{Stack}
use Rattle.looper_rules.specs.Loop.{Loop, is_writing, length_of, at_place, in_mode_at, with_stack}
use Rattle.looper_rules.specs.Closing.{closed}

-- the stack with its current layer among the redo layers
abbrev pub undone_from : {A : Type 0} → List (Layer A) → Stack A → Stack A
undone_from [] s = s
undone_from (l ∷ ls) s = record s { layers = ls; redo = l ∷ s.redo }

abbrev pub undone : {A : Type 0} → Stack A → Stack A
undone s = undone_from s.layers s

-- the stack with its next redo layer among the layers
abbrev pub redone_from : {A : Type 0} → List (Layer A) → Stack A → Stack A
redone_from [] s = s
redone_from (l ∷ ls) s = record s { layers = l ∷ s.layers; redo = ls }

abbrev pub redone : {A : Type 0} → Stack A → Stack A
redone s = redone_from s.redo s

-- the loop with no layer open
abbrev pub closed_if : {A : Type 0} → Bool → Loop A → Loop A
closed_if true l = closed l
closed_if false l = l

abbrev pub settled : {A : Type 0} → Loop A → Loop A
settled l = closed_if (is_writing l.deck.mode) l

-- pos within the list
abbrev pub within_list : {A : Type 0} → Loop A → Loop A
within_list l = at_place (l.deck.pos % length_of l) l

-- the loop after layers were taken away, by those that are left
abbrev pub with_fewer : {A : Type 0} → List (Layer A) → Loop A → Loop A
with_fewer [] l = in_mode_at Off 0 l
with_fewer (_ ∷ _) l = within_list l

-- the loop after its current layer moved to redo
abbrev pub stepped_back : {A : Type 0} → Loop A → Loop A
stepped_back l = let s = undone l.stack in with_fewer s.layers (with_stack s l)

-- undo
abbrev pub undo : {A : Type 0} → Loop A → Loop A
undo l = stepped_back (settled l)

-- the loop after a layer came back, by the mode before
abbrev pub with_more : {A : Type 0} → Mode → Loop A → Loop A
with_more Off l = in_mode_at Playing 0 l
with_more _ l = within_list l

-- redo, by the redo layers
abbrev pub redo_from : {A : Type 0} → List (Layer A) → Loop A → Loop A
redo_from [] l = l
redo_from (_ ∷ _) l = with_more l.deck.mode (with_stack (redone l.stack) l)

-- redo
abbrev pub redo : {A : Type 0} → Loop A → Loop A
redo l = redo_from l.stack.redo l

-- as many undos as there are layers in the list
abbrev pub undo_each : {A : Type 0} → List (Layer A) → Loop A → Loop A
undo_each [] l = l
undo_each (_ ∷ ls) l = undo_each ls (undo l)

-- undo of all
abbrev pub undo_all : {A : Type 0} → Loop A → Loop A
undo_all l = undo_each l.stack.layers l

-- as many redos as there are layers in the list
abbrev pub redo_each : {A : Type 0} → List (Layer A) → Loop A → Loop A
redo_each [] l = l
redo_each (_ ∷ ls) l = redo_each ls (redo l)

-- redo of all
abbrev pub redo_all : {A : Type 0} → Loop A → Loop A
redo_all l = redo_each l.stack.redo l
