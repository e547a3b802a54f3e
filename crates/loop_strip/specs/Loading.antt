-- How a loop begins. A new one is Off, of an empty stack, and nothing of it was refused. With a
-- list it is Paused at the first place, and the list is its only layer.
-- "The run" in docs/rules.md.
use Rattle.std.specs.Prelude.{◌≡◌, ℕ, List}
use Rattle.sl_commands.specs.declared.Mode.TheVariants.{Off, Paused}
use Rattle.looper_rules.specs.Stack.{empty_stack}
use Rattle.looper_rules.specs.Loop.{Loop, new_deck}
use Rattle.looper_rules.specs.Run.{loaded_stack}

-- a loop as it is new
pub record IsNew {A : Type 0} (l : Loop A) : Type 0 where
  pub deck : l.deck ≡ new_deck Off
  pub refused : l.refused ≡ 0
  pub stack : l.stack ≡ empty_stack

-- a new loop that begins with this list and cycle
abbrev pub loads : {A : Type 0} → List A → ℕ → ℕ → Loop A → Loop A
loads list cycle reach l = record l { deck = new_deck Paused; stack = loaded_stack list cycle }
