-- Moves one after another, each in a state for it.
use Rattle.std.specs.Prelude.{ℕ, ⊤, List, [], ◌∷◌}
use Rattle.looper_rules.specs.Loop.{Loop}
use Rattle.loop_states.specs.declared.act.Move.{Move}
use Rattle.loop_states.specs.Moves.{carry}
use Rattle.loop_strip.specs.Moving.{IsAllowed}

-- the loop is in a state for each move where those before it have led
abbrev pub AreAllowed : {A : Type 0} → ℕ → List Move → Loop A → Type 0
AreAllowed reach [] l = ⊤
AreAllowed reach (m ∷ ms) l = IsAllowed m l × AreAllowed reach ms (carry reach m l)
