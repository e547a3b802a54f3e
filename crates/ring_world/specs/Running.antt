-- Steps run one after another, each from what the last one left.
-- "The world on one thread" in docs/rules.md.
use Rattle.std.specs.Prelude.{⊤, ℕ, List, [], ◌∷◌, ◌++◌}
use Rattle.sl_base.specs.Sounds.{Sound}
use Rattle.ring_world.specs.declared.lists.Lists.{Lists}
use Rattle.ring_world.specs.declared.step.Step.{Step}
use Rattle.ring_world.specs.declared.step.Outcome.{Outcome}
use Rattle.ring_world.specs.Stepping.{did, heard, MayDo}

-- what steps leave
abbrev pub ran : List Step → ℕ → Lists → Lists
ran [] number w = w
ran (s ∷ steps) number w = ran steps number (did s number w).lists

-- their outcomes, in order
abbrev pub outcomes_of : List Step → ℕ → Lists → List Outcome
outcomes_of [] number w = []
outcomes_of (s ∷ steps) number w =
    (did s number w).outcome ∷ outcomes_of steps number (did s number w).lists

-- what they play
abbrev pub all_heard : List Step → ℕ → Lists → List Sound
all_heard [] number w = []
all_heard (s ∷ steps) number w =
    heard s number w ++ all_heard steps number (did s number w).lists

-- each may be done where it comes
abbrev pub MayDoAll : List Step → ℕ → Lists → Type 0
MayDoAll [] number w = ⊤
MayDoAll (s ∷ steps) number w = MayDo s w × MayDoAll steps number (did s number w).lists
