-- The saves that no release has answered are some of the saves of the run, in the order in which
-- they were made. They are of different loops, and a session's is alone: so a release answers one
-- save at most.
-- "Saves" in docs/rules.md.
use Rattle.std.specs.Prelude.{◌≡◌, ◌≢◌, ◌⊎◌, ⊤, List, [], ◌∷◌}
use Rattle.std.specs.List.{AllByRecursion}
use Rattle.sl_commands.specs.declared.Target.{Target}
use Rattle.sl_commands.specs.declared.Target.TheVariants.{One}
use Rattle.looper_rules.specs.Saves.{Save}

-- two saves that may both be unanswered have these targets
abbrev pub AreApart : Target → Target → Type 0
AreApart (One i) (One k) = i ≢ k
AreApart _ _ = ⊥

-- each two of these saves do
abbrev pub AreAllApart : List Save → Type 0
AreAllApart [] = ⊤
AreAllApart (s ∷ saves) = AllByRecursion (λ (other : Save). AreApart s.target other.target) saves
    × AreAllApart saves

-- the first are some of the second, in their order
abbrev pub AreSomeOf : List Save → List Save → Type 0
AreSomeOf [] all = ⊤
AreSomeOf (s ∷ some) [] = ⊥
AreSomeOf (s ∷ some) (x ∷ all) = ((s ≡ x) × AreSomeOf some all) ⊎ AreSomeOf (s ∷ some) all
