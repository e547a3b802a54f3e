-- Lists of addresses on a tape: all below one, none the same as one, and each from a floor on only
-- once.
-- "The layer that is written" in docs/rules.md.
use Rattle.std.specs.Prelude.{◌≢◌, ◌≤◌, ◌<◌, ℕ, ⊤, List, [], ◌∷◌}
use Rattle.std.specs.List.{AllByRecursion}

-- all addresses are below one
abbrev pub Below : ℕ → List ℕ → Type 0
Below n xs = AllByRecursion (λ a. a < n) xs

-- all addresses are others than this
abbrev pub Without : ℕ → List ℕ → Type 0
Without x xs = AllByRecursion (λ a. a ≢ x) xs

-- each address from the floor on stands once
abbrev pub Once : ℕ → List ℕ → Type 0
Once floor [] = ⊤
Once floor (x ∷ xs) = (floor ≤ x → Without x xs) × Once floor xs
