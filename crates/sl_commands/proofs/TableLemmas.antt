-- What a search for a name through a whole table finds.
use Rattle.std.proofs.Common.{◌≡◌, ◌≢◌, true, false, cond, List, [], ◌∷◌, ℕ, Some, None, IfSome, find, bytes_eq, Decides, refl, sym}
use Rattle.std.proofs.lemmas.Slice.Eq.{bytes_eq-Decides}

-- what is found has the name
pub find_has_name : {X : Type 0} (name : X → List ℕ) (bytes : List ℕ) (xs : List X) →
    IfSome (find (λ x. bytes_eq (name x) bytes) xs) (λ x. bytes ≡ name x)
find_has_name name bytes [] = tt
find_has_name {X} name bytes (x ∷ xs) =
    elim (bytes_eq (name x) bytes) as (λ b. Decides b (name x ≡ bytes) →
    IfSome (cond b (Some x) (find (λ y. bytes_eq (name y) bytes) xs)) (λ y. bytes ≡ name y)) [
      | true ↦ λ tells. sym (tells.0 refl)
      | false ↦ λ tells. find_has_name name bytes xs
    ] (bytes_eq-Decides (name x) bytes)

-- no element has the name
abbrev pub NoneHasName : {X : Type 0} → (X → List ℕ) → List ℕ → List X → Type 0
NoneHasName name bytes [] = Unit {0}
NoneHasName name bytes (x ∷ xs) = (bytes ≢ name x) × NoneHasName name bytes xs

-- where nothing is found, no element has the name
pub none_has_name : {X : Type 0} (name : X → List ℕ) (bytes : List ℕ) (xs : List X) →
    find (λ x. bytes_eq (name x) bytes) xs ≡ None → NoneHasName name bytes xs
none_has_name name bytes [] none = tt
none_has_name {X} name bytes (x ∷ xs) none =
    elim (bytes_eq (name x) bytes) as (λ b. Decides b (name x ≡ bytes) →
    cond b (Some x) (find (λ y. bytes_eq (name y) bytes) xs) ≡ None → (bytes ≢ name x)
    × NoneHasName name bytes xs) [
      | true ↦ λ tells found. Prim.cc
      | false ↦ λ tells found. (
        λ same. (let e : false ≡ true = tells.1 (sym same) in Prim.cc),
        none_has_name name bytes xs found,
      )
    ] (bytes_eq-Decides (name x) bytes) none
