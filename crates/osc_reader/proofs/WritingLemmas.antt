-- What is too long for one argument is too long for all.
use Rattle.std.proofs.Common.{◌≡◌, ℕ, suc, ◌+◌, ◌<◌, List, ◌∷◌, ◌++◌, length, map, drop, get_or, ap, sym, arith, ◌∙◌, refl}
use Rattle.std.proofs.Math.Seq.{drop-cons}
use Rattle.std.proofs.lemmas.List.{length-append}
use Rattle.std.specs.List.{flat_map}
use Rattle.osc_reader.specs.Putting.{max_message}

module _ {A : Type 0} where
  pub too_many_bytes : (bytes_of : A → List ℕ) (args : List A) (place : ℕ) (arg : A)
      (out old : List ℕ) → place < length args → arg ≡ get_or args place arg
      → out ++ flat_map bytes_of (drop place args) ≡ old ++ flat_map bytes_of args
      → max_message < length out + length (bytes_of arg) →
      max_message < length old + length (flat_map bytes_of args)
  too_many_bytes bytes_of args place arg out old there is so_far many =
      let left : drop place args ≡ arg ∷ drop (suc place) args =
      rw (drop-cons args place arg there, ← is) refl in
      let sum = ap length
      (sym (ap (λ (rest : List A). out ++ flat_map bytes_of rest) left) ∙ so_far) in
      omega (
        arith,
        many,
        sum,
        length-append out (bytes_of arg ++ flat_map bytes_of (drop (suc place) args)),
        length-append (bytes_of arg) (flat_map bytes_of (drop (suc place) args)),
        length-append old (flat_map bytes_of args),
      )

  pub too_many_letters : (letter_of : A → ℕ) (args : List A) (place : ℕ) (arg : A)
      (out old : List ℕ) → place < length args → arg ≡ get_or args place arg
      → out ++ map letter_of (drop place args) ≡ old ++ map letter_of args
      → max_message < length out + 1 → max_message < length old + length (map letter_of args)
  too_many_letters letter_of args place arg out old there is so_far many =
      let left : drop place args ≡ arg ∷ drop (suc place) args =
      rw (drop-cons args place arg there, ← is) refl in
      let sum = ap length (sym (ap (λ (rest : List A). out ++ map letter_of rest) left) ∙ so_far) in
      omega (
        arith,
        many,
        sum,
        length-append out (letter_of arg ∷ map letter_of (drop (suc place) args)),
        length-append old (map letter_of args),
      )
