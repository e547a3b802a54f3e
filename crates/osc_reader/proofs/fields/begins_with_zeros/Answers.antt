-- The first of four zeros are so many zeros.
use Rattle.std.proofs.Common.{◌≡◌, ◌≤◌, ℕ, zero, suc, List, [], ◌∷◌, length, take, replicate, arith, refl, ◌∙◌, nat_eq}
use Rattle.std.proofs.lemmas.List.{length-replicate}
use Rattle.std.specs.Cmp.Lexicographic.{pointwise}
use Rattle.osc_reader.specs.Reading.{begins_with_zeros}
use Rattle.osc_reader.proofs.fields.begins_with_zeros.Goals as goal

front_of_zeros : (count : ℕ) → count ≤ 4 →
    take {A = ℕ} count (0 ∷ 0 ∷ 0 ∷ 0 ∷ []) ≡ replicate count 0
front_of_zeros zero within = refl
front_of_zeros (suc zero) within = refl
front_of_zeros (suc (suc zero)) within = refl
front_of_zeros (suc (suc (suc zero))) within = refl
front_of_zeros (suc (suc (suc (suc zero)))) within = refl
front_of_zeros (suc (suc (suc (suc (suc n))))) within = absurd (omega arith)

zeros_compared : (count : ℕ) (bytes zeros : List ℕ) → zeros ≡ replicate count 0 →
    pointwise nat_eq zeros (take (length zeros) bytes) ≡ begins_with_zeros count bytes
zeros_compared count bytes zeros same = rw (same, length-replicate {A = ℕ} count 0) refl

pub returns : goal.returns
returns c = c.starts_with.ensures.value ∙ zeros_compared c.args.count c.args.bytes.now
    (take c.args.count (0 ∷ 0 ∷ 0 ∷ 0 ∷ [])) (front_of_zeros c.args.count c.requires)
