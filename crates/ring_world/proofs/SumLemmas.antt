-- The left side of one more frame is added.
use Rattle.std.proofs.Common.{◌≡◌, ℕ, zero, suc, ◌+◌, ◌<◌, List, [], ◌∷◌, length, drop, refl, sym, ap, ◌∙◌, arith}
use Rattle.std.specs.Prelude.{ℤ, ◌+ℤ◌, slice_index_or}
use Rattle.std.proofs.Math.IntN.{+ℤ_assoc}
use Rattle.sl_base.specs.Sounds.{Sound}
use Rattle.ring_world.specs.Summaries.{left_sum}

left_next : (k : ℕ) (xs : List Sound) (d : Sound) → k < length xs →
    left_sum (drop k xs) ≡ (slice_index_or xs k d).left +ℤ left_sum (drop (suc k) xs)
left_next k [] d less = absurd (omega arith)
left_next zero (x ∷ xs) d less = refl
left_next (suc k) (x ∷ xs) d less = left_next k xs d (omega arith)

pub left_more : (k : ℕ) (xs : List Sound) (d : Sound) (sum all : ℤ) → k < length xs →
    sum +ℤ left_sum (drop k xs) ≡ all →
    (sum +ℤ (slice_index_or xs k d).left) +ℤ left_sum (drop (k + 1) xs) ≡ all
left_more k xs d sum all less is =
    +ℤ_assoc sum (slice_index_or xs k d).left (left_sum (drop (k + 1) xs))
    ∙ ap (λ n. sum +ℤ ((slice_index_or xs k d).left +ℤ left_sum (drop n xs)))
    (let same : k + 1 ≡ suc k = omega arith in same)
    ∙ ap (λ z. sum +ℤ z) (sym (left_next k xs d less)) ∙ is
