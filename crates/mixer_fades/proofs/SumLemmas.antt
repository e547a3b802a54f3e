-- How great sums of scaled frames may be.
use Rattle.std.proofs.Common.{w64, ◌≡◌, ℕ, zero, suc, ◌+◌, ◌*◌, ◌/◌, ◌≤◌, ◌<◌, List, [], ◌∷◌, ◌++◌, length, set, get_or, take, drop, refl, sym, ap, ◌∙◌, subst, arith, ℤ, pos, negsuc}
use Rattle.std.specs.Prelude.{unsigned_abs, ◌+ℤ◌, ◌*ℤ◌, ◌≤ℤ◌, int_div, neg_ℤ, FitsSigned}
use Rattle.std.proofs.lemmas.List.{take_more_set, drop_more, take_all}
use Rattle.std.proofs.lemmas.Int.{unsigned_abs-mul, fits_signed_from_abs, ints}
use Rattle.sl_base.specs.Arithmetic.{IsSample, scaled}
use Rattle.sl_base.specs.Sounds.{Sound}
use Rattle.std.specs.List.{AllByRecursion}
use Rattle.mixer_fades.specs.Sums.{IsWithin, AreSumsOf}
use Rattle.std.proofs.Math.Nat.{mul-le-mul_left}

-- the size of a number with the other sign
unsigned_abs-neg : (n : ℕ) → unsigned_abs (neg_ℤ (pos n)) ≡ n
unsigned_abs-neg zero = refl
unsigned_abs-neg (suc n) = refl

-- the size of a quotient
unsigned_abs-div : (z : ℤ) (d : ℕ) → unsigned_abs (int_div z (pos d)) ≡ unsigned_abs z / d
unsigned_abs-div (pos n) d = refl
unsigned_abs-div (negsuc n) d = unsigned_abs-neg (suc n / d)

-- thousandths, of which there are 1000 at most, make nothing greater
thousandths_shrink : (n k : ℕ) → k ≤ 1000 → n * k / 1000 ≤ n
thousandths_shrink n k small =
    let most : n * k ≤ n * 1000 = mul-le-mul_left n small
    in omega arith

-- both sides of a sum with a frame more
pub sides_are_small : (bound : ℕ) (sum : Sound) (left_before right_before left right : ℤ) →
    record { left = left_before; right = right_before } ≡ sum → IsWithin bound sum →
    (unsigned_abs left_before ≤ bound → unsigned_abs left ≤ bound + 8388608) →
    (unsigned_abs right_before ≤ bound → unsigned_abs right ≤ bound + 8388608) →
    IsWithin (bound + 8388608) (record { left = left; right = right })
sides_are_small bound sum left_before right_before left right is within more_left more_right =
    let now : IsWithin bound (record { left = left_before; right = right_before }) =
    subst (IsWithin bound) (sym is) within
    in record { left = more_left now.left; right = more_right now.right }

-- what holds of the elements of both parts holds of all
pub all_append : {X : Type 0} (P : X → Type 0) (xs ys : List X) → AllByRecursion P xs →
    AllByRecursion P ys → AllByRecursion P (xs ++ ys)
all_append P [] ys p q = q
all_append P (x ∷ xs) ys p q = (p.0, all_append P xs ys p.1 q)

-- what holds of all holds of one
pub all_at : {X : Type 0} (P : X → Type 0) (xs : List X) (k : ℕ) (d : X) → AllByRecursion P xs →
    k < length xs → P (get_or xs k d)
all_at P [] k d all less = absurd (omega arith)
all_at P (x ∷ xs) zero d all less = all.0
all_at P (x ∷ xs) (suc k) d all less = all_at P xs k d all.1 (omega arith)

-- what so many givers' sums and one more are
within_more : (givers : ℕ) (sum : Sound) → IsWithin (givers * 8388608 + 8388608) sum →
    IsWithin ((givers + 1) * 8388608) sum
within_more givers sum h = record { left = omega (arith, h.left); right = omega (arith, h.right) }

-- a side that is small fits in 64 bits
pub side_fits : (side told : ℤ) → side ≡ told → unsigned_abs told ≤ 134217728 → FitsSigned w64 side
side_fits side told is small = fits_signed_from_abs w64 side
    (let less : unsigned_abs side ≤ 134217728 = rw is small in omega arith)

-- what holds of all holds of those behind some
all_behind : {X : Type 0} (P : X → Type 0) (xs : List X) (k : ℕ) → AllByRecursion P xs →
    AllByRecursion P (drop k xs)
all_behind P xs zero all = all
all_behind P [] (suc k) all = tt
all_behind P (x ∷ xs) (suc k) all = all_behind P xs k all.1

-- the sums so far with one more
pub done_more :
    (givers k : ℕ) (sums begun : List Sound) (now d : Sound) → k < length sums →
    drop k sums ≡ drop k begun →
    ((bound : ℕ) → IsWithin bound (get_or sums k d) → IsWithin (bound + 8388608) now) →
    (AreSumsOf givers begun → AreSumsOf (givers + 1) (take k sums)) → AreSumsOf givers begun →
    AreSumsOf (givers + 1) (take (k + 1) (set sums k now))
done_more givers k sums begun now d less left more done all =
    let rest : AreSumsOf givers (drop k sums) =
    subst (AreSumsOf givers) (sym left) (all_behind (IsWithin (givers * 8388608)) begun k all)
    in let opened : drop k sums ≡ get_or sums k d ∷ drop (k + 1) sums = drop_more sums k d less
    in let here : AreSumsOf givers (get_or sums k d ∷ drop (k + 1) sums) =
    subst (AreSumsOf givers) opened rest
    in let bound : IsWithin ((givers + 1) * 8388608) now =
    within_more givers now (more (givers * 8388608) here.0)
    in rw (take_more_set sums k now less)
    (all_append (IsWithin ((givers + 1) * 8388608)) (take k sums) (now ∷ []) (done all)
    (bound, tt))

-- the sums behind all frames
pub done_all : (givers k : ℕ) (sums : List Sound) → length sums ≤ k →
    AreSumsOf givers (take k sums) → AreSumsOf givers sums
done_all givers k sums all h = subst (AreSumsOf givers) (take_all k sums all) h

-- sums of fewer givers are sums of more
pub sums_of_more : (fewer more : ℕ) (sums : List Sound) → fewer ≤ more → AreSumsOf fewer sums →
    AreSumsOf more sums
sums_of_more fewer more [] less all = tt
sums_of_more fewer more (s ∷ sums) less all = (
  record { left = omega (arith, all.0.left); right = omega (arith, all.0.right) },
  sums_of_more fewer more sums less all.1,
)
