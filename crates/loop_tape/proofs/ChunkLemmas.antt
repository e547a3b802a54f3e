-- Lists of chunk numbers, and how many there can be.
use Rattle.std.proofs.Common.{◌≡◌, ◌≢◌, ◌≤◌, ◌<◌, ℕ, ◌+◌, ◌-◌, List, [], ◌∷◌, ◌++◌, length, refl, arith, get_or, length-append, eqb, true, false, suc}
use Rattle.std.proofs.lemmas.List.{get_or_append_left}
use Rattle.std.proofs.Math.Seq.{get_or-append_right, get_or-append_seam}
use Rattle.std.proofs.lemmas.Map.Steps.{length-le_from_distinct_below}
use Rattle.std.specs.List.{IsDistinct, list_any, AllByRecursion}
use Rattle.loop_tape.specs.Pools.{AreDistinct, IsOutside}

-- a list with one more behind
pub length-last : (xs : List ℕ) (k : ℕ) → length (xs ++ k ∷ []) ≡ length xs + 1
length-last xs k = length-append xs (k ∷ [])

-- what stands before the last one
pub before_last : (xs : List ℕ) (k i : ℕ) → i < length xs →
    get_or (xs ++ k ∷ []) i 0 ≡ get_or xs i 0
before_last xs k i lt = get_or_append_left xs (k ∷ []) 0 i lt

-- the last one
pub at_last : (xs : List ℕ) (k i : ℕ) → i ≡ length xs → get_or (xs ++ k ∷ []) i 0 ≡ k
at_last xs k i e = rw e (get_or-append_seam xs k [] 0)

-- a number more that stands nowhere yet
pub distinct_more : (xs : List ℕ) (k : ℕ) → AreDistinct xs → IsOutside k xs →
    AreDistinct (xs ++ k ∷ [])
distinct_more xs k once out i j li lj e =
    grind (
      arith,
      once i j,
      out i,
      out j,
      length-last xs k,
      before_last xs k i,
      before_last xs k j,
      at_last xs k i,
      at_last xs k j,
    )

-- one number fewer
pub distinct_fewer : (xs : List ℕ) (k : ℕ) → AreDistinct (xs ++ k ∷ []) → AreDistinct xs
distinct_fewer xs k once i j li lj e =
    once i j (let h = length-last xs k in omega (arith, h, li)) (let h = length-last xs k in
    omega (arith, h, lj)) (let a = before_last xs k i li in let b = before_last xs k j lj in
    omega (arith, a, b, e))

-- the last number stands nowhere before
pub last_outside : (xs : List ℕ) (k : ℕ) → AreDistinct (xs ++ k ∷ []) → IsOutside k xs
last_outside xs k once j lj e =
    let h = length-last xs k in
    let z : j ≡ length xs = once j (length xs) (omega (arith, h, lj)) (omega (arith, h)) (let a =
    before_last xs k j lj in let b = at_last xs k (length xs) refl in omega (arith, a, b, e)) in
    omega (arith, z, lj)

any_below : (xs : List ℕ) (n : ℕ) → ((i : ℕ) → i < length xs → get_or xs i 0 < n) → (q : ℕ) →
    list_any (eqb q) xs ≡ true → q < n
any_below [] n inside q e = grind arith
any_below (x ∷ xs) n inside q e = let h =
    any_below xs n (λ i li. inside (suc i) (omega (arith, li))) q in let z : x < n =
    inside 0 (omega arith) in grind (arith, h, z, e)

none_is : (xs : List ℕ) (x : ℕ) → ((i : ℕ) → i < length xs → get_or xs i 0 ≢ x) →
    list_any (eqb x) xs ≡ false
none_is [] x far = refl
none_is (y ∷ ys) x far = let h = none_is ys x (λ i li. far (suc i) (omega (arith, li))) in
    let z : y ≢ x = far 0 (omega arith) in grind (arith, h, z)

all_others : (x : ℕ) (xs : List ℕ) → ((i : ℕ) → i < length xs → get_or xs i 0 ≢ x) →
    AllByRecursion (λ y. eqb x y ≡ false) xs
all_others x [] far = tt
all_others x (y ∷ ys) far = (
  let z : y ≢ x = far 0 (omega arith) in
      grind (arith, z),
  all_others x ys (λ i li. far (suc i) (omega (arith, li))),
)

distinct : (xs : List ℕ) → AreDistinct xs → IsDistinct eqb xs
unfolding IsDistinct
distinct [] once = tt
distinct (x ∷ xs) once = (
  all_others x xs (λ i li e. let z : suc i ≡ 0 =
      once (suc i) 0 (omega (arith, li)) (omega arith) e in omega (arith, z)),
  distinct xs (λ i j li lj e. let z : suc i ≡ suc j =
      once (suc i) (suc j) (omega (arith, li)) (omega (arith, lj)) e in omega (arith, z)),
)

left : (xs ys : List ℕ) (i : ℕ) → i < length xs → get_or (xs ++ ys) i 0 ≡ get_or xs i 0
left xs ys i li = get_or_append_left xs ys 0 i li

right : (xs ys : List ℕ) (i : ℕ) → length xs ≤ i →
    get_or (xs ++ ys) i 0 ≡ get_or ys (i - length xs) 0
right xs ys i li = get_or-append_right xs ys i 0 li

both : (xs ys : List ℕ) → AreDistinct xs → AreDistinct ys →
    ((i j : ℕ) → i < length xs → j < length ys → get_or xs i 0 ≢ get_or ys j 0) →
    AreDistinct (xs ++ ys)
both xs ys ox oy apart i j li lj e =
    grind (
      arith,
      ox i j,
      oy (i - length xs) (j - length xs),
      apart i (j - length xs),
      apart j (i - length xs),
      left xs ys i,
      left xs ys j,
      right xs ys i,
      right xs ys j,
      length-append xs ys,
    )

both_below : (xs ys : List ℕ) (n : ℕ) → ((i : ℕ) → i < length xs → get_or xs i 0 < n) →
    ((i : ℕ) → i < length ys → get_or ys i 0 < n) → (i : ℕ) → i < length (xs ++ ys) →
    get_or (xs ++ ys) i 0 < n
both_below xs ys n ix iy i li =
    grind (arith, ix i, iy (i - length xs), left xs ys i, right xs ys i, length-append xs ys)

-- lists that have nothing in common, of numbers below one, are together at most as long
pub length-both : (xs ys : List ℕ) (n : ℕ) → AreDistinct xs → AreDistinct ys →
    ((i j : ℕ) → i < length xs → j < length ys → get_or xs i 0 ≢ get_or ys j 0) →
    ((i : ℕ) → i < length xs → get_or xs i 0 < n) → ((i : ℕ) → i < length ys → get_or ys i 0 < n) →
    length xs + length ys ≤ n
length-both xs ys n ox oy apart ix iy =
    let h = length-le_from_distinct_below (xs ++ ys) n
    (distinct (xs ++ ys) (both xs ys ox oy apart))
    (any_below (xs ++ ys) n (both_below xs ys n ix iy)) in
    let e = length-append xs ys in omega (arith, h, e)
