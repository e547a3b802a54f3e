-- What is taken from a ring stays among what was put on it.
use Rattle.std.proofs.Common.{◌≡◌, ◌<◌, List, [], ◌∷◌, ◌++◌, length, take, drop, refl, sym, ap, ◌∙◌, arith, append_assoc, length-append}
use Rattle.std.specs.Prelude.{Some, slice_get}
use Rattle.ring_world.specs.Rings.{RingOf, sent, next_of, put_on, passed_on}

-- the first of a list, and the rest
first_and_rest : {A : Type 0} (xs : List A) → take 1 xs ++ drop 1 xs ≡ xs
first_and_rest [] = refl
first_and_rest (x ∷ xs) = refl

pub first_alone : {A : Type 0} (xs : List A) (x : A) → slice_get xs 0 ≡ Some x → take 1 xs ≡ x ∷ []
first_alone [] x is = absurd (cc)
first_alone (y ∷ ys) x is = let same : Some y ≡ Some x = is in cc

pub first_split : {A : Type 0} (xs : List A) (x : A) → slice_get xs 0 ≡ Some x → xs ≡ x ∷ drop 1 xs
first_split [] x is = absurd (cc)
first_split (y ∷ ys) x is = let same : Some y ≡ Some x = is in cc

-- a take leaves what was put
pub sent-passed_on : {A : Type 0} (r : RingOf A) → sent (passed_on r) ≡ sent r
sent-passed_on r =
    append_assoc r.taken (take 1 r.waiting) (drop 1 r.waiting)
    ∙ ap (λ xs. r.taken ++ xs) (first_and_rest r.waiting)

-- and adds the next to what was taken
pub taken-passed_on : {A : Type 0} (r : RingOf A) (x : A) → next_of r ≡ Some x →
    (passed_on r).taken ≡ r.taken ++ x ∷ []
taken-passed_on r x is = ap (λ xs. r.taken ++ xs) (first_alone r.waiting x is)

-- a put adds one to what was put
pub sent-put_on : {A : Type 0} (x : A) (r : RingOf A) → sent (put_on x r) ≡ sent r ++ x ∷ []
sent-put_on x r = sym (append_assoc r.taken r.waiting (x ∷ []))

-- fewer were taken than put, where one waits
pub some_waits : {A : Type 0} (r : RingOf A) (x : A) → next_of r ≡ Some x →
    length r.taken < length (sent r)
some_waits r x is =
    let all = length-append r.taken r.waiting
    in let one = ap length (first_split r.waiting x is)
    in omega arith
