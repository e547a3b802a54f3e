-- A ring is what was taken from it and what waits in it, both in the order in which they were put.
-- It holds at most its capacity.
-- "The world on one thread" in docs/rules.md.
use Rattle.std.specs.Prelude.{ℕ, Bool, nat_lt, List, [], ◌∷◌, ◌++◌, length, take, drop, slice_get, Option}

-- what contracts see of a ring
pub record RingOf (A : Type 0) : Type 0 where
  pub taken : List A
  pub waiting : List A
  pub capacity : ℕ

-- nothing was put yet
abbrev pub empty_ring : {A : Type 0} → ℕ → RingOf A
empty_ring capacity = record { taken = []; waiting = []; capacity = capacity }

-- all that was put, in order
abbrev pub sent : {A : Type 0} → RingOf A → List A
sent r = r.taken ++ r.waiting

-- it holds less than its capacity
abbrev pub has_room : {A : Type 0} → RingOf A → Bool
has_room r = nat_lt (length r.waiting) r.capacity

-- one more was put
abbrev pub put_on : {A : Type 0} → A → RingOf A → RingOf A
put_on x r = record r { waiting = r.waiting ++ x ∷ [] }

-- what is taken next
abbrev pub next_of : {A : Type 0} → RingOf A → Option A
next_of r = slice_get r.waiting 0

-- the next was taken, where there is one
abbrev pub passed_on : {A : Type 0} → RingOf A → RingOf A
passed_on r = record r { taken = r.taken ++ take 1 r.waiting; waiting = drop 1 r.waiting }
