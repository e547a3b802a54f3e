-- What is sent on a ring is what was taken from it, followed by what it holds. It holds at most its
-- capacity, at most its limit is ever sent, and each item that is sent may follow those before it,
-- under the ring's bound.
-- Each pass to the queue may put, take, both or neither, and what it knows of the ring is so. A
-- pass that may neither put nor take is spent, and nothing is asked of it.
-- "Rings" in docs/rules.md.
use Rattle.std.specs.Prelude.{◌≡◌, ◌≤◌, ℕ, true, List, [], ◌∷◌, ◌++◌, length}
use mathlib.Core.Option.{some}
use lib.ListN.{get_elem?}
use Rattle.event_rings.specs.declared.known.Known.{Known}
use Rattle.event_rings.specs.Known.{known, EachFollows}

-- sent, taken and held of a ring with these numbers
pub record IsRing {T : Type 0} (follows : List T → T → ℕ → Type 0) (sent taken held : List T)
    (capacity limit bound : ℕ) : Type 0 where
  pub order : sent ≡ taken ++ held
  pub room : length held ≤ capacity
  pub few : length sent ≤ limit
  pub each : EachFollows follows bound [] sent

-- a ring as a whole: which passes put and take, its numbers, and both lists
pub record Whole (T : Type 0) : Type 0 where
  pub putter : ℕ
  pub taker : ℕ
  pub capacity : ℕ
  pub limit : ℕ
  pub bound : ℕ
  pub sent : List T
  pub taken : List T

-- what a pass knows of the ring's numbers is so
pub record SameNumbers {T : Type 0} (w : Whole T) (v : Known T) : Type 0 where
  pub capacity : v.capacity ≡ w.capacity
  pub limit : v.limit ≡ w.limit
  pub bound : v.bound ≡ w.bound

-- the pass of this number is the one that puts, and knows what was sent
pub record Puts {T : Type 0} (w : Whole T) (port : ℕ) (v : Known T) : Type 0 where
  pub port_is : port ≡ w.putter
  pub sent : v.sent ≡ w.sent
  pub numbers : SameNumbers w v

-- the pass of this number is the one that takes, and knows what was taken
pub record TakesFrom {T : Type 0} (w : Whole T) (port : ℕ) (v : Known T) : Type 0 where
  pub port_is : port ≡ w.taker
  pub taken : v.taken ≡ w.taken
  pub numbers : SameNumbers w v

-- what the pass of this number knows fits the ring
pub record Fits {T : Type 0} (w : Whole T) (port : ℕ) (v : Known T) : Type 0 where
  pub puts : v.puts ≡ true → Puts w port v
  pub takes : v.takes ≡ true → TakesFrom w port v

-- the rule: there is such a ring, and what each pass knows fits it
pub record Kept {T : Type 0} (follows : List T → T → ℕ → Type 0) (items : List T)
    (views : List (Known T)) : Type 0 where
  pub whole : Whole T
  pub ring : IsRing follows whole.sent whole.taken items whole.capacity whole.limit whole.bound
  pub fits : (port : ℕ) (v : Known T) → get_elem? views port ≡ some v → Fits whole port v

-- one more item is taken, which may follow those before it
pub record Takes {T : Type 0} (follows : List T → T → ℕ → Type 0) (v : Known T) (item : T)
    (w : Known T) : Type 0 where
  pub after : w ≡ known v.puts v.takes v.sent (v.taken ++ item ∷ []) v.capacity v.limit v.bound
  pub may : follows v.taken item v.bound
  pub few : length (v.taken ++ item ∷ []) ≤ v.limit

-- the same by a pass that knows what was sent: the item is the next of that
pub record Drains {T : Type 0} (follows : List T → T → ℕ → Type 0) (v : Known T) (item : T)
    (w : Known T) : Type 0 where
  pub taken : Takes follows v item w
  pub rest : List T
  pub order : v.sent ≡ (v.taken ++ item ∷ []) ++ rest
