-- What contracts see of the ends of a ring. Another kind of ring, which waits for nobody, may share
-- these: `is_still` says which kind it is.
-- A full ring hands the item back: what was sent stays, the count of fulls rises by one, and at
-- least as many items were sent as the ring holds. A take that gives nothing leaves what was taken,
-- and the count of nones rises by one. Two ends of one ring that meet know both lists: sent is
-- taken followed by what is left.
-- "Rings" in docs/rules.md.
use Rattle.std.specs.Prelude.{◌≡◌, ◌≤◌, ◌-◌, ◌^◌, ℕ, Bool, List, [], ◌∷◌, ◌++◌, length}
use Rattle.atomic_table.specs.Seated.{TableId}
use Rattle.sl_base.specs.Counting.{raised}
use Rattle.event_rings.specs.Rule.{IsRing}

-- the greatest capacity, in items
abbrev pub max_capacity : ℕ
max_capacity = 65536

-- the greatest limit, in items
abbrev pub max_limit : ℕ
max_limit = 2 ^ 62 - 1

-- the end that puts: its ring's name and kind, what was sent, the ring's numbers, and the count of
-- fulls
pub record PutEnd (T : Type 0) : Type 0 where
  pub name : TableId
  pub is_still : Bool
  pub sent : List T
  pub capacity : ℕ
  pub limit : ℕ
  pub bound : ℕ
  pub fulls : ℕ

-- the end that takes: its ring's name and kind, what was taken, the ring's numbers, and the count
-- of nones
pub record TakeEnd (T : Type 0) : Type 0 where
  pub name : TableId
  pub is_still : Bool
  pub taken : List T
  pub capacity : ℕ
  pub limit : ℕ
  pub bound : ℕ
  pub nones : ℕ

-- both ends in one
pub record BothEnds (T : Type 0) : Type 0 where
  pub name : TableId
  pub is_still : Bool
  pub sent : List T
  pub taken : List T
  pub capacity : ℕ
  pub limit : ℕ
  pub bound : ℕ
  pub fulls : ℕ
  pub nones : ℕ

-- two ends of one new ring with these numbers
pub record IsNew {T : Type 0} (capacity limit bound : ℕ) (putter : PutEnd T)
    (taker : TakeEnd T) : Type 0 where
  pub name : putter.name ≡ taker.name
  pub kind : putter.is_still ≡ taker.is_still
  pub sent : putter.sent ≡ []
  pub taken : taker.taken ≡ []
  pub put_capacity : putter.capacity ≡ capacity
  pub put_limit : putter.limit ≡ limit
  pub put_bound : putter.bound ≡ bound
  pub take_capacity : taker.capacity ≡ capacity
  pub take_limit : taker.limit ≡ limit
  pub take_bound : taker.bound ≡ bound
  pub fulls : putter.fulls ≡ 0
  pub nones : taker.nones ≡ 0

-- the putting end is of the same ring
pub record SamePutRing {T : Type 0} (old new : PutEnd T) : Type 0 where
  pub name : new.name ≡ old.name
  pub kind : new.is_still ≡ old.is_still
  pub capacity : new.capacity ≡ old.capacity
  pub limit : new.limit ≡ old.limit
  pub bound : new.bound ≡ old.bound

-- the taking end is
pub record SameTakeRing {T : Type 0} (old new : TakeEnd T) : Type 0 where
  pub name : new.name ≡ old.name
  pub kind : new.is_still ≡ old.is_still
  pub capacity : new.capacity ≡ old.capacity
  pub limit : new.limit ≡ old.limit
  pub bound : new.bound ≡ old.bound

-- both are, and nothing more was sent or counted
pub record SameBothRing {T : Type 0} (old new : BothEnds T) : Type 0 where
  pub name : new.name ≡ old.name
  pub kind : new.is_still ≡ old.is_still
  pub sent : new.sent ≡ old.sent
  pub capacity : new.capacity ≡ old.capacity
  pub limit : new.limit ≡ old.limit
  pub bound : new.bound ≡ old.bound
  pub fulls : new.fulls ≡ old.fulls
  pub nones : new.nones ≡ old.nones

-- a put that the ring handed back as full: nothing was sent, it is counted, and as many items were
-- sent before as the ring holds
pub record IsFull {T : Type 0} (old new : PutEnd T) : Type 0 where
  pub sent : new.sent ≡ old.sent
  pub counted : new.fulls ≡ raised old.fulls
  pub many : old.capacity ≤ length old.sent

-- a take gave the next item, which may follow those before it
pub record TakesNext {T : Type 0} (follows : List T → T → ℕ → Type 0) (item : T)
    (old new : TakeEnd T) : Type 0 where
  pub taken : new.taken ≡ old.taken ++ item ∷ []
  pub may : follows old.taken item old.bound
  pub few : length new.taken ≤ old.limit
  pub nones : new.nones ≡ old.nones

-- a take that gave nothing: nothing was taken, and it is counted
pub record IsEmpty {T : Type 0} (old new : TakeEnd T) : Type 0 where
  pub taken : new.taken ≡ old.taken
  pub counted : new.nones ≡ raised old.nones

-- two ends met: both lists and counts are theirs
pub record Meets {T : Type 0} (putter : PutEnd T) (taker : TakeEnd T)
    (both : BothEnds T) : Type 0 where
  pub name : both.name ≡ taker.name
  pub kind : both.is_still ≡ taker.is_still
  pub capacity : both.capacity ≡ taker.capacity
  pub limit : both.limit ≡ taker.limit
  pub bound : both.bound ≡ taker.bound
  pub sent : both.sent ≡ putter.sent
  pub taken : both.taken ≡ taker.taken
  pub fulls : both.fulls ≡ putter.fulls
  pub nones : both.nones ≡ taker.nones

-- what is left in the ring, with which the whole rule holds
pub record HasRest {T : Type 0} (follows : List T → T → ℕ → Type 0)
    (both : BothEnds T) : Type 0 where
  pub rest : List T
  pub ring : IsRing follows both.sent both.taken rest both.capacity both.limit both.bound

-- the next item of those that were left
pub record TakesRest {T : Type 0} (follows : List T → T → ℕ → Type 0) (item : T)
    (old new : BothEnds T) : Type 0 where
  pub taken : new.taken ≡ old.taken ++ item ∷ []
  pub may : follows old.taken item old.bound
  pub rest : List T
  pub order : new.sent ≡ new.taken ++ rest

-- nothing was left: all that was sent is taken
pub record Drained {T : Type 0} (old new : BothEnds T) : Type 0 where
  pub taken : new.taken ≡ old.taken
  pub all : new.sent ≡ new.taken
