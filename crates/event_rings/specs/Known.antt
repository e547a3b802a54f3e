-- What an end of a ring knows: what it may do, what it knows to be sent and taken, and the ring's
-- numbers.
-- "Rings" in docs/rules.md.
use Rattle.std.specs.Prelude.{◌≡◌, ◌≤◌, ℕ, Bool, true, false, List, [], ◌∷◌, ◌++◌, length}
use Rattle.event_rings.specs.declared.known.Known.{Known}

-- what an end knows, made of its parts
abbrev pub known : {T : Type 0} → Bool → Bool → List T → List T → ℕ → ℕ → ℕ → Known T
known puts takes sent taken capacity limit bound =
    record {
      puts = puts;
      takes = takes;
      sent = sent;
      taken = taken;
      capacity = capacity;
      limit =
          limit;
      bound = bound;
    }

-- each of these items may follow those before it, of which the first come before them all
abbrev pub EachFollows : {T : Type 0} → (List T → T → ℕ → Type 0) → ℕ → List T → List T → Type 0
EachFollows follows bound before [] = Unit {0}
EachFollows follows bound before (item ∷ items) =
    follows before item bound × EachFollows follows bound (before ++ item ∷ []) items

-- what the end that puts knows, over a queue of this capacity
pub record IsPutter {T : Type 0} (follows : List T → T → ℕ → Type 0) (capacity : ℕ)
    (v : Known T) : Type 0 where
  pub puts : v.puts ≡ true
  pub takes : v.takes ≡ false
  pub capacity_is : v.capacity ≡ capacity
  pub each : EachFollows follows v.bound [] v.sent

-- what the end that takes knows
pub record IsTaker {T : Type 0} (follows : List T → T → ℕ → Type 0) (v : Known T) : Type 0 where
  pub takes : v.takes ≡ true
  pub each : EachFollows follows v.bound [] v.taken
  pub few : length v.taken ≤ v.limit

-- what both in one know
pub record IsBoth {T : Type 0} (v : Known T) : Type 0 where
  pub puts : v.puts ≡ true
  pub takes : v.takes ≡ true
