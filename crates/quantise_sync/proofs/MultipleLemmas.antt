-- Multiples of a unit, for a number that rises or falls by one.
use Rattle.std.proofs.Common.{◌≡◌, ℕ, zero, suc, ◌+◌, ◌-◌, ◌%◌, ◌<◌, ◌≤◌, ◌⊎◌, inl, inr, Bool, true, false, Option, Some, None, refl, sym, ap, ◌∙◌, subst, arith, min}
use Rattle.std.specs.Prelude.{◌==◌}
use Rattle.std.proofs.Math.Nat.{suc-mod, mod-eq_of_lt, mod_self, mod-zero, zero-mod, mod-lt}
use Rattle.std.proofs.Math.Numerals.{add-one}
use Rattle.std.proofs.lemmas.Bool.{eqb-true, eqb-false, eq-eqb, ne_eqb, cases_lt, cond-false}
use Rattle.quantise_sync.specs.Distances.{frames_up, frames_forward}

-- the rest of the next number, below the unit and at it
mod-more : (unit at : ℕ) → at % suc unit + 1 < suc unit → (at + 1) % suc unit ≡ at % suc unit + 1
mod-more unit at less =
    let below : suc (at % suc unit) < suc unit = rw (sym (add-one (at % suc unit))) less
    in ap (λ n. n % suc unit) (add-one at) ∙ suc-mod at (suc unit) ∙ mod-eq_of_lt below
    ∙ sym (add-one (at % suc unit))

mod-round : (unit at : ℕ) → at % suc unit + 1 ≡ suc unit → (at + 1) % suc unit ≡ 0
mod-round unit at is =
    ap (λ n. n % suc unit) (add-one at) ∙ suc-mod at (suc unit)
    ∙ ap (λ n. n % suc unit) (sym (add-one (at % suc unit)) ∙ is) ∙ mod_self (suc unit)

-- the next number is a multiple, or its rest is one more
pub data Next (unit at : ℕ) : Type 0 where
  rises : at % unit + 1 < unit → (at + 1) % unit ≡ at % unit + 1 → Next unit at
  comes_round : at % unit + 1 ≡ unit → (at + 1) % unit ≡ 0 → Next unit at

next_by : (unit at : ℕ) → (at % suc unit + 1 < suc unit) ⊎ (suc unit ≤ at % suc unit + 1) →
    Next (suc unit) at
next_by unit at (inl less) = rises less (mod-more unit at less)
next_by unit at (inr most) =
    let below : at % suc unit < suc unit = mod-lt at (omega arith)
    in let is : at % suc unit + 1 ≡ suc unit = omega arith
    in comes_round is (mod-round unit at is)

-- the next multiple of a unit
pub next : (unit at : ℕ) → Next (suc unit) at
next unit at = next_by unit at (cases_lt (at % suc unit + 1) (suc unit))

-- 0 where a number is a multiple
abbrev pub unless : Bool → ℕ → ℕ
unless true frames = 0
unless false frames = frames

unless-multiple : (unit at frames : ℕ) → at % unit ≡ 0 → unless (at % unit == 0) frames ≡ 0
unless-multiple unit at frames is = ap (λ b. unless b frames) (eq-eqb (at % unit) 0 is)

-- a place that is at no multiple
pub unless-other : (unit at frames : ℕ) → (at % unit ≡ 0 → ⊥) →
    unless (at % unit == 0) frames ≡ frames
unless-other unit at frames isnt = ap (λ b. unless b frames) (ne_eqb (at % unit) 0 isnt)

-- up to the next multiple is one less from the next number
up_by : (unit at : ℕ) → (at % suc unit ≡ 0 → ⊥) → Next (suc unit) at →
    unless ((at + 1) % suc unit == 0) (suc unit - (at + 1) % suc unit) + 1 ≡ suc unit - at
    % suc unit
up_by unit at isnt (rises less is) =
    let step = unless-other (suc unit) (at + 1) (suc unit - (at + 1) % suc unit)
    (λ none. omega arith)
    in omega arith
up_by unit at isnt (comes_round most is) =
    let step = unless-multiple (suc unit) (at + 1) (suc unit - (at + 1) % suc unit) is
    in omega arith

-- one place on, there is one frame less up to the multiple
pub up_later : (unit at : ℕ) → (at % suc unit == 0) ≡ false →
    unless ((at + 1) % suc unit == 0) (suc unit - (at + 1) % suc unit) + 1 ≡ suc unit - at
    % suc unit
up_later unit at isnt = up_by unit at (eqb-false (at % suc unit) 0 isnt) (next unit at)

-- forward through a list, by a unit
pub frames_forward-suc : (unit at length : ℕ) →
    frames_forward (suc unit) at length ≡ min (suc unit - at % suc unit) (length - at)
frames_forward-suc unit at length = cond-false _ _ _ (ne_eqb (suc unit) 0 (λ is. omega arith))

-- so it is forward through a list, as long as the next place is in it
forward_by :
    (unit at length : ℕ) → at + 1 < length → (at % suc unit ≡ 0 → ⊥) → Next (suc unit) at →
    unless ((at + 1) % suc unit == 0) (frames_forward (suc unit) (at + 1) length)
    + 1 ≡ frames_forward (suc unit) at length
forward_by unit at length inside isnt (rises less is) =
    let step = unless-other (suc unit) (at + 1) (frames_forward (suc unit) (at + 1) length)
    (λ none. omega arith)
    in let now = frames_forward-suc unit at length
    in let later = frames_forward-suc unit (at + 1) length
    in omega arith
forward_by unit at length inside isnt (comes_round most is) =
    let step = unless-multiple (suc unit) (at + 1) (frames_forward (suc unit) (at + 1) length) is
    in let now = frames_forward-suc unit at length
    in omega arith

-- one place on, there is one frame less to a unit or the border
pub forward_later :
    (unit at length : ℕ) → at + 1 < length → (at % unit == 0) ≡ false →
    unless ((at + 1) % unit == 0) (frames_forward unit (at + 1) length) + 1 ≡ frames_forward unit at
    length
forward_later zero at length inside isnt =
    let rest = mod-zero (at + 1)
    in let step = unless-other zero (at + 1) (frames_forward zero (at + 1) length)
    (λ none. omega arith)
    in omega arith
forward_later (suc unit) at length inside isnt =
    forward_by unit at length inside (eqb-false (at % suc unit) 0 isnt) (next unit at)

-- at the list's end it is one frame
pub forward_end : (unit at length : ℕ) → at + 1 ≡ length → frames_forward unit at length ≡ 1
forward_end zero at length is = omega arith
forward_end (suc unit) at length is =
    let below : at % suc unit < suc unit = mod-lt at (omega arith)
    in let now = frames_forward-suc unit at length
    in omega arith

-- backward it is one less from the place before
backward_by : (unit at : ℕ) → ((at + 1) % suc unit ≡ 0 → ⊥) → Next (suc unit) at →
    at % suc unit + 1 ≡ (at + 1) % suc unit
backward_by unit at isnt (rises less is) = sym is
backward_by unit at isnt (comes_round most is) = absurd (isnt is)

-- one place down, there is one frame less to the multiple below
pub backward_later : (unit at : ℕ) → ((at + 1) % unit == 0) ≡ false →
    at % unit + 1 ≡ (at + 1) % unit
backward_later zero at isnt = let now = mod-zero at in let then_ = mod-zero (at + 1) in omega arith
backward_later (suc unit) at isnt =
    backward_by unit at (eqb-false ((at + 1) % suc unit) 0 isnt) (next unit at)
