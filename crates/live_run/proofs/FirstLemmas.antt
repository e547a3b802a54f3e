-- The first of two statuses is one of them, and stands before the other.
use Rattle.std.proofs.Common.{◌≡◌, ◌≤◌, ◌⊎◌, inl, inr, ℕ, Bool, true, false, nat_le, refl, sym, ap, ◌∙◌, subst, arith}
use Rattle.std.specs.Prelude.{if◌then◌else◌}
use Rattle.std.proofs.lemmas.Bool.{leb-true, leb-false}
use Rattle.live_core.specs.declared.status.LiveStatus.{LiveStatus}
use Rattle.live_core.specs.declared.status.LiveStatus.TheVariants.{Done, ReadFault, WriteFault, Torn, LinkFault, Memory, LongInput}
use Rattle.live_run.specs.Statuses.{rank, first_of}

-- it is the one, which stands before the other, or the other
pub data IsFirst (one other first : LiveStatus) : Type 0 where
  one_is : first ≡ one → rank one ≤ rank other → IsFirst one other first
  other_is : first ≡ other → rank other ≤ rank one → IsFirst one other first

pub first_is : (one other : LiveStatus) → IsFirst one other (first_of one other)
first_is one other = by_test (nat_le (rank one) (rank other)) refl
  where
    by_test : (b : Bool) → nat_le (rank one) (rank other) ≡ b →
        IsFirst one other (if b then one else other)
    by_test true is = one_is refl (leb-true (rank one) (rank other) is)
    by_test false is =
        let behind = leb-false (rank one) (rank other) is in other_is refl (omega arith)

-- nothing stands behind a session that is done
pub last_is_done : (s : LiveStatus) → 6 ≤ rank s → s ≡ Done
last_is_done Done last = refl
last_is_done Memory last = absurd (omega arith)
last_is_done ReadFault last = absurd (omega arith)
last_is_done WriteFault last = absurd (omega arith)
last_is_done Torn last = absurd (omega arith)
last_is_done LongInput last = absurd (omega arith)
last_is_done LinkFault last = absurd (omega arith)

-- where the first of two is done, both are
pub done_both : (one other : LiveStatus) → first_of one other ≡ Done →
    (one ≡ Done) × (other ≡ Done)
done_both one other is = by_first (first_is one other)
  where
    by_first : IsFirst one other (first_of one other) → (one ≡ Done) × (other ≡ Done)
    by_first (one_is first before) =
        let one_done : one ≡ Done = sym first ∙ is in
        let most : rank one ≡ 6 = ap rank one_done in
        (one_done, last_is_done other (omega arith))
    by_first (other_is first before) =
        let other_done : other ≡ Done = sym first ∙ is in
        let most : rank other ≡ 6 = ap rank other_done in
        (last_is_done one (omega arith), other_done)

-- the first of two stands behind neither
pub first_no_later : (one other : LiveStatus) →
    (rank (first_of one other) ≤ rank one) × (rank (first_of one other) ≤ rank other)
first_no_later one other = by_first (first_is one other)
  where
    by_first : IsFirst one other (first_of one other) →
        (rank (first_of one other) ≤ rank one) × (rank (first_of one other) ≤ rank other)
    by_first (one_is first before) =
        let same : rank (first_of one other) ≡ rank one = ap rank first in
        (omega (arith, same), omega (arith, same, before))
    by_first (other_is first before) =
        let same : rank (first_of one other) ≡ rank other = ap rank first in
        (omega (arith, same, before), omega (arith, same))
