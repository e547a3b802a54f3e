-- Frames behind frames.
use Rattle.std.proofs.Common.{◌≡◌, ℕ, ◌+◌, ◌-◌, ◌≤◌, List, [], ◌++◌, length, take, drop, refl, ap, ◌∙◌, sym, subst, arith, length-drop, length-take-le, take-add}
use Rattle.std.proofs.Math.Seq.{take-append-add}
use Rattle.std.proofs.lemmas.List.{take_all, take-append-le}
use borrow.Rule.Slice.PartMut.{put_mid, post_of}
use Rattle.sl_base.specs.Sounds.{Sound}
use Rattle.looper_rules.specs.Looper.{Looper}
use Rattle.looper_rules.specs.Run.{RunSoFar, begun}
use Rattle.looper_rules.specs.Cuts.{begun_on, continued}
use Rattle.run_laws.proofs.Runs.Cuts.{begun-append}
use Rattle.whole_looper.specs.Spans.{HasBegun}

-- some frames behind others
begun_then : (frame frame' : ℕ) (xs ys out out' : List Sound) (l l' l'' : Looper) →
    frame' ≡ frame + length xs →
    HasBegun frame xs out l l' → HasBegun frame' ys out' l' l'' →
    HasBegun frame (xs ++ ys) (out ++ out') l l''
begun_then frame frame' xs ys out out' l l' l'' at first next = record {
  is =
      begun-append frame [] xs ys l
      ∙ ap (λ (b : RunSoFar). begun_on (frame + length xs) b ys) first.is
      ∙ ap (λ n. let b : RunSoFar =
      record { output = out; replies = []; saves = []; left = []; looper = l' }
      in continued b (begun n [] ys l')) (sym at)
      ∙ ap (λ (c : RunSoFar). let b : RunSoFar =
      record { output = out; replies = []; saves = []; left = []; looper = l' }
      in continued b c) next.is;
}

length_taken : {X : Type 0} (n : ℕ) (xs : List X) → n ≤ length xs → length (take n xs) ≡ n
length_taken n xs le = length-take-le n xs le

taken_twice : {X : Type 0} (n m : ℕ) (xs : List X) → length xs ≤ m → take n (take m xs) ≡ take n xs
taken_twice n m xs all = ap (take n) (take_all m xs all)

put_part : {X : Type 0} (k n q : ℕ) (xs ys : List X) → k ≤ length xs → n ≤ length ys →
    take (k + n) (put_mid k q xs ys) ≡ take k xs ++ take n ys
put_part k n q xs ys in_xs in_ys =
    let long : length (take k xs) ≡ k = length_taken k xs in_xs
    in let split : take (length (take k xs) + n) (take k xs ++ (ys ++ post_of k q xs))
    ≡ take k xs ++ take n (ys ++ post_of k q xs) =
    take-append-add (take k xs) (ys ++ post_of k q xs) n
    in subst
    (λ m. take (m + n) (take k xs ++ (ys ++ post_of k q xs))
    ≡ take k xs ++ take n (ys ++ post_of k q xs)) long split
    ∙ ap (λ zs. take k xs ++ zs) (take-append-le n ys (post_of k q xs) in_ys)

-- a span behind those before it, in slices
pub turn_more : (frame frame' k n : ℕ) (xs out out' : List Sound) (l l' l'' : Looper) →
    frame' ≡ frame + k → k ≤ length xs → length out ≡ length xs →
    length out' ≡ length xs - k → n ≤ length xs - k →
    HasBegun frame (take k xs) (take k out) l l' →
    HasBegun frame' (take n (take (length xs - k) (drop k xs))) (take n out') l' l'' →
    HasBegun frame (take (k + n) xs) (take (k + n) (put_mid k (length out - k) out out')) l l''
turn_more frame frame' k n xs out out' l l' l'' at in_xs same rest within first next =
    let all : length (drop k xs) ≤ length xs - k = simp length-drop (omega arith)
    in let next' : HasBegun frame' (take n (drop k xs)) (take n out') l' l'' =
    subst (λ zs. HasBegun frame' zs (take n out') l' l'')
    (taken_twice n (length xs - k) (drop k xs) all) next
    in let at' : frame' ≡ frame + length (take k xs) = at
    ∙ ap (λ m. frame + m) (sym (length_taken k xs in_xs))
    in rw (take-add k n xs, put_part k n (length out - k) out out' (omega arith) (omega arith))
    (begun_then frame frame' (take k xs) (take n (drop k xs)) (take k out) (take n out') l l' l''
    at' first next')

-- all of them
pub begun_all : (frame k : ℕ) (xs out : List Sound) (l l' : Looper) → length xs ≤ k →
    length out ≡ length xs →
    HasBegun frame (take k xs) (take k out) l l' → HasBegun frame xs out l l'
begun_all frame k xs out l l' all same did =
    let a : take k xs ≡ xs = take_all k xs all
    in let b : take k out ≡ out = take_all k out (omega arith)
    in subst (λ zs. HasBegun frame zs out l l') a
    (subst (λ zs. HasBegun frame (take k xs) zs l l') b did)
