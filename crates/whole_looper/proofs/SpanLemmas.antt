-- A span that was played is its frames.
use Rattle.std.proofs.Common.{◌≡◌, ℕ, ◌+◌, ◌≤◌, List, [], ◌∷◌, ◌++◌, length, take, min, refl, sym, ap, ◌∙◌, subst, arith, length-take, length-take-le}
use Rattle.std.specs.List.{AllByRecursion}
use Rattle.std.proofs.Math.Seq.{take-append_seam}
use Rattle.sl_base.specs.Sounds.{Sound}
use Rattle.looper_rules.specs.Looper.{Looper}
use Rattle.looper_rules.specs.Frame.{framed, framed_from, at_boundaries}
use Rattle.looper_rules.specs.TrackSpans.{Spanned, IsCalm, spanned_from}
use Rattle.looper_laws.specs.Spans.{IsQuietBehindFor, as_frames}
use Rattle.looper_laws.proofs.InSpans.Quiet.{span_is_frames}
use Rattle.whole_looper.specs.Spans.{IsSpan, HasBegun}
use Rattle.looper_tracks.proofs.SpanLemmas.{take_least}

-- a span that was played is its frames
pub span_begun :
    (frame : ℕ) (xs out : List Sound) (l m l' : Looper) → 1 ≤ length xs →
    m ≡ at_boundaries frame l → IsSpan frame xs m →
    spanned_from xs m ≡ record { output = out; looper = l' } → HasBegun frame xs out l l'
span_begun frame [] out l m l' some met span gave = absurd (omega arith)
span_begun frame (x ∷ xs) out l m l' some met span gave =
    let quiet : AllByRecursion (IsQuietBehindFor (x ∷ xs)) (at_boundaries frame l).tracks =
    subst (λ (k : Looper). AllByRecursion (IsQuietBehindFor (x ∷ xs)) k.tracks) met span.quiet
    in let calm : IsCalm (frame + 1) xs (framed frame x l).looper =
    subst (λ (k : Looper). IsCalm (frame + 1) xs (framed_from x k).looper) met
    (span.calm x xs refl)
    in let is : spanned_from (x ∷ xs) (at_boundaries frame l)
    ≡ (let s : Spanned = record { output = out; looper = l' } in s) =
    ap (spanned_from (x ∷ xs)) (sym met) ∙ gave
    in record { is = span_is_frames frame x xs l quiet calm ∙ ap as_frames is }

seam : {X : Type 0} (n : ℕ) (xs ys : List X) → length xs ≡ n → take n (xs ++ ys) ≡ xs
seam n xs ys is = subst (λ m. take m (xs ++ ys) ≡ xs) is (take-append_seam xs ys)

-- what a turn leaves of its slices
pub turn_done :
    (frame n most : ℕ) (input output out rest : List Sound) (l m l' : Looper) →
    n ≤ length (take most input) → 1 ≤ n → length input ≡ length output →
    length out ≡ length (take n output) → m ≡ at_boundaries frame l →
    IsSpan frame (take n (take most input)) m →
    spanned_from (take n input) m ≡ record { output = out; looper = l' } →
    HasBegun frame (take n input) (take n (out ++ rest)) l l'
turn_done frame n most input output out rest l m l' within some same_length long met span gave =
    let taken : length (take most input) ≡ min most (length input) = length-take most input
    in let by_most : n ≤ most = omega arith
    in let by_input : n ≤ length input = omega arith
    in let whole : length (take n input) ≡ n = length-take-le n input by_input
    in let span' : IsSpan frame (take n input) m =
    subst (λ zs. IsSpan frame zs m) (take_least n most input by_most) span
    in let room : length (take n output) ≡ n = length-take-le n output (omega arith)
    in let cut : take n (out ++ rest) ≡ out = seam n out rest (long ∙ room)
    in subst (λ zs. HasBegun frame (take n input) zs l l') (sym cut)
    (span_begun frame (take n input) out l m l' (omega arith) met span' gave)
