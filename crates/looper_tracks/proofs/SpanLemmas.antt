-- Fewer frames are as quiet, for one track and for all.
use Rattle.std.proofs.Common.{◌≡◌, ℕ, zero, suc, ◌+◌, ◌<◌, ◌≤◌, List, [], ◌∷◌, length, take, get_or, ap, ◌∙◌, subst, arith, take-take}
use Rattle.std.specs.List.{AllByRecursion}
use Rattle.sl_base.specs.Sounds.{Sound}
use Rattle.looper_rules.specs.Loop.{Loop}
use Rattle.looper_rules.specs.Looper.{Track}
use Rattle.looper_rules.specs.LoopFrame.{frame_later}
use Rattle.looper_rules.specs.LoopSpans.{AreQuiet, AreQuietBehind}
use Rattle.looper_laws.specs.Spans.{IsQuietBehindFor}
use Rattle.loop_tape.specs.Pools.{PoolOf}
use Rattle.looper_tracks.specs.Track.{TrackOf, track_in, tracks_in}
use Rattle.looper_tracks.proofs.ReadLemmas.{all_more}

-- fewer frames are as quiet
fewer_quiet : (n : ℕ) (xs : List Sound) (l : Loop Sound) → AreQuiet xs l → AreQuiet (take n xs) l
fewer_quiet zero xs l q = tt
fewer_quiet (suc n) [] l q = tt
fewer_quiet (suc n) (x ∷ xs) l q = (q.0, fewer_quiet n xs (frame_later x 0 l) q.1)

fewer_behind : (n : ℕ) (xs : List Sound) (reach : ℕ) (l : Loop Sound) → AreQuietBehind xs reach l →
    AreQuietBehind (take n xs) reach l
fewer_behind zero xs reach l q = tt
fewer_behind (suc n) [] reach l q = tt
fewer_behind (suc n) (x ∷ xs) reach l q = fewer_quiet n xs (frame_later x reach l) q

-- fewer frames are as quiet
pub fewer_for : (n : ℕ) (xs : List Sound) (t : Track) → IsQuietBehindFor xs t →
    IsQuietBehindFor (take n xs) t
fewer_for n xs t q = record { quiet = λ reach. fewer_behind n xs reach t.loop (q.quiet reach) }

-- and so for all tracks
pub fewer_for_all : (n : ℕ) (xs : List Sound) (ts : List Track) →
    AllByRecursion (IsQuietBehindFor xs) ts → AllByRecursion (IsQuietBehindFor (take n xs)) ts
fewer_for_all n xs [] all = tt
fewer_for_all n xs (t ∷ ts) all = (fewer_for n xs t all.0, fewer_for_all n xs ts all.1)

-- the fewer of two firsts
pub take_least : {X : Type 0} (m n : ℕ) (xs : List X) → m ≤ n → take m (take n xs) ≡ take m xs
take_least m n xs le = simp take-take (ap (λ k. take k xs) (omega arith))

-- one track more is quiet for the fewest frames so far
pub quiet_more : (n q m k : ℕ) (xs : List Sound) (ls : List TrackOf) (l : TrackOf) (p : PoolOf) →
    k < length ls → l ≡ get_or ls k l → m ≤ n → m ≤ q →
    AllByRecursion (IsQuietBehindFor (take n xs)) (tracks_in p (take k ls)) →
    IsQuietBehindFor (take q (take n xs)) (track_in p l) →
    AllByRecursion (IsQuietBehindFor (take m xs)) (tracks_in p (take (k + 1) ls))
quiet_more n q m k xs ls l p less is by_n by_q all here =
    let all' : AllByRecursion (IsQuietBehindFor (take m xs)) (tracks_in p (take k ls)) =
    subst (λ zs. AllByRecursion (IsQuietBehindFor zs) (tracks_in p (take k ls)))
    (take_least m n xs by_n) (fewer_for_all m (take n xs) (tracks_in p (take k ls)) all)
    in let here' : IsQuietBehindFor (take m xs) (track_in p l) =
    subst (λ zs. IsQuietBehindFor zs (track_in p l)) (take_least m q (take n xs) by_q
    ∙ take_least m n xs by_n) (fewer_for m (take q (take n xs)) (track_in p l) here)
    in all_more (IsQuietBehindFor (take m xs)) k ls l p less is all' here'
