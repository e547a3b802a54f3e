-- All tracks over some frames: what they are and what they give.
use Rattle.std.proofs.Common.{◌≡◌, ℕ, ◌+◌, ◌-◌, ◌<◌, ◌≤◌, List, ◌∷◌, length, map, set, get_or, drop, refl, sym, ap, ap₂, ◌∙◌, subst, arith}
use Rattle.std.proofs.lemmas.List.{drop-set-lt, drop_more, drop_all, length-map, get_or_default}
use Rattle.sl_base.specs.Sounds.{Sound}
use Rattle.looper_rules.specs.Room.{chunks_of}
use Rattle.looper_rules.specs.Looper.{Track, tape_of, reach_of}
use Rattle.loop_tape.specs.Pools.{PoolOf}
use Rattle.loop_strip.specs.Strips.{free_in, reach_in}
use Rattle.looper_tracks.specs.Track.{TrackOf, track_in, tracks_in, AreIn, DidTrack}
use Rattle.looper_rules.specs.TrackSpans.{track_over, given_over, all_over, given_of}
use Rattle.looper_rules.specs.GainSpans.{added, added_all}
use Rattle.looper_tracks.proofs.TrackLemmas.{turned}
use Rattle.looper_tracks.proofs.SweepLemmas.{Sweeping, sweeping_more, sweeping_none}

-- so many tracks were played and added
pub record Summing (step : ℕ) (xs : List Sound) (ls0 : List TrackOf) (p0 : PoolOf)
    (sums0 : List Sound) (ls : List TrackOf) (p : PoolOf) (sums : List Sound) (k : ℕ) : Type 0 where
  pub sweep : Sweeping (track_over step xs) ls0 p0 ls p k
  pub whole : added_all sums (map given_of (all_over step xs (free_in p) (drop k (tracks_in p ls))))
      ≡ added_all sums0 (map given_of (all_over step xs (free_in p0) (tracks_in p0 ls0)))
  pub long : length sums ≡ length sums0

sum_turn :
    (step : ℕ) (xs : List Sound) (ts : List Track) (k free free' : ℕ) (t t' : Track)
    (sums sums' whole : List Sound) → k < length ts → t ≡ get_or ts k t →
    t' ≡ track_over step xs (reach_of free t) t → free' + chunks_of (tape_of t') ≡ reach_of free t →
    sums' ≡ added sums (given_over step xs (reach_of free t) t) →
    added_all sums (map given_of (all_over step xs free (drop k ts))) ≡ whole →
    added_all sums' (map given_of (all_over step xs free' (drop (k + 1) (set ts k t')))) ≡ whole
sum_turn step xs ts k free free' t t' sums sums' whole less here is reach more so_far =
    let left : free' ≡ reach_of free t - chunks_of (tape_of t') = omega arith
    in let opened : drop k ts ≡ t ∷ drop (k + 1) ts = drop_more ts k t less
    ∙ ap (λ u. u ∷ drop (k + 1) ts) (sym here)
    in let same : drop (k + 1) (set ts k t') ≡ drop (k + 1) ts =
    drop-set-lt (k + 1) ts k t' (omega arith)
    in let now : added_all sums (map given_of (all_over step xs free (drop k ts)))
    ≡ added_all sums' (map given_of (all_over step xs free' (drop (k + 1) ts))) =
    ap (λ us. added_all sums (map given_of (all_over step xs free us))) opened
    ∙ ap (λ u. added_all (added sums (given_over step xs (reach_of free t) t))
    (map given_of
    (all_over step xs (reach_of free t - chunks_of (tape_of u)) (drop (k + 1) ts)))) (sym is)
    ∙ ap₂ (λ s n. added_all s (map given_of (all_over step xs n (drop (k + 1) ts)))) (sym more)
    (sym left)
    in rw same (sym now ∙ so_far)

-- one track more
pub summing_more :
    (step : ℕ) (xs : List Sound) (ls0 : List TrackOf) (p0 : PoolOf) (sums0 : List Sound)
    (ls : List TrackOf) (p : PoolOf) (sums : List Sound) (k : ℕ) (l l' : TrackOf) (p' : PoolOf)
    (sums' : List Sound) →
    Summing step xs ls0 p0 sums0 ls p sums k → k < length ls0 → l ≡ get_or ls k l →
    DidTrack (track_over step xs) l l' p p' →
    sums' ≡ added sums (given_over step xs (reach_in l.strip p) (track_in p l)) →
    length sums' ≡ length sums →
    Summing step xs ls0 p0 sums0 (set ls k l') p' sums' (k + 1)
summing_more step xs ls0 p0 sums0 ls p sums k l l' p' sums' h within is did more long =
    let less : k < length ls = (let same = h.sweep.count in omega arith)
    in let now = turned (track_over step xs) ls k l l' p p' less is h.sweep.inside did
    in let fits : k < length (tracks_in p ls) = simp length-map less
    in let t' : Track = track_over step xs (reach_in l.strip p) (track_in p l)
    in record {
      sweep = sweeping_more (track_over step xs) ls0 p0 ls p k l l' p' h.sweep within is did;
      whole =
          subst
          (λ ts. added_all sums' (map given_of (all_over step xs (free_in p') (drop (k + 1) ts)))
          ≡ added_all sums0 (map given_of (all_over step xs (free_in p0) (tracks_in p0 ls0))))
          (sym now.tracks)
          (sum_turn step xs (tracks_in p ls) k (free_in p) (free_in p') (track_in p l) t' sums sums'
          _ fits now.here refl now.reach more h.whole);
      long = long ∙ h.long;
    }

-- and so of the track of an index
pub summing_at :
    (step : ℕ) (xs : List Sound) (ls0 : List TrackOf) (p0 : PoolOf) (sums0 : List Sound)
    (ls : List TrackOf) (p : PoolOf) (sums : List Sound) (k : ℕ) (d l' : TrackOf) (p' : PoolOf)
    (sums' : List Sound) →
    Summing step xs ls0 p0 sums0 ls p sums k → k < length ls0 →
    DidTrack (track_over step xs) (get_or ls k d) l' p p' →
    sums'
    ≡ added sums
    (given_over step xs (reach_in (get_or ls k d).strip p) (track_in p (get_or ls k d))) →
    length sums' ≡ length sums →
    Summing step xs ls0 p0 sums0 (set ls k l') p' sums' (k + 1)
summing_at step xs ls0 p0 sums0 ls p sums k d l' p' sums' h within did more long =
    let less : k < length ls = (let same = h.sweep.count in omega arith)
    in summing_more step xs ls0 p0 sums0 ls p sums k (get_or ls k d) l' p' sums' h within
    (get_or_default ls k d (get_or ls k d) less) did more long
