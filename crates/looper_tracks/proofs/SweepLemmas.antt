-- Something done to all tracks in turn.
use Rattle.std.proofs.Common.{◌≡◌, ℕ, zero, suc, ◌+◌, ◌-◌, ◌<◌, ◌≤◌, List, [], ◌∷◌, ◌++◌, length, map, set, get_or, take, drop, length-set, refl, sym, ap, ◌∙◌, subst, arith, append_assoc, append-nil}
use Rattle.std.proofs.lemmas.List.{take_more_set, drop-set-lt, drop_more, length-map, take_all, drop_all, get_or_default}
use Rattle.looper_rules.specs.Room.{chunks_of}
use Rattle.looper_rules.specs.Looper.{Track, tape_of, reach_of, swept, itself, at_index}
use Rattle.loop_tape.specs.Pools.{PoolOf}
use Rattle.loop_strip.specs.Strips.{free_in, reach_in}
use Rattle.looper_tracks.specs.Track.{TrackOf, track_in, tracks_in, AreIn, DidTrack, DidTrackAlone, all_in, DidAll}
use Rattle.looper_tracks.proofs.TrackLemmas.{turned, owned}

-- what is done so far, followed by what is still to do, is the whole
pub record Sweeping (act : ℕ → Track → Track) (ls0 : List TrackOf) (p0 : PoolOf) (ls : List TrackOf)
    (p : PoolOf) (k : ℕ) : Type 0 where
  pub tracks : take k (tracks_in p ls) ++ swept itself act (free_in p) (drop k (tracks_in p ls))
      ≡ swept itself act (free_in p0) (tracks_in p0 ls0)
  pub rest : drop k (tracks_in p ls) ≡ drop k (tracks_in p0 ls0)
  pub inside : AreIn p ls
  pub chunks : all_in p ls ≡ all_in p0 ls0
  pub count : length ls ≡ length ls0

-- one track of a sweep, on lists of tracks
sweep_turn :
    (act : ℕ → Track → Track) (ts whole : List Track) (k free free' : ℕ) (t t' : Track) →
    k < length ts → t ≡ get_or ts k t → t' ≡ act (reach_of free t) t →
    free' + chunks_of (tape_of t') ≡ reach_of free t →
    take k ts ++ swept itself act free (drop k ts) ≡ whole →
    take (k + 1) (set ts k t') ++ swept itself act free' (drop (k + 1) (set ts k t')) ≡ whole
sweep_turn act ts whole k free free' t t' less here is reach so_far =
    let left : free' ≡ reach_of free t - chunks_of (tape_of t') = omega arith
    in let opened : drop k ts ≡ t ∷ drop (k + 1) ts = drop_more ts k t less
    ∙ ap (λ u. u ∷ drop (k + 1) ts) (sym here)
    in let same : drop (k + 1) (set ts k t') ≡ drop (k + 1) ts =
    drop-set-lt (k + 1) ts k t' (omega arith)
    in let now : swept itself act free (drop k ts) ≡ t' ∷ swept itself act free' (drop (k + 1) ts) =
    ap (swept itself act free) opened
    ∙ ap (λ u. u ∷ swept itself act (reach_of free t - chunks_of (tape_of u)) (drop (k + 1) ts))
    (sym is) ∙ ap (λ n. t' ∷ swept itself act n (drop (k + 1) ts)) (sym left)
    in rw (take_more_set ts k t' less, same)
    (append_assoc (take k ts) (t' ∷ []) (swept itself act free' (drop (k + 1) ts))
    ∙ ap (λ us. take k ts ++ us) (sym now) ∙ so_far)

next_drop : {X : Type 0} (k : ℕ) (xs : List X) → drop (suc k) xs ≡ drop 1 (drop k xs)
next_drop zero xs = refl
next_drop (suc k) [] = refl
next_drop (suc k) (x ∷ xs) = next_drop k xs

drop_next : {X : Type 0} (k : ℕ) (xs : List X) → drop (k + 1) xs ≡ drop 1 (drop k xs)
drop_next k xs = let at : k + 1 ≡ suc k = omega arith in ap (λ n. drop n xs) at ∙ next_drop k xs

-- the same rest, one further on
pub rest_on : {X : Type 0} (ts ts0 : List X) (k : ℕ) → drop k ts ≡ drop k ts0 →
    drop (k + 1) ts ≡ drop (k + 1) ts0
rest_on ts ts0 k same = drop_next k ts ∙ ap (drop 1) same ∙ sym (drop_next k ts0)

-- one track more of a sweep
pub sweeping_more :
    (act : ℕ → Track → Track) (ls0 : List TrackOf) (p0 : PoolOf) (ls : List TrackOf) (p : PoolOf)
    (k : ℕ) (l l' : TrackOf) (p' : PoolOf) →
    Sweeping act ls0 p0 ls p k → k < length ls0 → l ≡ get_or ls k l → DidTrack act l l' p p' →
    Sweeping act ls0 p0 (set ls k l') p' (k + 1)
sweeping_more act ls0 p0 ls p k l l' p' h within is did =
    let less : k < length ls = (let same = h.count in omega arith)
    in let now = turned act ls k l l' p p' less is h.inside did
    in let fits : k < length (tracks_in p ls) = simp length-map less
    in let t' : Track = act (reach_in l.strip p) (track_in p l)
    in record {
      tracks =
          subst
          (λ ts. take (k + 1) ts ++ swept itself act (free_in p') (drop (k + 1) ts)
          ≡ swept itself act (free_in p0) (tracks_in p0 ls0)) (sym now.tracks)
          (sweep_turn act (tracks_in p ls) _ k (free_in p) (free_in p') (track_in p l) t' fits
          now.here refl now.reach h.tracks);
      rest = ap (drop (k + 1)) now.tracks ∙ drop-set-lt (k + 1) (tracks_in p ls) k t' (omega arith)
          ∙ rest_on (tracks_in p ls) (tracks_in p0 ls0) k h.rest;
      inside = now.inside;
      chunks = now.chunks ∙ h.chunks;
      count = simp length-set h.count;
    }

-- and so of the track of an index
pub sweeping_at :
    (act : ℕ → Track → Track) (ls0 : List TrackOf) (p0 : PoolOf) (ls : List TrackOf) (p : PoolOf)
    (k : ℕ) (d l' : TrackOf) (p' : PoolOf) →
    Sweeping act ls0 p0 ls p k → k < length ls0 → DidTrack act (get_or ls k d) l' p p' →
    Sweeping act ls0 p0 (set ls k l') p' (k + 1)
sweeping_at act ls0 p0 ls p k d l' p' h within did =
    let less : k < length ls = (let same = h.count in omega arith)
    in sweeping_more act ls0 p0 ls p k (get_or ls k d) l' p' h within
    (get_or_default ls k d (get_or ls k d) less) did

-- the same where the pool has no part in it
pub sweeping_alone :
    (act : ℕ → Track → Track) (ls0 : List TrackOf) (ls : List TrackOf) (p : PoolOf) (k : ℕ)
    (d l' : TrackOf) →
    Sweeping act ls0 p ls p k → k < length ls0 → DidTrackAlone act (get_or ls k d) l' →
    Sweeping act ls0 p (set ls k l') p (k + 1)
sweeping_alone act ls0 ls p k d l' h within did =
    let less : k < length ls = (let same = h.count in omega arith)
    in sweeping_at act ls0 p ls p k d l' p h within (did p (owned ls k d p h.inside less))

-- before any
pub sweeping_none : (act : ℕ → Track → Track) (ls : List TrackOf) (p : PoolOf) → AreIn p ls →
    Sweeping act ls p ls p 0
sweeping_none act ls p inside =
    record { tracks = refl; rest = refl; inside = inside; chunks = refl; count = refl }

-- once all were swept
pub sweeping_all : (act : ℕ → Track → Track) (ls0 : List TrackOf) (p0 : PoolOf) (ls : List TrackOf)
    (p : PoolOf) (k : ℕ) → Sweeping act ls0 p0 ls p k → length ls0 ≤ k →
    DidAll (swept itself act) ls0 ls p0 p
sweeping_all act ls0 p0 ls p k h past =
    let all : length ls ≤ k = (let same = h.count in omega arith)
    in let fits : length (tracks_in p ls) ≤ k = simp length-map all
    in let done : take k (tracks_in p ls) ++ swept itself act (free_in p) (drop k (tracks_in p ls))
    ≡ tracks_in p ls =
    rw (take_all k (tracks_in p ls) fits, drop_all k (tracks_in p ls) fits)
    (append-nil (tracks_in p ls))
    in record {
      tracks = sym done ∙ h.tracks;
      inside = h.inside;
      chunks = h.chunks;
      count = h.count;
    }

-- one track
at_index_there : (act : ℕ → Track → Track) (free : ℕ) (ts : List Track) (k : ℕ) (t : Track) →
    k < length ts → t ≡ get_or ts k t → at_index k act free ts ≡ set ts k (act (reach_of free t) t)
at_index_there act free [] k t less is = absurd (omega arith)
at_index_there act free (u ∷ us) zero t less is = ap (λ v. act (reach_of free v) v ∷ us) (sym is)
at_index_there act free (u ∷ us) (suc k) t less is =
    ap (λ vs. u ∷ vs) (at_index_there act free us k t (omega arith) is)

at_index_past : (act : ℕ → Track → Track) (free : ℕ) (ts : List Track) (k : ℕ) → length ts ≤ k →
    at_index k act free ts ≡ ts
at_index_past act free [] k past = refl
at_index_past act free (u ∷ us) zero past = absurd (omega arith)
at_index_past act free (u ∷ us) (suc k) past =
    ap (λ vs. u ∷ vs) (at_index_past act free us k (omega arith))

-- something done to one track
pub one_done : (act : ℕ → Track → Track) (ls : List TrackOf) (k : ℕ) (l l' : TrackOf)
    (p p' : PoolOf) → k < length ls → l ≡ get_or ls k l → AreIn p ls → DidTrack act l l' p p' →
    DidAll (at_index k act) ls (set ls k l') p p'
one_done act ls k l l' p p' less is inside did =
    let now = turned act ls k l l' p p' less is inside did
    in let fits : k < length (tracks_in p ls) = simp length-map less
    in record {
      tracks = now.tracks
          ∙ sym (at_index_there act (free_in p) (tracks_in p ls) k (track_in p l) fits now.here);
      inside = now.inside;
      chunks = now.chunks;
      count = simp length-set;
    }

-- nothing is done behind the last
pub none_done : (act : ℕ → Track → Track) (ls : List TrackOf) (k : ℕ) (p : PoolOf) → length ls ≤ k →
    AreIn p ls → DidAll (at_index k act) ls ls p p
none_done act ls k p past inside =
    let fits : length (tracks_in p ls) ≤ k = simp length-map past
    in record {
      tracks = sym (at_index_past act (free_in p) (tracks_in p ls) k fits);
      inside =
          inside;
      chunks = refl;
      count = refl;
    }

-- something done to the track of an index
pub one_at : (act : ℕ → Track → Track) (ls : List TrackOf) (k : ℕ) (d l' : TrackOf)
    (p p' : PoolOf) →
    k < length ls → AreIn p ls → DidTrack act (get_or ls k d) l' p p' →
    DidAll (at_index k act) ls (set ls k l') p p'
one_at act ls k d l' p p' less inside did =
    one_done act ls k (get_or ls k d) l' p p' less (get_or_default ls k d (get_or ls k d) less)
    inside did

-- the same of a call that takes no pool
pub one_alone : (act : ℕ → Track → Track) (ls : List TrackOf) (k : ℕ) (d l' : TrackOf)
    (p : PoolOf) →
    k < length ls → AreIn p ls → DidTrackAlone act (get_or ls k d) l' →
    DidAll (at_index k act) ls (set ls k l') p p
one_alone act ls k d l' p less inside did =
    one_at act ls k d l' p p less inside (did p (owned ls k d p inside less))

-- what doesn't depend on what is reached
pub swept_map : (f : Track → Track) (free : ℕ) (ts : List Track) →
    swept itself (λ reach t. f t) free ts ≡ map f ts
swept_map f free [] = refl
swept_map f free (t ∷ ts) =
    ap (λ us. f t ∷ us) (swept_map f (reach_of free t - chunks_of (tape_of (f t))) ts)

-- what takes no chunk does the same with any in reach
pub at_index_any : (f : Track → Track) (k free other : ℕ) (ts : List Track) →
    at_index k (λ reach t. f t) free ts ≡ at_index k (λ reach t. f t) other ts
at_index_any f k free other [] = refl
at_index_any f zero free other (t ∷ ts) = refl
at_index_any f (suc k) free other (t ∷ ts) = ap (λ us. t ∷ us) (at_index_any f k free other ts)
