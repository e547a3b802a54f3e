-- One track of a pool changes, and the others stay.
use Rattle.std.proofs.Common.{◌≡◌, ℕ, zero, suc, ◌+◌, ◌<◌, List, [], ◌∷◌, length, map, set, get_or, refl, sym, ap, ap₂, ◌∙◌, subst, arith}
use Rattle.std.specs.List.{AllByRecursion}
use Rattle.std.proofs.lemmas.List.{map-set, get_or-map, length-map}
use Rattle.std.proofs.lemmas.List.Sums.{sum_by-set}
use Rattle.looper_rules.specs.Room.{chunks_of, used}
use Rattle.looper_rules.specs.Looper.{Track, tape_of}
use Rattle.loop_tape.specs.Pools.{PoolOf}
use Rattle.loop_strip.specs.Strips.{StripOf, free_in, reach_in, Owns, Apart, StaysBeside, OthersStay}
use Rattle.looper_tracks.specs.Track.{TrackOf, track_in, tracks_in, OwnsTrack, TracksApart, AreApart, AreIn, DidTrack, all_in}

-- chunks in common are so both ways
pub apart_sym : {u s : StripOf} → Apart u s → Apart s u
apart_sym a = record { tapes = λ i j hi hj e. a.tapes j i hj hi (sym e) }

-- what holds of all holds of the one at an index
all_at : {X : Type 0} (P : X → Type 0) (xs : List X) (k : ℕ) (d : X) → k < length xs →
    AllByRecursion P xs → P (get_or xs k d)
all_at P [] k d less all = absurd (omega arith)
all_at P (x ∷ xs) zero d less all = all.0
all_at P (x ∷ xs) (suc k) d less all = all_at P xs k d (omega arith) all.1

-- and with another in its place
all_set : {X : Type 0} (P : X → Type 0) (xs : List X) (k : ℕ) (y : X) → P y → AllByRecursion P xs →
    AllByRecursion P (set xs k y)
all_set P [] k y here all = all
all_set P (x ∷ xs) zero y here all = (here, all.1)
all_set P (x ∷ xs) (suc k) y here all = (all.0, all_set P xs k y here all.1)

-- one track stays beside one that changes
beside_one : {s s' : StripOf} {p p' : PoolOf} (u : TrackOf) → OthersStay s s' p p' →
    Owns u.strip p →
    Apart u.strip s → StaysBeside s' p p' u.strip
beside_one u others owns apart = others u.strip (record { owns = owns; apart = apart })

-- a track that stays beside is seen as before
pub same_track : {s : StripOf} {p p' : PoolOf} (u : TrackOf) → StaysBeside s p p' u.strip →
    track_in p' u ≡ track_in p u
same_track {p = p} {p' = p'} u stays =
    ap (λ (l : _). record { loop = l; gain = u.gain; asker = u.asker }) stays.same

-- tracks that all stand beside one that changes
pub record Besides (l l' : TrackOf) (p p' : PoolOf) (us : List TrackOf) : Type 0 where
  pub tracks : tracks_in p' us ≡ tracks_in p us
  pub own : AllByRecursion (OwnsTrack p') us
  pub apart : AllByRecursion (TracksApart l') us

besides : (l l' : TrackOf) (p p' : PoolOf) (us : List TrackOf) → OthersStay l.strip l'.strip p p' →
    AllByRecursion (OwnsTrack p) us → AllByRecursion (TracksApart l) us → Besides l l' p p' us
besides l l' p p' [] others own apart = record { tracks = refl; own = tt; apart = tt }
besides l l' p p' (u ∷ us) others own apart =
    let here = beside_one u others own.0.owns apart.0.apart
    in let rest = besides l l' p p' us others own.1 apart.1
    in record {
      tracks = ap₂ (λ t ts. t ∷ ts) (same_track u here) rest.tracks;
      own = (record { owns = here.beside.owns }, rest.own);
      apart = (record { apart = here.beside.apart }, rest.apart);
    }

-- what a change of one track leaves
pub record Changed (ls : List TrackOf) (k : ℕ) (l' : TrackOf) (p p' : PoolOf) : Type 0 where
  pub tracks : tracks_in p' (set ls k l') ≡ set (tracks_in p ls) k (track_in p' l')
  pub own : AllByRecursion (OwnsTrack p') (set ls k l')
  pub apart : AreApart (set ls k l')

track_changes :
    (ls : List TrackOf) (k : ℕ) (l l' : TrackOf) (p p' : PoolOf) → k < length ls →
    l ≡ get_or ls k l →
    AllByRecursion (OwnsTrack p) ls → AreApart ls →
    Owns l'.strip p' → OthersStay l.strip l'.strip p p' → Changed ls k l' p p'
track_changes [] k l l' p p' less is own apart owns others = absurd (omega arith)
track_changes (x ∷ xs) zero l l' p p' less is own apart owns others =
    let rest =
    besides l l' p p' xs others own.1
    (subst (λ y. AllByRecursion (TracksApart y) xs) (sym is) apart.0)
    in record {
      tracks = ap (λ ts. track_in p' l' ∷ ts) rest.tracks;
      own = (record { owns = owns }, rest.own);
      apart = (rest.apart, apart.1);
    }
track_changes (x ∷ xs) (suc k) l l' p p' less is own apart owns others =
    let fits : k < length xs = omega arith
    in let from : TracksApart x l =
    subst (λ y. TracksApart x y) (sym is) (all_at (TracksApart x) xs k l fits apart.0)
    in let here = beside_one x others own.0.owns (apart_sym from.apart)
    in let rest = track_changes xs k l l' p p' fits is own.1 apart.1 owns others
    in record {
      tracks = ap₂ (λ t ts. t ∷ ts) (same_track x here) rest.tracks;
      own = (record { owns = here.beside.owns }, rest.own);
      apart = (
        all_set (TracksApart x) xs k l' (record { apart = apart_sym here.beside.apart }) apart.0,
        rest.apart,
      );
    }

-- one track more or less
pub used_set : (ts : List Track) (k : ℕ) (t t' : Track) → k < length ts → t ≡ get_or ts k t →
    used (map tape_of (set ts k t')) + chunks_of (tape_of t)
    ≡ used (map tape_of ts) + chunks_of (tape_of t')
used_set ts k t t' less is =
    let fits : k < length (map tape_of ts) = simp length-map less
    in let at : get_or (map tape_of ts) k (tape_of t) ≡ tape_of t =
    get_or-map tape_of ts k t (tape_of t) less ∙ ap tape_of (sym is)
    in let moved = sum_by-set chunks_of (map tape_of ts) k (tape_of t') (tape_of t) fits
    in let tapes : map tape_of (set ts k t') ≡ set (map tape_of ts) k (tape_of t') =
    map-set tape_of ts k t'
    in ap (λ xs. used xs + chunks_of (tape_of t)) tapes
    ∙ ap (λ a. used (set (map tape_of ts) k (tape_of t')) + chunks_of a) (sym at) ∙ moved

-- a track's change, for all tracks
pub record Turned (act : ℕ → Track → Track) (ls : List TrackOf) (k : ℕ) (l l' : TrackOf)
    (p p' : PoolOf) : Type 0 where
  pub tracks : tracks_in p' (set ls k l')
      ≡ set (tracks_in p ls) k (act (reach_in l.strip p) (track_in p l))
  pub inside : AreIn p' (set ls k l')
  pub chunks : all_in p' (set ls k l') ≡ all_in p ls
  pub reach : free_in p' + chunks_of (tape_of (act (reach_in l.strip p) (track_in p l)))
      ≡ reach_in l.strip p
  pub here : track_in p l ≡ get_or (tracks_in p ls) k (track_in p l)

-- one track changed, for all of them
pub turned : (act : ℕ → Track → Track) (ls : List TrackOf) (k : ℕ) (l l' : TrackOf)
    (p p' : PoolOf) →
    k < length ls → l ≡ get_or ls k l → AreIn p ls → DidTrack act l l' p p' →
    Turned act ls k l l' p p'
turned act ls k l l' p p' less is inside did =
    let all = track_changes ls k l l' p p' less is inside.own inside.apart did.owns did.others
    in let fits : k < length (tracks_in p ls) = simp length-map less
    in let here : track_in p l ≡ get_or (tracks_in p ls) k (track_in p l) =
    sym (get_or-map (track_in p) ls k l (track_in p l) less ∙ ap (track_in p) (sym is))
    in let sums = used_set (tracks_in p ls) k (track_in p l) (track_in p' l') fits here
    in let same : used (map tape_of (tracks_in p' (set ls k l')))
    ≡ used (map tape_of (set (tracks_in p ls) k (track_in p' l'))) =
    ap (λ ts. used (map tape_of ts)) all.tracks
    in let reach : free_in p' + chunks_of (tape_of (track_in p' l'))
    ≡ free_in p + chunks_of (tape_of (track_in p l)) = did.reach
    in record {
      tracks = all.tracks ∙ ap (set (tracks_in p ls) k) did.track;
      inside = record { own = all.own; apart = all.apart };
      chunks = omega arith;
      reach = ap (λ t. free_in p' + chunks_of (tape_of t)) (sym did.track) ∙ reach;
      here = here;
    }

-- nothing was done
pub others_as_before : (s : StripOf) (p : PoolOf) → OthersStay s s p p
others_as_before s p = λ u beside. record { beside = beside; same = refl }

-- nothing was done
pub did_nothing : (act : ℕ → Track → Track) (l : TrackOf) (p : PoolOf) → Owns l.strip p →
    act (reach_in l.strip p) (track_in p l) ≡ track_in p l → DidTrack act l l p p
did_nothing act l p owns same =
    record { track = sym same; owns = owns; reach = refl; others = others_as_before l.strip p }

-- the track of an index owns its chunks
pub owned : (ls : List TrackOf) (k : ℕ) (d : TrackOf) (p : PoolOf) → AreIn p ls → k < length ls →
    Owns (get_or ls k d).strip p
owned ls k d p inside less = let own : OwnsTrack p (get_or ls k d) =
    all_at (OwnsTrack p) ls k d less inside.own in own.owns
