-- New tracks, and lists that are laid on their tapes.
use Rattle.std.proofs.Common.{◌≡◌, ℕ, zero, suc, ◌+◌, ◌<◌, ◌≤◌, Bool, true, false, ◌&&◌, List, [], ◌∷◌, length, map, set, get_or, take, drop, nat_le, length-take, length-set, refl, sym, ap, ap₂, ◌∙◌, subst, arith}
use Rattle.std.specs.Prelude.{◌==◌}
use Rattle.std.specs.List.{AllByRecursion}
use Rattle.std.proofs.lemmas.List.{length-map, drop-set-lt, take_all, get_or_default}
use Rattle.std.proofs.lemmas.List.Sums.{sum_by-cons}
use Rattle.sl_base.specs.Limits.{max_list_frames}
use Rattle.sl_base.specs.Sounds.{Sound}
use Rattle.sl_commands.specs.declared.StripSettings.{StripSettings}
use Rattle.sl_commands.specs.Settings.{is_strip, are_strips, is_cycle_of, default_strip}
use Rattle.looper_rules.specs.Room.{chunks_of, used}
use Rattle.looper_rules.specs.Looper.{tape_of, on_loop}
use Rattle.looper_rules.specs.Run.{first_track, first_tracks}
use Rattle.looper_rules.specs.Reached.{AreLists}
use Rattle.loop_tape.specs.Pools.{PoolOf}
use Rattle.loop_strip.specs.Strips.{seen, free_in, reach_in, Owns}
use Rattle.looper_tracks.specs.Track.{TrackOf, track_in, tracks_in, OwnsTrack, TracksApart, AreApart, AreIn, DidTrack, all_in}
use Rattle.loop_strip.specs.Loading.{loads}
use Rattle.looper_tracks.specs.Beginnings.{new_track, MayLoad, HaveLoaded}
use Rattle.looper_tracks.proofs.TrackLemmas.{owned, turned, did_nothing}
use Rattle.looper_tracks.proofs.SweepLemmas.{rest_on}

-- a new track is a first track of the rules
track_in-new_track : (chunks : ℕ) (s : StripSettings) (p : PoolOf) →
    track_in p (new_track chunks s) ≡ first_track [] s
unfolding seen
track_in-new_track chunks s p = refl

tracks_in-new_track : (chunks : ℕ) (ss : List StripSettings) (p : PoolOf) →
    tracks_in p (map (new_track chunks) ss) ≡ first_tracks ss []
tracks_in-new_track chunks [] p = refl
tracks_in-new_track chunks (s ∷ ss) p =
    ap₂ (λ t ts. t ∷ ts) (track_in-new_track chunks s p) (tracks_in-new_track chunks ss p)

-- new tracks own no chunks
new_owns : (chunks : ℕ) (s : StripSettings) (p : PoolOf) → p.all ≤ chunks →
    Owns (new_track chunks s).strip p
new_owns chunks s p fits = record {
  tape = record {
    inside = λ i less. absurd (omega arith);
    once = λ i j less other same. absurd (omega arith);
    taken = λ i j less other same. absurd (omega arith);
    fits = fits;
  };
  whole = refl;
  length = refl;
  low = record { layers = tt; redo = tt; pin = tt };
}

new_own : (chunks : ℕ) (ss : List StripSettings) (p : PoolOf) → p.all ≤ chunks →
    AllByRecursion (OwnsTrack p) (map (new_track chunks) ss)
new_own chunks [] p fits = tt
new_own chunks (s ∷ ss) p fits =
    (record { owns = new_owns chunks s p fits }, new_own chunks ss p fits)

new_beside : (chunks : ℕ) (l : TrackOf) (ss : List StripSettings) →
    AllByRecursion (TracksApart l) (map (new_track chunks) ss)
new_beside chunks l [] = tt
new_beside chunks l (s ∷ ss) = (
  record { apart = record { tapes = λ i j less other same. absurd (omega arith) } },
  new_beside chunks l ss,
)

new_apart : (chunks : ℕ) (ss : List StripSettings) → AreApart (map (new_track chunks) ss)
new_apart chunks [] = tt
new_apart chunks (s ∷ ss) = (new_beside chunks (new_track chunks s) ss, new_apart chunks ss)

-- new tracks stand over any pool
pub new_in : (chunks : ℕ) (ss : List StripSettings) (p : PoolOf) → p.all ≤ chunks →
    AreIn p (map (new_track chunks) ss)
new_in chunks ss p fits = record { own = new_own chunks ss p fits; apart = new_apart chunks ss }

-- what the tapes of first tracks use
first_tape : (list : List Sound) (s : StripSettings) → tape_of (first_track list s) ≡ length list
first_tape [] s = refl
first_tape (x ∷ xs) s = refl

no_tapes : (ss : List StripSettings) → used (map tape_of (first_tracks ss [])) ≡ 0
no_tapes [] = refl
no_tapes (s ∷ ss) = no_tapes ss

-- there are no more lists than strips
pub fewer_lists : (ss : List StripSettings) (lists : List (List Sound)) → AreLists ss lists →
    length lists ≤ length ss
fewer_lists [] [] are = omega arith
fewer_lists [] (list ∷ lists) are = absurd are
fewer_lists (s ∷ ss) [] are = omega arith
fewer_lists (s ∷ ss) (list ∷ lists) are = let rest = fewer_lists ss lists are.1 in omega arith

used-cons : (n : ℕ) (ns : List ℕ) → used (n ∷ ns) ≡ chunks_of n + used ns
used-cons n ns = sum_by-cons chunks_of n ns

used_tapes : (ss : List StripSettings) (lists : List (List Sound)) → length lists ≤ length ss →
    used (map tape_of (first_tracks ss lists)) ≡ used (map length lists)
used_tapes [] [] less = refl
used_tapes [] (list ∷ lists) less = absurd (omega arith)
used_tapes (s ∷ ss) [] less = no_tapes ss
used_tapes (s ∷ ss) (list ∷ lists) less =
    used-cons (tape_of (first_track list s)) (map tape_of (first_tracks ss lists))
    ∙ ap₂ (λ a b. chunks_of a + b) (first_tape list s) (used_tapes ss lists (omega arith))
    ∙ sym (used-cons (length list) (map length lists))

-- one list more
pub first_set : (ss : List StripSettings) (lists : List (List Sound)) (k : ℕ) (ds : List Sound)
    (d : StripSettings) → k < length lists → length lists ≤ length ss →
    set (first_tracks ss (take k lists)) k (first_track (get_or lists k ds) (get_or ss k d))
    ≡ first_tracks ss (take (suc k) lists)
first_set [] [] k ds d less fewer = absurd (omega arith)
first_set [] (list ∷ lists) k ds d less fewer = absurd (omega arith)
first_set (s ∷ ss) [] k ds d less fewer = absurd (omega arith)
first_set (s ∷ ss) (list ∷ lists) zero ds d less fewer = refl
first_set (s ∷ ss) (list ∷ lists) (suc k) ds d less fewer =
    ap (λ ts. first_track list s ∷ ts) (first_set ss lists k ds d (omega arith) (omega arith))

-- what the settings say of the list of this index
pub record IsListOf (s : StripSettings) (list : List Sound) : Type 0 where
  pub valid : is_strip s ≡ true
  pub length_is : s.length ≡ length list

both_true : (a b : Bool) → (a && b) ≡ true → (a ≡ true) × (b ≡ true)
both_true true b h = (refl, h)
both_true false b h = let off : ⊥ = cc in absurd off

-- the list of an index is as its strip says
pub list_at : (ss : List StripSettings) (lists : List (List Sound)) (k : ℕ) (ds : List Sound)
    (d : StripSettings) → are_strips ss ≡ true → AreLists ss lists → k < length lists →
    IsListOf (get_or ss k d) (get_or lists k ds)
list_at [] [] k ds d valid are less = absurd (omega arith)
list_at [] (list ∷ lists) k ds d valid are less = absurd are
list_at (s ∷ ss) [] k ds d valid are less = absurd (omega arith)
list_at (s ∷ ss) (list ∷ lists) zero ds d valid are less =
    record { valid = (both_true (is_strip s) (are_strips ss) valid).0; length_is = are.0 }
list_at (s ∷ ss) (list ∷ lists) (suc k) ds d valid are less =
    list_at ss lists k ds d (both_true (is_strip s) (are_strips ss) valid).1 are.1 (omega arith)

six_parts : (a b c d e f g : Bool) → (a && b && c && d && e && f && g) ≡ true →
    (a ≡ true) × (b ≡ true)
six_parts a b c d e f g h =
    let one = both_true (a && b && c && d && e && f) g h
    in let two = both_true (a && b && c && d && e) f one.0
    in let three = both_true (a && b && c && d) e two.0
    in let four = both_true (a && b && c) d three.0
    in let five = both_true (a && b) c four.0
    in both_true a b five.0

-- a strip of a list that isn't empty has a cycle of 1 to its length
cycle_of : (length cycle : ℕ) → 1 ≤ length → is_cycle_of length cycle ≡ true →
    (1 ≤ cycle) × (cycle ≤ length)
cycle_of zero cycle some valid = absurd (omega arith)
cycle_of (suc n) cycle some valid =
    let parts = both_true (nat_le 1 cycle) (nat_le cycle (suc n)) valid
    in (search (arith, parts.0), search (arith, parts.1))

-- the list of this index needs no more than is left
used_take : (lists : List (List Sound)) (k : ℕ) (ds : List Sound) → k < length lists →
    used (map length (take k lists)) + chunks_of (length (get_or lists k ds))
    ≤ used (map length lists)
used_take [] k ds less = absurd (omega arith)
used_take (list ∷ lists) zero ds less = let sum = used-cons (length list) (map length lists)
    in omega arith
used_take (list ∷ lists) (suc k) ds less =
    let rest = used_take lists k ds (omega arith)
    in let sum = used-cons (length list) (map length lists)
    in let taken = used-cons (length list) (map length (take k lists))
    in omega arith

-- the track of an index behind those that were changed
track_of : {X : Type 0} (f : X → TrackOf) (ls : List TrackOf) (ss : List X) (k : ℕ) (d : TrackOf)
    (ds : X) → drop k ls ≡ drop k (map f ss) → k < length ss → length ls ≡ length ss →
    get_or ls k d ≡ f (get_or ss k ds)
track_of f [] [] k d ds same less count = absurd (omega arith)
track_of f [] (s ∷ ss) k d ds same less count = absurd (omega arith)
track_of f (l ∷ ls) [] k d ds same less count = absurd (omega arith)
track_of f (l ∷ ls) (s ∷ ss) zero d ds same less count = ap (λ xs. get_or xs 0 l) same
track_of f (l ∷ ls) (s ∷ ss) (suc k) d ds same less count =
    track_of f ls ss k d ds same (omega arith) (omega arith)

-- so many lists were laid, and the tracks behind are new
pub record Loading (ss : List StripSettings) (lists : List (List Sound)) (chunks all : ℕ)
    (ls : List TrackOf) (p : PoolOf) (k : ℕ) : Type 0 where
  pub tracks : tracks_in p ls ≡ first_tracks ss (take k lists)
  pub rest : drop k ls ≡ drop k (map (new_track chunks) ss)
  pub inside : AreIn p ls
  pub sum : all_in p ls ≡ all
  pub count : length ls ≡ length ss

-- before any list is laid
pub loading_none : (ss : List StripSettings) (lists : List (List Sound)) (room chunks : ℕ)
    (ls : List TrackOf) (p : PoolOf) → ls ≡ map (new_track room) ss → p.all ≤ room →
    free_in p ≡ chunks →
    Loading ss lists room chunks ls p 0
loading_none ss lists room chunks ls p is fits all =
    let tracks : tracks_in p ls ≡ first_tracks ss [] = ap (tracks_in p) is
    ∙ tracks_in-new_track room ss p
    in let none : used (map tape_of (tracks_in p ls)) ≡ 0 = ap (λ ts. used (map tape_of ts)) tracks
    ∙ no_tapes ss
    in record {
      tracks = tracks;
      rest = is;
      inside = subst (λ us. AreIn p us) (sym is) (new_in room ss p fits);
      sum = omega arith;
      count = ap length is ∙ simp length-map refl;
    }

-- the track of this index may begin with its list
pub may_load : (ss : List StripSettings) (lists : List (List Sound)) (room chunks : ℕ)
    (ls : List TrackOf) (p : PoolOf) (k : ℕ) (d : TrackOf) (ds : List Sound) (s : StripSettings) →
    are_strips ss ≡ true → AreLists ss lists → used (map length lists) ≤ chunks → k < length lists →
    Loading ss lists room chunks ls p k →
    MayLoad (get_or ss k s) (get_or lists k ds) room (get_or ls k d) p
may_load ss lists room chunks ls p k d ds s valid are fits less h =
    let fewer = fewer_lists ss lists are
    in let less_ss : k < length ss = omega arith
    in let long : length (take k lists) ≤ length ss =
    (let taken = length-take k lists in omega arith)
    in let used_now : used (map tape_of (tracks_in p ls)) ≡ used (map length (take k lists)) =
    ap (λ ts. used (map tape_of ts)) h.tracks ∙ used_tapes ss (take k lists) long
    in let needs = used_take lists k ds less
    in let all = h.sum
    in record {
      track = track_of (new_track room) ls ss k d s h.rest less_ss h.count;
      owns = owned ls k d p h.inside (let same = h.count in omega arith);
      valid = (list_at ss lists k ds s valid are less).valid;
      long = (list_at ss lists k ds s valid are less).length_is;
      room = omega arith;
    }

-- one list more was laid
pub loading_more : (ss : List StripSettings) (lists : List (List Sound)) (room chunks : ℕ)
    (ls : List TrackOf) (p p' : PoolOf) (k : ℕ) (d l' : TrackOf) (ds : List Sound)
    (s : StripSettings) →
    AreLists ss lists → k < length lists → Loading ss lists room chunks ls p k →
    DidTrack (λ reach t. first_track (get_or lists k ds) (get_or ss k s)) (get_or ls k d) l' p
    p' →
    Loading ss lists room chunks (set ls k l') p' (k + 1)
loading_more ss lists room chunks ls p p' k d l' ds s are less h did =
    let fewer = fewer_lists ss lists are
    in let less_ls : k < length ls = (let same = h.count in omega arith)
    in let now =
    turned _ ls k (get_or ls k d) l' p p' less_ls
    (get_or_default ls k d (get_or ls k d) less_ls) h.inside did
    in let at : suc k ≡ k + 1 = omega arith
    in record {
      tracks =
          now.tracks
          ∙ ap (λ ts. set ts k (first_track (get_or lists k ds) (get_or ss k s))) h.tracks
          ∙ first_set ss lists k ds s less fewer
          ∙ ap (λ n. first_tracks ss (take n lists)) at;
      rest = drop-set-lt (k + 1) ls k l' (omega arith)
          ∙ rest_on ls (map (new_track room) ss) k h.rest;
      inside = now.inside;
      sum = now.chunks ∙ h.sum;
      count = simp length-set h.count;
    }

-- once all are laid
pub loading_all : (ss : List StripSettings) (lists : List (List Sound)) (room chunks : ℕ)
    (ls : List TrackOf) (p : PoolOf) (k : ℕ) → length lists ≤ k →
    Loading ss lists room chunks ls p k → HaveLoaded ss lists chunks ls p
loading_all ss lists room chunks ls p k past h = record {
  tracks = h.tracks ∙ ap (first_tracks ss) (take_all k lists past);
  inside = h.inside;
  chunks = h.sum;
  count = h.count;
}

-- a new track that begins with its list is its first track
loaded_track : (chunks : ℕ) (s : StripSettings) (list : List Sound) (reach : ℕ) (p : PoolOf) →
    1 ≤ length list →
    on_loop (loads list s.cycle) reach (track_in p (new_track chunks s)) ≡ first_track list s
unfolding seen
loaded_track chunks s [] reach p some = absurd (omega arith)
loaded_track chunks s (x ∷ xs) reach p some = refl

-- a track that begins with its list
pub track_begun : (chunks : ℕ) (s : StripSettings) (list : List Sound) (l l' : TrackOf)
    (p p' : PoolOf) → l ≡ new_track chunks s → 1 ≤ length list →
    DidTrack (on_loop (loads list s.cycle)) l l' p p' →
    DidTrack (λ reach t. first_track list s) l l' p p'
track_begun chunks s list l l' p p' is some did = record {
  track = did.track ∙ ap (λ u. on_loop (loads list s.cycle) (reach_in l.strip p) (track_in p u)) is
      ∙ loaded_track chunks s list (reach_in l.strip p) p some;
  owns = did.owns;
  reach = did.reach;
  others = did.others;
}

-- a track that begins with none
pub track_without : (chunks : ℕ) (s : StripSettings) (list : List Sound) (l : TrackOf)
    (p : PoolOf) →
    MayLoad s list chunks l p → length list ≡ 0 → DidTrack (λ reach t. first_track list s) l l p p
track_without chunks s (x ∷ xs) l p may none = absurd (omega arith)
track_without chunks s [] l p may none =
    did_nothing (λ reach t. first_track [] s) l p may.owns
    (sym (ap (track_in p) may.track ∙ track_in-new_track chunks s p))

-- what a strip asks of a list
pub cycles : (s : StripSettings) (list : List Sound) → is_strip s ≡ true → s.length ≡ length list →
    1 ≤ length list → (1 ≤ s.cycle) × (s.cycle ≤ length list)
cycles s list valid long some =
    let all =
    six_parts (nat_le s.length max_list_frames) (is_cycle_of s.length s.cycle) _ _ _ _ _ valid
    in let cycle = cycle_of s.length s.cycle (omega arith) all.1
    in (cycle.0, omega (arith, cycle.1))

-- a list as its strip says is short
pub short : (s : StripSettings) (list : List Sound) → is_strip s ≡ true → s.length ≡ length list →
    length list ≤ max_list_frames
short s list valid long =
    let all =
    six_parts (nat_le s.length max_list_frames) (is_cycle_of s.length s.cycle) _ _ _ _ _ valid
    in let less : s.length ≤ max_list_frames = search (arith, all.0)
    in omega arith

-- the chunks of one list more
pub used_more : (lists : List (List Sound)) (k : ℕ) (ds : List Sound) → k < length lists →
    used (map length (take (k + 1) lists))
    ≡ used (map length (take k lists)) + chunks_of (length (get_or lists k ds))
used_more lists k ds less = let at : suc k ≡ k + 1 = omega arith
    in subst
    (λ n. used (map length (take n lists))
    ≡ used (map length (take k lists)) + chunks_of (length (get_or lists k ds))) at
    (used_next lists k ds less)
  where
    used_next : (lists : List (List Sound)) (k : ℕ) (ds : List Sound) → k < length lists →
        used (map length (take (suc k) lists))
        ≡ used (map length (take k lists)) + chunks_of (length (get_or lists k ds))
    used_next [] k ds less = absurd (omega arith)
    used_next (list ∷ lists) zero ds less = let sum = used-cons (length list) [] in omega arith
    used_next (list ∷ lists) (suc k) ds less =
        let rest = used_next lists k ds (omega arith)
        in let sum = used-cons (length list) (map length (take (suc k) lists))
        in let taken = used-cons (length list) (map length (take k lists))
        in omega arith

-- the same of a list that is shown
pub may_as : (lists : List (List Sound)) (list shown : List Sound) (k : ℕ) (s : StripSettings)
    (room : ℕ) (l : TrackOf) {p : PoolOf} → list ≡ get_or lists k list → shown ≡ list →
    MayLoad s (get_or lists k list) room l p → MayLoad s shown room l p
may_as lists list shown k s room l {p} is same may =
    subst (λ zs. MayLoad s zs room l p) (sym is ∙ sym same) may

-- the same of the list of an index
pub did_as : (lists : List (List Sound)) (list shown : List Sound) (k : ℕ) (s : StripSettings)
    (l l' : TrackOf) (p : PoolOf) {p' : PoolOf} → list ≡ get_or lists k list → shown ≡ list →
    DidTrack (λ reach t. first_track shown s) l l' p p' →
    DidTrack (λ reach t. first_track (get_or lists k list) s) l l' p p'
did_as lists list shown k s l l' p {p'} is same did =
    subst (λ zs. DidTrack (λ reach t. first_track zs s) l l' p p') (same ∙ is) did

-- the list of an index is short
pub short_at : (ss : List StripSettings) (lists : List (List Sound)) (list : List Sound) (k n : ℕ) →
    are_strips ss ≡ true → AreLists ss lists → k < length lists → list ≡ get_or lists k list →
    n ≡ length list → n ≤ max_list_frames
short_at ss lists list k n valid are less is long =
    let here = list_at ss lists k list default_strip valid are less
    in let within =
    short (get_or ss k default_strip) (get_or lists k list) here.valid here.length_is
    in let same : length list ≡ length (get_or lists k list) = ap length is
    in omega arith

-- a test for no elements
pub some_where : (b : Bool) (n : ℕ) → b ≡ (n == 0) → b ≡ false → 1 ≤ n
some_where b n is isnt = grind (arith, is, isnt)

-- a length that is 0
pub none_where : (b : Bool) (n : ℕ) → b ≡ (n == 0) → b ≡ true → n ≡ 0
none_where b n is isit = grind (arith, is, isit)
