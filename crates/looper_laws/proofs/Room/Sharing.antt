-- The room that passes on from loop to loop is what all others leave.
use Rattle.std.proofs.Common.{◌≡◌, ℕ, zero, suc, ◌+◌, ◌-◌, ◌%◌, ◌≤◌, ◌||◌, not, List, [], ◌∷◌, ◌++◌, refl, sym, ap, ◌∙◌, arith, nat_lt}
use Rattle.std.specs.Prelude.{◌==◌}
use Rattle.std.specs.List.{AllByRecursion}
use Rattle.std.proofs.lemmas.Bool.Decides.{nat_tests}
use Rattle.std.proofs.lemmas.List.Sums.{sum_by-cons, sum_by-append, sum_by_push}
use Rattle.sl_base.specs.Sounds.{Sound}
use Rattle.sl_commands.specs.declared.Target.{Target}
use Rattle.sl_commands.specs.declared.Target.TheVariants.{One, All, Selected}
use Rattle.sl_base.specs.Limits.{chunk_frames}
use Rattle.looper_rules.specs.Layers.{Layer}
use Rattle.looper_rules.specs.Room.{chunks_of, used, has_room}
use Rattle.looper_rules.specs.Loop.{Loop}
use Rattle.looper_rules.specs.Looper.{Track, Looper, tape_of, free_of, reach_of, swept, itself, at_index, at_target, on_loop, on_target}
use Rattle.looper_rules.specs.States.{AreWithin, IsTrack, IsLooper}
use Rattle.looper_rules.specs.Sharing.{tapes_of, has_room_among, left_by, in_turn, in_its_turn, in_turn_at, EndWithin, KeepsToReach, TrackKeepsToTape, SharesChunks, StaysInReach}

-- what all loops use, with one tape between the others
used-among : (before behind : List Track) (tape : ℕ) →
    used (tapes_of before ++ tape ∷ tapes_of behind) ≡ used (tapes_of before)
    + (chunks_of tape + used (tapes_of behind))
used-among before behind tape = sum_by-append chunks_of (tapes_of before) (tape ∷ tapes_of behind)
    ∙ ap (λ n. used (tapes_of before) + n) (sum_by-cons chunks_of tape (tapes_of behind))

-- a chunk more is reached where one is left of all
less_than_left : (mine others chunks : ℕ) →
    nat_lt mine (chunks - others) ≡ nat_lt (others + mine) chunks
less_than_left mine others chunks = Prim.grind (arith, nat_tests)

pub has_room-left_by : (chunks tape : ℕ) (before behind : List Track) →
    has_room (left_by chunks before behind) tape ≡ has_room_among chunks before tape behind
has_room-left_by chunks tape before behind =
    let others = used (tapes_of before) + used (tapes_of behind)
    in let sum : others + chunks_of tape ≡ used (tapes_of before ++ tape ∷ tapes_of behind) =
    (let all = used-among before behind tape in omega arith)
    in ap (λ free. not (tape % chunk_frames == 0) || free)
    (less_than_left (chunks_of tape) others chunks ∙ ap (λ n. nat_lt n chunks) sum)

-- with its own tape a track stands among all
tapes_of-append : (before behind : List Track) (t : Track) →
    tapes_of (before ++ t ∷ behind) ≡ tapes_of before ++ tape_of t ∷ tapes_of behind
tapes_of-append [] behind t = refl
tapes_of-append (b ∷ bs) behind t = ap (λ tapes. tape_of b ∷ tapes) (tapes_of-append bs behind t)

pub has_room-own_tape : (chunks : ℕ) (before behind : List Track) (t : Track) →
    has_room (left_by chunks before behind) (tape_of t) ≡ (not (tape_of t % chunk_frames == 0)
    || nat_lt (used (tapes_of (before ++ t ∷ behind))) chunks)
has_room-own_tape chunks before behind t =
    has_room-left_by chunks (tape_of t) before behind
    ∙ ap (λ tapes. not (tape_of t % chunk_frames == 0) || nat_lt (used tapes) chunks)
    (sym (tapes_of-append before behind t))

used-cons : (t : Track) (ts : List Track) →
    used (tapes_of (t ∷ ts)) ≡ chunks_of (tape_of t) + used (tapes_of ts)
used-cons t ts = sum_by-cons chunks_of (tape_of t) (tapes_of ts)

used-push : (before : List Track) (t : Track) →
    used (tapes_of (before ++ t ∷ [])) ≡ used (tapes_of before) + chunks_of (tape_of t)
used-push before t = ap used (tapes_of-append before [] t)
    ∙ sum_by_push chunks_of (tapes_of before) (tape_of t)

-- what a track reaches is what the others leave
reach_of-left_by : (chunks free : ℕ) (before : List Track) (t : Track) (behind : List Track) →
    free + (used (tapes_of before) + used (tapes_of (t ∷ behind))) ≡ chunks →
    reach_of free t ≡ left_by chunks before behind
reach_of-left_by chunks free before t behind sum = (let more = used-cons t behind in omega arith)

-- something done to a track that keeps it in what it reaches
abbrev pub KeepsInReach : {B : Type 0} → (B → Track) → (ℕ → Track → B) → Type 0
KeepsInReach track_of act = (reach : ℕ) (t : Track) → KeepsToReach reach t.loop.stack →
    chunks_of (tape_of (track_of (act reach t))) ≤ reach

-- the sweep hands to each track what the others leave it
swept_from :
    {B : Type 0} (track_of : B → Track) (act : ℕ → Track → B) (chunks free : ℕ)
    (before tracks : List Track) → KeepsInReach track_of act →
    free + (used (tapes_of before) + used (tapes_of tracks)) ≡ chunks →
    AllByRecursion TrackKeepsToTape tracks →
    swept track_of act free tracks ≡ in_turn track_of
    (λ before t behind. act (left_by chunks before behind) t) before tracks
swept_from track_of act chunks free before [] keeps sum tapes = refl
swept_from track_of act chunks free before (t ∷ ts) keeps sum tapes =
    let reach = reach_of free t
    in let here : reach ≡ left_by chunks before ts = reach_of-left_by chunks free before t ts sum
    in let now = act reach t
    in let within : chunks_of (tape_of (track_of now)) ≤ reach =
    keeps reach t (record { tape = tapes.0; chunks = omega arith })
    in let pushed = used-push before (track_of now)
    in let rest = used-cons t ts
    in let next : (reach - chunks_of (tape_of (track_of now)))
    + (used (tapes_of (before ++ track_of now ∷ [])) + used (tapes_of ts)) ≡ chunks =
    omega arith
    in ap (λ tail. now ∷ tail)
    (swept_from track_of act chunks (reach - chunks_of (tape_of (track_of now)))
    (before ++ track_of now ∷ []) ts keeps next tapes.1)
    ∙ ap (λ r. act r t ∷ in_turn track_of (λ before t behind. act (left_by chunks before behind) t)
    (before ++ track_of (act r t) ∷ []) ts) here

pub swept_in_turn :
    {B : Type 0} (track_of : B → Track) (act : ℕ → Track → B) (l : Looper) →
    KeepsInReach track_of act → SharesChunks l →
    swept track_of act (free_of l.chunks l.tracks) l.tracks ≡ in_turn track_of
    (λ before t behind. act (left_by l.chunks before behind) t) [] l.tracks
swept_in_turn track_of act l keeps shares =
    swept_from track_of act l.chunks (free_of l.chunks l.tracks) [] l.tracks keeps
    (let fits = shares.chunks in omega arith) shares.tapes

-- so it is with one track
at_index_from :
    (k : ℕ) (act : ℕ → Track → Track) (chunks free : ℕ) (before tracks : List Track) →
    free + (used (tapes_of before) + used (tapes_of tracks)) ≡ chunks →
    at_index k act free tracks ≡ in_its_turn k
    (λ before t behind. act (left_by chunks before behind) t) before tracks
at_index_from k act chunks free before [] sum = refl
at_index_from zero act chunks free before (t ∷ ts) sum =
    ap (λ r. act r t ∷ ts) (reach_of-left_by chunks free before t ts sum)
at_index_from (suc k) act chunks free before (t ∷ ts) sum =
    let pushed = used-push before t
    in let rest = used-cons t ts
    in let next : free + (used (tapes_of (before ++ t ∷ [])) + used (tapes_of ts)) ≡ chunks =
    omega arith
    in ap (λ tail. t ∷ tail) (at_index_from k act chunks free (before ++ t ∷ []) ts next)

at_index_in_turn : (k : ℕ) (act : ℕ → Track → Track) (l : Looper) → SharesChunks l →
    at_index k act (free_of l.chunks l.tracks) l.tracks ≡ in_its_turn k
    (λ before t behind. act (left_by l.chunks before behind) t) [] l.tracks
at_index_in_turn k act l shares = at_index_from k act l.chunks (free_of l.chunks l.tracks) []
    l.tracks (let fits = shares.chunks in omega arith)

-- and with the tracks of a target
at_target_in_turn :
    (target : Target) (selected : ℕ) (act : ℕ → Track → Track) (l : Looper) →
    KeepsInReach itself act → SharesChunks l →
    at_target target selected act (free_of l.chunks l.tracks) l.tracks ≡ in_turn_at target selected
    (λ before t behind. act (left_by l.chunks before behind) t) l.tracks
at_target_in_turn (One k) selected act l keeps shares = at_index_in_turn k act l shares
at_target_in_turn All selected act l keeps shares = swept_in_turn itself act l keeps shares
at_target_in_turn Selected selected act l keeps shares = at_index_in_turn selected act l shares

pub on_target_in_turn :
    (target : Target) (act : ℕ → Loop Sound → Loop Sound) (l : Looper) → StaysInReach act →
    SharesChunks l →
    (on_target target act l).tracks ≡ in_turn_at target l.globals.selected_loop_num
    (λ before t behind. on_loop act (left_by l.chunks before behind) t) l.tracks
on_target_in_turn target act l stays shares = at_target_in_turn target l.globals.selected_loop_num
    (on_loop act) l (λ reach t fits. stays reach t.loop fits) shares

-- layers within the limits of a state end within their tape
end_within : (tape : ℕ) (layers : List (Layer Sound)) → AreWithin tape layers →
    EndWithin tape layers
end_within tape [] within = tt
end_within tape (l ∷ ls) within = (within.0.1, end_within tape ls within.1)

tracks_keep_to_tape : (frame : ℕ) (ts : List Track) → AllByRecursion (IsTrack frame) ts →
    AllByRecursion TrackKeepsToTape ts
tracks_keep_to_tape frame [] are = tt
tracks_keep_to_tape frame (t ∷ ts) are =
    let stack = are.0.loop.stack
    in (
      record {
        layers = end_within t.loop.stack.tape t.loop.stack.layers stack.layers_within;
        redo = end_within t.loop.stack.tape t.loop.stack.redo stack.redo_within;
        pin =
            stack.pin_within;
      },
      tracks_keep_to_tape frame ts are.1,
    )

-- a looper that a run reaches shares its chunks
pub looper_shares : (frame : ℕ) (l : Looper) → IsLooper frame l → SharesChunks l
looper_shares frame l is =
    record { tapes = tracks_keep_to_tape frame l.tracks is.tracks; chunks = is.chunks }
