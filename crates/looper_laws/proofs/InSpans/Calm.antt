-- Where no verb waits no boundary acts, and none acts where none comes by faces that keep time.
use Rattle.std.proofs.Common.{◌≡◌, ◌⊎◌, inl, inr, ℕ, zero, suc, ◌+◌, ◌-◌, ◌%◌, ◌/◌, ◌<◌, max, Bool, true, false, not, ◌||◌, List, [], ◌∷◌, length, map, Option, Some, None, option_map, refl, sym, ap, ap₂, ◌∙◌, subst, arith, cond, ℤ, pos, negsuc, add-zero}
use Rattle.std.specs.Prelude.{⊤, IsTrue, IfSome, slice_get, ◌==◌}
use Rattle.std.specs.List.{AllByRecursion}
use Rattle.std.proofs.lemmas.Option.{slice_get-map}
use Rattle.sl_base.specs.Sounds.{Sound}
use Rattle.sl_commands.specs.declared.Verb.{Verb}
use Rattle.sl_commands.specs.declared.Face.{Face}
use Rattle.sl_commands.specs.declared.Globals.{Globals}
use Rattle.looper_rules.specs.Room.{chunks_of}
use Rattle.looper_rules.specs.Loop.{Controls, Loop}
use Rattle.looper_rules.specs.Presses.{waiting_acts, waiting_acts_from}
use Rattle.looper_rules.specs.Boundaries.{unit_of, source_at_unit, is_boundary}
use Rattle.looper_rules.specs.FacesLater.{face_later, face_behind, is_boundary_behind}
use Rattle.looper_rules.specs.Looper.{Track, Looper, tape_of, face_on, faces_of, free_of, reach_of, swept, itself, on_loop}
use Rattle.looper_rules.specs.Frame.{played_on, played, framed_from, at_boundary}
use Rattle.looper_rules.specs.TrackSpans.{IsCalm}
use Rattle.looper_laws.specs.Spans.{NoVerbWaits, keeps_time, KeepsTime, NoBoundaryWithin, IsClearFor}
use Rattle.looper_laws.proofs.InSpans.Time.{IsAtTimeOf, keeps_runs, later_at_time}
use Rattle.looper_laws.proofs.InSpans.Controls.{frame_controls}
use Rattle.looper_laws.proofs.InSpans.Waiting.{frame_waiting}

-- a loop on which no verb waits, at a boundary
nothing_acts : (waiting : Option Verb) (reach : ℕ) (l : Loop Sound) → waiting ≡ None →
    waiting_acts_from waiting reach l ≡ l
nothing_acts waiting reach l is = ap (λ w. waiting_acts_from w reach l) is

either_same : (b : Bool) (l m : Loop Sound) → m ≡ l → cond b m l ≡ l
either_same true l m is = is
either_same false l m is = refl

-- a track that a boundary leaves alone: no verb waits, or this is no boundary
record IsStill (g : Globals) (frame : ℕ) (faces : List Face) (t : Track) : Type 0 where
  still : (t.loop.deck.waiting ≡ None)
      ⊎ (is_boundary g.sync_source t.loop.controls.quantize g.pulse frame faces ≡ false)

still_here : (g : Globals) (frame : ℕ) (faces : List Face) (reach : ℕ) (t : Track) →
    (t.loop.deck.waiting ≡ None)
    ⊎ (is_boundary g.sync_source t.loop.controls.quantize g.pulse frame faces ≡ false) →
    at_boundary g frame faces reach t.loop ≡ t.loop
still_here g frame faces reach t (inl none) =
    either_same (is_boundary g.sync_source t.loop.controls.quantize g.pulse frame faces) t.loop
    (waiting_acts reach t.loop)
    (nothing_acts t.loop.deck.waiting reach t.loop none)
still_here g frame faces reach t (inr isnt) =
    ap (λ b. cond b (waiting_acts reach t.loop) t.loop) isnt

all_still : (g : Globals) (frame : ℕ) (faces : List Face) (free : ℕ) (ts : List Track) →
    AllByRecursion (IsStill g frame faces) ts →
    swept itself (on_loop (at_boundary g frame faces)) free ts ≡ ts
all_still g frame faces free [] all = refl
all_still g frame faces free (t ∷ ts) all =
    let reach = reach_of free t
    in let act = on_loop (at_boundary g frame faces)
    in let here : act reach t ≡ t = ap (λ (l : Loop Sound). let u : Track = record t { loop = l } in
    u) (still_here g frame faces reach t all.0.still)
    in ap₂ (λ u us. u ∷ us) here
    (all_still g frame faces (reach - chunks_of (tape_of (act reach t))) ts all.1)

same_tracks : (l : Looper) (ts : List Track) → ts ≡ l.tracks → record l { tracks = ts } ≡ l
same_tracks l ts is = ap (λ us. let m : Looper = record l { tracks = us } in m) is

-- where no verb waits
none_still : (g : Globals) (frame : ℕ) (faces : List Face) (ts : List Track) →
    AllByRecursion NoVerbWaits ts → AllByRecursion (IsStill g frame faces) ts
none_still g frame faces [] all = tt
none_still g frame faces (t ∷ ts) all =
    (record { still = inl all.0.waiting }, none_still g frame faces ts all.1)

none_waits_on : (step : ℕ) (x : Sound) (free : ℕ) (ts : List Track) →
    AllByRecursion NoVerbWaits ts →
    AllByRecursion NoVerbWaits (map played_on (swept played_on (played step x) free ts))
none_waits_on step x free [] all = tt
none_waits_on step x free (t ∷ ts) all =
    let reach = reach_of free t
    in (
      record { waiting = frame_waiting x reach t.loop ∙ all.0.waiting },
      none_waits_on step x (reach - chunks_of (tape_of (played step x reach t).track)) ts all.1,
    )

pub calm_where_none_waits : (frame : ℕ) (xs : List Sound) (l : Looper) →
    AllByRecursion NoVerbWaits l.tracks → IsCalm frame xs l
calm_where_none_waits frame [] l all = tt
calm_where_none_waits frame (x ∷ xs) l all = (
  same_tracks l _ (all_still l.globals frame (faces_of l) (free_of l.chunks l.tracks) l.tracks
      (none_still l.globals frame (faces_of l) l.tracks all)),
  calm_where_none_waits (frame + 1) xs (framed_from x l).looper
      (none_waits_on l.globals.fade_step x (free_of l.chunks l.tracks) l.tracks all),
)

-- the same of faces that may be there
IsSameTime : Option Face → Option Face → Type 0
IsSameTime None None = ⊤
IsSameTime (Some a) (Some b) = IsAtTimeOf a b
IsSameTime _ _ = ⊥

-- the faces of all tracks one frame later
tracks_at_time :
    (step : ℕ) (x : Sound) (k free : ℕ) (ts : List Track) (b : Option Face) →
    IsSameTime (slice_get (map face_on ts) k) b →
    IsSameTime (slice_get (map face_on (map played_on (swept played_on (played step x) free ts))) k)
    (option_map face_later b)
unfolding IsSameTime
tracks_at_time step x k free [] None h = tt
tracks_at_time step x k free [] (Some b) h = absurd h
tracks_at_time step x zero free (t ∷ ts) None h = absurd h
tracks_at_time step x zero free (t ∷ ts) (Some b) h = later_at_time x (reach_of free t) t.loop b h
tracks_at_time step x (suc k) free (t ∷ ts) b h =
    tracks_at_time step x k
    (reach_of free t - chunks_of (tape_of (played step x (reach_of free t) t).track)) ts b h

-- whether a source is at a unit
same_unit : (quantize : ℕ) (a b : Face) → IsAtTimeOf a b →
    source_at_unit quantize (Some a) ≡ source_at_unit quantize (Some b)
same_unit quantize a b h =
    let here = keeps_runs a.mode a.cycle h.keeps
    in let there = keeps_runs b.mode b.cycle h.keeps_too
    in let unit : unit_of quantize a ≡ unit_of quantize b =
    ap₂ (λ cycle length. cond (quantize == 1) cycle
    (cond (quantize == 2) (max 1 (cycle / 8)) length)) h.cycle h.length
    in ap₂ (λ r n. not r || n == 0) here (ap₂ (λ p u. p % u) h.pos unit)
    ∙ sym (ap (λ r. not r || b.pos % unit_of quantize b == 0) there)

same_source : (quantize : ℕ) (a b : Option Face) → IsSameTime a b →
    source_at_unit quantize a ≡ source_at_unit quantize b
unfolding IsSameTime
same_source quantize None None h = refl
same_source quantize (Some a) (Some b) h = same_unit quantize a b h
same_source quantize None (Some b) h = absurd h
same_source quantize (Some a) None h = absurd h

-- the source's face so many frames behind others
IsTime : ℤ → ℕ → List Face → List Face → Type 0
IsTime (pos (suc k)) count faces now =
    IsSameTime (slice_get now k) (option_map (face_behind count) (slice_get faces k))
IsTime _ count faces now = ⊤

-- so many frames and one more
face_behind-more : (count : ℕ) (face : Face) →
    face_behind (suc count) face ≡ face_later (face_behind count face)
face_behind-more zero face = refl
face_behind-more (suc count) face = face_behind-more count (face_later face)

behind_more : (count : ℕ) (face : Option Face) →
    option_map (face_behind (suc count)) face ≡ option_map face_later
    (option_map (face_behind count) face)
behind_more count None = refl
behind_more count (Some face) = ap Some (face_behind-more count face)

time_on : (source : ℤ) (count : ℕ) (faces : List Face) (step : ℕ) (x : Sound) (free : ℕ)
    (ts : List Track) → IsTime source count faces (map face_on ts) →
    IsTime source (suc count) faces
    (map face_on (map played_on (swept played_on (played step x) free ts)))
unfolding IsTime
time_on (pos zero) count faces step x free ts h = tt
time_on (pos (suc k)) count faces step x free ts h =
    let later = tracks_at_time step x k free ts (option_map (face_behind count) (slice_get faces k))
    h
    in subst (IsSameTime
    (slice_get (map face_on (map played_on (swept played_on (played step x) free ts))) k))
    (sym (behind_more count (slice_get faces k))) later
time_on (negsuc n) count faces step x free ts h = tt

-- the boundary is the one that the faces of the beginning tell
same_boundary : (source : ℤ) (quantize pulse frame count : ℕ) (faces now : List Face) →
    IsTime source count faces now →
    is_boundary source quantize pulse (frame + count) now ≡ is_boundary_behind source quantize pulse
    frame faces count
unfolding IsTime
same_boundary (pos zero) quantize pulse frame count faces now h = refl
same_boundary (pos (suc k)) quantize pulse frame count faces now h =
    ap (λ b. quantize == 0 || b)
    (same_source quantize (slice_get now k) (option_map (face_behind count) (slice_get faces k))
    h ∙ ap (source_at_unit quantize) (sym (slice_get-map (face_behind count) faces k)))
same_boundary (negsuc n) quantize pulse frame count faces now h = refl

-- no boundary comes for a track in so many frames, the first of them so far behind the faces
record IsClearAhead (g : Globals) (frame : ℕ) (faces : List Face) (count left : ℕ)
    (t : Track) : Type 0 where
  ahead : (t.loop.deck.waiting ≡ None)
      ⊎ ((n : ℕ) → n < left → is_boundary_behind g.sync_source t.loop.controls.quantize g.pulse
      frame faces (count + n) ≡ false)

still_ahead : (g : Globals) (frame count left : ℕ) (faces now : List Face) (t : Track) →
    IsTime g.sync_source count faces now →
    (t.loop.deck.waiting ≡ None)
    ⊎ ((n : ℕ) → n < suc left → is_boundary_behind g.sync_source t.loop.controls.quantize g.pulse
    frame faces (count + n) ≡ false) →
    (t.loop.deck.waiting ≡ None)
    ⊎ (is_boundary g.sync_source t.loop.controls.quantize g.pulse (frame + count) now ≡ false)
still_ahead g frame count left faces now t time (inl none) = inl none
still_ahead g frame count left faces now t time (inr clear) =
    inr (same_boundary g.sync_source t.loop.controls.quantize g.pulse frame count faces now time
    ∙ subst (λ n. is_boundary_behind g.sync_source t.loop.controls.quantize g.pulse frame faces
    n ≡ false) (add-zero count) (clear 0 (omega arith)))

all_still_ahead : (g : Globals) (frame count left : ℕ) (faces now : List Face) (ts : List Track) →
    IsTime g.sync_source count faces now →
    AllByRecursion (IsClearAhead g frame faces count (suc left)) ts →
    AllByRecursion (IsStill g (frame + count) now) ts
all_still_ahead g frame count left faces now [] time all = tt
all_still_ahead g frame count left faces now (t ∷ ts) time all = (
  record { still = still_ahead g frame count left faces now t time all.0.ahead },
  all_still_ahead g frame count left faces now ts time all.1,
)

ahead_on : (g : Globals) (frame count left : ℕ) (faces : List Face) (t later : Track) →
    later.loop.controls ≡ t.loop.controls → later.loop.deck.waiting ≡ t.loop.deck.waiting →
    (t.loop.deck.waiting ≡ None)
    ⊎ ((n : ℕ) → n < suc left → is_boundary_behind g.sync_source t.loop.controls.quantize g.pulse
    frame faces (count + n) ≡ false) →
    (later.loop.deck.waiting ≡ None)
    ⊎ ((n : ℕ) → n < left → is_boundary_behind g.sync_source later.loop.controls.quantize g.pulse
    frame faces (suc count + n) ≡ false)
ahead_on g frame count left faces t later controls waiting (inl none) = inl (waiting ∙ none)
ahead_on g frame count left faces t later controls waiting (inr clear) =
    inr (λ n less.
    let same : count + suc n ≡ suc count + n = omega arith
    in ap (λ (c : Controls). is_boundary_behind g.sync_source c.quantize g.pulse frame faces
    (suc count + n)) controls
    ∙ subst (λ m. is_boundary_behind g.sync_source t.loop.controls.quantize g.pulse frame faces
    m ≡ false) same (clear (suc n) (omega arith)))

all_ahead_on : (g : Globals) (frame count left : ℕ) (faces : List Face) (step : ℕ) (x : Sound)
    (free : ℕ) (ts : List Track) →
    AllByRecursion (IsClearAhead g frame faces count (suc left)) ts →
    AllByRecursion (IsClearAhead g frame faces (suc count) left)
    (map played_on (swept played_on (played step x) free ts))
all_ahead_on g frame count left faces step x free [] all = tt
all_ahead_on g frame count left faces step x free (t ∷ ts) all =
    let reach = reach_of free t
    in let later = (played step x reach t).track
    in (
      record {
        ahead = ahead_on g frame count left faces t later (frame_controls x reach t.loop)
            (frame_waiting x reach t.loop) all.0.ahead;
      },
      all_ahead_on g frame count left faces step x (reach - chunks_of (tape_of later)) ts all.1,
    )

calm_ahead : (frame count : ℕ) (faces : List Face) (xs : List Sound) (l : Looper) →
    AllByRecursion (IsClearAhead l.globals frame faces count (length xs)) l.tracks →
    IsTime l.globals.sync_source count faces (faces_of l) → IsCalm (frame + count) xs l
calm_ahead frame count faces [] l all time = tt
calm_ahead frame count faces (x ∷ xs) l all time =
    let free = free_of l.chunks l.tracks
    in let next = (framed_from x l).looper
    in let rest : IsCalm (frame + suc count) xs next =
    calm_ahead frame (suc count) faces xs next
    (all_ahead_on l.globals frame count (length xs) faces l.globals.fade_step x free l.tracks all)
    (time_on l.globals.sync_source count faces l.globals.fade_step x free l.tracks time)
    in let same : frame + suc count ≡ frame + count + 1 = omega arith
    in (
      same_tracks l _ (all_still l.globals (frame + count) (faces_of l) free l.tracks
          (all_still_ahead l.globals frame count (length xs) faces (faces_of l) l.tracks time all)),
      subst (λ n. IsCalm n xs next) same rest,
    )

-- at the beginning of a span
time_of : (face : Option Face) → IfSome face (λ f. IsTrue (keeps_time f)) →
    IsSameTime face (option_map (face_behind 0) face)
unfolding IsSameTime
time_of None keeps = tt
time_of (Some face) keeps = record {
  keeps = keeps;
  keeps_too = keeps;
  pos = refl;
  backward =
      refl;
  length = refl;
  cycle = refl;
}

time_now : (source : ℤ) (faces : List Face) → KeepsTime source faces → IsTime source 0 faces faces
unfolding IsTime
time_now (pos zero) faces keeps = tt
time_now (pos (suc k)) faces keeps = time_of (slice_get faces k) keeps
time_now (negsuc n) faces keeps = tt

-- behind the first frame of a span
ahead_of : (g : Globals) (frame left : ℕ) (faces : List Face) (t later : Track) →
    later.loop.controls ≡ t.loop.controls → later.loop.deck.waiting ≡ t.loop.deck.waiting →
    (t.loop.deck.waiting ≡ None) ⊎ NoBoundaryWithin g frame faces left t.loop.controls.quantize →
    (later.loop.deck.waiting ≡ None)
    ⊎ ((n : ℕ) → n < left → is_boundary_behind g.sync_source later.loop.controls.quantize g.pulse
    frame faces (1 + n) ≡ false)
ahead_of g frame left faces t later controls waiting (inl none) = inl (waiting ∙ none)
ahead_of g frame left faces t later controls waiting (inr clear) =
    inr (λ n less.
    ap (λ (c : Controls). is_boundary_behind g.sync_source c.quantize g.pulse frame faces (1 + n))
    controls
    ∙ clear (1 + n) (omega arith) (omega arith))

all_ahead_of : (g : Globals) (frame left : ℕ) (faces : List Face) (step : ℕ) (x : Sound) (free : ℕ)
    (ts : List Track) →
    AllByRecursion (IsClearFor g frame faces left) ts →
    AllByRecursion (IsClearAhead g frame faces 1 left)
    (map played_on (swept played_on (played step x) free ts))
all_ahead_of g frame left faces step x free [] all = tt
all_ahead_of g frame left faces step x free (t ∷ ts) all =
    let reach = reach_of free t
    in let later = (played step x reach t).track
    in (
      record {
        ahead = ahead_of g frame left faces t later (frame_controls x reach t.loop)
            (frame_waiting x reach t.loop) all.0.clear;
      },
      all_ahead_of g frame left faces step x (reach - chunks_of (tape_of later)) ts all.1,
    )

-- the frames of a span behind its first are calm, where the source keeps time
pub calm_by_time : (frame : ℕ) (x : Sound) (xs : List Sound) (l : Looper) →
    KeepsTime l.globals.sync_source (faces_of l) →
    AllByRecursion (IsClearFor l.globals frame (faces_of l) (length xs)) l.tracks →
    IsCalm (frame + 1) xs (framed_from x l).looper
calm_by_time frame x xs l keeps clear =
    let free = free_of l.chunks l.tracks
    in let step = l.globals.fade_step
    in calm_ahead frame 1 (faces_of l) xs (framed_from x l).looper
    (all_ahead_of l.globals frame (length xs) (faces_of l) step x free l.tracks clear)
    (time_on l.globals.sync_source 0 (faces_of l) step x free l.tracks
    (time_now l.globals.sync_source (faces_of l) keeps))
