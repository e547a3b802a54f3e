-- Who asked for the saves that run, and how entries and frames change it.
use Rattle.std.proofs.Common.{◌≡◌, ℕ, zero, suc, List, [], ◌∷◌, map, Option, Some, None, slice_get, refl, ap, ap₂, ◌∙◌}
use Rattle.std.specs.Option.{option_and_then}
use Rattle.sl_base.specs.Sounds.{Sound}
use Rattle.sl_commands.specs.declared.Target.{Target}
use Rattle.sl_commands.specs.declared.Target.TheVariants.{One, All, Selected}
use Rattle.looper_rules.specs.Loop.{Loop}
use Rattle.looper_rules.specs.Looper.{Asker, Track, Looper, swept, itself, at_index, at_target, on_loop, free_of, faces_of}
use Rattle.looper_rules.specs.Saves.{loop_asker, session_asker, asker_or, running_session, pinned_for, freed_if, loop_released, session_released}
use Rattle.looper_rules.specs.Entries.{ended_asker}
use Rattle.looper_rules.specs.Frame.{framed, played_on, played, at_boundary, at_boundaries}

-- the asker of a track's save
abbrev pub asker_on : Track → Option Asker
asker_on t = t.asker

-- the askers of all tracks, by index
abbrev pub askers_of : List Track → List (Option Asker)
askers_of ts = map asker_on ts

-- an asker changed at an index
abbrev pub changed_at : ℕ → (Option Asker → Option Asker) → List (Option Asker) →
    List (Option Asker)
changed_at k change [] = []
changed_at zero change (a ∷ rest) = change a ∷ rest
changed_at (suc k) change (a ∷ rest) = a ∷ changed_at k change rest

-- what is done to a loop leaves its track's asker
pub at_index-same : (k : ℕ) (act : ℕ → Loop Sound → Loop Sound) (free : ℕ) (ts : List Track) →
    askers_of (at_index k (on_loop act) free ts) ≡ askers_of ts
at_index-same k act free [] = refl
at_index-same zero act free (t ∷ ts) = refl
at_index-same (suc k) act free (t ∷ ts) = ap (λ rest. t.asker ∷ rest) (at_index-same k act free ts)

pub swept-same : (act : ℕ → Loop Sound → Loop Sound) (ts : List Track) (free : ℕ) →
    askers_of (swept itself (on_loop act) free ts) ≡ askers_of ts
swept-same act [] free = refl
swept-same act (t ∷ ts) free = ap (λ rest. t.asker ∷ rest) (swept-same act ts _)

pub at_target-same : (target : Target) (selected : ℕ) (act : ℕ → Loop Sound → Loop Sound) (free : ℕ)
    (ts : List Track) →
    askers_of (at_target target selected (on_loop act) free ts) ≡ askers_of ts
at_target-same (One k) selected act free ts = at_index-same k act free ts
at_target-same All selected act free ts = swept-same act ts free
at_target-same Selected selected act free ts = at_index-same selected act free ts

-- a frame leaves all askers
pub played-same : (step : ℕ) (x : Sound) (ts : List Track) (free : ℕ) →
    askers_of (map played_on (swept played_on (played step x) free ts)) ≡ askers_of ts
played-same step x [] free = refl
played-same step x (t ∷ ts) free = ap (λ rest. t.asker ∷ rest) (played-same step x ts _)

pub framed-same : (frame : ℕ) (x : Sound) (l : Looper) →
    askers_of (framed frame x l).looper.tracks ≡ askers_of l.tracks
framed-same frame x l =
    let meeting = at_boundaries frame l in
    played-same l.globals.fade_step x meeting.tracks (free_of l.chunks meeting.tracks)
    ∙ swept-same (at_boundary l.globals frame (faces_of l)) l.tracks (free_of l.chunks l.tracks)

-- a pin puts its asker there
pub at_index-pinned : (k : ℕ) (asker : Asker) (free : ℕ) (ts : List Track) →
    askers_of (at_index k (λ reach t. pinned_for asker t) free ts) ≡ changed_at k (λ a. Some asker)
    (askers_of ts)
at_index-pinned k asker free [] = refl
at_index-pinned zero asker free (t ∷ ts) = refl
at_index-pinned (suc k) asker free (t ∷ ts) =
    ap (λ rest. t.asker ∷ rest) (at_index-pinned k asker free ts)

pub map-pinned : (asker : Asker) (ts : List Track) →
    askers_of (map (pinned_for asker) ts) ≡ map (λ a. Some asker) (askers_of ts)
map-pinned asker [] = refl
map-pinned asker (t ∷ ts) = ap (λ rest. Some asker ∷ rest) (map-pinned asker ts)

-- an asker after the release of this one's save
abbrev pub without : Option Asker → Option Asker → Option Asker
without None a = a
without (Some asker) a = None

freed_if-asker : (o : Option Asker) (t : Track) → (freed_if o t).asker ≡ without o t.asker
freed_if-asker None t = refl
freed_if-asker (Some asker) t = refl

abbrev pub without_loop : Option Asker → Option Asker
without_loop a = without (loop_asker a) a

abbrev pub without_session : Option Asker → Option Asker
without_session a = without (session_asker a) a

-- a release takes its asker away
pub at_index-released : (k : ℕ) (free : ℕ) (ts : List Track) →
    askers_of (at_index k (λ reach t. loop_released t) free ts) ≡ changed_at k without_loop
    (askers_of ts)
at_index-released k free [] = refl
at_index-released zero free (t ∷ ts) =
    ap (λ a. a ∷ askers_of ts) (freed_if-asker (loop_asker t.asker) t)
at_index-released (suc k) free (t ∷ ts) = ap (λ rest. t.asker ∷ rest) (at_index-released k free ts)

pub map-released : (ts : List Track) →
    askers_of (map session_released ts) ≡ map without_session (askers_of ts)
map-released [] = refl
map-released (t ∷ ts) =
    ap₂ (λ a rest. a ∷ rest) (freed_if-asker (session_asker t.asker) t) (map-released ts)

-- the asker whose save a release of this index ends
abbrev pub ended_at : ℕ → List (Option Asker) → Option Asker
ended_at k [] = None
ended_at zero (a ∷ rest) = loop_asker a
ended_at (suc k) (a ∷ rest) = ended_at k rest

-- the asker of the session's save that runs
abbrev pub running : List (Option Asker) → Option Asker
running [] = None
running (a ∷ rest) = asker_or (session_asker a) (running rest)

ended-at_tracks : (k : ℕ) (ts : List Track) →
    option_and_then (λ (t : Track). loop_asker t.asker) (slice_get ts k) ≡ ended_at k (askers_of ts)
ended-at_tracks k [] = refl
ended-at_tracks zero (t ∷ ts) = refl
ended-at_tracks (suc k) (t ∷ ts) = ended-at_tracks k ts

pub ended_asker-at : (k : ℕ) (l : Looper) → ended_asker k l ≡ ended_at k (askers_of l.tracks)
ended_asker-at k l = ended-at_tracks k l.tracks

pub running-tracks : (ts : List Track) → running_session ts ≡ running (askers_of ts)
running-tracks [] = refl
running-tracks (t ∷ ts) = ap (asker_or (session_asker t.asker)) (running-tracks ts)
