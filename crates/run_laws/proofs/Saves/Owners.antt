-- The pins that stand are those of the saves that no release has answered: each entry and each
-- frame keeps it.
use Rattle.std.proofs.Common.{◌≡◌, ℕ, zero, suc, ◌+◌, Bool, true, false, ◌||◌, List, [], ◌∷◌, ◌++◌, length, map, Option, Some, None, is_some, slice_get, option_map, option_to_list, refl, sym, ap, ap₂, ◌∙◌, subst, append-nil}
use Rattle.std.specs.Prelude.{IfSome, ◌==◌, if◌then◌else◌}
use Rattle.std.specs.List.{AllByRecursion}
use Rattle.std.specs.Option.{option_and_then}
use Rattle.std.proofs.lemmas.Option.{slice_get-map}
use Rattle.std.proofs.lemmas.List.{length-map}
use Rattle.sl_base.specs.Sounds.{Sound}
use Rattle.sl_commands.specs.declared.Target.{Target}
use Rattle.sl_commands.specs.declared.Target.TheVariants.{One, All, Selected}
use Rattle.sl_commands.specs.declared.Command.{Command}
use Rattle.sl_commands.specs.declared.Command.TheVariants.{Down, Up, Hit, Set, SetGlobal, Get, GetGlobal, SaveLoop, SaveSession, Release, Quit}
use Rattle.sl_commands.specs.declared.Entry.{Entry}
use Rattle.sl_commands.specs.declared.StripSettings.{StripSettings}
use Rattle.looper_rules.specs.Loop.{Loop, length_of}
use Rattle.looper_rules.specs.Presses.{given, pressed, released}
use Rattle.looper_rules.specs.Boundaries.{is_boundary}
use Rattle.looper_rules.specs.LoopFrame.{ready}
use Rattle.looper_rules.specs.Looper.{Asker, Track, Looper, swept, itself, at_index, at_target, on_loop, free_of, faces_of, index_of}
use Rattle.looper_rules.specs.Saves.{Save, list_on, pinned_for, is_pinned, loop_refusal, save_refusal, any_pinned, loop_asker, session_asker, freed_if, loop_released, session_released}
use Rattle.looper_rules.specs.Entries.{is_taken, sets, applied, performed, asker_of, refusal_at, track_of, saves_loop, saves_session, releases, loop_save, session_save, unless_refused, save_of}
use Rattle.looper_rules.specs.Frame.{at_boundary, at_boundaries, played_on, played, framed_from, framed}
use Rattle.looper_rules.specs.Run.{first_tracks, start, entered, due, later, begun, run}
use Rattle.looper_rules.specs.Unanswered.{still_unanswered, unanswered_after, unanswered_entered, unanswered_begun, unanswered, Hold, list_in, hold_on, holds_of, HoldPins}
use Rattle.looper_rules.specs.States.{IsTrack}
use Rattle.looper_rules.specs.Reached.{KeepsLooper, IsBeginning}
use Rattle.sl_commands.specs.Settings.{LooperSettings}
use Rattle.run_laws.proofs.Saves.Loops.{given_pin, pressed_pin, released_pin, ready_pin, after_pin}
use Rattle.run_laws.proofs.Saves.Pins.{LeavesPins, boundary-pin}
use Rattle.run_laws.proofs.Saves.Holds.{changed, IsFree, AreFree, gone, loop_gone, session_gone, kept_by, all_put, loop_pinned, session_pinned, loop_released_holds, session_released_holds}
use Rattle.looper_laws.proofs.Kept.Starts.{begins, runs_begun}
use Rattle.looper_laws.proofs.Kept.Runs.{entry_keeps, entered_keeps, frame_keeps}

-- all holds of some tracks
abbrev holds_on : List Track → List Hold
holds_on ts = map hold_on ts

-- a loop that keeps its pin leaves the hold on its track
same_hold : (act : ℕ → Loop Sound → Loop Sound) (reach : ℕ) (t : Track) → LeavesPins act →
    hold_on (on_loop act reach t) ≡ hold_on t
same_hold act reach t leaves =
    ap (λ pin. record { asker = t.asker; list = option_map list_in pin }) (leaves reach t.loop)

at_index-holds : (k : ℕ) (act : ℕ → Loop Sound → Loop Sound) (free : ℕ) (ts : List Track) →
    LeavesPins act →
    holds_on (at_index k (on_loop act) free ts) ≡ holds_on ts
at_index-holds k act free [] leaves = refl
at_index-holds zero act free (t ∷ ts) leaves = ap (λ h. h ∷ holds_on ts) (same_hold act _ t leaves)
at_index-holds (suc k) act free (t ∷ ts) leaves =
    ap (λ hs. hold_on t ∷ hs) (at_index-holds k act free ts leaves)

swept-holds : (act : ℕ → Loop Sound → Loop Sound) (ts : List Track) (free : ℕ) → LeavesPins act →
    holds_on (swept itself (on_loop act) free ts) ≡ holds_on ts
swept-holds act [] free leaves = refl
swept-holds act (t ∷ ts) free leaves =
    ap₂ (λ h hs. h ∷ hs) (same_hold act _ t leaves) (swept-holds act ts _ leaves)

at_target-holds : (target : Target) (selected : ℕ) (act : ℕ → Loop Sound → Loop Sound) (free : ℕ)
    (ts : List Track) →
    LeavesPins act → holds_on (at_target target selected (on_loop act) free ts) ≡ holds_on ts
at_target-holds (One k) selected act free ts leaves = at_index-holds k act free ts leaves
at_target-holds All selected act free ts leaves = swept-holds act ts free leaves
at_target-holds Selected selected act free ts leaves = at_index-holds selected act free ts leaves

played-holds : (step : ℕ) (x : Sound) (ts : List Track) (free : ℕ) →
    holds_on (map played_on (swept played_on (played step x) free ts)) ≡ holds_on ts
played-holds step x [] free = refl
played-holds step x (t ∷ ts) free =
    ap₂ (λ h hs. h ∷ hs) (ap (λ pin. record { asker = t.asker; list = option_map list_in pin })
    (after_pin x _ (ready x _ t.loop) ∙ ready_pin x _ t.loop)) (played-holds step x ts _)

-- the boundaries of a frame leave all holds, and so does the frame behind them
pub at_boundaries-holds : (frame : ℕ) (l : Looper) → holds_of (at_boundaries frame l) ≡ holds_of l
at_boundaries-holds frame l =
    let faces = faces_of l in
    swept-holds (at_boundary l.globals frame faces) l.tracks (free_of l.chunks l.tracks)
    (λ reach loop. boundary-pin
    (is_boundary l.globals.sync_source loop.controls.quantize l.globals.pulse frame faces) reach
    loop)

pub framed_from-holds : (x : Sound) (l : Looper) → holds_of (framed_from x l).looper ≡ holds_of l
framed_from-holds x l = played-holds l.globals.fade_step x l.tracks (free_of l.chunks l.tracks)

pub framed-holds : (frame : ℕ) (x : Sound) (l : Looper) →
    holds_of (framed frame x l).looper ≡ holds_of l
framed-holds frame x l = framed_from-holds x (at_boundaries frame l) ∙ at_boundaries-holds frame l

-- a save pins
at_index-put : (k : ℕ) (asker : Asker) (free : ℕ) (ts : List Track) (t : Track) →
    slice_get ts k ≡ Some t →
    holds_on (at_index k (λ reach t. pinned_for asker t) free ts) ≡ changed k
    (λ h. record { asker = Some asker; list = Some (list_on t) }) (holds_on ts)
at_index-put k asker free [] t there = refl
at_index-put zero asker free (u ∷ us) t there =
    let same : u ≡ t = cc in
    ap (λ (v : Track). record { asker = Some asker; list = Some (list_on v) } ∷ holds_on us)
    same
at_index-put (suc k) asker free (u ∷ us) t there =
    ap (λ hs. hold_on u ∷ hs) (at_index-put k asker free us t there)

map-put : (asker : Asker) (ts : List Track) →
    holds_on (map (pinned_for asker) ts) ≡ all_put asker (map list_on ts)
map-put asker [] = refl
map-put asker (t ∷ ts) =
    ap (λ hs. record { asker = Some asker; list = Some (list_on t) } ∷ hs) (map-put asker ts)

-- a release takes away
freed_if-hold : (o : Option Asker) (t : Track) → hold_on (freed_if o t) ≡ gone o (hold_on t)
freed_if-hold None t = refl
freed_if-hold (Some asker) t = refl

at_index-gone : (k free : ℕ) (ts : List Track) →
    holds_on (at_index k (λ reach t. loop_released t) free ts) ≡ changed k loop_gone (holds_on ts)
at_index-gone k free [] = refl
at_index-gone zero free (t ∷ ts) = ap (λ h. h ∷ holds_on ts) (freed_if-hold (loop_asker t.asker) t)
at_index-gone (suc k) free (t ∷ ts) = ap (λ hs. hold_on t ∷ hs) (at_index-gone k free ts)

map-gone : (ts : List Track) → holds_on (map session_released ts) ≡ map session_gone (holds_on ts)
map-gone [] = refl
map-gone (t ∷ ts) = ap₂ (λ h hs. h ∷ hs) (freed_if-hold (session_asker t.asker) t) (map-gone ts)

-- the track of an index is one
pub track_at : (frame k : ℕ) (ts : List Track) (t : Track) → AllByRecursion (IsTrack frame) ts →
    slice_get ts k ≡ Some t → IsTrack frame t
track_at frame k [] t all there = absurd (cc)
track_at frame zero (u ∷ us) t all there = let same : u ≡ t = cc in
    subst (λ v. IsTrack frame v) same all.0
track_at frame (suc k) (u ∷ us) t all there = track_at frame k us t all.1 there

pub none_there : (a : Option Asker) → is_some a ≡ false → a ≡ None
none_there None is = refl
none_there (Some asker) is = absurd (cc)

-- a loop that may be saved has no pin, and so no asker
unpinned : (pin empty : Bool) → loop_refusal pin empty ≡ None → pin ≡ false
unpinned true empty none = absurd (cc)
unpinned false empty none = refl

pub unasked : (frame : ℕ) (t : Track) → IsTrack frame t → save_refusal t ≡ None → t.asker ≡ None
unasked frame t h none =
    none_there t.asker (h.asker ∙ unpinned (is_pinned t.loop) (length_of t.loop == 0) none)

-- an index with no track changes nothing
at_index-nothing : (k : ℕ) (act : ℕ → Track → Track) (free : ℕ) (ts : List Track) →
    slice_get ts k ≡ None → at_index k act free ts ≡ ts
at_index-nothing k act free [] none = refl
at_index-nothing zero act free (t ∷ ts) none = absurd (cc)
at_index-nothing (suc k) act free (t ∷ ts) none =
    ap (λ us. t ∷ us) (at_index-nothing k act free ts none)

-- what some pins hold for these saves, with no save behind them
abbrev Owners : List Save → Option Save → List Hold → Type 0
Owners saves made holds = HoldPins (saves ++ option_to_list made) holds

no_more : (saves : List Save) (holds : List Hold) → HoldPins saves holds → Owners saves None holds
no_more saves holds h = subst (λ all. HoldPins all holds) (sym (append-nil saves)) h

-- a save of a loop
loop_there : (frame : ℕ) (target : Target) (name : List ℕ) (e : Entry) (l : Looper)
    (saves : List Save) (o : Option Track) → track_of target l ≡ o →
    option_and_then save_refusal o ≡ None → AllByRecursion (IsTrack frame) l.tracks →
    HoldPins saves (holds_of l) →
    Owners saves (option_map (loop_save target name l) o)
    (holds_of (saves_loop None (index_of target l.globals.selected_loop_num) (asker_of e false)
    l))
loop_there frame target name e l saves None none unrefused tracks h =
    let k = index_of target l.globals.selected_loop_num in
    let asker = asker_of e false in
    subst (λ ts. Owners saves None (holds_on ts))
    (sym (at_index-nothing k (λ reach t. pinned_for asker t) 0 l.tracks none))
    (no_more saves (holds_of l) h)
loop_there frame target name e l saves (Some t) there unrefused tracks h =
    let k = index_of target l.globals.selected_loop_num in
    let asker = asker_of e false in
    let free : t.asker ≡ None =
    unasked frame t (track_at frame k l.tracks t tracks there) unrefused in
    let at_k : slice_get (holds_of l) k ≡ Some (hold_on t) =
    slice_get-map hold_on l.tracks k ∙ ap (option_map hold_on) there in
    subst (λ hs. HoldPins (saves ++ loop_save target name l t ∷ []) hs)
    (sym (at_index-put k asker 0 l.tracks t there))
    (loop_pinned k (loop_save target name l t) asker (list_on t) saves (holds_of l) refl refl refl
    (subst IsFree (sym at_k) free) (ap is_some at_k) h)

saves_loop-holds : (frame : ℕ) (target : Target) (name : List ℕ) (e : Entry) (l : Looper)
    (saves : List Save) (refusal : Option ℕ) →
    refusal_at target l ≡ refusal → AllByRecursion (IsTrack frame) l.tracks →
    HoldPins saves (holds_of l) →
    Owners saves (unless_refused refusal (option_map (loop_save target name l) (track_of target l)))
    (holds_of (saves_loop refusal (index_of target l.globals.selected_loop_num) (asker_of e false)
    l))
saves_loop-holds frame target name e l saves None unrefused tracks h =
    loop_there frame target name e l saves (track_of target l) refl unrefused tracks h
saves_loop-holds frame target name e l saves (Some n) refused tracks h =
    no_more saves (holds_of l) h

-- a save of the session
pub first_unpinned : (pin rest : Bool) → (pin || rest) ≡ false → (pin ≡ false) × (rest ≡ false)
first_unpinned true rest none = absurd (cc)
first_unpinned false rest none = (refl, none)

pub all_free : (frame : ℕ) (ts : List Track) → AllByRecursion (IsTrack frame) ts →
    any_pinned ts ≡ false → AreFree (holds_on ts)
all_free frame [] tracks none = tt
all_free frame (t ∷ ts) tracks none =
    let here = first_unpinned (is_pinned t.loop) (any_pinned ts) none in
    (none_there t.asker (tracks.0.asker ∙ here.0), all_free frame ts tracks.1 here.1)

saves_session-holds : (frame : ℕ) (name : List ℕ) (e : Entry) (l : Looper) (saves : List Save)
    (any : Bool) →
    any_pinned l.tracks ≡ any → AllByRecursion (IsTrack frame) l.tracks →
    HoldPins saves (holds_of l) →
    Owners saves (unless_refused (if any then Some 2 else None) (Some (session_save name l)))
    (holds_of (saves_session (if any then Some 2 else None) (asker_of e true) l))
saves_session-holds frame name e l saves true some tracks h = no_more saves (holds_of l) h
saves_session-holds frame name e l saves false none tracks h =
    let asker = asker_of e true in
    subst (λ hs. HoldPins (saves ++ session_save name l ∷ []) hs) (sym (map-put asker l.tracks))
    (session_pinned (session_save name l) asker saves (holds_of l) refl refl
    (length-map l.tracks list_on ∙ sym (length-map l.tracks hold_on))
    (all_free frame l.tracks tracks none) h)

-- a release
releases-holds : (target : Target) (outcome : ℕ) (l : Looper) (saves : List Save) →
    HoldPins saves (holds_of l) →
    HoldPins (kept_by target saves) (holds_of (releases target l))
releases-holds (One k) outcome l saves h = subst (λ hs. HoldPins (kept_by (One k) saves) hs)
    (sym (at_index-gone k 0 l.tracks)) (loop_released_holds k saves (holds_of l) h)
releases-holds All outcome l saves h = subst (λ hs. HoldPins (kept_by All saves) hs)
    (sym (map-gone l.tracks)) (session_released_holds saves (holds_of l) h)
releases-holds Selected outcome l saves h =
    subst (λ all. HoldPins all (holds_of l)) (sym (all_stay saves)) h
  where
    all_stay : (xs : List Save) → kept_by Selected xs ≡ xs
    all_stay [] = refl
    all_stay (x ∷ xs) = ap (λ rest. x ∷ rest) (all_stay xs)

-- a command that leaves the holds
same_owners : (saves : List Save) (old now : List Hold) → now ≡ old → HoldPins saves old →
    Owners saves None now
same_owners saves old now same h =
    subst (λ hs. Owners saves None hs) (sym same) (no_more saves old h)

-- a command
performed-holds : (c : Command) (frame : ℕ) (e : Entry) (l : Looper) (saves : List Save) →
    AllByRecursion (IsTrack frame) l.tracks →
    HoldPins saves (holds_of l) →
    Owners (still_unanswered c saves) (save_of c l) (holds_of (performed c frame e l))
performed-holds (Down target verb) frame e l saves tracks h =
    same_owners saves _ _ (at_target-holds target l.globals.selected_loop_num (pressed verb frame)
    (free_of l.chunks l.tracks) l.tracks (λ reach loop. pressed_pin verb frame reach loop)) h
performed-holds (Up target verb) frame e l saves tracks h =
    same_owners saves _ _
    (at_target-holds target l.globals.selected_loop_num (released verb frame l.globals.long_press)
    (free_of l.chunks l.tracks) l.tracks
    (λ reach loop. released_pin verb frame l.globals.long_press reach loop)) h
performed-holds (Hit target verb) frame e l saves tracks h =
    same_owners saves _ _ (at_target-holds target l.globals.selected_loop_num (given verb)
    (free_of l.chunks l.tracks) l.tracks (λ reach loop. given_pin verb reach loop)) h
performed-holds (Set target control value) frame e l saves tracks h =
    same_owners saves _ _ (at_target-holds target l.globals.selected_loop_num (sets control value)
    (free_of l.chunks l.tracks) l.tracks (λ reach loop. refl)) h
performed-holds (SetGlobal control value) frame e l saves tracks h = no_more saves (holds_of l) h
performed-holds (Get target control) frame e l saves tracks h = no_more saves (holds_of l) h
performed-holds (GetGlobal control) frame e l saves tracks h = no_more saves (holds_of l) h
performed-holds (SaveLoop target name) frame e l saves tracks h =
    saves_loop-holds frame target name e l saves (refusal_at target l) refl tracks h
performed-holds (SaveSession name) frame e l saves tracks h =
    saves_session-holds frame name e l saves (any_pinned l.tracks) refl tracks h
performed-holds (Release target outcome) frame e l saves tracks h =
    no_more (kept_by target saves) (holds_of (releases target l))
    (releases-holds target outcome l saves h)
performed-holds Quit frame e l saves tracks h = no_more saves (holds_of l) h

-- an entry
pub applied-holds : (frame : ℕ) (e : Entry) (l : Looper) (saves : List Save) → KeepsLooper frame l →
    HoldPins saves (holds_of l) →
    HoldPins (unanswered_after e l saves) (holds_of (applied frame e l))
applied-holds frame e l saves kept h = by_taken (is_taken e l)
  where
    by_taken : (b : Bool) →
        HoldPins ((if b then still_unanswered e.command saves else saves)
        ++ option_to_list (if b then save_of e.command l else None))
        (holds_of (if b then performed e.command frame e l else l))
    by_taken true = performed-holds e.command frame e l saves kept.looper.tracks h
    by_taken false = no_more saves (holds_of l) h

-- a frame
pub framed-owners : (frame : ℕ) (x : Sound) (l : Looper) (saves : List Save) →
    HoldPins saves (holds_of l) →
    HoldPins saves (holds_of (framed frame x l).looper)
framed-owners frame x l saves h = subst (HoldPins saves) (sym (framed-holds frame x l)) h

-- some entries
pub entered-holds : (frame : ℕ) (es : List Entry) (l : Looper) (saves : List Save) →
    KeepsLooper frame l → HoldPins saves (holds_of l) →
    HoldPins (unanswered_entered frame es l saves) (holds_of (entered frame es l).looper)
entered-holds frame [] l saves kept h = h
entered-holds frame (e ∷ es) l saves kept h =
    entered-holds frame es (applied frame e l) (unanswered_after e l saves)
    (entry_keeps frame e l kept) (applied-holds frame e l saves kept h)

-- some frames
pub begun-holds : (frame : ℕ) (es : List Entry) (xs : List Sound) (l : Looper) (saves : List Save) →
    KeepsLooper frame l → HoldPins saves (holds_of l) →
    HoldPins (unanswered_begun frame es xs l saves) (holds_of (begun frame es xs l).looper)
begun-holds frame es [] l saves kept h = h
begun-holds frame es (x ∷ xs) l saves kept h =
    let before = (entered frame (due frame es) l).looper in
    let left = unanswered_entered frame (due frame es) l saves in
    begun-holds (frame + 1) (later frame es) xs (framed frame x before).looper left
    (frame_keeps frame frame x before (entered_keeps frame (due frame es) l kept))
    (framed-owners frame x before left (entered-holds frame (due frame es) l saves kept h))

-- at the start nothing is pinned
first-owned : (strips : List StripSettings) (lists : List (List Sound)) (k : ℕ) →
    IfSome (slice_get (holds_on (first_tracks strips lists)) k) (λ h. IfSome h.asker (λ asker. ⊥))
first-owned [] lists k = tt
first-owned (s ∷ ss) [] zero = tt
first-owned (s ∷ ss) [] (suc k) = first-owned ss [] k
first-owned (s ∷ ss) (list ∷ lists) zero = tt
first-owned (s ∷ ss) (list ∷ lists) (suc k) = first-owned ss lists k

pub first-holds : (strips : List StripSettings) (lists : List (List Sound)) →
    HoldPins [] (holds_on (first_tracks strips lists))
first-holds strips lists = record { held = tt; owned = λ k. first-owned strips lists k }

-- in a run from its start
pub run-holds : (settings : LooperSettings) (chunks : ℕ) (lists : List (List Sound))
    (es : List Entry) (input : List Sound) → IsBeginning settings chunks lists →
    HoldPins (unanswered es input (start settings chunks lists))
    (holds_of (run es input (start settings chunks lists)).looper)
run-holds settings chunks lists es input h =
    let l = start settings chunks lists in
    let first = begun 0 es input l in
    entered-holds (length input) first.left first.looper (unanswered_begun 0 es input l [])
    (runs_begun settings chunks lists h es input)
    (begun-holds 0 es input l [] (begins settings chunks lists h)
    (first-holds settings.strips lists))
