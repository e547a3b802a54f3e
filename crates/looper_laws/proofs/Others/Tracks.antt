-- Frames and commands leave all layers but the current one, on every track.
use Rattle.std.proofs.Common.{◌≡◌, ℕ, zero, suc, ◌-◌, Bool, true, false, ◌&&◌, ◌||◌, List, [], ◌∷◌, map, Option, Some, None, refl, ap, subst}
use Rattle.std.specs.Prelude.{◌==◌}
use Rattle.std.proofs.lemmas.Bool.{cond_both}
use Rattle.sl_base.specs.Sounds.{Sound}
use Rattle.sl_commands.specs.declared.Verb.{Verb}
use Rattle.sl_commands.specs.declared.Face.{Face}
use Rattle.sl_commands.specs.declared.Globals.{Globals}
use Rattle.sl_commands.specs.declared.Target.{Target}
use Rattle.sl_commands.specs.declared.Target.TheVariants.{One, All, Selected}
use Rattle.sl_commands.specs.declared.Command.{Command}
use Rattle.sl_commands.specs.declared.Command.TheVariants.{Down, Up, Hit, Set, SaveLoop, SaveSession, Release}
use Rattle.sl_commands.specs.declared.Entry.{Entry}
use Rattle.looper_rules.specs.Stack.{Stack}
use Rattle.looper_rules.specs.LoopFrame.{frame_later}
use Rattle.looper_rules.specs.Loop.{Loop}
use Rattle.looper_rules.specs.Presses.{never_waits, with_waiting, with_press, given_at_once, given, pressed, is_press_of, is_long, released_long, released, waiting_acts_from, waiting_acts}
use Rattle.looper_rules.specs.Verbs.{is_mode_of}
use Rattle.looper_rules.specs.Boundaries.{is_boundary}
use Rattle.looper_rules.specs.Looper.{Asker, Track, Looper, faces_of, free_of, reach_of, tape_of, swept, itself, at_index, at_target, on_loop, on_target, index_of}
use Rattle.looper_rules.specs.Room.{chunks_of}
use Rattle.looper_rules.specs.Saves.{pinned_for, freed_if, loop_asker, session_asker, loop_released, session_released, session_refusal}
use Rattle.looper_rules.specs.Entries.{sets, saves_loop, saves_session, releases, performed, is_taken, applied, refusal_at, asker_of}
use Rattle.looper_rules.specs.Frame.{at_boundary, at_boundaries, played_on, played, framed_from}
use Rattle.looper_laws.specs.OtherLayers.{OthersStay, OthersStayOnAll}
use Rattle.looper_laws.proofs.Others.Stacks.{IsDone, same_touched, touched_settled, settled_done}
use Rattle.looper_laws.proofs.Others.Steps.{pinned_touched, unpinned_same}
use Rattle.looper_laws.proofs.Others.Loops.{acts_done, nothing_done}
use Rattle.looper_laws.proofs.Others.Frames.{frame_done}

-- a verb given, and the end of a press
given_at_once_done : {A : Type 0} {reach : ℕ} (now : Bool) (verb : Verb) (l : Loop A) →
    IsDone reach l.stack (given_at_once now verb reach l).stack
given_at_once_done true verb l = acts_done verb l
given_at_once_done false verb l = nothing_done

pub given_done : {A : Type 0} {reach : ℕ} (verb : Verb) (l : Loop A) →
    IsDone reach l.stack (given verb reach l).stack
given_done verb l = given_at_once_done (l.controls.quantize == 0 || never_waits verb) verb l

released_long_done : {A : Type 0} {reach : ℕ} (long : Bool) (verb : Verb) (l : Loop A) →
    IsDone reach l.stack (released_long long verb reach l).stack
released_long_done true verb l = given_done verb (with_press None l)
released_long_done false verb l = nothing_done

pub released_done : {A : Type 0} {reach : ℕ} (verb : Verb) (frame long_press : ℕ) (l : Loop A) →
    IsDone reach l.stack (released verb frame long_press reach l).stack
released_done {reach = reach} verb frame long_press l =
    let long = is_long frame long_press l.deck.press && is_mode_of verb l.deck.mode
    in cond_both (is_press_of verb l.deck.press) (released_long long verb reach l) l
    (λ now. IsDone reach l.stack now.stack)
    (λ its. released_long_done long verb l)
    (λ another. nothing_done)

-- a verb that waits
waiting_acts_from_done : {A : Type 0} {reach : ℕ} (verb : Option Verb) (l : Loop A) →
    IsDone reach l.stack (waiting_acts_from verb reach l).stack
waiting_acts_from_done None l = nothing_done
waiting_acts_from_done (Some verb) l = acts_done verb (with_waiting None l)

pub at_boundary_done : {reach : ℕ} (g : Globals) (frame : ℕ) (faces : List Face) (l : Loop Sound) →
    IsDone reach l.stack (at_boundary g frame faces reach l).stack
at_boundary_done {reach = reach} g frame faces l =
    cond_both (is_boundary g.sync_source l.controls.quantize g.pulse frame faces)
    (waiting_acts reach l) l (λ now. IsDone reach l.stack now.stack)
    (λ its. waiting_acts_from_done l.deck.waiting l)
    (λ another. nothing_done)

-- nothing changes
stays : (s : Stack Sound) → OthersStay s s
stays s = (let done : IsDone 0 s s = nothing_done in done.others)

all_stay : (ts : List Track) → OthersStayOnAll ts ts
all_stay [] = tt
all_stay (t ∷ ts) = (stays t.loop.stack, all_stay ts)

-- what is done to each track
abbrev pub TrackStays : (Track → Track) → Type 0
TrackStays act = (t : Track) → OthersStay t.loop.stack (act t).loop.stack

map_stays : (act : Track → Track) → TrackStays act → (ts : List Track) →
    OthersStayOnAll ts (map act ts)
map_stays act h [] = tt
map_stays act h (t ∷ ts) = (h t, map_stays act h ts)

swept_stays : {B : Type 0} (track_of : B → Track) (act : ℕ → Track → B) →
    ((reach : ℕ) → TrackStays (λ t. track_of (act reach t))) → (free : ℕ) (ts : List Track) →
    OthersStayOnAll ts (map track_of (swept track_of act free ts))
swept_stays track_of act h free [] = tt
swept_stays track_of act h free (t ∷ ts) = (
  h (reach_of free t) t,
  swept_stays track_of act h
      (reach_of free t - chunks_of (tape_of (track_of (act (reach_of free t) t)))) ts,
)

at_index_stays : (k : ℕ) (act : ℕ → Track → Track) → ((reach : ℕ) → TrackStays (act reach)) →
    (free : ℕ) (ts : List Track) → OthersStayOnAll ts (at_index k act free ts)
at_index_stays k act h free [] = tt
at_index_stays zero act h free (t ∷ ts) = (h (reach_of free t) t, all_stay ts)
at_index_stays (suc k) act h free (t ∷ ts) = (stays t.loop.stack, at_index_stays k act h free ts)

map_itself : (ts : List Track) → map itself ts ≡ ts
map_itself [] = refl
map_itself (t ∷ ts) = ap (λ r. t ∷ r) (map_itself ts)

swept_itself_stays : (act : ℕ → Track → Track) → ((reach : ℕ) → TrackStays (act reach)) →
    (free : ℕ) (ts : List Track) → OthersStayOnAll ts (swept itself act free ts)
swept_itself_stays act h free ts = subst (λ r. OthersStayOnAll ts r)
    (map_itself (swept itself act free ts)) (swept_stays itself act h free ts)

at_target_stays : (target : Target) (selected : ℕ) (act : ℕ → Track → Track) →
    ((reach : ℕ) → TrackStays (act reach)) → (free : ℕ) (ts : List Track) →
    OthersStayOnAll ts (at_target target selected act free ts)
at_target_stays (One k) selected act h free ts = at_index_stays k act h free ts
at_target_stays All selected act h free ts = swept_itself_stays act h free ts
at_target_stays Selected selected act h free ts = at_index_stays selected act h free ts

on_target_stays : (target : Target) (act : ℕ → Loop Sound → Loop Sound) →
    ((reach : ℕ) (l : Loop Sound) → IsDone reach l.stack (act reach l).stack) → (l : Looper) →
    OthersStayOnAll l.tracks (on_target target act l).tracks
on_target_stays target act h l = at_target_stays target l.globals.selected_loop_num (on_loop act)
    (λ reach t. (h reach t.loop).others) (free_of l.chunks l.tracks) l.tracks

-- a track pinned, and let go
pinned_stays : (asker : Asker) → TrackStays (pinned_for asker)
pinned_stays asker t = (let done : IsDone 0 t.loop.stack (pinned_for asker t).loop.stack =
    settled_done (touched_settled pinned_touched) in done.others)

freed_if_stays : (asker : Option Asker) → TrackStays (freed_if asker)
freed_if_stays None t = stays t.loop.stack
freed_if_stays (Some asker) t =
    (let done : IsDone 0 t.loop.stack (freed_if (Some asker) t).loop.stack =
    settled_done (touched_settled (same_touched unpinned_same)) in done.others)

saves_loop_stays : (answer : Option ℕ) (k : ℕ) (asker : Asker) (l : Looper) →
    OthersStayOnAll l.tracks (saves_loop answer k asker l).tracks
saves_loop_stays None k asker l =
    at_index_stays k (λ reach t. pinned_for asker t) (λ reach. pinned_stays asker) 0 l.tracks
saves_loop_stays (Some _) k asker l = all_stay l.tracks

saves_session_stays : (answer : Option ℕ) (asker : Asker) (l : Looper) →
    OthersStayOnAll l.tracks (saves_session answer asker l).tracks
saves_session_stays None asker l = map_stays (pinned_for asker) (pinned_stays asker) l.tracks
saves_session_stays (Some _) asker l = all_stay l.tracks

releases_stays : (target : Target) (l : Looper) →
    OthersStayOnAll l.tracks (releases target l).tracks
releases_stays (One k) l = at_index_stays k (λ reach t. loop_released t)
    (λ reach t. freed_if_stays (loop_asker t.asker) t) 0 l.tracks
releases_stays All l =
    map_stays session_released (λ t. freed_if_stays (session_asker t.asker) t) l.tracks
releases_stays Selected l = all_stay l.tracks

-- a command
performed_stays : (command : Command) (frame : ℕ) (e : Entry) (l : Looper) →
    OthersStayOnAll l.tracks (performed command frame e l).tracks
performed_stays (Down target verb) frame e l =
    on_target_stays target (pressed verb frame) (λ reach. given_done verb) l
performed_stays (Up target verb) frame e l =
    on_target_stays target (released verb frame l.globals.long_press)
    (λ reach. released_done verb frame l.globals.long_press) l
performed_stays (Hit target verb) frame e l =
    on_target_stays target (given verb) (λ reach. given_done verb) l
performed_stays (Set target control value) frame e l =
    on_target_stays target (sets control value) (λ reach now. nothing_done) l
performed_stays (SaveLoop target name) frame e l = saves_loop_stays (refusal_at target l)
    (index_of target l.globals.selected_loop_num) (asker_of e false) l
performed_stays (SaveSession name) frame e l =
    saves_session_stays (session_refusal l.tracks) (asker_of e true) l
performed_stays (Release target outcome) frame e l = releases_stays target l
performed_stays _ frame e l = all_stay l.tracks

pub applied_stays : (frame : ℕ) (e : Entry) (l : Looper) →
    OthersStayOnAll l.tracks (applied frame e l).tracks
applied_stays frame e l =
    cond_both (is_taken e l) (performed e.command frame e l) l
    (λ now. OthersStayOnAll l.tracks now.tracks)
    (λ taken. performed_stays e.command frame e l)
    (λ not. all_stay l.tracks)

pub at_boundaries_stays : (frame : ℕ) (l : Looper) →
    OthersStayOnAll l.tracks (at_boundaries frame l).tracks
at_boundaries_stays frame l =
    swept_itself_stays (on_loop (at_boundary l.globals frame (faces_of l)))
    (λ reach t. (let done : IsDone reach t.loop.stack _ = at_boundary_done l.globals frame
    (faces_of l) t.loop in done.others)) (free_of l.chunks l.tracks) l.tracks

pub framed_from_stays : (x : Sound) (l : Looper) →
    OthersStayOnAll l.tracks (framed_from x l).looper.tracks
framed_from_stays x l =
    swept_stays played_on (played l.globals.fade_step x)
    (λ reach t. (let done : IsDone reach t.loop.stack (frame_later x reach t.loop).stack =
    frame_done x t.loop in done.others)) (free_of l.chunks l.tracks) l.tracks
