-- While a session's save runs, its pins stand on all loops: entries and frames keep it so.
use Rattle.std.proofs.Common.{◌≡◌, ℕ, zero, suc, Bool, true, false, List, [], ◌∷◌, map, Option, Some, None, is_some, slice_get, refl, sym, ap, ap₂, ◌∙◌, subst}
use Rattle.std.specs.Prelude.{IfSome, ◌==◌, if◌then◌else◌}
use Rattle.std.specs.List.{AllByRecursion}
use Rattle.std.specs.Option.{option_and_then}
use Rattle.sl_base.specs.Sounds.{Sound}
use Rattle.sl_commands.specs.declared.Target.{Target}
use Rattle.sl_commands.specs.declared.Target.TheVariants.{One, All, Selected}
use Rattle.sl_commands.specs.declared.Command.{Command}
use Rattle.sl_commands.specs.declared.Command.TheVariants.{Down, Up, Hit, Set, SetGlobal, Get, GetGlobal, SaveLoop, SaveSession, Release, Quit}
use Rattle.sl_commands.specs.declared.Entry.{Entry}
use Rattle.sl_commands.specs.declared.StripSettings.{StripSettings}
use Rattle.looper_rules.specs.Loop.{Loop, length_of}
use Rattle.looper_rules.specs.Presses.{given, pressed, released}
use Rattle.looper_rules.specs.Looper.{Asker, Track, Looper, at_target, on_loop, free_of, faces_of, index_of}
use Rattle.looper_rules.specs.Saves.{is_pinned, pinned_for, loop_refusal, save_refusal, session_refusal, loop_asker, session_asker, asker_or, running_session}
use Rattle.looper_rules.specs.Entries.{is_taken, sets, asker_of, refusal_at, saves_loop, saves_session, releases, performed, applied}
use Rattle.looper_rules.specs.Frame.{at_boundary, at_boundaries, framed_from}
use Rattle.looper_rules.specs.Run.{first_tracks}
use Rattle.looper_rules.specs.Pins.{SessionIsWhole}
use Rattle.looper_rules.specs.States.{IsTrack}
use Rattle.looper_laws.proofs.Kept.Askers.{askers_of, changed_at, at_target-same, at_index-pinned, map-pinned, without, without_loop, without_session, at_index-released, map-released, running, running-tracks, played-same, swept-same}

-- all these tracks have this asker
abbrev AreAll : Asker → List (Option Asker) → Type 0
AreAll asker askers = AllByRecursion (λ a. a ≡ Some asker) askers

-- the same of askers alone
abbrev IsWhole : List (Option Asker) → Type 0
IsWhole askers = IfSome (running askers) (λ asker. AreAll asker askers)

to_askers : (asker : Asker) (ts : List Track) →
    AllByRecursion (λ (t : Track). t.asker ≡ Some asker) ts → AreAll asker (askers_of ts)
to_askers asker [] all = tt
to_askers asker (t ∷ ts) all = (all.0, to_askers asker ts all.1)

from_askers : (asker : Asker) (ts : List Track) → AreAll asker (askers_of ts) →
    AllByRecursion (λ (t : Track). t.asker ≡ Some asker) ts
from_askers asker [] all = tt
from_askers asker (t ∷ ts) all = (all.0, from_askers asker ts all.1)

whole_if : (o : Option Asker) (ts : List Track) → IfSome o (λ asker. AreAll asker (askers_of ts)) →
    IfSome o (λ asker. AllByRecursion (λ (t : Track). t.asker ≡ Some asker) ts)
whole_if None ts h = tt
whole_if (Some asker) ts h = from_askers asker ts h

askers_if : (o : Option Asker) (ts : List Track) →
    IfSome o (λ asker. AllByRecursion (λ (t : Track). t.asker ≡ Some asker) ts) →
    IfSome o (λ asker. AreAll asker (askers_of ts))
askers_if None ts h = tt
askers_if (Some asker) ts h = to_askers asker ts h

of_tracks : (ts : List Track) → SessionIsWhole ts → IsWhole (askers_of ts)
of_tracks ts h = subst (λ o. IfSome o (λ asker. AreAll asker (askers_of ts))) (running-tracks ts)
    (askers_if (running_session ts) ts h)

to_tracks : (ts : List Track) → IsWhole (askers_of ts) → SessionIsWhole ts
to_tracks ts h = whole_if (running_session ts) ts
    (subst (λ o. IfSome o (λ asker. AreAll asker (askers_of ts))) (sym (running-tracks ts)) h)

-- tracks with the askers of other tracks
pub same_askers : (old now : List Track) → askers_of now ≡ askers_of old → SessionIsWhole old →
    SessionIsWhole now
same_askers old now same h = to_tracks now (subst IsWhole (sym same) (of_tracks old h))

-- without a session's save nothing has to be
none_runs : (askers : List (Option Asker)) → running askers ≡ None → IsWhole askers
none_runs askers none = subst (λ o. IfSome o (λ asker. AreAll asker askers)) (sym none) tt

-- no session's save runs where one track has none
first_of_none : (a : Option Asker) (rest : List (Option Asker)) → running (a ∷ rest) ≡ None →
    (session_asker a ≡ None) × (running rest ≡ None)
first_of_none None rest none = (refl, none)
first_of_none (Some asker) rest none = by_kind asker.of_session refl
  where
    by_kind : (b : Bool) → asker.of_session ≡ b → (session_asker (Some asker) ≡ None)
        × (running rest ≡ None)
    by_kind true is = absurd (cc)
    by_kind false is = (cc, cc)

-- the asker of a session's save is one
session_asker-asker : (a : Option Asker) (asker : Asker) → session_asker a ≡ Some asker →
    session_asker (Some asker) ≡ Some asker
session_asker-asker None asker is = absurd (cc)
session_asker-asker (Some b) asker is = by_kind b.of_session refl
  where
    by_kind : (kind : Bool) → b.of_session ≡ kind → session_asker (Some asker) ≡ Some asker
    by_kind true session =
        let own : session_asker (Some b) ≡ Some b = ap (λ k. if k then Some b else None) session in
        let same : b ≡ asker = cc in
        subst (λ c. session_asker (Some c) ≡ Some c) same own
    by_kind false loop = let none : session_asker (Some b) ≡ None =
        ap (λ k. if k then Some b else None) loop in absurd (cc)

running-asker : (askers : List (Option Asker)) (asker : Asker) → running askers ≡ Some asker →
    session_asker (Some asker) ≡ Some asker
running-asker [] asker is = absurd (cc)
running-asker (a ∷ rest) asker is = by_first (session_asker a) refl (running-asker rest asker)
  where
    by_first : (o : Option Asker) → session_asker a ≡ o →
        (running rest ≡ Some asker → session_asker (Some asker) ≡ Some asker) →
        session_asker (Some asker) ≡ Some asker
    by_first None none behind =
        behind (let first : running (a ∷ rest) ≡ running rest =
        ap (λ o. asker_or o (running rest)) none in sym first ∙ is)
    by_first (Some b) some behind =
        let first : running (a ∷ rest) ≡ Some b = ap (λ o. asker_or o (running rest)) some in
        session_asker-asker a asker (let same : b ≡ asker = cc in
        subst (λ c. session_asker a ≡ Some c) same some)

-- the save of a session has no loop's asker
session_is_no_loop : (asker : Asker) → session_asker (Some asker) ≡ Some asker →
    loop_asker (Some asker) ≡ None
session_is_no_loop asker is = by_kind asker.of_session refl
  where
    by_kind : (kind : Bool) → asker.of_session ≡ kind → loop_asker (Some asker) ≡ None
    by_kind true session = ap (λ k. if k then None else Some asker) session
    by_kind false loop = let none : session_asker (Some asker) ≡ None =
        ap (λ k. if k then Some asker else None) loop in absurd (cc)

-- an asker of no session is still none where it is released
still_none : (a : Option Asker) → session_asker a ≡ None → session_asker (without_loop a) ≡ None
still_none None none = refl
still_none (Some asker) none = by_loop (loop_asker (Some asker)) refl
  where
    by_loop : (o : Option Asker) → loop_asker (Some asker) ≡ o →
        session_asker (without o (Some asker)) ≡ None
    by_loop None is = none
    by_loop (Some b) is = refl

-- what each change of the askers leaves, where no session's save runs
changed_none : (k : ℕ) (change : Option Asker → Option Asker) (askers : List (Option Asker)) →
    ((a : Option Asker) → session_asker a ≡ None → session_asker (change a) ≡ None) →
    running askers ≡ None →
    running (changed_at k change askers) ≡ None
changed_none k change [] keeps none = refl
changed_none zero change (a ∷ rest) keeps none =
    let parts = first_of_none a rest none in rw (keeps a parts.0, parts.1) refl
changed_none (suc k) change (a ∷ rest) keeps none =
    let parts = first_of_none a rest none in
    rw (parts.0, changed_none k change rest keeps parts.1) refl

released_none : (askers : List (Option Asker)) → running askers ≡ None →
    map without_session askers ≡ askers
released_none [] none = refl
released_none (a ∷ rest) none =
    let parts = first_of_none a rest none in
    ap₂ (λ x xs. x ∷ xs) (ap (λ o. without o a) parts.0) (released_none rest parts.1)

-- and where one does
changed_same : (k : ℕ) (change : Option Asker → Option Asker) (asker : Asker)
    (askers : List (Option Asker)) →
    change (Some asker) ≡ Some asker → AreAll asker askers → changed_at k change askers ≡ askers
changed_same k change asker [] same all = refl
changed_same zero change asker (a ∷ rest) same all =
    ap (λ x. x ∷ rest) (ap change all.0 ∙ same ∙ sym all.0)
changed_same (suc k) change asker (a ∷ rest) same all =
    ap (λ xs. a ∷ xs) (changed_same k change asker rest same all.1)

released_all : (asker : Asker) (askers : List (Option Asker)) →
    without_session (Some asker) ≡ None → AreAll asker askers →
    running (map without_session askers) ≡ None
released_all asker [] gone all = refl
released_all asker (a ∷ rest) gone all =
    let first : without_session a ≡ None = ap without_session all.0 ∙ gone in
    rw (first, released_all asker rest gone all.1) refl

-- whole askers, by whether a session's save runs
by_running : (Q : Type 0) (askers : List (Option Asker)) → IsWhole askers →
    (running askers ≡ None → Q) →
    ((asker : Asker) → running askers ≡ Some asker → AreAll asker askers → Q) → Q
by_running Q askers h quiet runs = by_first (running askers) refl h
  where
    by_first : (o : Option Asker) → running askers ≡ o → IfSome o (λ asker. AreAll asker askers) → Q
    by_first None none all = quiet none
    by_first (Some asker) some all = runs asker some all

-- a loop that may be saved has no asker yet
saved_elsewhere : (k frame : ℕ) (asker other : Asker) (ts : List Track) →
    AllByRecursion (IsTrack frame) ts → AreAll other (askers_of ts) →
    option_and_then save_refusal (slice_get ts k) ≡ None →
    changed_at k (λ a. Some asker) (askers_of ts) ≡ askers_of ts
saved_elsewhere k frame asker other [] tracks all unrefused = refl
saved_elsewhere zero frame asker other (t ∷ ts) tracks all unrefused =
    let pins : is_pinned t.loop ≡ true = sym tracks.0.asker ∙ ap is_some all.0 in
    let refused : loop_refusal (is_pinned t.loop) (length_of t.loop == 0) ≡ Some 2 =
    ap (λ b. loop_refusal b (length_of t.loop == 0)) pins in
    absurd (cc)
saved_elsewhere (suc k) frame asker other (t ∷ ts) tracks all unrefused =
    ap (λ rest. t.asker ∷ rest) (saved_elsewhere k frame asker other ts tracks.1 all.1 unrefused)

saves_loop-whole : (refusal : Option ℕ) (k frame : ℕ) (e : Entry) (l : Looper) →
    option_and_then save_refusal (slice_get l.tracks k) ≡ refusal →
    AllByRecursion (IsTrack frame) l.tracks → SessionIsWhole l.tracks →
    SessionIsWhole (saves_loop refusal k (asker_of e false) l).tracks
saves_loop-whole None k frame e l unrefused tracks h =
    let asker = asker_of e false in
    let now = at_index-pinned k asker 0 l.tracks in
    let change : Option Asker → Option Asker = λ a. Some asker in
    to_tracks (saves_loop None k asker l).tracks
    (subst IsWhole (sym now) (by_running (IsWhole (changed_at k change (askers_of l.tracks)))
    (askers_of l.tracks) (of_tracks l.tracks h)
    (λ none. none_runs (changed_at k change (askers_of l.tracks))
    (changed_none k change (askers_of l.tracks) (λ a is. refl) none))
    (λ other some all.
    subst IsWhole (sym (saved_elsewhere k frame asker other l.tracks tracks all unrefused))
    (of_tracks l.tracks h))))
saves_loop-whole (Some n) k frame e l refused tracks h = h

all_of : (asker : Asker) (askers : List (Option Asker)) →
    AreAll asker (map (λ a. Some asker) askers)
all_of asker [] = tt
all_of asker (a ∷ rest) = (refl, all_of asker rest)

whole_of : (sender seq : ℕ) (askers : List (Option Asker)) →
    IsWhole (map (λ a. Some (record { sender = sender; seq = seq; of_session = true })) askers)
whole_of sender seq [] = tt
whole_of sender seq (a ∷ rest) =
    (refl, all_of (record { sender = sender; seq = seq; of_session = true }) rest)

saves_session-whole : (refusal : Option ℕ) (e : Entry) (l : Looper) → SessionIsWhole l.tracks →
    SessionIsWhole (saves_session refusal (asker_of e true) l).tracks
saves_session-whole None e l h =
    to_tracks (map (pinned_for (asker_of e true)) l.tracks)
    (subst IsWhole (sym (map-pinned (asker_of e true) l.tracks))
    (whole_of e.sender e.seq (askers_of l.tracks)))
saves_session-whole (Some n) e l h = h

releases-whole : (target : Target) (l : Looper) → SessionIsWhole l.tracks →
    SessionIsWhole (releases target l).tracks
releases-whole (One k) l h =
    let askers = askers_of l.tracks in
    to_tracks (releases (One k) l).tracks
    (subst IsWhole (sym (at_index-released k 0 l.tracks))
    (by_running (IsWhole (changed_at k without_loop askers)) askers (of_tracks l.tracks h)
    (λ none. none_runs (changed_at k without_loop askers)
    (changed_none k without_loop askers still_none none))
    (λ asker some all.
    subst IsWhole (sym
    (changed_same k without_loop asker askers
    (ap (λ o. without o (Some asker))
    (session_is_no_loop asker (running-asker askers asker some))) all)) (of_tracks l.tracks h))))
releases-whole All l h =
    let askers = askers_of l.tracks in
    to_tracks (releases All l).tracks
    (subst IsWhole (sym (map-released l.tracks))
    (by_running (IsWhole (map without_session askers)) askers (of_tracks l.tracks h)
    (λ none. subst IsWhole (sym (released_none askers none)) (of_tracks l.tracks h))
    (λ asker some all.
    none_runs (map without_session askers)
    (released_all asker askers
    (ap (λ o. without o (Some asker)) (running-asker askers asker some)) all))))
releases-whole Selected l h = h

-- something done to the loops of a target
on_target-whole : (target : Target) (act : ℕ → Loop Sound → Loop Sound) (l : Looper) →
    SessionIsWhole l.tracks →
    SessionIsWhole (at_target target l.globals.selected_loop_num (on_loop act)
    (free_of l.chunks l.tracks) l.tracks)
on_target-whole target act l h =
    same_askers l.tracks _
    (at_target-same target l.globals.selected_loop_num act (free_of l.chunks l.tracks) l.tracks) h

performed-whole : (c : Command) (frame : ℕ) (e : Entry) (l : Looper) →
    AllByRecursion (IsTrack frame) l.tracks → SessionIsWhole l.tracks →
    SessionIsWhole (performed c frame e l).tracks
performed-whole (Down target verb) frame e l tracks h =
    on_target-whole target (pressed verb frame) l h
performed-whole (Up target verb) frame e l tracks h =
    on_target-whole target (released verb frame l.globals.long_press) l h
performed-whole (Hit target verb) frame e l tracks h = on_target-whole target (given verb) l h
performed-whole (Set target control value) frame e l tracks h =
    on_target-whole target (sets control value) l h
performed-whole (SetGlobal control value) frame e l tracks h = h
performed-whole (Get target control) frame e l tracks h = h
performed-whole (GetGlobal control) frame e l tracks h = h
performed-whole (SaveLoop target name) frame e l tracks h =
    saves_loop-whole (refusal_at target l) (index_of target l.globals.selected_loop_num) frame e l
    refl tracks h
performed-whole (SaveSession name) frame e l tracks h =
    saves_session-whole (session_refusal l.tracks) e l h
performed-whole (Release target outcome) frame e l tracks h = releases-whole target l h
performed-whole Quit frame e l tracks h = h

-- an entry
pub applied-whole : (frame : ℕ) (e : Entry) (l : Looper) → AllByRecursion (IsTrack frame) l.tracks →
    SessionIsWhole l.tracks →
    SessionIsWhole (applied frame e l).tracks
applied-whole frame e l tracks h = by_taken (is_taken e l)
  where
    by_taken : (b : Bool) → SessionIsWhole (if b then performed e.command frame e l else l).tracks
    by_taken true = performed-whole e.command frame e l tracks h
    by_taken false = h

-- the boundaries of a frame, and the frame behind them
pub at_boundaries-whole : (frame : ℕ) (l : Looper) → SessionIsWhole l.tracks →
    SessionIsWhole (at_boundaries frame l).tracks
at_boundaries-whole frame l h =
    same_askers l.tracks (at_boundaries frame l).tracks
    (swept-same (at_boundary l.globals frame (faces_of l)) l.tracks (free_of l.chunks l.tracks)) h

pub framed_from-whole : (x : Sound) (l : Looper) → SessionIsWhole l.tracks →
    SessionIsWhole (framed_from x l).looper.tracks
framed_from-whole x l h =
    same_askers l.tracks _ (played-same l.globals.fade_step x l.tracks (free_of l.chunks l.tracks))
    h

-- the start of a run
first-no_asker : (strips : List StripSettings) (lists : List (List Sound)) →
    running (askers_of (first_tracks strips lists)) ≡ None
first-no_asker [] lists = refl
first-no_asker (s ∷ ss) [] = first-no_asker ss []
first-no_asker (s ∷ ss) (list ∷ lists) = first-no_asker ss lists

pub first-whole : (strips : List StripSettings) (lists : List (List Sound)) →
    SessionIsWhole (first_tracks strips lists)
first-whole strips lists =
    to_tracks (first_tracks strips lists)
    (none_runs (askers_of (first_tracks strips lists)) (first-no_asker strips lists))
