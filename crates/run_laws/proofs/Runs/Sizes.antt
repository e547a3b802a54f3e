-- A run keeps the number of loops, and the selected loop stays one of them.
use Rattle.std.proofs.Common.{◌≡◌, ℕ, zero, suc, ◌+◌, ◌<◌, ℤ, pos, negsuc, Bool, true, false, not, List, [], ◌∷◌, length, Option, Some, None, if◌then◌else◌, IsTrue, refl, sym, ap, ◌∙◌, subst, ltb-true}
use Rattle.std.proofs.lemmas.Bool.{and_parts}
use Rattle.std.proofs.lemmas.List.{length-map}
use Rattle.sl_base.specs.Sounds.{Sound}
use Rattle.sl_commands.specs.declared.Control.{Control}
use Rattle.sl_commands.specs.declared.Control.TheVariants.{SelectedLoopNum, FadeStep, LongPress, Pulse}
use Rattle.sl_commands.specs.declared.Target.{Target}
use Rattle.sl_commands.specs.declared.Target.TheVariants.{One, All, Selected}
use Rattle.sl_commands.specs.declared.Command.{Command}
use Rattle.sl_commands.specs.declared.Command.TheVariants.{Down, Up, Hit, Set, SetGlobal, Get, GetGlobal, SaveLoop, SaveSession, Release, Quit}
use Rattle.sl_commands.specs.declared.Entry.{Entry}
use Rattle.sl_commands.specs.declared.Globals.{Globals}
use Rattle.sl_commands.specs.Controls.{is_of_loop, is_in_range}
use Rattle.sl_commands.specs.Commands.{is_allowed}
use Rattle.sl_commands.specs.Entries.{is_sender, is_valid}
use Rattle.looper_rules.specs.Presses.{given, pressed, released}
use Rattle.looper_rules.specs.Values.{with_global}
use Rattle.looper_rules.specs.Looper.{Asker, Track, Looper, free_of, index_of}
use Rattle.looper_rules.specs.Saves.{session_refusal}
use Rattle.looper_rules.specs.Entries.{is_taken, sets, applied, performed, asker_of, refusal_at, saves_loop, saves_session, releases}
use Rattle.looper_rules.specs.Frame.{framed}
use Rattle.sl_commands.specs.declared.StripSettings.{StripSettings}
use Rattle.sl_commands.specs.Settings.{LooperSettings, are_settings, are_globals, are_strips}
use Rattle.looper_rules.specs.Run.{first_tracks, start, entered, due, later, begun, run}
use Rattle.looper_laws.specs.Selecting.{SelectsALoop}
use Rattle.looper_laws.proofs.Kept.Askers.{asker_on, askers_of, changed_at, at_target-same, at_index-pinned, map-pinned, without_loop, without_session, at_index-released, map-released, framed-same}
use Rattle.run_laws.proofs.Answers.Pending.{of_loop, of_session}

-- so many loops, the selected one being one of them
pub record HasLoops (n : ℕ) (l : Looper) : Type 0 where
  pub loops : length l.tracks ≡ n
  pub selects : l.globals.selected_loop_num < n

length-changed_at : (k : ℕ) (change : Option Asker → Option Asker) (askers : List (Option Asker)) →
    length (changed_at k change askers) ≡ length askers
length-changed_at k change [] = refl
length-changed_at zero change (a ∷ rest) = refl
length-changed_at (suc k) change (a ∷ rest) = ap suc (length-changed_at k change rest)

-- there are as many tracks as there are askers of tracks
length-from_askers : (now old : List Track) → length (askers_of now) ≡ length (askers_of old) →
    length now ≡ length old
length-from_askers now old same = sym (length-map now asker_on) ∙ same ∙ length-map old asker_on

length-saves_loop : (refusal : Option ℕ) (k sender seq : ℕ) (l : Looper) →
    length (saves_loop refusal k (of_loop sender seq) l).tracks ≡ length l.tracks
length-saves_loop None k sender seq l =
    length-from_askers _ l.tracks (ap length (at_index-pinned k (of_loop sender seq) 0 l.tracks)
    ∙ length-changed_at k (λ a. Some (of_loop sender seq)) (askers_of l.tracks))
length-saves_loop (Some n) k sender seq l = refl

length-saves_session : (refusal : Option ℕ) (sender seq : ℕ) (l : Looper) →
    length (saves_session refusal (of_session sender seq) l).tracks ≡ length l.tracks
length-saves_session None sender seq l =
    length-from_askers _ l.tracks (ap length (map-pinned (of_session sender seq) l.tracks)
    ∙ length-map (askers_of l.tracks) (λ a. Some (of_session sender seq)))
length-saves_session (Some n) sender seq l = refl

length-releases : (target : Target) (l : Looper) →
    length (releases target l).tracks ≡ length l.tracks
length-releases (One k) l =
    length-from_askers _ l.tracks (ap length (at_index-released k 0 l.tracks)
    ∙ length-changed_at k without_loop (askers_of l.tracks))
length-releases All l =
    length-from_askers _ l.tracks
    (ap length (map-released l.tracks) ∙ length-map (askers_of l.tracks) without_session)
length-releases Selected l = refl

length-performed : (c : Command) (frame : ℕ) (e : Entry) (l : Looper) →
    length (performed c frame e l).tracks ≡ length l.tracks
length-performed (Down target verb) frame e l =
    length-from_askers _ l.tracks
    (ap length (at_target-same target l.globals.selected_loop_num (pressed verb frame)
    (free_of l.chunks l.tracks) l.tracks))
length-performed (Up target verb) frame e l =
    length-from_askers _ l.tracks
    (ap length (at_target-same target l.globals.selected_loop_num
    (released verb frame l.globals.long_press) (free_of l.chunks l.tracks) l.tracks))
length-performed (Hit target verb) frame e l =
    length-from_askers _ l.tracks
    (ap length (at_target-same target l.globals.selected_loop_num (given verb)
    (free_of l.chunks l.tracks) l.tracks))
length-performed (Set target control value) frame e l =
    length-from_askers _ l.tracks
    (ap length (at_target-same target l.globals.selected_loop_num (sets control value)
    (free_of l.chunks l.tracks) l.tracks))
length-performed (SetGlobal control value) frame e l = refl
length-performed (Get target control) frame e l = refl
length-performed (GetGlobal control) frame e l = refl
length-performed (SaveLoop target name) frame e l =
    length-saves_loop (refusal_at target l) (index_of target l.globals.selected_loop_num) e.sender
    e.seq l
length-performed (SaveSession name) frame e l =
    length-saves_session (session_refusal l.tracks) e.sender e.seq l
length-performed (Release target outcome) frame e l = length-releases target l
length-performed Quit frame e l = refl

-- a valid set leaves one of the loops selected
selects-with_global : (control : Control) (value : ℤ) (n : ℕ) (g : Globals) →
    is_in_range control value n ≡ true →
    g.selected_loop_num < n → (with_global control value g).selected_loop_num < n
selects-with_global SelectedLoopNum (pos k) n g inside selects = ltb-true k n inside
selects-with_global SelectedLoopNum (negsuc k) n g inside selects = absurd (cc)
selects-with_global _ value n g inside selects = selects

globals-saves_loop : (refusal : Option ℕ) (k : ℕ) (asker : Asker) (l : Looper) →
    (saves_loop refusal k asker l).globals ≡ l.globals
globals-saves_loop None k asker l = refl
globals-saves_loop (Some n) k asker l = refl

globals-saves_session : (refusal : Option ℕ) (asker : Asker) (l : Looper) →
    (saves_session refusal asker l).globals ≡ l.globals
globals-saves_session None asker l = refl
globals-saves_session (Some n) asker l = refl

globals-releases : (target : Target) (l : Looper) → (releases target l).globals ≡ l.globals
globals-releases (One k) l = refl
globals-releases All l = refl
globals-releases Selected l = refl

selects-same : (n : ℕ) (old now : Globals) → now ≡ old → old.selected_loop_num < n →
    now.selected_loop_num < n
selects-same n old now same selects = subst (λ g. g.selected_loop_num < n) (sym same) selects

selects-performed : (c : Command) (frame : ℕ) (e : Entry) (n : ℕ) (l : Looper) →
    is_allowed n c ≡ true →
    l.globals.selected_loop_num < n → (performed c frame e l).globals.selected_loop_num < n
selects-performed (SetGlobal control value) frame e n l allowed selects =
    selects-with_global control value n l.globals
    (and_parts (not (is_of_loop control)) (is_in_range control value n) allowed).1 selects
selects-performed (SaveLoop target name) frame e n l allowed selects =
    selects-same n l.globals _
    (globals-saves_loop (refusal_at target l) (index_of target l.globals.selected_loop_num)
    (asker_of e false) l) selects
selects-performed (SaveSession name) frame e n l allowed selects =
    selects-same n l.globals _
    (globals-saves_session (session_refusal l.tracks) (asker_of e true) l) selects
selects-performed (Release target outcome) frame e n l allowed selects =
    selects-same n l.globals _ (globals-releases target l) selects
selects-performed (Down target verb) frame e n l allowed selects = selects
selects-performed (Up target verb) frame e n l allowed selects = selects
selects-performed (Hit target verb) frame e n l allowed selects = selects
selects-performed (Set target control value) frame e n l allowed selects = selects
selects-performed (Get target control) frame e n l allowed selects = selects
selects-performed (GetGlobal control) frame e n l allowed selects = selects
selects-performed Quit frame e n l allowed selects = selects

-- an entry keeps both, and so does a frame
pub applied-has_loops : (n frame : ℕ) (e : Entry) (l : Looper) → HasLoops n l →
    HasLoops n (applied frame e l)
applied-has_loops n frame e l has = by_taken (is_taken e l) refl
  where
    by_taken : (b : Bool) → is_valid (length l.tracks) e ≡ b →
        HasLoops n (if b then performed e.command frame e l else l)
    by_taken true valid =
        let here = subst (λ k. is_valid k e ≡ true) has.loops valid in
        record {
          loops = length-performed e.command frame e l ∙ has.loops;
          selects = selects-performed e.command frame e n l
              (and_parts (is_sender e.sender e.command) (is_allowed n e.command) here).1
              has.selects;
        }
    by_taken false valid = has

pub framed-has_loops : (n frame : ℕ) (x : Sound) (l : Looper) → HasLoops n l →
    HasLoops n (framed frame x l).looper
framed-has_loops n frame x l has =
    record {
      loops = length-from_askers (framed frame x l).looper.tracks l.tracks
          (ap length (framed-same frame x l)) ∙ has.loops;
      selects = has.selects;
    }

pub entered-has_loops : (n frame : ℕ) (es : List Entry) (l : Looper) → HasLoops n l →
    HasLoops n (entered frame es l).looper
entered-has_loops n frame [] l has = has
entered-has_loops n frame (e ∷ es) l has =
    entered-has_loops n frame es (applied frame e l) (applied-has_loops n frame e l has)

pub begun-has_loops : (n frame : ℕ) (es : List Entry) (xs : List Sound) (l : Looper) →
    HasLoops n l →
    HasLoops n (begun frame es xs l).looper
begun-has_loops n frame es [] l has = has
begun-has_loops n frame es (x ∷ xs) l has =
    let before = entered frame (due frame es) l in
    begun-has_loops n (frame + 1) (later frame es) xs (framed frame x before.looper).looper
    (framed-has_loops n frame x before.looper (entered-has_loops n frame (due frame es) l has))

pub run-has_loops : (n : ℕ) (es : List Entry) (input : List Sound) (l : Looper) → HasLoops n l →
    HasLoops n (run es input l).looper
run-has_loops n es input l has =
    let first = begun 0 es input l in
    entered-has_loops n (length input) first.left first.looper (begun-has_loops n 0 es input l has)

-- a run begins with as many loops as its settings have
pub length-first_tracks : (strips : List StripSettings) (lists : List (List Sound)) →
    length (first_tracks strips lists) ≡ length strips
length-first_tracks [] lists = refl
length-first_tracks (s ∷ ss) [] = ap suc (length-first_tracks ss [])
length-first_tracks (s ∷ ss) (list ∷ lists) = ap suc (length-first_tracks ss lists)

-- valid settings select one of the loops
pub start-selects : (settings : LooperSettings) (chunks : ℕ) (initial : List (List Sound)) →
    IsTrue (are_settings settings) → SelectsALoop (start settings chunks initial)
start-selects settings chunks initial valid =
    let n = length settings.strips in
    let g = settings.globals in
    let but_strips = and_parts _ (are_strips settings.strips) valid in
    let ranges = and_parts _ (are_globals n g) but_strips.0 in
    let but_pulse = and_parts _ (is_in_range Pulse (pos g.pulse) n) ranges.1 in
    let but_press = and_parts _ (is_in_range LongPress (pos g.long_press) n) but_pulse.0 in
    let but_step = and_parts _ (is_in_range FadeStep (pos g.fade_step) n) but_press.0 in
    let selected = and_parts _ (is_in_range SelectedLoopNum (pos g.selected_loop_num) n)
    but_step.0 in
    subst (λ m. g.selected_loop_num < m) (sym (length-first_tracks settings.strips initial))
    (ltb-true g.selected_loop_num n selected.1)

-- a run keeps its loops, and the selected one is one of them
pub run-keeps_loops : (es : List Entry) (input : List Sound) (l : Looper) → SelectsALoop l →
    (length (run es input l).looper.tracks ≡ length l.tracks) × SelectsALoop (run es input l).looper
run-keeps_loops es input l selects =
    let last = run-has_loops (length l.tracks) es input l
    (record { loops = refl; selects = selects }) in (
      last.loops,
      subst (λ m. (run es input l).looper.globals.selected_loop_num < m) (sym last.loops)
          last.selects,
    )
