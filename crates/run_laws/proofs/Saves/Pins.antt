-- A pin that stands stays through entries and frames, until a release takes it away.
use Rattle.std.proofs.Common.{◌≡◌, ◌⊎◌, ℕ, zero, suc, Bool, true, false, ◌||◌, ◌==◌, List, [], ◌∷◌, map, Option, Some, None, IfSome, is_some, slice_get, if◌then◌else◌, refl, sym, ap, ap₂, ◌∙◌, subst, inl, inr}
use Rattle.std.specs.List.{AllZip}
use Rattle.std.specs.Option.{option_and_then}
use Rattle.sl_base.specs.Sounds.{Sound}
use Rattle.sl_commands.specs.declared.Target.{Target}
use Rattle.sl_commands.specs.declared.Target.TheVariants.{One, All, Selected}
use Rattle.sl_commands.specs.declared.Command.{Command}
use Rattle.sl_commands.specs.declared.Command.TheVariants.{Down, Up, Hit, Set, SetGlobal, Get, GetGlobal, SaveLoop, SaveSession, Release, Quit}
use Rattle.sl_commands.specs.declared.Entry.{Entry}
use Rattle.looper_rules.specs.Stack.{Pin}
use Rattle.looper_rules.specs.Loop.{Loop, length_of}
use Rattle.looper_rules.specs.Presses.{given, pressed, released, waiting_acts}
use Rattle.looper_rules.specs.Boundaries.{is_boundary}
use Rattle.looper_rules.specs.LoopFrame.{ready}
use Rattle.looper_rules.specs.Looper.{Asker, Track, Looper, swept, itself, at_index, at_target, on_loop, free_of, faces_of, index_of}
use Rattle.looper_rules.specs.Saves.{Save, pinned_for, loop_refusal, save_refusal, any_pinned, session_refusal, loop_asker, session_asker, freed_if, loop_released, session_released}
use Rattle.looper_rules.specs.Entries.{is_taken, sets, applied, performed, asker_of, refusal_at, track_of, saves_loop, saves_session, releases, save, save_of}
use Rattle.looper_rules.specs.Frame.{at_boundary, at_boundaries, played_on, played, framed}
use Rattle.looper_rules.specs.Pins.{pin_on, pins_of, pin_for, PinsStay, PinsStayOrGo, IsNoRelease}
use Rattle.run_laws.proofs.Saves.Loops.{pin_in, given_pin, pressed_pin, released_pin, waiting_acts_pin, ready_pin, after_pin}
use Rattle.run_laws.proofs.Saves.Entries.{taken_some, taken_if_some, unrefused_if_some}

-- something done to loops that leaves their pins
abbrev pub LeavesPins : (ℕ → Loop Sound → Loop Sound) → Type 0
LeavesPins act = (reach : ℕ) (l : Loop Sound) → pin_in (act reach l) ≡ pin_in l

at_index-pins : (k : ℕ) (act : ℕ → Loop Sound → Loop Sound) (free : ℕ) (ts : List Track) →
    LeavesPins act →
    map pin_on (at_index k (on_loop act) free ts) ≡ map pin_on ts
at_index-pins k act free [] leaves = refl
at_index-pins zero act free (t ∷ ts) leaves = ap (λ pin. pin ∷ map pin_on ts) (leaves _ t.loop)
at_index-pins (suc k) act free (t ∷ ts) leaves =
    ap (λ pins. pin_on t ∷ pins) (at_index-pins k act free ts leaves)

swept-pins : (act : ℕ → Loop Sound → Loop Sound) (ts : List Track) (free : ℕ) → LeavesPins act →
    map pin_on (swept itself (on_loop act) free ts) ≡ map pin_on ts
swept-pins act [] free leaves = refl
swept-pins act (t ∷ ts) free leaves =
    ap₂ (λ pin pins. pin ∷ pins) (leaves _ t.loop) (swept-pins act ts _ leaves)

at_target-pins : (target : Target) (selected : ℕ) (act : ℕ → Loop Sound → Loop Sound) (free : ℕ)
    (ts : List Track) →
    LeavesPins act → map pin_on (at_target target selected (on_loop act) free ts) ≡ map pin_on ts
at_target-pins (One k) selected act free ts leaves = at_index-pins k act free ts leaves
at_target-pins All selected act free ts leaves = swept-pins act ts free leaves
at_target-pins Selected selected act free ts leaves = at_index-pins selected act free ts leaves

-- a frame leaves all pins
pub boundary-pin : (meets : Bool) (reach : ℕ) (l : Loop Sound) →
    pin_in (if meets then waiting_acts reach l else l) ≡ pin_in l
boundary-pin true reach l = waiting_acts_pin reach l
boundary-pin false reach l = refl

played-pins : (step : ℕ) (x : Sound) (ts : List Track) (free : ℕ) →
    map pin_on (map played_on (swept played_on (played step x) free ts)) ≡ map pin_on ts
played-pins step x [] free = refl
played-pins step x (t ∷ ts) free =
    ap₂ (λ pin pins. pin ∷ pins) (after_pin x _ (ready x _ t.loop) ∙ ready_pin x _ t.loop)
    (played-pins step x ts _)

pub framed-pins : (frame : ℕ) (x : Sound) (l : Looper) →
    pins_of (framed frame x l).looper ≡ pins_of l
framed-pins frame x l =
    let meeting = at_boundaries frame l in
    let faces = faces_of l in
    played-pins l.globals.fade_step x meeting.tracks (free_of l.chunks meeting.tracks)
    ∙ swept-pins (at_boundary l.globals frame faces) l.tracks (free_of l.chunks l.tracks)
    (λ reach loop. boundary-pin
    (is_boundary l.globals.sync_source loop.controls.quantize l.globals.pulse frame faces) reach
    loop)

-- a pin that stood stands
abbrev Stays : Option (Pin Sound) → Option (Pin Sound) → Type 0
Stays before after = IfSome before (λ pin. after ≡ Some pin)

stays : (pin : Option (Pin Sound)) → Stays pin pin
stays None = tt
stays (Some p) = refl

all_stay : (pins : List (Option (Pin Sound))) → AllZip Stays pins pins
all_stay [] = tt
all_stay (pin ∷ pins) = (stays pin, all_stay pins)

same_stay : (before after : List (Option (Pin Sound))) → after ≡ before → AllZip Stays before after
same_stay before after same = subst (AllZip Stays before) (sym same) (all_stay before)

-- a save that isn't refused puts a pin where none stood
no_pin : (pin after : Option (Pin Sound)) (empty : Bool) → loop_refusal (is_some pin) empty ≡ None →
    Stays pin after
no_pin None after empty unrefused = tt
no_pin (Some p) after empty unrefused = absurd (cc)

loop_stays : (k : ℕ) (asker : Asker) (free : ℕ) (ts : List Track) →
    option_and_then save_refusal (slice_get ts k) ≡ None →
    AllZip Stays (map pin_on ts) (map pin_on (at_index k (λ reach t. pinned_for asker t) free ts))
loop_stays k asker free [] unrefused = tt
loop_stays zero asker free (t ∷ ts) unrefused =
    (no_pin (pin_on t) _ (length_of t.loop == 0) unrefused, all_stay (map pin_on ts))
loop_stays (suc k) asker free (t ∷ ts) unrefused =
    (stays (pin_on t), loop_stays k asker free ts unrefused)

saves_loop-stays : (refusal : Option ℕ) (k : ℕ) (asker : Asker) (l : Looper) →
    option_and_then save_refusal (slice_get l.tracks k) ≡ refusal →
    PinsStay l (saves_loop refusal k asker l)
saves_loop-stays None k asker l is = loop_stays k asker 0 l.tracks is
saves_loop-stays (Some n) k asker l is = all_stay (pins_of l)

unpinned : (pin after : Option (Pin Sound)) (rest : Bool) → (is_some pin || rest) ≡ false →
    Stays pin after × (rest ≡ false)
unpinned None after rest none = (tt, none)
unpinned (Some p) after rest none = absurd (cc)

session_stays : (asker : Asker) (ts : List Track) → any_pinned ts ≡ false →
    AllZip Stays (map pin_on ts) (map pin_on (map (pinned_for asker) ts))
session_stays asker [] none = tt
session_stays asker (t ∷ ts) none =
    let here = unpinned (pin_on t) (pin_on (pinned_for asker t)) (any_pinned ts) none in
    (here.0, session_stays asker ts here.1)

saves_session-stays : (any : Bool) (asker : Asker) (l : Looper) → any_pinned l.tracks ≡ any →
    PinsStay l (saves_session (if any then Some 2 else None) asker l)
saves_session-stays false asker l none = session_stays asker l.tracks none
saves_session-stays true asker l some = all_stay (pins_of l)

-- a command other than a release leaves each pin that stands
performed-stays : (c : Command) (frame : ℕ) (e : Entry) (l : Looper) → IsNoRelease c →
    PinsStay l (performed c frame e l)
performed-stays (Down target verb) frame e l other =
    same_stay _ _ (at_target-pins target l.globals.selected_loop_num (pressed verb frame)
    (free_of l.chunks l.tracks) l.tracks (λ reach loop. pressed_pin verb frame reach loop))
performed-stays (Up target verb) frame e l other =
    same_stay _ _ (at_target-pins target l.globals.selected_loop_num
    (released verb frame l.globals.long_press) (free_of l.chunks l.tracks) l.tracks
    (λ reach loop. released_pin verb frame l.globals.long_press reach loop))
performed-stays (Hit target verb) frame e l other =
    same_stay _ _ (at_target-pins target l.globals.selected_loop_num (given verb)
    (free_of l.chunks l.tracks) l.tracks (λ reach loop. given_pin verb reach loop))
performed-stays (Set target control value) frame e l other =
    same_stay _ _ (at_target-pins target l.globals.selected_loop_num (sets control value)
    (free_of l.chunks l.tracks) l.tracks (λ reach loop. refl))
performed-stays (SetGlobal control value) frame e l other = all_stay (pins_of l)
performed-stays (Get target control) frame e l other = all_stay (pins_of l)
performed-stays (GetGlobal control) frame e l other = all_stay (pins_of l)
performed-stays (SaveLoop target name) frame e l other =
    saves_loop-stays (refusal_at target l) (index_of target l.globals.selected_loop_num)
    (asker_of e false) l refl
performed-stays (SaveSession name) frame e l other =
    saves_session-stays (any_pinned l.tracks) (asker_of e true) l refl
performed-stays (Release target outcome) frame e l other = absurd (other target outcome refl)
performed-stays Quit frame e l other = all_stay (pins_of l)

pub applied-stays : (frame : ℕ) (e : Entry) (l : Looper) → IsNoRelease e.command →
    PinsStay l (applied frame e l)
applied-stays frame e l other = by_taken (is_taken e l)
  where
    by_taken : (b : Bool) → PinsStay l (if b then performed e.command frame e l else l)
    by_taken true = performed-stays e.command frame e l other
    by_taken false = all_stay (pins_of l)

-- a release leaves each pin or takes it away
abbrev StaysOrGoes : Option (Pin Sound) → Option (Pin Sound) → Type 0
StaysOrGoes before after = (after ≡ before) ⊎ (after ≡ None)

freed_if-goes : (o : Option Asker) (t : Track) → StaysOrGoes (pin_on t) (pin_on (freed_if o t))
freed_if-goes None t = inl refl
freed_if-goes (Some asker) t = inr refl

same_or_gone : (pins : List (Option (Pin Sound))) → AllZip StaysOrGoes pins pins
same_or_gone [] = tt
same_or_gone (pin ∷ pins) = (inl refl, same_or_gone pins)

loop_goes : (k free : ℕ) (ts : List Track) →
    AllZip StaysOrGoes (map pin_on ts)
    (map pin_on (at_index k (λ reach t. loop_released t) free ts))
loop_goes k free [] = tt
loop_goes zero free (t ∷ ts) = (freed_if-goes (loop_asker t.asker) t, same_or_gone (map pin_on ts))
loop_goes (suc k) free (t ∷ ts) = (inl refl, loop_goes k free ts)

session_goes : (ts : List Track) →
    AllZip StaysOrGoes (map pin_on ts) (map pin_on (map session_released ts))
session_goes [] = tt
session_goes (t ∷ ts) = (freed_if-goes (session_asker t.asker) t, session_goes ts)

releases-go : (target : Target) (l : Looper) →
    AllZip StaysOrGoes (pins_of l) (pins_of (releases target l))
releases-go (One k) l = loop_goes k 0 l.tracks
releases-go All l = session_goes l.tracks
releases-go Selected l = same_or_gone (pins_of l)

pub applied-goes : (frame : ℕ) (e : Entry) (l : Looper) (target : Target) (outcome : ℕ) →
    e.command ≡ Release target outcome → PinsStayOrGo l (applied frame e l)
applied-goes frame e l target outcome is = by_taken (is_taken e l)
  where
    by_taken : (b : Bool) →
        AllZip StaysOrGoes (pins_of l) (pins_of (if b then performed e.command frame e l else l))
    by_taken true = subst (λ c. AllZip StaysOrGoes (pins_of l) (pins_of (performed c frame e l)))
        (sym is) (releases-go target l)
    by_taken false = same_or_gone (pins_of l)

-- a save that is made pins what it saves
at_index-pinned : (k : ℕ) (asker : Asker) (free : ℕ) (ts : List Track) (t : Track) →
    slice_get ts k ≡ Some t →
    slice_get (map pin_on (at_index k (λ reach t. pinned_for asker t) free ts)) k ≡ Some
    (Some (pin_for t))
at_index-pinned k asker free [] t there = absurd (cc)
at_index-pinned zero asker free (u ∷ us) t there = let same : u ≡ t = cc in
    ap (λ t. Some (Some (pin_for t))) same
at_index-pinned (suc k) asker free (u ∷ us) t there = at_index-pinned k asker free us t there

map-pinned : (asker : Asker) (ts : List Track) →
    map pin_on (map (pinned_for asker) ts) ≡ map (λ t. Some (pin_for t)) ts
map-pinned asker [] = refl
map-pinned asker (t ∷ ts) = ap (λ pins. Some (pin_for t) ∷ pins) (map-pinned asker ts)

made_by : (frame : ℕ) (e : Entry) (l : Looper) (c : Command) → e.command ≡ c → is_taken e l ≡ true →
    applied frame e l ≡ performed c frame e l
made_by frame e l c is taken =
    ap (λ b. if b then performed e.command frame e l else l) taken
    ∙ ap (λ c. performed c frame e l) is

pub loop_save-pins : (frame : ℕ) (e : Entry) (l : Looper) (s : Save) (target : Target)
    (name : List ℕ) (t : Track) →
    e.command ≡ SaveLoop target name → save e l ≡ Some s → track_of target l ≡ Some t →
    slice_get (pins_of (applied frame e l)) (index_of target l.globals.selected_loop_num) ≡ Some
    (Some (pin_for t))
loop_save-pins frame e l s target name t is made there =
    let k = index_of target l.globals.selected_loop_num in
    let saved = subst (λ c. save_of c l ≡ Some s) is
    (taken_some (is_taken e l) (save_of e.command l) s made) in
    let unrefused = unrefused_if_some (refusal_at target l) _ s saved in
    let now = made_by frame e l (SaveLoop target name) is
    (taken_if_some (is_taken e l) (save_of e.command l) s made)
    ∙ ap (λ refusal. saves_loop refusal k (asker_of e false) l) unrefused in
    ap (λ (after : Looper). slice_get (pins_of after) k) now
    ∙ at_index-pinned k (asker_of e false) 0 l.tracks t there

pub session_save-pins : (frame : ℕ) (e : Entry) (l : Looper) (s : Save) (name : List ℕ) →
    e.command ≡ SaveSession name → save e l ≡ Some s →
    pins_of (applied frame e l) ≡ map (λ t. Some (pin_for t)) l.tracks
session_save-pins frame e l s name is made =
    let saved = subst (λ c. save_of c l ≡ Some s) is
    (taken_some (is_taken e l) (save_of e.command l) s made) in
    let unrefused = unrefused_if_some (session_refusal l.tracks) _ s saved in
    let now = made_by frame e l (SaveSession name) is
    (taken_if_some (is_taken e l) (save_of e.command l) s made)
    ∙ ap (λ refusal. saves_session refusal (asker_of e true) l) unrefused in
    ap pins_of now ∙ map-pinned (asker_of e true) l.tracks
