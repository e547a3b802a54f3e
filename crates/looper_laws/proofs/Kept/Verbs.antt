-- A loop keeps what it has to keep through every verb in every mode.
use Rattle.std.proofs.Common.{◌≡◌, ℕ, ◌<◌, Bool, true, false, not, List, [], ◌∷◌, None, refl, sym, subst, arith}
use Rattle.std.specs.Prelude.{⊤, ◌==◌, ◌||◌, nat_lt, if◌then◌else◌}
use Rattle.std.proofs.lemmas.Bool.{cond_both}
use Rattle.sl_commands.specs.declared.Verb.{Verb}
use Rattle.sl_commands.specs.declared.Verb.TheVariants.{Rec, Overdub, Multiply, Insert, Replace, Substitute, Mute, MuteOn, MuteOff, OneShot, Trigger, Reverse, Pause, Undo, Redo, UndoAll, RedoAll}
use Rattle.sl_commands.specs.declared.Mode.{Mode}
use Rattle.sl_commands.specs.declared.Mode.TheVariants.{Off, WaitStart, Recording, Playing, Overdubbing, Multiplying, Inserting, Replacing, Muted, OneShot as PlayingOnce, Substituting, Paused}
use Rattle.looper_rules.specs.Layers.{Layer}
use Rattle.looper_rules.specs.Opening.{opening}
use Rattle.looper_rules.specs.Loop.{Loop, is_writing, length_of, in_mode, turned, rounds}
use Rattle.looper_rules.specs.Closing.{closed, closed_from, closed_recording, at_stop}
use Rattle.looper_rules.specs.Starting.{starts_record, starts, records, mode_after_wait, leaves_wait}
use Rattle.looper_rules.specs.Verbs.{Column, InOff, InItsOwn, InAnother, Elsewhere, is_mode_of, column, unless_off, closes_then, mute_toggled, unmuted, pause_toggled, start_place, plays_from_start, ends, reversed_in, record_row, layer_row, length_row, mute_row, mute_on_row, mute_off_row, pause_row, start_row, reverse_row, row, acts_in, acts_waiting, acts}
use Rattle.looper_rules.specs.States.{AreClosed, AreWaiting, InMode}
use Rattle.looper_rules.specs.Reached.{Unchanged, Keeps, IsLayering}
use Rattle.looper_laws.proofs.Kept.Decks.{with_deck}
use Rattle.looper_laws.proofs.Kept.Opening.{records_keeps, starts_keeps}
use Rattle.looper_laws.proofs.Kept.Closing.{closed_keeps, closed_leads, IsClosedMode}
use Rattle.looper_laws.proofs.Kept.Rest.{closed_layers, closed_redo, waiting_layers, quiet_streak, streak_in_quiet, IsResting, resting_is_quiet, playable, rests_again, resting_inside}
use Rattle.looper_laws.proofs.Kept.History.{closed_is_quiet, undo_keeps, redo_keeps, undo_all_keeps, redo_all_keeps}

-- closing leaves the direction
recording_direction : {A : Type 0} (empty single : Bool) (l : Loop A) →
    (closed_recording empty single l).deck.backward ≡ l.deck.backward
recording_direction true true l = refl
recording_direction true false l = refl
recording_direction false single l = refl

closed_direction : {A : Type 0} (mode : Mode) (l : Loop A) →
    (closed_from mode l).deck.backward ≡ l.deck.backward
closed_direction Recording l = recording_direction _ _ l
closed_direction Multiplying l = refl
closed_direction _ l = refl

-- what is done to a loop whose list is there and isn't written, in this direction, keeps it
abbrev pub KeepsAtRest : {A : Type 0} → Unchanged → Bool → (Loop A → Loop A) → Type 0
KeepsAtRest {A = A} a backward act = (l : Loop A) → IsResting l.deck.mode →
    l.deck.backward ≡ backward → Keeps a l → Keeps a (act l)

-- what is done unless closing has made the mode Off
unless_off_keeps :
    {A : Type 0} {a : Unchanged} {l : Loop A} (mode : Mode) (act : Loop A → Loop A) →
    IsClosedMode mode →
    (IsResting mode → Keeps a (act l)) → Keeps a l → Keeps a (unless_off mode act l)
unless_off_keeps Off act leads more h = h
unless_off_keeps Playing act leads more h = more tt
unless_off_keeps _ act leads more h = absurd leads

-- closing, and then something
closes_then_keeps :
    {A : Type 0} {a : Unchanged} {l : Loop A} (act : Loop A → Loop A) →
    KeepsAtRest a l.deck.backward act →
    is_writing l.deck.mode ≡ true → Keeps a l → Keeps a (closes_then act l)
closes_then_keeps {l = l} act more writing h =
    let now : Keeps _ (closed l) = closed_keeps writing h
    in unless_off_keeps (closed l).deck.mode act (closed_leads l)
    (λ rests. more (closed l) rests (closed_direction l.deck.mode l) now) now

-- WaitStart
waits : {A : Type 0} {a : Unchanged} {l : Loop A} → is_writing l.deck.mode ≡ false → Keeps a l →
    Keeps a (in_mode WaitStart l)
waits {l = l} quiet h =
    with_deck (record l.deck { mode = WaitStart }) l.stack.streak h (
      waiting_layers l.deck.mode l.stack.layers l.stack.redo l.deck.pos l.deck.backward quiet
          h.loop.in_mode,
      closed_redo l.deck.mode l.stack.layers l.stack.redo l.deck.pos l.deck.backward
          quiet h.loop.in_mode,
    )
    (quiet_streak l.deck.mode l.stack.streak l.deck.pos l.deck.backward quiet h.loop.streak)
    refl

-- starting `record`
starts_record_keeps : {A : Type 0} {a : Unchanged} {l : Loop A} (reach : ℕ) →
    is_writing l.deck.mode ≡ false → Keeps a l → Keeps a (starts_record reach l)
starts_record_keeps {a = a} {l = l} reach quiet h =
    cond_both (nat_lt 0 l.controls.rec_thresh) (in_mode WaitStart l)
    (records (opening reach true l.stack) l) (λ r. Keeps a r)
    (λ wait. waits quiet h)
    (λ now. records_keeps reach h (closed_layers l.deck.mode l.stack.layers l.stack.redo l.deck.pos
    l.deck.backward quiet h.loop.in_mode))

-- starting another writing verb
starts_at_rest :
    {A : Type 0} {a : Unchanged} (reach : ℕ) (mode : Mode) (backward : Bool) →
    IsLayering mode backward →
    KeepsAtRest {A = A} a backward (starts mode reach)
starts_at_rest reach mode backward way l rests same h =
    starts_keeps reach mode (subst (λ b. IsLayering mode b) (sym same) way) h
    (playable l.deck.mode l.stack.layers l.stack.redo l.deck.pos l.deck.backward rests
    h.loop.in_mode).0

-- the other modes
in_mode_at_rest : {A : Type 0} {a : Unchanged} {l : Loop A} (mode : Mode) → IsResting mode →
    IsResting l.deck.mode → Keeps a l → Keeps a (in_mode mode l)
in_mode_at_rest {l = l} mode now rests h =
    rests_again mode l.deck.pos l.deck.backward rests now (resting_inside rests h) h

-- the start of a list lies in it
start_inside : (backward : Bool) (pos len : ℕ) → pos < len → start_place backward len < len
start_inside true pos len inside = omega arith
start_inside false pos len inside = omega arith

plays_from_start_keeps :
    {A : Type 0} {a : Unchanged} {l : Loop A} (mode : Mode) → IsResting mode →
    IsResting l.deck.mode → Keeps a l →
    Keeps a (plays_from_start mode l)
plays_from_start_keeps {l = l} mode now rests h =
    rests_again mode (start_place l.deck.backward (length_of l)) l.deck.backward rests now
    (start_inside l.deck.backward l.deck.pos (length_of l) (resting_inside rests h)) h

turned_keeps : {A : Type 0} {a : Unchanged} {l : Loop A} → IsResting l.deck.mode → Keeps a l →
    Keeps a (turned l)
turned_keeps {l = l} rests h =
    rests_again l.deck.mode l.deck.pos (not l.deck.backward) rests rests (resting_inside rests h) h

-- where a mute, a mute_off and a pause lead
mute_rests : (mode : Mode) → IsResting (mute_toggled mode)
mute_rests Muted = tt
mute_rests _ = tt

unmuted_rests : (mode : Mode) → IsResting mode → IsResting (unmuted mode)
unmuted_rests Muted rests = tt
unmuted_rests _ rests = rests

pause_rests : (mode : Mode) → IsResting (pause_toggled mode)
pause_rests Paused = tt
pause_rests _ = tt

-- what a column says of the mode
abbrev pub StandsIn : Column → Mode → Type 0
StandsIn InOff mode = is_writing mode ≡ false
StandsIn InItsOwn mode = is_writing mode ≡ true
StandsIn InAnother mode = is_writing mode ≡ true
StandsIn Elsewhere mode = IsResting mode

-- the row of `record`
record_keeps :
    {A : Type 0} {a : Unchanged} {l : Loop A} (place : Column) (reach : ℕ) →
    StandsIn place l.deck.mode → Keeps a l →
    Keeps a (record_row place reach l)
record_keeps InOff reach stands h = starts_record_keeps reach stands h
record_keeps InItsOwn reach stands h = closed_keeps stands h
record_keeps {l = l} InAnother reach stands h =
    starts_record_keeps reach (closed_is_quiet _ (closed_leads l)) (closed_keeps stands h)
record_keeps {l = l} Elsewhere reach stands h =
    starts_record_keeps reach (resting_is_quiet l.deck.mode stands) h

-- the row of `overdub`, `replace` and `substitute`
layer_keeps :
    {A : Type 0} {a : Unchanged} {l : Loop A} (place : Column) (mode : Mode) (reach : ℕ) →
    ((backward : Bool) → IsLayering mode backward) → StandsIn place l.deck.mode → Keeps a l →
    Keeps a (layer_row place mode reach l)
layer_keeps InOff mode reach way stands h = h
layer_keeps InItsOwn mode reach way stands h = closed_keeps stands h
layer_keeps {l = l} InAnother mode reach way stands h =
    closes_then_keeps (starts mode reach)
    (starts_at_rest reach mode l.deck.backward (way l.deck.backward)) stands h
layer_keeps {l = l} Elsewhere mode reach way stands h =
    starts_at_rest reach mode l.deck.backward (way l.deck.backward) l stands refl h

-- a multiply or an insert that ends
ends_keeps : {A : Type 0} {a : Unchanged} {l : Loop A} → is_writing l.deck.mode ≡ true → Keeps a l →
    Keeps a (ends l)
ends_keeps {a = a} {l = l} writing h =
    cond_both (l.controls.round == 0 || l.deck.rounding || at_stop l) (closed l) (rounds l)
    (λ r. Keeps a r)
    (λ now. closed_keeps writing h)
    (λ later. with_deck (record l.deck { rounding = true }) l.stack.streak h
    h.loop.in_mode h.loop.streak
    refl)

-- the row of `multiply` and `insert`
length_keeps :
    {A : Type 0} {a : Unchanged} {l : Loop A} (place : Column) (mode : Mode) (reach : ℕ) →
    ((backward : Bool) → backward ≡ false → IsLayering mode backward) → StandsIn place l.deck.mode →
    Keeps a l →
    Keeps a (length_row place mode reach l)
length_keeps InOff mode reach way stands h = h
length_keeps InItsOwn mode reach way stands h = ends_keeps stands h
length_keeps {a = a} {l = l} InAnother mode reach way stands h =
    cond_both l.deck.backward l (closes_then (starts mode reach) l) (λ r. Keeps a r)
    (λ back. h)
    (λ forward. closes_then_keeps (starts mode reach)
    (starts_at_rest reach mode l.deck.backward (way l.deck.backward forward)) stands h)
length_keeps {a = a} {l = l} Elsewhere mode reach way stands h =
    cond_both l.deck.backward l (starts mode reach l) (λ r. Keeps a r)
    (λ back. h)
    (λ forward. starts_at_rest reach mode l.deck.backward (way l.deck.backward forward) l stands
    refl h)

-- the row of `mute`
mute_keeps : {A : Type 0} {a : Unchanged} {l : Loop A} (place : Column) →
    StandsIn place l.deck.mode → Keeps a l → Keeps a (mute_row place l)
mute_keeps InOff stands h = h
mute_keeps InItsOwn stands h = closes_then_keeps (in_mode Muted)
    (λ now rests same k. in_mode_at_rest Muted tt rests k) stands h
mute_keeps InAnother stands h = closes_then_keeps (in_mode Muted)
    (λ now rests same k. in_mode_at_rest Muted tt rests k) stands h
mute_keeps {l = l} Elsewhere stands h =
    in_mode_at_rest (mute_toggled l.deck.mode) (mute_rests l.deck.mode) stands h

-- the row of `mute_on`
mute_on_keeps : {A : Type 0} {a : Unchanged} {l : Loop A} (place : Column) →
    StandsIn place l.deck.mode → Keeps a l → Keeps a (mute_on_row place l)
mute_on_keeps InOff stands h = h
mute_on_keeps InItsOwn stands h = closes_then_keeps (in_mode Muted)
    (λ now rests same k. in_mode_at_rest Muted tt rests k) stands h
mute_on_keeps InAnother stands h = closes_then_keeps (in_mode Muted)
    (λ now rests same k. in_mode_at_rest Muted tt rests k) stands h
mute_on_keeps Elsewhere stands h = in_mode_at_rest Muted tt stands h

-- the row of `mute_off`
mute_off_keeps : {A : Type 0} {a : Unchanged} {l : Loop A} (place : Column) →
    StandsIn place l.deck.mode → Keeps a l → Keeps a (mute_off_row place l)
mute_off_keeps InOff stands h = h
mute_off_keeps InItsOwn stands h = h
mute_off_keeps InAnother stands h = h
mute_off_keeps {l = l} Elsewhere stands h =
    in_mode_at_rest (unmuted l.deck.mode) (unmuted_rests l.deck.mode stands) stands h

-- the row of `pause`
pause_keeps : {A : Type 0} {a : Unchanged} {l : Loop A} (place : Column) →
    StandsIn place l.deck.mode → Keeps a l → Keeps a (pause_row place l)
pause_keeps InOff stands h = h
pause_keeps InItsOwn stands h = closes_then_keeps (in_mode Paused)
    (λ now rests same k. in_mode_at_rest Paused tt rests k) stands h
pause_keeps InAnother stands h = closes_then_keeps (in_mode Paused)
    (λ now rests same k. in_mode_at_rest Paused tt rests k) stands h
pause_keeps {l = l} Elsewhere stands h =
    in_mode_at_rest (pause_toggled l.deck.mode) (pause_rests l.deck.mode) stands h

-- the row of `oneshot` and `trigger`
start_keeps :
    {A : Type 0} {a : Unchanged} {l : Loop A} (place : Column) (mode : Mode) → IsResting mode →
    StandsIn place l.deck.mode →
    Keeps a l → Keeps a (start_row place mode l)
start_keeps InOff mode now stands h = h
start_keeps InItsOwn mode now stands h =
    closes_then_keeps (plays_from_start mode)
    (λ l rests same k. plays_from_start_keeps mode now rests k) stands h
start_keeps InAnother mode now stands h =
    closes_then_keeps (plays_from_start mode)
    (λ l rests same k. plays_from_start_keeps mode now rests k) stands h
start_keeps Elsewhere mode now stands h = plays_from_start_keeps mode now stands h

-- the loop in this mode
abbrev pub set_to : {A : Type 0} → Mode → Loop A → Loop A
set_to mode l = record l { deck = record l.deck { mode = mode } }

-- a reverse in a writing mode
reversed_keeps :
    {A : Type 0} {a : Unchanged} (l : Loop A) (mode : Mode) → is_writing mode ≡ true →
    Keeps a (set_to mode l) →
    Keeps a (reversed_in mode (set_to mode l))
reversed_keeps l Recording writing h =
    closes_then_keeps turned (λ now rests same k. turned_keeps rests k) writing h
reversed_keeps l Multiplying writing h =
    closes_then_keeps turned (λ now rests same k. turned_keeps rests k) writing h
reversed_keeps l Inserting writing h =
    closes_then_keeps turned (λ now rests same k. turned_keeps rests k) writing h
reversed_keeps l Overdubbing writing h =
    with_deck (record l.deck { mode = Overdubbing; backward = not l.deck.backward }) None h
    h.loop.in_mode tt refl
reversed_keeps l Replacing writing h =
    with_deck (record l.deck { mode = Replacing; backward = not l.deck.backward }) None h
    h.loop.in_mode tt refl
reversed_keeps l Substituting writing h =
    with_deck (record l.deck { mode = Substituting; backward = not l.deck.backward }) None h
    h.loop.in_mode tt refl
reversed_keeps l _ writing h = absurd (let none : ⊥ = Prim.cc in none)

-- the row of `reverse`
reverse_keeps : {A : Type 0} {a : Unchanged} {l : Loop A} (place : Column) →
    StandsIn place l.deck.mode → Keeps a l → Keeps a (reverse_row place l)
reverse_keeps InOff stands h = h
reverse_keeps {l = l} InItsOwn stands h = reversed_keeps l l.deck.mode stands h
reverse_keeps {l = l} InAnother stands h = reversed_keeps l l.deck.mode stands h
reverse_keeps Elsewhere stands h = turned_keeps stands h

-- the table
row_keeps :
    {A : Type 0} {a : Unchanged} {l : Loop A} (verb : Verb) (place : Column) (reach : ℕ) →
    StandsIn place l.deck.mode → Keeps a l →
    Keeps a (row verb place reach l)
row_keeps Rec place reach stands h = record_keeps place reach stands h
row_keeps Overdub place reach stands h =
    layer_keeps place Overdubbing reach (λ backward. tt) stands h
row_keeps Multiply place reach stands h =
    length_keeps place Multiplying reach (λ backward forward. forward) stands h
row_keeps Insert place reach stands h =
    length_keeps place Inserting reach (λ backward forward. forward) stands h
row_keeps Replace place reach stands h = layer_keeps place Replacing reach (λ backward. tt) stands h
row_keeps Substitute place reach stands h =
    layer_keeps place Substituting reach (λ backward. tt) stands h
row_keeps Mute place reach stands h = mute_keeps place stands h
row_keeps MuteOn place reach stands h = mute_on_keeps place stands h
row_keeps MuteOff place reach stands h = mute_off_keeps place stands h
row_keeps OneShot place reach stands h = start_keeps place PlayingOnce tt stands h
row_keeps Trigger place reach stands h = start_keeps place Playing tt stands h
row_keeps Reverse place reach stands h = reverse_keeps place stands h
row_keeps Pause place reach stands h = pause_keeps place stands h
row_keeps Undo place reach stands h = undo_keeps h
row_keeps Redo place reach stands h = redo_keeps h
row_keeps UndoAll place reach stands h = undo_all_keeps h
row_keeps RedoAll place reach stands h = redo_all_keeps h

-- in a writing mode a verb stands in one of two columns
writing_column : (own : Bool) (mode : Mode) → is_writing mode ≡ true →
    StandsIn (if own then InItsOwn else InAnother) mode
writing_column true mode writing = writing
writing_column false mode writing = writing

-- another mode than WaitStart
abbrev pub IsAwake : Mode → Type 0
IsAwake WaitStart = ⊥
IsAwake _ = ⊤

-- the column of a verb is what it says
stands_in : (verb : Verb) (mode : Mode) → IsAwake mode → StandsIn (column verb mode) mode
stands_in verb Off awake = refl
stands_in verb WaitStart awake = absurd awake
stands_in verb Recording awake = writing_column (is_mode_of verb Recording) Recording refl
stands_in verb Overdubbing awake = writing_column (is_mode_of verb Overdubbing) Overdubbing refl
stands_in verb Multiplying awake = writing_column (is_mode_of verb Multiplying) Multiplying refl
stands_in verb Inserting awake = writing_column (is_mode_of verb Inserting) Inserting refl
stands_in verb Replacing awake = writing_column (is_mode_of verb Replacing) Replacing refl
stands_in verb Substituting awake = writing_column (is_mode_of verb Substituting) Substituting refl
stands_in verb _ awake = tt

-- a verb in another mode than WaitStart
acts_in_keeps :
    {A : Type 0} {a : Unchanged} {l : Loop A} (verb : Verb) (reach : ℕ) → IsAwake l.deck.mode →
    Keeps a l →
    Keeps a (acts_in verb l.deck.mode reach l)
acts_in_keeps {l = l} verb reach awake h =
    row_keeps verb (column verb l.deck.mode) reach (stands_in verb l.deck.mode awake) h

-- leaving WaitStart
left_wait :
    {A : Type 0} (layers redo : List (Layer A)) (pos : ℕ) (backward : Bool) → AreWaiting layers pos
    × AreClosed redo →
    InMode (mode_after_wait layers) layers redo pos backward
left_wait [] redo pos backward h = ((refl, h.0), h.1)
left_wait (l ∷ ls) redo pos backward h = h

left_wait_is_quiet : {A : Type 0} (layers : List (Layer A)) →
    is_writing (mode_after_wait layers) ≡ false
left_wait_is_quiet [] = refl
left_wait_is_quiet (l ∷ ls) = refl

left_wait_is_awake : {A : Type 0} (layers : List (Layer A)) → IsAwake (mode_after_wait layers)
left_wait_is_awake [] = tt
left_wait_is_awake (l ∷ ls) = tt

pub leaves_wait_keeps : {A : Type 0} {a : Unchanged} (l : Loop A) → Keeps a (set_to WaitStart l) →
    Keeps a (leaves_wait (set_to WaitStart l))
leaves_wait_keeps l h =
    with_deck (record l.deck { mode = mode_after_wait l.stack.layers }) l.stack.streak h
    (left_wait l.stack.layers l.stack.redo l.deck.pos l.deck.backward h.loop.in_mode)
    (streak_in_quiet (mode_after_wait l.stack.layers) l.stack.streak l.deck.pos l.deck.backward
    (left_wait_is_quiet l.stack.layers) h.loop.streak)
    refl

-- a verb behind WaitStart
acts_waiting_keeps :
    {A : Type 0} {a : Unchanged} (l : Loop A) (verb : Verb) (reach : ℕ) →
    Keeps a (set_to WaitStart l) →
    Keeps a (acts_waiting verb reach (set_to WaitStart l))
acts_waiting_keeps l Rec reach h = leaves_wait_keeps l h
acts_waiting_keeps l verb reach h =
    acts_in_keeps verb reach (left_wait_is_awake l.stack.layers) (leaves_wait_keeps l h)

-- a verb in this mode
acts_from_keeps :
    {A : Type 0} {a : Unchanged} (l : Loop A) (verb : Verb) (mode : Mode) (reach : ℕ) →
    Keeps a (set_to mode l) →
    Keeps a (acts verb reach (set_to mode l))
acts_from_keeps l verb WaitStart reach h = acts_waiting_keeps l verb reach h
acts_from_keeps l verb mode reach h = acts_in_keeps verb reach tt h

-- a verb
pub acts_keeps : {A : Type 0} {a : Unchanged} {l : Loop A} (verb : Verb) (reach : ℕ) → Keeps a l →
    Keeps a (acts verb reach l)
acts_keeps {l = l} verb reach h = acts_from_keeps l verb l.deck.mode reach h
