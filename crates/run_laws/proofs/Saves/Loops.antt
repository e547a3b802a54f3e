-- Verbs, presses, boundaries and frames leave the pin of a loop.
use Rattle.std.proofs.Common.{◌≡◌, ℕ, Bool, true, false, ◌||◌, ◌==◌, List, [], ◌∷◌, length, Option, Some, None, if◌then◌else◌, nat_le, nat_lt, refl, ◌∙◌}
use Rattle.sl_base.specs.Sounds.{Sound, loudness}
use Rattle.sl_commands.specs.declared.Verb.{Verb}
use Rattle.sl_commands.specs.declared.Verb.TheVariants.{Rec, Overdub, Multiply, Insert, Replace, Substitute, Mute, MuteOn, MuteOff, OneShot, Trigger, Reverse, Pause, Undo, Redo, UndoAll, RedoAll}
use Rattle.sl_commands.specs.declared.Mode.{Mode}
use Rattle.sl_commands.specs.declared.Mode.TheVariants.{Off, WaitStart, Recording, Playing, Overdubbing, Multiplying, Inserting, Replacing, Muted, OneShot as PlayingOnce, Substituting, Paused}
use Rattle.sl_commands.specs.declared.How.{How}
use Rattle.sl_commands.specs.declared.Started.{Started}
use Rattle.sl_commands.specs.declared.Started.TheVariants.{Ok}
use Rattle.looper_rules.specs.Layers.{Layer}
use Rattle.looper_rules.specs.Stack.{Stack, Pin}
use Rattle.looper_rules.specs.Opening.{opening}
use Rattle.looper_rules.specs.Writing.{written, rewritten, newly_written, meets_fresh, extension_fits}
use Rattle.looper_rules.specs.Loop.{Loop, is_writing, length_of, in_mode, turned, rounds, with_stack, refused_once}
use Rattle.looper_rules.specs.Closing.{closed_recording, closed_from, closed, at_stop}
use Rattle.looper_rules.specs.Starting.{records, starts_record, layers_on, starts, leaves_wait}
use Rattle.looper_rules.specs.History.{undone_from, redone_from, closed_if, settled, with_fewer, undo, with_more, redo_from, redo, undo_each, redo_each}
use Rattle.looper_rules.specs.Verbs.{Column, InOff, InItsOwn, InAnother, Elsewhere, column, unless_off, closes_then, plays_from_start, ends, reversed_in, record_row, layer_row, length_row, mute_row, mute_on_row, mute_off_row, pause_row, start_row, reverse_row, row, acts_waiting, acts_from, acts}
use Rattle.looper_rules.specs.Presses.{given, given_at_once, pressed, released, released_long, never_waits, with_waiting, with_press, is_press_of, waiting_acts, waiting_acts_from}
use Rattle.looper_rules.specs.LoopFrame.{wakes_as, awake_in, awake, stopped, extends, ready_in, ready, fits, with_input, wraps, goes_on, stops_if, advanced_in, advanced, overrun_in, writes, passes, after}

-- the pin of a loop
abbrev pub pin_in : {A : Type 0} → Loop A → Option (Pin A)
pin_in l = l.stack.pin

if_pin : {A : Type 0} (b : Bool) (l now other : Loop A) → pin_in now ≡ pin_in l →
    pin_in other ≡ pin_in l →
    pin_in (if b then now else other) ≡ pin_in l
if_pin true l now other same same_too = same
if_pin false l now other same same_too = same_too

-- closing
closed_recording_pin : {A : Type 0} (empty single : Bool) (l : Loop A) →
    pin_in (closed_recording empty single l) ≡ pin_in l
closed_recording_pin true true l = refl
closed_recording_pin true false l = refl
closed_recording_pin false single l = refl

closed_from_pin : {A : Type 0} (mode : Mode) (l : Loop A) → pin_in (closed_from mode l) ≡ pin_in l
closed_from_pin Recording l =
    closed_recording_pin (length_of l == 0) (nat_le (length l.stack.layers) 1) l
closed_from_pin Multiplying l = refl
closed_from_pin _ l = refl

closed_pin : {A : Type 0} (l : Loop A) → pin_in (closed l) ≡ pin_in l
closed_pin l = closed_from_pin l.deck.mode l

unless_off_pin : {A : Type 0} (mode : Mode) (act : Loop A → Loop A) (l : Loop A) →
    pin_in (act l) ≡ pin_in l →
    pin_in (unless_off mode act l) ≡ pin_in l
unless_off_pin Off act l same = refl
unless_off_pin _ act l same = same

closes_then_pin : {A : Type 0} (act : Loop A → Loop A) (l : Loop A) →
    ((l : Loop A) → pin_in (act l) ≡ pin_in l) →
    pin_in (closes_then act l) ≡ pin_in l
closes_then_pin act l same = unless_off_pin (closed l).deck.mode act (closed l) (same (closed l))
    ∙ closed_pin l

-- starting
records_pin : {A : Type 0} (answer : Started) (l : Loop A) → pin_in (records answer l) ≡ pin_in l
records_pin Ok l = refl
records_pin _ l = refl

starts_record_pin : {A : Type 0} (reach : ℕ) (l : Loop A) →
    pin_in (starts_record reach l) ≡ pin_in l
starts_record_pin reach l =
    if_pin (nat_lt 0 l.controls.rec_thresh) l (in_mode WaitStart l)
    (records (opening reach true l.stack) l) refl (records_pin (opening reach true l.stack) l)

layers_on_pin : {A : Type 0} (answer : Started) (mode : Mode) (l : Loop A) →
    pin_in (layers_on answer mode l) ≡ pin_in l
layers_on_pin Ok mode l = refl
layers_on_pin _ mode l = refl

starts_pin : {A : Type 0} (mode : Mode) (reach : ℕ) (l : Loop A) →
    pin_in (starts mode reach l) ≡ pin_in l
starts_pin mode reach l = layers_on_pin (opening reach false l.stack) mode l

-- undo and redo
closed_if_pin : {A : Type 0} (writing : Bool) (l : Loop A) → pin_in (closed_if writing l) ≡ pin_in l
closed_if_pin true l = closed_pin l
closed_if_pin false l = refl

undone_from_pin : {A : Type 0} (layers : List (Layer A)) (s : Stack A) →
    (undone_from layers s).pin ≡ s.pin
undone_from_pin [] s = refl
undone_from_pin (l ∷ ls) s = refl

redone_from_pin : {A : Type 0} (layers : List (Layer A)) (s : Stack A) →
    (redone_from layers s).pin ≡ s.pin
redone_from_pin [] s = refl
redone_from_pin (l ∷ ls) s = refl

with_fewer_pin : {A : Type 0} (layers : List (Layer A)) (l : Loop A) →
    pin_in (with_fewer layers l) ≡ pin_in l
with_fewer_pin [] l = refl
with_fewer_pin (_ ∷ _) l = refl

undo_pin : {A : Type 0} (l : Loop A) → pin_in (undo l) ≡ pin_in l
undo_pin l =
    let s = (settled l).stack in
    with_fewer_pin (undone_from s.layers s).layers (with_stack (undone_from s.layers s) (settled l))
    ∙ undone_from_pin s.layers s ∙ closed_if_pin (is_writing l.deck.mode) l

undo_each_pin : {A : Type 0} (layers : List (Layer A)) (l : Loop A) →
    pin_in (undo_each layers l) ≡ pin_in l
undo_each_pin [] l = refl
undo_each_pin (_ ∷ ls) l = undo_each_pin ls (undo l) ∙ undo_pin l

with_more_pin : {A : Type 0} (mode : Mode) (l : Loop A) → pin_in (with_more mode l) ≡ pin_in l
with_more_pin Off l = refl
with_more_pin _ l = refl

redo_from_pin : {A : Type 0} (layers : List (Layer A)) (l : Loop A) →
    pin_in (redo_from layers l) ≡ pin_in l
redo_from_pin [] l = refl
redo_from_pin (_ ∷ _) l =
    with_more_pin l.deck.mode (with_stack (redone_from l.stack.redo l.stack) l)
    ∙ redone_from_pin l.stack.redo l.stack

redo_pin : {A : Type 0} (l : Loop A) → pin_in (redo l) ≡ pin_in l
redo_pin l = redo_from_pin l.stack.redo l

redo_each_pin : {A : Type 0} (layers : List (Layer A)) (l : Loop A) →
    pin_in (redo_each layers l) ≡ pin_in l
redo_each_pin [] l = refl
redo_each_pin (_ ∷ ls) l = redo_each_pin ls (redo l) ∙ redo_pin l

-- the rows of the verbs
ends_pin : {A : Type 0} (l : Loop A) → pin_in (ends l) ≡ pin_in l
ends_pin l =
    if_pin (l.controls.round == 0 || l.deck.rounding || at_stop l) l (closed l) (rounds l)
    (closed_pin l) refl

reversed_in_pin : {A : Type 0} (mode : Mode) (l : Loop A) → pin_in (reversed_in mode l) ≡ pin_in l
reversed_in_pin Recording l = closes_then_pin turned l (λ l. refl)
reversed_in_pin Multiplying l = closes_then_pin turned l (λ l. refl)
reversed_in_pin Inserting l = closes_then_pin turned l (λ l. refl)
reversed_in_pin _ l = refl

record_row_pin : {A : Type 0} (place : Column) (reach : ℕ) (l : Loop A) →
    pin_in (record_row place reach l) ≡ pin_in l
record_row_pin InOff reach l = starts_record_pin reach l
record_row_pin InItsOwn reach l = closed_pin l
record_row_pin InAnother reach l = starts_record_pin reach (closed l) ∙ closed_pin l
record_row_pin Elsewhere reach l = starts_record_pin reach l

layer_row_pin : {A : Type 0} (place : Column) (mode : Mode) (reach : ℕ) (l : Loop A) →
    pin_in (layer_row place mode reach l) ≡ pin_in l
layer_row_pin InOff mode reach l = refl
layer_row_pin InItsOwn mode reach l = closed_pin l
layer_row_pin InAnother mode reach l = closes_then_pin (starts mode reach) l (starts_pin mode reach)
layer_row_pin Elsewhere mode reach l = starts_pin mode reach l

length_row_pin : {A : Type 0} (place : Column) (mode : Mode) (reach : ℕ) (l : Loop A) →
    pin_in (length_row place mode reach l) ≡ pin_in l
length_row_pin InOff mode reach l = refl
length_row_pin InItsOwn mode reach l = ends_pin l
length_row_pin InAnother mode reach l =
    if_pin l.deck.backward l l (closes_then (starts mode reach) l) refl
    (closes_then_pin (starts mode reach) l (starts_pin mode reach))
length_row_pin Elsewhere mode reach l =
    if_pin l.deck.backward l l (starts mode reach l) refl (starts_pin mode reach l)

mute_row_pin : {A : Type 0} (place : Column) (l : Loop A) → pin_in (mute_row place l) ≡ pin_in l
mute_row_pin InOff l = refl
mute_row_pin Elsewhere l = refl
mute_row_pin _ l = closes_then_pin (in_mode Muted) l (λ l. refl)

mute_on_row_pin : {A : Type 0} (place : Column) (l : Loop A) →
    pin_in (mute_on_row place l) ≡ pin_in l
mute_on_row_pin InOff l = refl
mute_on_row_pin Elsewhere l = refl
mute_on_row_pin _ l = closes_then_pin (in_mode Muted) l (λ l. refl)

mute_off_row_pin : {A : Type 0} (place : Column) (l : Loop A) →
    pin_in (mute_off_row place l) ≡ pin_in l
mute_off_row_pin Elsewhere l = refl
mute_off_row_pin _ l = refl

pause_row_pin : {A : Type 0} (place : Column) (l : Loop A) → pin_in (pause_row place l) ≡ pin_in l
pause_row_pin InOff l = refl
pause_row_pin Elsewhere l = refl
pause_row_pin _ l = closes_then_pin (in_mode Paused) l (λ l. refl)

start_row_pin : {A : Type 0} (place : Column) (mode : Mode) (l : Loop A) →
    pin_in (start_row place mode l) ≡ pin_in l
start_row_pin InOff mode l = refl
start_row_pin Elsewhere mode l = refl
start_row_pin _ mode l = closes_then_pin (plays_from_start mode) l (λ l. refl)

reverse_row_pin : {A : Type 0} (place : Column) (l : Loop A) →
    pin_in (reverse_row place l) ≡ pin_in l
reverse_row_pin InOff l = refl
reverse_row_pin Elsewhere l = refl
reverse_row_pin _ l = reversed_in_pin l.deck.mode l

row_pin : {A : Type 0} (verb : Verb) (place : Column) (reach : ℕ) (l : Loop A) →
    pin_in (row verb place reach l) ≡ pin_in l
row_pin Rec place reach l = record_row_pin place reach l
row_pin Overdub place reach l = layer_row_pin place Overdubbing reach l
row_pin Multiply place reach l = length_row_pin place Multiplying reach l
row_pin Insert place reach l = length_row_pin place Inserting reach l
row_pin Replace place reach l = layer_row_pin place Replacing reach l
row_pin Substitute place reach l = layer_row_pin place Substituting reach l
row_pin Mute place reach l = mute_row_pin place l
row_pin MuteOn place reach l = mute_on_row_pin place l
row_pin MuteOff place reach l = mute_off_row_pin place l
row_pin OneShot place reach l = start_row_pin place PlayingOnce l
row_pin Trigger place reach l = start_row_pin place Playing l
row_pin Reverse place reach l = reverse_row_pin place l
row_pin Pause place reach l = pause_row_pin place l
row_pin Undo place reach l = undo_pin l
row_pin Redo place reach l = redo_pin l
row_pin UndoAll place reach l = undo_each_pin l.stack.layers l
row_pin RedoAll place reach l = redo_each_pin l.stack.redo l

-- a verb, in any mode
acts_waiting_pin : {A : Type 0} (verb : Verb) (reach : ℕ) (l : Loop A) →
    pin_in (acts_waiting verb reach l) ≡ pin_in l
acts_waiting_pin Rec reach l = refl
acts_waiting_pin verb reach l =
    row_pin verb (column verb (leaves_wait l).deck.mode) reach (leaves_wait l)

acts_from_pin : {A : Type 0} (verb : Verb) (mode : Mode) (reach : ℕ) (l : Loop A) →
    pin_in (acts_from verb mode reach l) ≡ pin_in l
acts_from_pin verb WaitStart reach l = acts_waiting_pin verb reach l
acts_from_pin verb mode reach l = row_pin verb (column verb mode) reach l

acts_pin : {A : Type 0} (verb : Verb) (reach : ℕ) (l : Loop A) →
    pin_in (acts verb reach l) ≡ pin_in l
acts_pin verb reach l = acts_from_pin verb l.deck.mode reach l

-- presses, and the verb that waits
given_at_once_pin : {A : Type 0} (now : Bool) (verb : Verb) (reach : ℕ) (l : Loop A) →
    pin_in (given_at_once now verb reach l) ≡ pin_in l
given_at_once_pin true verb reach l = acts_pin verb reach l
given_at_once_pin false verb reach l = refl

pub given_pin : {A : Type 0} (verb : Verb) (reach : ℕ) (l : Loop A) →
    pin_in (given verb reach l) ≡ pin_in l
given_pin verb reach l =
    given_at_once_pin (l.controls.quantize == 0 || never_waits verb) verb reach l

pub pressed_pin : {A : Type 0} (verb : Verb) (frame reach : ℕ) (l : Loop A) →
    pin_in (pressed verb frame reach l) ≡ pin_in l
pressed_pin verb frame reach l = given_pin verb reach l

released_long_pin : {A : Type 0} (long : Bool) (verb : Verb) (reach : ℕ) (l : Loop A) →
    pin_in (released_long long verb reach l) ≡ pin_in l
released_long_pin true verb reach l = given_pin verb reach (with_press None l)
released_long_pin false verb reach l = refl

pub released_pin : {A : Type 0} (verb : Verb) (frame long_press reach : ℕ) (l : Loop A) →
    pin_in (released verb frame long_press reach l) ≡ pin_in l
released_pin verb frame long_press reach l =
    if_pin (is_press_of verb l.deck.press) l _ l (released_long_pin _ verb reach l) refl

waiting_acts_from_pin : {A : Type 0} (waiting : Option Verb) (reach : ℕ) (l : Loop A) →
    pin_in (waiting_acts_from waiting reach l) ≡ pin_in l
waiting_acts_from_pin None reach l = refl
waiting_acts_from_pin (Some verb) reach l = acts_pin verb reach (with_waiting None l)

pub waiting_acts_pin : {A : Type 0} (reach : ℕ) (l : Loop A) →
    pin_in (waiting_acts reach l) ≡ pin_in l
waiting_acts_pin reach l = waiting_acts_from_pin l.deck.waiting reach l

-- one frame
wakes_as_pin : {A : Type 0} (answer : Started) (l : Loop A) → pin_in (wakes_as answer l) ≡ pin_in l
wakes_as_pin Ok l = refl
wakes_as_pin _ l = refl

awake_in_pin : {A : Type 0} (mode : Mode) (loud : Bool) (reach : ℕ) (l : Loop A) →
    pin_in (awake_in mode loud reach l) ≡ pin_in l
awake_in_pin WaitStart true reach l = wakes_as_pin (opening reach true l.stack) l
awake_in_pin _ _ reach l = refl

extends_pin : {A : Type 0} (fit : Bool) (l : Loop A) → pin_in (extends fit l) ≡ pin_in l
extends_pin true l = refl
extends_pin false l = closed_pin (refused_once l)

ready_in_pin : {A : Type 0} (mode : Mode) (at_end : Bool) (l : Loop A) →
    pin_in (ready_in mode at_end l) ≡ pin_in l
ready_in_pin Multiplying true l = extends_pin (extension_fits l.stack) l
ready_in_pin _ _ l = refl

pub ready_pin : {A : Type 0} (x : Sound) (reach : ℕ) (l : Loop A) →
    pin_in (ready x reach l) ≡ pin_in l
ready_pin x reach l =
    let now = awake x reach l in
    ready_in_pin now.deck.mode (now.deck.pos == length_of now) now
    ∙ awake_in_pin l.deck.mode (nat_le l.controls.rec_thresh (loudness x)) reach l

written_pin : {A : Type 0} (how : How) (place : ℕ) (a : A) (s : Stack A) →
    (written how place a s).pin ≡ s.pin
written_pin how place a s = by_test (meets_fresh how place s)
  where
    by_test : (b : Bool) →
        (if b then rewritten how place a s else newly_written how place a s).pin ≡ s.pin
    by_test true = refl
    by_test false = refl

goes_on_pin : {A : Type 0} (wrap : Bool) (l : Loop A) → pin_in (goes_on wrap l) ≡ pin_in l
goes_on_pin true l = refl
goes_on_pin false l = refl

stops_if_pin : {A : Type 0} (rounding : Bool) (l : Loop A) → pin_in (stops_if rounding l) ≡ pin_in l
stops_if_pin true l = if_pin (at_stop l) l (closed l) l (closed_pin l) refl
stops_if_pin false l = refl

advanced_in_pin : {A : Type 0} (mode : Mode) (l : Loop A) → pin_in (advanced_in mode l) ≡ pin_in l
advanced_in_pin Off l = refl
advanced_in_pin WaitStart l = refl
advanced_in_pin Paused l = refl
advanced_in_pin Recording l = refl
advanced_in_pin Inserting l = stops_if_pin l.deck.rounding _
advanced_in_pin Multiplying l = stops_if_pin l.deck.rounding _
advanced_in_pin _ l = goes_on_pin (wraps l.deck.backward l.deck.pos (length_of l)) l

advanced_pin : {A : Type 0} (l : Loop A) → pin_in (advanced l) ≡ pin_in l
advanced_pin l = advanced_in_pin l.deck.mode l

stopped_pin : {A : Type 0} (l : Loop A) → pin_in (stopped l) ≡ pin_in l
stopped_pin l = closed_pin (refused_once l)

overrun_in_pin : {A : Type 0} (mode : Mode) (l : Loop A) → pin_in (overrun_in mode l) ≡ pin_in l
overrun_in_pin Recording l = stopped_pin l
overrun_in_pin _ l = advanced_pin (stopped l) ∙ stopped_pin l

writes_pin : (fit : Bool) (x : Sound) (l : Loop Sound) → pin_in (writes fit x l) ≡ pin_in l
writes_pin true x l = advanced_pin (with_stack (with_input x l) l)
    ∙ written_pin _ l.deck.pos _ l.stack
writes_pin false x l = overrun_in_pin l.deck.mode l

passes_pin : (writing : Bool) (x : Sound) (reach : ℕ) (l : Loop Sound) →
    pin_in (passes writing x reach l) ≡ pin_in l
passes_pin true x reach l = writes_pin (fits reach l) x l
passes_pin false x reach l = advanced_pin l

pub after_pin : (x : Sound) (reach : ℕ) (l : Loop Sound) → pin_in (after x reach l) ≡ pin_in l
after_pin x reach l = passes_pin (is_writing l.deck.mode) x reach l
