-- What closing, verbs and frames do to the layers of a loop that aren't the current one, and that
-- they stay in reach.
use Rattle.std.proofs.Common.{◌≡◌, ℕ, Bool, true, false, ◌||◌, List, [], ◌∷◌, length, None, refl, sym, ap, subst, nat_le, nat_lt, cond}
use Rattle.std.specs.Prelude.{◌==◌}
use Rattle.std.proofs.lemmas.Bool.{cond_both}
use Rattle.sl_commands.specs.declared.Verb.{Verb}
use Rattle.sl_commands.specs.declared.Verb.TheVariants.{Rec, Overdub, Multiply, Insert, Replace, Substitute, Mute, MuteOn, MuteOff, OneShot, Trigger, Reverse, Pause, Undo, Redo, UndoAll, RedoAll}
use Rattle.sl_commands.specs.declared.Mode.{Mode}
use Rattle.sl_commands.specs.declared.Mode.TheVariants.{Off, WaitStart, Recording, Playing, Overdubbing, Multiplying, Inserting, Replacing, Muted, OneShot as PlayingOnce, Substituting, Paused}
use Rattle.sl_commands.specs.declared.Started.{Started}
use Rattle.sl_commands.specs.declared.Started.TheVariants.{Ok}
use Rattle.looper_rules.specs.Layers.{Layer}
use Rattle.looper_rules.specs.Stack.{Stack}
use Rattle.looper_rules.specs.Opening.{opening}
use Rattle.looper_rules.specs.Loop.{Loop, is_writing, length_of, base_length_of, in_mode, turned, rounds, with_stack}
use Rattle.looper_rules.specs.Closing.{closed_recording, multiply_cut, closed_from, closed, at_stop}
use Rattle.looper_rules.specs.Starting.{records, starts_record, layers_on, starts, leaves_wait}
use Rattle.looper_rules.specs.History.{undone, redone_from, redone, closed_if, settled, with_fewer, stepped_back, undo, with_more, redo_from, redo, undo_each, redo_each}
use Rattle.looper_rules.specs.Verbs.{Column, InOff, InItsOwn, InAnother, Elsewhere, column, unless_off, closes_then, plays_from_start, ends, reversed_in, record_row, layer_row, length_row, mute_row, mute_on_row, mute_off_row, pause_row, start_row, reverse_row, row, acts_waiting, acts_from, acts}
use Rattle.looper_laws.proofs.Others.Stacks.{IsSame, IsSettled, IsMoved, IsDone, same, same_touched, touched_settled, moved_on, settled_then_moved, moved_itself, settled_done}
use Rattle.looper_laws.proofs.Others.Steps.{streak_broken_same, finished_touched, dropped_settled, undone_moved, redone_moved, settled_then_opened}

-- closing settles, whatever the mode
closed_recording_settled : {A : Type 0} {reach : ℕ} (empty single : Bool) (l : Loop A) →
    IsSettled reach l.stack (closed_recording empty single l).stack
closed_recording_settled true true l = dropped_settled
closed_recording_settled true false l = dropped_settled
closed_recording_settled false single l = touched_settled (finished_touched None)

closed_from_settled : {A : Type 0} {reach : ℕ} (mode : Mode) (l : Loop A) →
    IsSettled reach l.stack (closed_from mode l).stack
closed_from_settled Recording l =
    closed_recording_settled (length_of l == 0) (nat_le (length l.stack.layers) 1) l
closed_from_settled Multiplying l =
    touched_settled (finished_touched (multiply_cut l.deck.pos (base_length_of l)))
closed_from_settled _ l = touched_settled (finished_touched None)

pub closed_settled : {A : Type 0} {reach : ℕ} (l : Loop A) →
    IsSettled reach l.stack (closed l).stack
closed_settled l = closed_from_settled l.deck.mode l

-- and leads to no writing mode
closed_recording_quiet : {A : Type 0} (empty single : Bool) (l : Loop A) →
    is_writing (closed_recording empty single l).deck.mode ≡ false
closed_recording_quiet true true l = refl
closed_recording_quiet true false l = refl
closed_recording_quiet false single l = refl

closed_from_quiet : {A : Type 0} (mode : Mode) (l : Loop A) →
    is_writing (closed_from mode l).deck.mode ≡ false
closed_from_quiet Recording l =
    closed_recording_quiet (length_of l == 0) (nat_le (length l.stack.layers) 1) l
closed_from_quiet Multiplying l = refl
closed_from_quiet _ l = refl

pub closed_quiet : {A : Type 0} (l : Loop A) → is_writing (closed l).deck.mode ≡ false
closed_quiet l = closed_from_quiet l.deck.mode l

-- so it is where a layer is closed if one is open
closed_if_settled : {A : Type 0} {reach : ℕ} (writing : Bool) (l : Loop A) →
    IsSettled reach l.stack (closed_if writing l).stack
closed_if_settled true l = closed_settled l
closed_if_settled false l = touched_settled (same_touched same)

pub settled_settled : {A : Type 0} {reach : ℕ} (l : Loop A) →
    IsSettled reach l.stack (settled l).stack
settled_settled l = closed_if_settled (is_writing l.deck.mode) l

pub settled_quiet : {A : Type 0} (l : Loop A) → is_writing (settled l).deck.mode ≡ false
settled_quiet l = by_test (is_writing l.deck.mode) refl
  where
    by_test : (writing : Bool) → is_writing l.deck.mode ≡ writing →
        is_writing (closed_if writing l).deck.mode ≡ false
    by_test true is = closed_quiet l
    by_test false is = is

-- pos has no part in the stack
with_fewer_stack : {A : Type 0} (layers : List (Layer A)) (l : Loop A) →
    (with_fewer layers l).stack ≡ l.stack
with_fewer_stack [] l = refl
with_fewer_stack (_ ∷ _) l = refl

with_fewer_quiet : {A : Type 0} (layers : List (Layer A)) (l : Loop A) →
    is_writing l.deck.mode ≡ false → is_writing (with_fewer layers l).deck.mode ≡ false
with_fewer_quiet [] l quiet = refl
with_fewer_quiet (_ ∷ _) l quiet = quiet

pub with_more_stack : {A : Type 0} (mode : Mode) (l : Loop A) → (with_more mode l).stack ≡ l.stack
with_more_stack Off l = refl
with_more_stack _ l = refl

pub stepped_back_stack : {A : Type 0} (l : Loop A) → (stepped_back l).stack ≡ undone l.stack
stepped_back_stack l = with_fewer_stack (undone l.stack).layers (with_stack (undone l.stack) l)

stepped_back_moved : {A : Type 0} {reach : ℕ} (l : Loop A) →
    IsMoved reach l.stack (stepped_back l).stack
stepped_back_moved {reach = reach} l =
    subst (λ s. IsMoved reach l.stack s) (sym (stepped_back_stack l)) undone_moved

-- undo from a mode in which no layer is open
pub quiet_settled : {A : Type 0} (l : Loop A) → is_writing l.deck.mode ≡ false → settled l ≡ l
quiet_settled l quiet = ap (λ writing. closed_if writing l) quiet

pub undo_quiet : {A : Type 0} (l : Loop A) → is_writing (undo l).deck.mode ≡ false
undo_quiet l = with_fewer_quiet (undone (settled l).stack).layers
    (with_stack (undone (settled l).stack) (settled l)) (settled_quiet l)

quiet_undo_moved : {A : Type 0} {reach : ℕ} (l : Loop A) → is_writing l.deck.mode ≡ false →
    IsMoved reach l.stack (undo l).stack
quiet_undo_moved {reach = reach} l quiet =
    subst (λ now. IsMoved reach l.stack (stepped_back now).stack) (sym (quiet_settled l quiet))
    (stepped_back_moved l)

undo_each_moved : {A : Type 0} {reach : ℕ} (layers : List (Layer A)) (l : Loop A) →
    is_writing l.deck.mode ≡ false → IsMoved reach l.stack (undo_each layers l).stack
undo_each_moved [] l quiet = moved_itself
undo_each_moved (_ ∷ ls) l quiet =
    moved_on (quiet_undo_moved l quiet) (undo_each_moved ls (undo l) (undo_quiet l))

undo_each_done : {A : Type 0} {reach : ℕ} (layers : List (Layer A)) (l : Loop A) →
    IsDone reach l.stack (undo_each layers l).stack
undo_each_done [] l = settled_then_moved (touched_settled (same_touched same)) moved_itself
undo_each_done (_ ∷ ls) l = settled_then_moved (settled_settled l)
    (moved_on (stepped_back_moved (settled l)) (undo_each_moved ls (undo l) (undo_quiet l)))

-- redo from any mode
redo_from_moved : {A : Type 0} {reach : ℕ} (redo : List (Layer A)) (l : Loop A) →
    IsMoved reach l.stack (redo_from redo l).stack
redo_from_moved [] l = moved_itself
redo_from_moved {reach = reach} (_ ∷ _) l = subst (λ s. IsMoved reach l.stack s)
    (sym (with_more_stack l.deck.mode (with_stack (redone l.stack) l))) redone_moved

redo_each_moved : {A : Type 0} {reach : ℕ} (layers : List (Layer A)) (l : Loop A) →
    IsMoved reach l.stack (redo_each layers l).stack
redo_each_moved [] l = moved_itself
redo_each_moved (_ ∷ ls) l = moved_on (redo_from_moved l.stack.redo l) (redo_each_moved ls (redo l))

-- redo brings the next redo layer back
redo_from_stack : {A : Type 0} (redo : List (Layer A)) (l : Loop A) →
    (redo_from redo (with_stack (record l.stack { redo = redo }) l)).stack ≡ redone_from redo
    (record l.stack { redo = redo })
redo_from_stack [] l = refl
redo_from_stack (r ∷ rs) l = with_more_stack l.deck.mode _

pub redo_stack : {A : Type 0} (l : Loop A) → (redo l).stack ≡ redone l.stack
redo_stack l = redo_from_stack l.stack.redo l

moved_done : {A : Type 0} {reach : ℕ} {old new : Stack A} → IsMoved reach old new →
    IsDone reach old new
moved_done h = settled_then_moved (touched_settled (same_touched same)) h

same_done : {A : Type 0} {reach : ℕ} {old new : Stack A} → IsSame reach old new →
    IsDone reach old new
same_done h = settled_done (touched_settled (same_touched h))

-- starting, behind what settles
records_done : {A : Type 0} {reach : ℕ} {s : Stack A} (answer : Started) (l : Loop A) →
    IsSettled reach s l.stack → IsDone reach s (records answer l).stack
records_done Ok l h = settled_then_opened true h
records_done _ l h = settled_done h

starts_record_done : {A : Type 0} {reach : ℕ} {s : Stack A} (l : Loop A) →
    IsSettled reach s l.stack → IsDone reach s (starts_record reach l).stack
starts_record_done {reach = reach} {s = s} l h =
    cond_both (nat_lt 0 l.controls.rec_thresh) (in_mode WaitStart l)
    (records (opening reach true l.stack) l) (λ now. IsDone reach s now.stack)
    (λ loud. settled_done h)
    (λ any. records_done (opening reach true l.stack) l h)

layers_on_done : {A : Type 0} {reach : ℕ} {s : Stack A} (answer : Started) (mode : Mode)
    (l : Loop A) → IsSettled reach s l.stack → IsDone reach s (layers_on answer mode l).stack
layers_on_done Ok mode l h = settled_then_opened false h
layers_on_done _ mode l h = settled_done h

starts_done : {A : Type 0} {reach : ℕ} {s : Stack A} (mode : Mode) (l : Loop A) →
    IsSettled reach s l.stack → IsDone reach s (starts mode reach l).stack
starts_done {reach = reach} mode l h = layers_on_done (opening reach false l.stack) mode l h

-- what is done unless the mode is Off
unless_off_done : {A : Type 0} {reach : ℕ} {s : Stack A} (mode : Mode) (act : Loop A → Loop A)
    (l : Loop A) → IsSettled reach s l.stack → IsDone reach s (act l).stack →
    IsDone reach s (unless_off mode act l).stack
unless_off_done Off act l h k = settled_done h
unless_off_done _ act l h k = k

closes_then_done : {A : Type 0} {reach : ℕ} (act : Loop A → Loop A) (l : Loop A) →
    IsDone reach l.stack (act (closed l)).stack → IsDone reach l.stack (closes_then act l).stack
closes_then_done act l h = unless_off_done (closed l).deck.mode act (closed l) (closed_settled l) h

pub nothing_done : {A : Type 0} {reach : ℕ} {s : Stack A} → IsDone reach s s
nothing_done = same_done same

closed_done : {A : Type 0} {reach : ℕ} (l : Loop A) → IsDone reach l.stack (closed l).stack
closed_done l = settled_done (closed_settled l)

-- the rows of the table
record_done : {A : Type 0} {reach : ℕ} (place : Column) (l : Loop A) →
    IsDone reach l.stack (record_row place reach l).stack
record_done InOff l = starts_record_done l (touched_settled (same_touched same))
record_done InItsOwn l = closed_done l
record_done InAnother l = starts_record_done (closed l) (closed_settled l)
record_done Elsewhere l = starts_record_done l (touched_settled (same_touched same))

layer_done : {A : Type 0} {reach : ℕ} (place : Column) (mode : Mode) (l : Loop A) →
    IsDone reach l.stack (layer_row place mode reach l).stack
layer_done InOff mode l = nothing_done
layer_done InItsOwn mode l = closed_done l
layer_done {reach = reach} InAnother mode l =
    closes_then_done (starts mode reach) l (starts_done mode (closed l) (closed_settled l))
layer_done Elsewhere mode l = starts_done mode l (touched_settled (same_touched same))

ends_done : {A : Type 0} {reach : ℕ} (l : Loop A) → IsDone reach l.stack (ends l).stack
ends_done {reach = reach} l =
    cond_both (l.controls.round == 0 || l.deck.rounding || at_stop l) (closed l) (rounds l)
    (λ now. IsDone reach l.stack now.stack)
    (λ now. closed_done l)
    (λ later. nothing_done)

unless_backward : {A : Type 0} {reach : ℕ} (l now : Loop A) → IsDone reach l.stack now.stack →
    IsDone reach l.stack (cond l.deck.backward l now).stack
unless_backward {reach = reach} l now h =
    cond_both l.deck.backward l now (λ r. IsDone reach l.stack r.stack)
    (λ back. nothing_done)
    (λ forward. h)

length_done : {A : Type 0} {reach : ℕ} (place : Column) (mode : Mode) (l : Loop A) →
    IsDone reach l.stack (length_row place mode reach l).stack
length_done InOff mode l = nothing_done
length_done InItsOwn mode l = ends_done l
length_done {reach = reach} InAnother mode l =
    unless_backward l (closes_then (starts mode reach) l) (layer_done InAnother mode l)
length_done {reach = reach} Elsewhere mode l =
    unless_backward l (starts mode reach l) (layer_done Elsewhere mode l)

mute_done : {A : Type 0} {reach : ℕ} (place : Column) (l : Loop A) →
    IsDone reach l.stack (mute_row place l).stack
mute_done InOff l = nothing_done
mute_done Elsewhere l = nothing_done
mute_done _ l = closes_then_done (in_mode Muted) l (closed_done l)

mute_on_done : {A : Type 0} {reach : ℕ} (place : Column) (l : Loop A) →
    IsDone reach l.stack (mute_on_row place l).stack
mute_on_done InOff l = nothing_done
mute_on_done Elsewhere l = nothing_done
mute_on_done _ l = closes_then_done (in_mode Muted) l (closed_done l)

mute_off_done : {A : Type 0} {reach : ℕ} (place : Column) (l : Loop A) →
    IsDone reach l.stack (mute_off_row place l).stack
mute_off_done Elsewhere l = nothing_done
mute_off_done _ l = nothing_done

pause_done : {A : Type 0} {reach : ℕ} (place : Column) (l : Loop A) →
    IsDone reach l.stack (pause_row place l).stack
pause_done InOff l = nothing_done
pause_done Elsewhere l = nothing_done
pause_done _ l = closes_then_done (in_mode Paused) l (closed_done l)

start_done : {A : Type 0} {reach : ℕ} (place : Column) (mode : Mode) (l : Loop A) →
    IsDone reach l.stack (start_row place mode l).stack
start_done InOff mode l = nothing_done
start_done Elsewhere mode l = nothing_done
start_done _ mode l = closes_then_done (plays_from_start mode) l (closed_done l)

reversed_done : {A : Type 0} {reach : ℕ} (mode : Mode) (l : Loop A) →
    IsDone reach l.stack (reversed_in mode l).stack
reversed_done Recording l = closes_then_done turned l (closed_done l)
reversed_done Multiplying l = closes_then_done turned l (closed_done l)
reversed_done Inserting l = closes_then_done turned l (closed_done l)
reversed_done _ l = same_done streak_broken_same

reverse_done : {A : Type 0} {reach : ℕ} (place : Column) (l : Loop A) →
    IsDone reach l.stack (reverse_row place l).stack
reverse_done InOff l = nothing_done
reverse_done Elsewhere l = nothing_done
reverse_done _ l = reversed_done l.deck.mode l

row_done : {A : Type 0} {reach : ℕ} (verb : Verb) (place : Column) (l : Loop A) →
    IsDone reach l.stack (row verb place reach l).stack
row_done Rec place l = record_done place l
row_done Overdub place l = layer_done place Overdubbing l
row_done Multiply place l = length_done place Multiplying l
row_done Insert place l = length_done place Inserting l
row_done Replace place l = layer_done place Replacing l
row_done Substitute place l = layer_done place Substituting l
row_done Mute place l = mute_done place l
row_done MuteOn place l = mute_on_done place l
row_done MuteOff place l = mute_off_done place l
row_done OneShot place l = start_done place PlayingOnce l
row_done Trigger place l = start_done place Playing l
row_done Reverse place l = reverse_done place l
row_done Pause place l = pause_done place l
row_done Undo place l = settled_then_moved (settled_settled l) (stepped_back_moved (settled l))
row_done Redo place l = moved_done (redo_from_moved l.stack.redo l)
row_done UndoAll place l = undo_each_done l.stack.layers l
row_done RedoAll place l = moved_done (redo_each_moved l.stack.redo l)

-- a verb in WaitStart
acts_waiting_done : {A : Type 0} {reach : ℕ} (verb : Verb) (l : Loop A) →
    IsDone reach l.stack (acts_waiting verb reach l).stack
acts_waiting_done Rec l = nothing_done
acts_waiting_done verb l = row_done verb (column verb (leaves_wait l).deck.mode) (leaves_wait l)

acts_from_done : {A : Type 0} {reach : ℕ} (verb : Verb) (mode : Mode) (l : Loop A) →
    IsDone reach l.stack (acts_from verb mode reach l).stack
acts_from_done verb WaitStart l = acts_waiting_done verb l
acts_from_done verb mode l = row_done verb (column verb mode) l

-- a verb
pub acts_done : {A : Type 0} {reach : ℕ} (verb : Verb) (l : Loop A) →
    IsDone reach l.stack (acts verb reach l).stack
acts_done verb l = acts_from_done verb l.deck.mode l
