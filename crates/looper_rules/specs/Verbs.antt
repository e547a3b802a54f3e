-- What a verb does goes by where the loop is: in Off, in the verb's own writing mode, in another
-- writing mode, or elsewhere.
--
-- verb                           in Off    in its own writing mode   in another writing mode
-- elsewhere record                         starts    closes                    closes, then starts
-- starts overdub, replace, substitute   nothing   closes                    closes, then starts
-- starts multiply, insert               nothing   ends                      nothing if backward,
-- else as overdub    nothing if backward, else starts mute                           nothing   -
-- closes, Muted                           Muted to Playing, else Muted mute_on
-- nothing   -                         closes, Muted                           Muted mute_off
-- nothing   -                         nothing                                 Muted to Playing,
-- else nothing pause                          nothing   -                         closes, Paused
-- Paused to Playing, else Paused oneshot                        nothing   -
-- closes, then as elsewhere               pos to the start, OneShot trigger
-- nothing   -                         closes, then as elsewhere               pos to the start,
-- Playing reverse                        nothing   -                         turns, see below
-- turns undo, redo and those of all go the same way everywhere.
--
-- Where closing has made the mode Off, nothing more is done. The start is 0 forward and the length
-- less 1 backward. A multiply or insert ends by closing where round is 0, where it is rounding
-- already, or at its stop; else it rounds. A reverse in Recording, Multiplying and Inserting closes
-- and then turns; in another writing mode it turns, and no streak goes on. In WaitStart `record`
-- only leaves it. Every other verb leaves it first, and then acts from the new mode.
-- "Verbs" in docs/rules.md.
use Rattle.std.specs.Prelude.{ℕ, ◌-◌, Bool, true, false, ◌||◌, ◌==◌, if◌then◌else◌}
use Rattle.sl_commands.specs.declared.Verb.{Verb}
use Rattle.sl_commands.specs.declared.Verb.TheVariants.{Rec, Overdub, Multiply, Insert, Replace, Substitute, Mute, MuteOn, MuteOff, OneShot, Trigger, Reverse, Pause, Undo, Redo, UndoAll, RedoAll}
use Rattle.sl_commands.specs.declared.Mode.{Mode}
use Rattle.sl_commands.specs.declared.Mode.TheVariants.{Off, WaitStart, Recording, Playing, Overdubbing, Multiplying, Inserting, Replacing, Muted, OneShot as PlayingOnce, Substituting, Paused}
pub use Rattle.sl_commands.specs.Modes.{is_mode_of}
use Rattle.looper_rules.specs.Stack.{streak_broken}
use Rattle.looper_rules.specs.Loop.{Loop, is_off, is_writing, length_of, in_mode, in_mode_at, turned, rounds, with_stack}
use Rattle.looper_rules.specs.Closing.{closed, at_stop}
use Rattle.looper_rules.specs.Starting.{starts_record, starts, leaves_wait}
use Rattle.looper_rules.specs.History.{undo, redo, undo_all, redo_all}

-- the columns of the table
pub data Column : Type 0 where
  InOff : Column
  InItsOwn : Column
  InAnother : Column
  Elsewhere : Column

-- the column for a verb in a mode
abbrev pub column : Verb → Mode → Column
column verb mode =
    if is_off mode then InOff
    else if is_writing mode then if is_mode_of verb mode then InItsOwn else InAnother
    else Elsewhere

-- what is done unless the mode is Off
abbrev pub unless_off : {A : Type 0} → Mode → (Loop A → Loop A) → Loop A → Loop A
unless_off Off act l = l
unless_off _ act l = act l

-- closing, and then this unless closing has made the mode Off
abbrev pub closes_then : {A : Type 0} → (Loop A → Loop A) → Loop A → Loop A
closes_then act l = let now = closed l in unless_off now.deck.mode act now

-- Muted to Playing, else Muted
abbrev pub mute_toggled : Mode → Mode
mute_toggled Muted = Playing
mute_toggled _ = Muted

-- Muted to Playing, else the mode itself
abbrev pub unmuted : Mode → Mode
unmuted Muted = Playing
unmuted mode = mode

-- Paused to Playing, else Paused
abbrev pub pause_toggled : Mode → Mode
pause_toggled Paused = Playing
pause_toggled _ = Paused

-- the start of a list of this length
abbrev pub start_place : Bool → ℕ → ℕ
start_place backward len = if backward then len - 1 else 0

-- the loop at its start in this mode
abbrev pub plays_from_start : {A : Type 0} → Mode → Loop A → Loop A
plays_from_start mode l = in_mode_at mode (start_place l.deck.backward (length_of l)) l

-- a multiply or insert that was asked to end
abbrev pub ends : {A : Type 0} → Loop A → Loop A
ends l = if l.controls.round == 0 || l.deck.rounding || at_stop l then closed l else rounds l

-- a reverse in this writing mode
abbrev pub reversed_in : {A : Type 0} → Mode → Loop A → Loop A
reversed_in Recording l = closes_then turned l
reversed_in Multiplying l = closes_then turned l
reversed_in Inserting l = closes_then turned l
reversed_in _ l = turned (with_stack (streak_broken l.stack) l)

-- the row of `record`
abbrev pub record_row : {A : Type 0} → Column → ℕ → Loop A → Loop A
record_row InOff reach l = starts_record reach l
record_row InItsOwn reach l = closed l
record_row InAnother reach l = starts_record reach (closed l)
record_row Elsewhere reach l = starts_record reach l

-- the row of `overdub`, `replace` and `substitute`
abbrev pub layer_row : {A : Type 0} → Column → Mode → ℕ → Loop A → Loop A
layer_row InOff mode reach l = l
layer_row InItsOwn mode reach l = closed l
layer_row InAnother mode reach l = closes_then (starts mode reach) l
layer_row Elsewhere mode reach l = starts mode reach l

-- the row of `multiply` and `insert`
abbrev pub length_row : {A : Type 0} → Column → Mode → ℕ → Loop A → Loop A
length_row InOff mode reach l = l
length_row InItsOwn mode reach l = ends l
length_row InAnother mode reach l = if l.deck.backward then l else closes_then (starts mode reach) l
length_row Elsewhere mode reach l = if l.deck.backward then l else starts mode reach l

-- the row of `mute`
abbrev pub mute_row : {A : Type 0} → Column → Loop A → Loop A
mute_row InOff l = l
mute_row Elsewhere l = in_mode (mute_toggled l.deck.mode) l
mute_row _ l = closes_then (in_mode Muted) l

-- the row of `mute_on`
abbrev pub mute_on_row : {A : Type 0} → Column → Loop A → Loop A
mute_on_row InOff l = l
mute_on_row Elsewhere l = in_mode Muted l
mute_on_row _ l = closes_then (in_mode Muted) l

-- the row of `mute_off`
abbrev pub mute_off_row : {A : Type 0} → Column → Loop A → Loop A
mute_off_row Elsewhere l = in_mode (unmuted l.deck.mode) l
mute_off_row _ l = l

-- the row of `pause`
abbrev pub pause_row : {A : Type 0} → Column → Loop A → Loop A
pause_row InOff l = l
pause_row Elsewhere l = in_mode (pause_toggled l.deck.mode) l
pause_row _ l = closes_then (in_mode Paused) l

-- the row of `oneshot` and `trigger`, which lead to this mode
abbrev pub start_row : {A : Type 0} → Column → Mode → Loop A → Loop A
start_row InOff mode l = l
start_row Elsewhere mode l = plays_from_start mode l
start_row _ mode l = closes_then (plays_from_start mode) l

-- the row of `reverse`
abbrev pub reverse_row : {A : Type 0} → Column → Loop A → Loop A
reverse_row InOff l = l
reverse_row Elsewhere l = turned l
reverse_row _ l = reversed_in l.deck.mode l

-- the table
abbrev pub row : {A : Type 0} → Verb → Column → ℕ → Loop A → Loop A
row Rec place reach l = record_row place reach l
row Overdub place reach l = layer_row place Overdubbing reach l
row Multiply place reach l = length_row place Multiplying reach l
row Insert place reach l = length_row place Inserting reach l
row Replace place reach l = layer_row place Replacing reach l
row Substitute place reach l = layer_row place Substituting reach l
row Mute place reach l = mute_row place l
row MuteOn place reach l = mute_on_row place l
row MuteOff place reach l = mute_off_row place l
row OneShot place reach l = start_row place PlayingOnce l
row Trigger place reach l = start_row place Playing l
row Reverse place reach l = reverse_row place l
row Pause place reach l = pause_row place l
row Undo place reach l = undo l
row Redo place reach l = redo l
row UndoAll place reach l = undo_all l
row RedoAll place reach l = redo_all l

-- a verb in a mode other than WaitStart
abbrev pub acts_in : {A : Type 0} → Verb → Mode → ℕ → Loop A → Loop A
acts_in verb mode reach l = row verb (column verb mode) reach l

-- a verb in WaitStart
abbrev pub acts_waiting : {A : Type 0} → Verb → ℕ → Loop A → Loop A
acts_waiting Rec reach l = leaves_wait l
acts_waiting verb reach l = let now = leaves_wait l in acts_in verb now.deck.mode reach now

-- a verb in this mode
abbrev pub acts_from : {A : Type 0} → Verb → Mode → ℕ → Loop A → Loop A
acts_from verb WaitStart reach l = acts_waiting verb reach l
acts_from verb mode reach l = acts_in verb mode reach l

-- what a verb does to a loop that reaches so many chunks
abbrev pub acts : {A : Type 0} → Verb → ℕ → Loop A → Loop A
acts verb reach l = acts_from verb l.deck.mode reach l
