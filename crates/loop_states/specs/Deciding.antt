-- Which moves a verb makes goes by where the loop is: in Off, in the verb's own writing mode, in
-- another writing mode, or elsewhere. A Recording of length 0 that is the only layer closes to Off,
-- and then nothing more is done. In WaitStart the moves behind LeaveWait are those of the mode that
-- it leads to.
-- "Verbs" in docs/rules.md.
use Rattle.std.specs.Prelude.{ℕ, zero, suc, ◌-◌, ◌%◌, Bool, true, false, not, ◌&&◌, ◌||◌, List, [], ◌∷◌, nat_le, ◌==◌, if◌then◌else◌}
use Rattle.sl_commands.specs.declared.Verb.{Verb}
use Rattle.sl_commands.specs.declared.Verb.TheVariants.{Rec, Overdub, Multiply, Insert, Replace, Substitute, Mute, MuteOn, MuteOff, OneShot, Trigger, Reverse, Pause, Undo as UndoVerb, Redo as RedoVerb, UndoAll as UndoAllVerb, RedoAll as RedoAllVerb}
use Rattle.sl_commands.specs.declared.Mode.{Mode}
use Rattle.sl_commands.specs.declared.Mode.TheVariants.{Off, WaitStart, Recording, Playing, Multiplying, Inserting, Muted, OneShot as PlayingOnce, Paused}
use Rattle.sl_commands.specs.declared.Face.{Face}
use Rattle.looper_rules.specs.Verbs.{Column, InOff, InItsOwn, InAnother, Elsewhere, column, mute_toggled, unmuted, pause_toggled}
use Rattle.loop_states.specs.declared.act.Move.{Move}
use Rattle.loop_states.specs.declared.act.Move.TheVariants.{LeaveWait, Close, Begin, Round, SetMode, ToStart, Turn, BreakStreak, Undo, Redo, UndoAll, RedoAll}
use Rattle.loop_states.specs.declared.rows.Standing.{Standing}
use Rattle.loop_states.specs.declared.rows.Standing.TheVariants.{InOff as StandsInOff, InItsOwn as StandsInItsOwn, InAnother as StandsInAnother, Elsewhere as StandsElsewhere}

-- the column of a loop's standing
abbrev pub column_of : Standing → Column
column_of StandsInOff = InOff
column_of StandsInItsOwn = InItsOwn
column_of StandsInAnother = InAnother
column_of StandsElsewhere = Elsewhere

-- whether closing in this mode leads to Off
abbrev pub leads_to_off : Mode → Face → Bool
leads_to_off Recording face = face.length == 0 && nat_le face.layers 1
leads_to_off _ face = false

-- closing, and then these moves unless closing leads to Off
abbrev pub close_then : Mode → Face → List Move → List Move
close_then mode face moves = if leads_to_off mode face then Close ∷ [] else Close ∷ moves

-- whether a multiply or an insert with this face is at its stop
abbrev pub is_at_stop : Mode → Face → Bool
is_at_stop Multiplying face = face.pos % face.cycle == 0
is_at_stop Inserting face = (face.length - face.base) % face.cycle == 0
is_at_stop _ face = false

-- a multiply or an insert that was asked to end
abbrev pub end_moves : Mode → Bool → Face → List Move
end_moves mode round face = if not round || face.rounding || is_at_stop mode face then
    Close ∷ [] else Round ∷ []

abbrev pub record_moves : Column → List Move
record_moves InItsOwn = Close ∷ []
record_moves InAnother = Close ∷ Begin Rec ∷ []
record_moves _ = Begin Rec ∷ []

abbrev pub layer_moves : Column → Verb → Mode → Face → List Move
layer_moves InOff verb mode face = []
layer_moves InItsOwn verb mode face = Close ∷ []
layer_moves InAnother verb mode face = close_then mode face (Begin verb ∷ [])
layer_moves Elsewhere verb mode face = Begin verb ∷ []

abbrev pub length_moves : Column → Verb → Mode → Bool → Face → List Move
length_moves InOff verb mode round face = []
length_moves InItsOwn verb mode round face = end_moves mode round face
length_moves InAnother verb mode round face = if face.backward then [] else
    close_then mode face (Begin verb ∷ [])
length_moves Elsewhere verb mode round face = if face.backward then [] else Begin verb ∷ []

-- to another mode, by the mode that it becomes elsewhere and in a writing mode
abbrev pub mode_moves : Column → Mode → Mode → Mode → Face → List Move
mode_moves InOff there next mode face = []
mode_moves Elsewhere there next mode face = SetMode there ∷ []
mode_moves _ there next mode face = close_then mode face (SetMode next ∷ [])

abbrev pub mute_off_moves : Column → Mode → List Move
mute_off_moves Elsewhere mode = SetMode (unmuted mode) ∷ []
mute_off_moves _ mode = []

abbrev pub start_moves : Column → Mode → Mode → Face → List Move
start_moves InOff next mode face = []
start_moves Elsewhere next mode face = ToStart ∷ SetMode next ∷ []
start_moves _ next mode face = close_then mode face (ToStart ∷ SetMode next ∷ [])

-- a reverse in a writing mode
abbrev pub reverse_in : Mode → Face → List Move
reverse_in Recording face = close_then Recording face (Turn ∷ [])
reverse_in Multiplying face = close_then Multiplying face (Turn ∷ [])
reverse_in Inserting face = close_then Inserting face (Turn ∷ [])
reverse_in _ face = BreakStreak ∷ Turn ∷ []

abbrev pub reverse_moves : Column → Mode → Face → List Move
reverse_moves InOff mode face = []
reverse_moves Elsewhere mode face = Turn ∷ []
reverse_moves _ mode face = reverse_in mode face

-- the moves of a verb in this column and mode
abbrev pub moves_at : Verb → Column → Mode → Bool → Face → List Move
moves_at Rec place mode round face = record_moves place
moves_at Overdub place mode round face = layer_moves place Overdub mode face
moves_at Multiply place mode round face = length_moves place Multiply mode round face
moves_at Insert place mode round face = length_moves place Insert mode round face
moves_at Replace place mode round face = layer_moves place Replace mode face
moves_at Substitute place mode round face = layer_moves place Substitute mode face
moves_at Mute place mode round face = mode_moves place (mute_toggled mode) Muted mode face
moves_at MuteOn place mode round face = mode_moves place Muted Muted mode face
moves_at MuteOff place mode round face = mute_off_moves place mode
moves_at OneShot place mode round face = start_moves place PlayingOnce mode face
moves_at Trigger place mode round face = start_moves place Playing mode face
moves_at Reverse place mode round face = reverse_moves place mode face
moves_at Pause place mode round face = mode_moves place (pause_toggled mode) Paused mode face
moves_at UndoVerb place mode round face = Undo ∷ []
moves_at RedoVerb place mode round face = Redo ∷ []
moves_at UndoAllVerb place mode round face = UndoAll ∷ []
moves_at RedoAllVerb place mode round face = RedoAll ∷ []

-- the moves of a verb in a mode other than WaitStart
abbrev pub moves_in : Verb → Mode → Bool → Face → List Move
moves_in verb mode round face = moves_at verb (column verb mode) mode round face

-- the mode behind WaitStart over so many layers
abbrev pub mode_behind_wait : ℕ → Mode
mode_behind_wait zero = Off
mode_behind_wait (suc _) = Playing

-- the moves of a verb in WaitStart
abbrev pub waiting_moves : Verb → Bool → Face → List Move
waiting_moves Rec round face = LeaveWait ∷ []
waiting_moves verb round face = LeaveWait ∷ moves_in verb (mode_behind_wait face.layers) round face

-- the moves of a verb in this mode
abbrev pub moves_from : Verb → Mode → Bool → Face → List Move
moves_from verb WaitStart round face = waiting_moves verb round face
moves_from verb mode round face = moves_in verb mode round face

-- the moves of a verb
abbrev pub moves_of : Verb → Bool → Face → List Move
moves_of verb round face = moves_from verb face.mode round face
