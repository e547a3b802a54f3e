-- The moves of a verb, carried out, are the verb.
use Rattle.std.proofs.Common.{◌≡◌, ℕ, zero, suc, Bool, true, false, not, ◌&&◌, ◌||◌, List, [], ◌∷◌, length, nat_le, cond, refl, sym, ap, subst, ◌∙◌}
use Rattle.std.specs.Prelude.{◌==◌}
use Rattle.sl_base.specs.Sounds.{Sound}
use Rattle.sl_commands.specs.declared.Verb.{Verb}
use Rattle.sl_commands.specs.declared.Verb.TheVariants.{Rec, Overdub, Multiply, Insert, Replace, Substitute, Mute, MuteOn, MuteOff, OneShot, Trigger, Reverse, Pause, Undo as UndoVerb, Redo as RedoVerb, UndoAll as UndoAllVerb, RedoAll as RedoAllVerb}
use Rattle.sl_commands.specs.declared.Mode.{Mode}
use Rattle.sl_commands.specs.declared.Mode.TheVariants.{Off, WaitStart, Recording, Playing, Overdubbing, Multiplying, Inserting, Replacing, Muted, OneShot as PlayingOnce, Substituting, Paused}
use Rattle.sl_commands.specs.declared.Face.{Face}
use Rattle.looper_rules.specs.Layers.{Layer}
use Rattle.looper_rules.specs.Loop.{Loop, face_of, length_of, in_mode, is_off, turned, rounds}
use Rattle.looper_rules.specs.Closing.{closed, closed_from, closed_recording, at_stop_in, at_stop}
use Rattle.looper_rules.specs.Starting.{starts, leaves_wait, mode_after_wait}
use Rattle.looper_rules.specs.Verbs.{Column, InOff, InItsOwn, InAnother, Elsewhere, column, unless_off, closes_then, mute_toggled, unmuted, pause_toggled, plays_from_start, ends, reversed_in, record_row, layer_row, length_row, mute_row, mute_on_row, mute_off_row, pause_row, start_row, reverse_row, row, acts_in, acts_waiting, acts_from, acts}
use Rattle.loop_states.specs.declared.act.Move.{Move}
use Rattle.loop_states.specs.declared.act.Move.TheVariants.{LeaveWait, Close, Begin, Round, SetMode, ToStart, Turn, BreakStreak, Undo, Redo, UndoAll, RedoAll}
use Rattle.loop_states.specs.Moves.{begins, carry, carry_all}
use Rattle.loop_states.specs.Deciding.{leads_to_off, close_then, is_at_stop, end_moves, record_moves, layer_moves, length_moves, mode_moves, mute_off_moves, start_moves, reverse_in, reverse_moves, moves_at, moves_in, mode_behind_wait, waiting_moves, moves_from, moves_of}

-- closing a Recording leads to Off where it has length 0 and is the only layer
recording_then : {A : Type 0} (empty single : Bool) (reach : ℕ) (moves : List Move) (l : Loop A) →
    let now = closed_recording empty single l in
    cond (empty && single) now (carry_all reach moves now) ≡ unless_off now.deck.mode
    (carry_all reach moves) now
recording_then true true reach moves l = refl
recording_then true false reach moves l = refl
recording_then false single reach moves l = refl

-- and closing in another writing mode doesn't
closed_then : {A : Type 0} (mode : Mode) (reach : ℕ) (moves : List Move) (l : Loop A) →
    let now = closed_from mode l in
    cond (leads_to_off mode (face_of l)) now (carry_all reach moves now) ≡ unless_off now.deck.mode
    (carry_all reach moves) now
closed_then Recording reach moves l =
    recording_then (length_of l == 0) (nat_le (length l.stack.layers) 1) reach moves l
closed_then _ reach moves l = refl

-- closing, and what comes behind it
close_split : {A : Type 0} (off : Bool) (reach : ℕ) (moves : List Move) (l : Loop A) →
    carry_all reach (cond off (Close ∷ []) (Close ∷ moves)) l ≡ cond off (closed l)
    (carry_all reach moves (closed l))
close_split true reach moves l = refl
close_split false reach moves l = refl

close_is : {A : Type 0} (mode : Mode) (reach : ℕ) (moves : List Move) (l : Loop A) →
    l.deck.mode ≡ mode →
    carry_all reach (close_then mode (face_of l) moves) l ≡ closes_then (carry_all reach moves) l
close_is mode reach moves l is =
    let here : carry_all reach (close_then l.deck.mode (face_of l) moves) l ≡ closes_then
    (carry_all reach moves) l =
    close_split (leads_to_off l.deck.mode (face_of l)) reach moves l
    ∙ closed_then l.deck.mode reach moves l
    in subst (λ m. carry_all reach (close_then m (face_of l) moves) l ≡ closes_then
    (carry_all reach moves) l) is here

-- each row
record_is : {A : Type 0} (place : Column) (reach : ℕ) (l : Loop A) →
    carry_all reach (record_moves place) l ≡ record_row place reach l
record_is InOff reach l = refl
record_is InItsOwn reach l = refl
record_is InAnother reach l = refl
record_is Elsewhere reach l = refl

then_same : {A : Type 0} (mode : Mode) (f g : Loop A → Loop A) (l : Loop A) → f l ≡ g l →
    unless_off mode f l ≡ unless_off mode g l
then_same Off f g l same = refl
then_same _ f g l same = same

layer_is :
    {A : Type 0} (place : Column) (verb : Verb) (own : Mode) (mode : Mode) (reach : ℕ)
    (l : Loop A) → l.deck.mode ≡ mode →
    ((k : Loop A) → begins verb reach k ≡ starts own reach k) →
    carry_all reach (layer_moves place verb mode (face_of l)) l ≡ layer_row place own reach l
layer_is InOff verb own mode reach l is same = refl
layer_is InItsOwn verb own mode reach l is same = refl
layer_is InAnother verb own mode reach l is same =
    close_is mode reach (Begin verb ∷ []) l is ∙ then_same (closed l).deck.mode (begins verb reach)
    (starts own reach) (closed l) (same (closed l))
layer_is Elsewhere verb own mode reach l is same = same l

end_split : {A : Type 0} (now : Bool) (reach : ℕ) (l : Loop A) →
    carry_all reach (cond now (Close ∷ []) (Round ∷ [])) l ≡ cond now (closed l) (rounds l)
end_split true reach l = refl
end_split false reach l = refl

stop_is : {A : Type 0} (mode : Mode) (l : Loop A) → is_at_stop mode (face_of l) ≡ at_stop_in mode l
stop_is Multiplying l = refl
stop_is Inserting l = refl
stop_is _ l = refl

end_is : {A : Type 0} (mode : Mode) (round : Bool) (reach : ℕ) (l : Loop A) → l.deck.mode ≡ mode →
    (l.controls.round == 0) ≡ not round →
    carry_all reach (end_moves mode round (face_of l)) l ≡ ends l
end_is mode round reach l is rounds_not =
    let stop : is_at_stop mode (face_of l) ≡ at_stop l =
    stop_is mode l ∙ ap (λ m. at_stop_in m l) (sym is)
    in end_split (not round || l.deck.rounding || is_at_stop mode (face_of l)) reach l
    ∙ ap (λ b. cond (b || l.deck.rounding || is_at_stop mode (face_of l)) (closed l) (rounds l))
    (sym rounds_not)
    ∙ ap (λ b. cond (l.controls.round == 0 || l.deck.rounding || b) (closed l) (rounds l)) stop

facing : {A : Type 0} (backward : Bool) (reach : ℕ) (moves : List Move) (l now : Loop A) →
    carry_all reach moves l ≡ now →
    carry_all reach (cond backward [] moves) l ≡ cond backward l now
facing true reach moves l now is = refl
facing false reach moves l now is = is

length_is :
    {A : Type 0} (place : Column) (verb : Verb) (own : Mode) (mode : Mode) (round : Bool)
    (reach : ℕ) (l : Loop A) → l.deck.mode ≡ mode →
    (l.controls.round == 0) ≡ not round →
    ((k : Loop A) → begins verb reach k ≡ starts own reach k) →
    carry_all reach (length_moves place verb mode round (face_of l)) l ≡ length_row place own reach
    l
length_is InOff verb own mode round reach l is rounds_not same = refl
length_is InItsOwn verb own mode round reach l is rounds_not same =
    end_is mode round reach l is rounds_not
length_is InAnother verb own mode round reach l is rounds_not same =
    facing l.deck.backward reach (close_then mode (face_of l) (Begin verb ∷ [])) l
    (closes_then (starts own reach) l) (layer_is InAnother verb own mode reach l is same)
length_is Elsewhere verb own mode round reach l is rounds_not same =
    facing l.deck.backward reach (Begin verb ∷ []) l (starts own reach l) (same l)

mute_is : {A : Type 0} (place : Column) (reach : ℕ) (l : Loop A) →
    carry_all reach (mode_moves place (mute_toggled l.deck.mode) Muted l.deck.mode (face_of l))
    l ≡ mute_row place l
mute_is InOff reach l = refl
mute_is Elsewhere reach l = refl
mute_is _ reach l = close_is l.deck.mode reach (SetMode Muted ∷ []) l refl

mute_on_is : {A : Type 0} (place : Column) (reach : ℕ) (l : Loop A) →
    carry_all reach (mode_moves place Muted Muted l.deck.mode (face_of l)) l ≡ mute_on_row place l
mute_on_is InOff reach l = refl
mute_on_is Elsewhere reach l = refl
mute_on_is _ reach l = close_is l.deck.mode reach (SetMode Muted ∷ []) l refl

mute_off_is : {A : Type 0} (place : Column) (reach : ℕ) (l : Loop A) →
    carry_all reach (mute_off_moves place l.deck.mode) l ≡ mute_off_row place l
mute_off_is Elsewhere reach l = refl
mute_off_is _ reach l = refl

pause_is : {A : Type 0} (place : Column) (reach : ℕ) (l : Loop A) →
    carry_all reach (mode_moves place (pause_toggled l.deck.mode) Paused l.deck.mode (face_of l))
    l ≡ pause_row place l
pause_is InOff reach l = refl
pause_is Elsewhere reach l = refl
pause_is _ reach l = close_is l.deck.mode reach (SetMode Paused ∷ []) l refl

start_is : {A : Type 0} (place : Column) (next : Mode) (reach : ℕ) (l : Loop A) →
    carry_all reach (start_moves place next l.deck.mode (face_of l)) l ≡ start_row place next l
start_is InOff next reach l = refl
start_is Elsewhere next reach l = refl
start_is _ next reach l = close_is l.deck.mode reach (ToStart ∷ SetMode next ∷ []) l refl

reverse_in_is : {A : Type 0} (mode : Mode) (reach : ℕ) (l : Loop A) → l.deck.mode ≡ mode →
    carry_all reach (reverse_in mode (face_of l)) l ≡ reversed_in mode l
reverse_in_is Recording reach l is = close_is Recording reach (Turn ∷ []) l is
reverse_in_is Multiplying reach l is = close_is Multiplying reach (Turn ∷ []) l is
reverse_in_is Inserting reach l is = close_is Inserting reach (Turn ∷ []) l is
reverse_in_is _ reach l is = refl

reverse_is : {A : Type 0} (place : Column) (reach : ℕ) (l : Loop A) →
    carry_all reach (reverse_moves place l.deck.mode (face_of l)) l ≡ reverse_row place l
reverse_is InOff reach l = refl
reverse_is Elsewhere reach l = refl
reverse_is _ reach l = reverse_in_is l.deck.mode reach l refl

-- the rows of all verbs
row_is : {A : Type 0} (verb : Verb) (place : Column) (round : Bool) (reach : ℕ) (l : Loop A) →
    (l.controls.round == 0) ≡ not round →
    carry_all reach (moves_at verb place l.deck.mode round (face_of l)) l ≡ row verb place reach l
row_is Rec place round reach l rounds_not = record_is place reach l
row_is Overdub place round reach l rounds_not =
    layer_is place Overdub Overdubbing l.deck.mode reach l refl (λ k. refl)
row_is Multiply place round reach l rounds_not =
    length_is place Multiply Multiplying l.deck.mode round reach l refl rounds_not (λ k. refl)
row_is Insert place round reach l rounds_not =
    length_is place Insert Inserting l.deck.mode round reach l refl rounds_not (λ k. refl)
row_is Replace place round reach l rounds_not =
    layer_is place Replace Replacing l.deck.mode reach l refl (λ k. refl)
row_is Substitute place round reach l rounds_not =
    layer_is place Substitute Substituting l.deck.mode reach l refl (λ k. refl)
row_is Mute place round reach l rounds_not = mute_is place reach l
row_is MuteOn place round reach l rounds_not = mute_on_is place reach l
row_is MuteOff place round reach l rounds_not = mute_off_is place reach l
row_is OneShot place round reach l rounds_not = start_is place PlayingOnce reach l
row_is Trigger place round reach l rounds_not = start_is place Playing reach l
row_is Reverse place round reach l rounds_not = reverse_is place reach l
row_is Pause place round reach l rounds_not = pause_is place reach l
row_is UndoVerb place round reach l rounds_not = refl
row_is RedoVerb place round reach l rounds_not = refl
row_is UndoAllVerb place round reach l rounds_not = refl
row_is RedoAllVerb place round reach l rounds_not = refl

in_is : {A : Type 0} (verb : Verb) (mode : Mode) (round : Bool) (reach : ℕ) (l : Loop A) →
    l.deck.mode ≡ mode → (l.controls.round == 0) ≡ not round →
    carry_all reach (moves_in verb mode round (face_of l)) l ≡ acts_in verb mode reach l
in_is verb mode round reach l is rounds_not =
    subst (λ m. carry_all reach (moves_in verb m round (face_of l)) l ≡ acts_in verb m reach l) is
    (row_is verb (column verb l.deck.mode) round reach l rounds_not)

-- the moves behind WaitStart don't depend on the mode of the face
off_alike : (verb : Verb) (round : Bool) (mode : Mode) (face : Face) →
    moves_in verb Off round face ≡ moves_in verb Off round (record face { mode = mode })
off_alike Rec round mode face = refl
off_alike _ round mode face = refl

playing_alike : (verb : Verb) (round : Bool) (mode : Mode) (face : Face) →
    moves_in verb Playing round face ≡ moves_in verb Playing round (record face { mode = mode })
playing_alike Rec round mode face = refl
playing_alike _ round mode face = refl

waiting_over :
    {A : Type 0} (layers : List (Layer A)) (verb : Verb) (round : Bool) (reach : ℕ) (l : Loop A) →
    (l.controls.round == 0) ≡ not round →
    carry_all reach (moves_in verb (mode_behind_wait (length layers)) round (face_of l))
    (in_mode (mode_after_wait layers) l)
    ≡ acts_in verb (mode_after_wait layers) reach (in_mode (mode_after_wait layers) l)
waiting_over [] verb round reach l rounds_not =
    ap (λ ms. carry_all reach ms (in_mode Off l)) (off_alike verb round Off (face_of l))
    ∙ in_is verb Off round reach (in_mode Off l) refl rounds_not
waiting_over (x ∷ xs) verb round reach l rounds_not =
    ap (λ ms. carry_all reach ms (in_mode Playing l)) (playing_alike verb round Playing (face_of l))
    ∙ in_is verb Playing round reach (in_mode Playing l) refl rounds_not

waiting_is : {A : Type 0} (verb : Verb) (round : Bool) (reach : ℕ) (l : Loop A) →
    (l.controls.round == 0) ≡ not round →
    carry_all reach (waiting_moves verb round (face_of l)) l ≡ acts_waiting verb reach l
waiting_is Rec round reach l rounds_not = refl
waiting_is verb round reach l rounds_not = waiting_over l.stack.layers verb round reach l rounds_not

from_is : {A : Type 0} (verb : Verb) (mode : Mode) (round : Bool) (reach : ℕ) (l : Loop A) →
    l.deck.mode ≡ mode → (l.controls.round == 0) ≡ not round →
    carry_all reach (moves_from verb mode round (face_of l)) l ≡ acts_from verb mode reach l
from_is verb WaitStart round reach l is rounds_not = waiting_is verb round reach l rounds_not
from_is verb mode round reach l is rounds_not = in_is verb mode round reach l is rounds_not

-- the moves of a verb are the verb
pub table_is : {A : Type 0} (verb : Verb) (round : Bool) (reach : ℕ) (l : Loop A) →
    (l.controls.round == 0) ≡ not round →
    carry_all reach (moves_of verb round (face_of l)) l ≡ acts verb reach l
table_is verb round reach l rounds_not = from_is verb l.deck.mode round reach l refl rounds_not

-- the moves of a verb, carried out on a loop with this face, are the verb
pub table_of : (verb : Verb) (round : Bool) (face : Face) (moves : List Move) (reach : ℕ)
    (l : Loop Sound) → moves ≡ moves_of verb round face → face_of l ≡ face →
    (l.controls.round == 0) ≡ not round → carry_all reach moves l ≡ acts verb reach l
table_of verb round face moves reach l are is rounds_not =
    ap (λ ms. carry_all reach ms l) (are ∙ ap (moves_of verb round) (sym is))
    ∙ table_is verb round reach l rounds_not
