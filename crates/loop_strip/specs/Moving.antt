-- When a loop is in a state for a move: closing and rounding want an open layer, another layer is
-- begun where none is open, and in the direction that its verb allows; mode, place and direction
-- change where a list is there and isn't written, the direction also in a mode that writes over its
-- list, where no streak goes on.
-- "Verbs" in docs/rules.md.
use Rattle.std.specs.Prelude.{◌≡◌, ℕ, ⊤, Bool, true, false, List, [], ◌∷◌, Option, None}
use Rattle.sl_commands.specs.declared.Verb.{Verb}
use Rattle.sl_commands.specs.declared.Verb.TheVariants.{Rec, Overdub, Multiply, Insert, Replace, Substitute}
use Rattle.sl_commands.specs.declared.Mode.{Mode}
use Rattle.sl_commands.specs.declared.Mode.TheVariants.{WaitStart, Playing, Overdubbing, Replacing, Substituting, Muted, OneShot, Paused}
use Rattle.looper_rules.specs.Stack.{LastWrite}
use Rattle.looper_rules.specs.Loop.{Loop, is_writing}
use Rattle.loop_states.specs.declared.act.Move.{Move}
use Rattle.loop_states.specs.declared.act.Move.TheVariants.{LeaveWait, Close, Begin, Round, SetMode, ToStart, Turn, BreakStreak, Undo, Redo, UndoAll, RedoAll}

-- a list is there, and isn't written
abbrev pub IsAtRest : Mode → Type 0
IsAtRest Playing = ⊤
IsAtRest Muted = ⊤
IsAtRest OneShot = ⊤
IsAtRest Paused = ⊤
IsAtRest _ = ⊥

-- the direction in which a verb may begin
abbrev pub MayBegin : Verb → Bool → Type 0
MayBegin Overdub backward = ⊤
MayBegin Replace backward = ⊤
MayBegin Substitute backward = ⊤
MayBegin Multiply backward = backward ≡ false
MayBegin Insert backward = backward ≡ false
MayBegin _ backward = ⊥

abbrev pub MayStart : Verb → Mode → Bool → Type 0
MayStart Rec mode backward = (is_writing mode ≡ false) × (mode ≡ WaitStart → ⊥)
MayStart verb mode backward = IsAtRest mode × MayBegin verb backward

abbrev pub MayTurn : Mode → Option LastWrite → Type 0
MayTurn Playing streak = ⊤
MayTurn Muted streak = ⊤
MayTurn OneShot streak = ⊤
MayTurn Paused streak = ⊤
MayTurn Overdubbing streak = streak ≡ None
MayTurn Replacing streak = streak ≡ None
MayTurn Substituting streak = streak ≡ None
MayTurn _ streak = ⊥

-- the loop is in a state for the move
abbrev pub IsAllowed : {A : Type 0} → Move → Loop A → Type 0
IsAllowed LeaveWait l = l.deck.mode ≡ WaitStart
IsAllowed Close l = is_writing l.deck.mode ≡ true
IsAllowed (Begin verb) l = MayStart verb l.deck.mode l.deck.backward
IsAllowed Round l = is_writing l.deck.mode ≡ true
IsAllowed (SetMode mode) l = IsAtRest mode × IsAtRest l.deck.mode
IsAllowed ToStart l = IsAtRest l.deck.mode
IsAllowed Turn l = MayTurn l.deck.mode l.stack.streak
IsAllowed BreakStreak l = is_writing l.deck.mode ≡ true
IsAllowed Undo l = ⊤
IsAllowed Redo l = ⊤
IsAllowed UndoAll l = ⊤
IsAllowed RedoAll l = ⊤

-- a move that opens no layer
abbrev pub IsAlone : Move → Type 0
IsAlone (Begin verb) = ⊥
IsAlone _ = ⊤
