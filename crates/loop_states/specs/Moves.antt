-- A verb is carried out in moves, one after another, each on the loop that the one before it left.
-- LeaveWait, Close, Round, Turn, Undo, Redo, UndoAll and RedoAll are the rules of these names.
-- Begin starts a writing verb, SetMode changes the mode and nothing else, ToStart goes to the start
-- of the list, and BreakStreak ends the streak.
-- "Verbs" in docs/rules.md.
use Rattle.std.specs.Prelude.{ℕ, List, [], ◌∷◌}
use Rattle.sl_commands.specs.declared.Verb.{Verb}
use Rattle.sl_commands.specs.declared.Verb.TheVariants.{Rec, Overdub, Multiply, Insert, Replace, Substitute}
use Rattle.sl_commands.specs.declared.Mode.TheVariants.{Overdubbing, Multiplying, Inserting, Replacing, Substituting}
use Rattle.looper_rules.specs.Stack.{streak_broken}
use Rattle.looper_rules.specs.Loop.{Loop, length_of, in_mode, at_place, turned, rounds, with_stack}
use Rattle.looper_rules.specs.Closing.{closed}
use Rattle.looper_rules.specs.History.{undo, redo, undo_all, redo_all}
use Rattle.looper_rules.specs.Starting.{starts_record, starts, leaves_wait}
use Rattle.looper_rules.specs.Verbs.{start_place}
use Rattle.loop_states.specs.declared.act.Move.{Move}
use Rattle.loop_states.specs.declared.act.Move.TheVariants.{LeaveWait, Close, Begin, Round, SetMode, ToStart, Turn, BreakStreak, Undo, Redo, UndoAll, RedoAll}

-- starting a writing verb, by the chunks in reach
abbrev pub begins : {A : Type 0} → Verb → ℕ → Loop A → Loop A
begins Rec reach l = starts_record reach l
begins Overdub reach l = starts Overdubbing reach l
begins Multiply reach l = starts Multiplying reach l
begins Insert reach l = starts Inserting reach l
begins Replace reach l = starts Replacing reach l
begins Substitute reach l = starts Substituting reach l
begins _ reach l = l

-- the loop at the start of its list
abbrev pub to_start : {A : Type 0} → Loop A → Loop A
to_start l = at_place (start_place l.deck.backward (length_of l)) l

-- the loop after a move
abbrev pub carry : {A : Type 0} → ℕ → Move → Loop A → Loop A
carry reach LeaveWait l = leaves_wait l
carry reach Close l = closed l
carry reach (Begin verb) l = begins verb reach l
carry reach Round l = rounds l
carry reach (SetMode mode) l = in_mode mode l
carry reach ToStart l = to_start l
carry reach Turn l = turned l
carry reach BreakStreak l = with_stack (streak_broken l.stack) l
carry reach Undo l = undo l
carry reach Redo l = redo l
carry reach UndoAll l = undo_all l
carry reach RedoAll l = redo_all l

-- the loop after these moves
abbrev pub carry_all : {A : Type 0} → ℕ → List Move → Loop A → Loop A
carry_all reach [] l = l
carry_all reach (m ∷ ms) l = carry_all reach ms (carry reach m l)
