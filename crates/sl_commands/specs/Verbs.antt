-- A verb is what is done to a loop. There are 17, each with a name and a number, the first number
-- being 0.
-- "Verbs and their names" in docs/rules.md.
use Rattle.std.specs.Str.{bytes_eq}
use Rattle.std.specs.Prelude.{ℕ, Bool, List, [], ◌∷◌, codes}
use Rattle.sl_commands.specs.declared.verb.Verb.{Verb}
use Rattle.sl_commands.specs.declared.verb.Verb.TheVariants.{Rec, Overdub, Multiply, Insert, Replace, Substitute, Mute, MuteOn, MuteOff, OneShot, Trigger, Reverse, Pause, Undo, Redo, UndoAll, RedoAll}

-- a verb's line in the table
pub record VerbRow : Type 0 where
  pub number : ℕ
  pub name : List ℕ

-- a line of the table
abbrev pub verb_line : ℕ → List ℕ → VerbRow
verb_line number name = record { number = number; name = name }

-- the table of verbs
abbrev pub verb_row : Verb → VerbRow
verb_row Rec = verb_line 0 (codes "record")
verb_row Overdub = verb_line 1 (codes "overdub")
verb_row Multiply = verb_line 2 (codes "multiply")
verb_row Insert = verb_line 3 (codes "insert")
verb_row Replace = verb_line 4 (codes "replace")
verb_row Substitute = verb_line 5 (codes "substitute")
verb_row Mute = verb_line 6 (codes "mute")
verb_row MuteOn = verb_line 7 (codes "mute_on")
verb_row MuteOff = verb_line 8 (codes "mute_off")
verb_row OneShot = verb_line 9 (codes "oneshot")
verb_row Trigger = verb_line 10 (codes "trigger")
verb_row Reverse = verb_line 11 (codes "reverse")
verb_row Pause = verb_line 12 (codes "pause")
verb_row Undo = verb_line 13 (codes "undo")
verb_row Redo = verb_line 14 (codes "redo")
verb_row UndoAll = verb_line 15 (codes "undo_all")
verb_row RedoAll = verb_line 16 (codes "redo_all")

-- the name of a verb, in messages and texts
abbrev pub verb_name : Verb → List ℕ
verb_name v = (verb_row v).name

-- the number of a verb
abbrev pub verb_number : Verb → ℕ
verb_number v = (verb_row v).number

-- all verbs, by their numbers
abbrev pub verbs : List Verb
verbs = Rec ∷ Overdub ∷ Multiply ∷ Insert ∷ Replace ∷ Substitute ∷ Mute ∷ MuteOn ∷ MuteOff ∷ OneShot
    ∷ Trigger ∷ Reverse ∷ Pause ∷ Undo ∷ Redo ∷ UndoAll ∷ RedoAll ∷ []

-- the bytes are the name of a verb
abbrev pub has_verb_name : List ℕ → Verb → Bool
has_verb_name bytes v = bytes_eq (verb_name v) bytes
