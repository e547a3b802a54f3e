-- A get asks for the value of a control, and a save for the end of a loop's save or of a session's.
-- What is asked is known by the entry's sender, its seq and what it asks for, and a reply tells in
-- the same way what it answers.
-- "Entries and replies" in docs/rules.md.
use Rattle.std.specs.Prelude.{ℕ, Bool, true, false, ◌&&◌, ◌==◌, List, [], ◌∷◌, ◌++◌, filter, filter_map, Contains, Option, Some, None, option_map}
use Rattle.sl_commands.specs.declared.Command.{Command}
use Rattle.sl_commands.specs.declared.Command.TheVariants.{Get, GetGlobal, SaveLoop, SaveSession}
use Rattle.sl_commands.specs.declared.Entry.{Entry}
use Rattle.sl_commands.specs.declared.Reply.{Reply}
use Rattle.sl_commands.specs.declared.What.{What}
use Rattle.sl_commands.specs.declared.What.TheVariants.{Value, Save as OfLoop, Session as OfSession}
use Rattle.sl_commands.specs.Entries.{is_valid}
use Rattle.sl_base.specs.Sounds.{Sound}
use Rattle.looper_rules.specs.Looper.{Looper}
use Rattle.looper_rules.specs.Entries.{reply}
use Rattle.run_laws.specs.Places.{ComesWithEntry}

-- what is asked, by whom, and under which number
pub record Question : Type 0 where
  pub sender : ℕ
  pub seq : ℕ
  pub what : What

-- what a command asks for, where it asks
abbrev pub asked_for : Command → Option What
asked_for (Get target control) = Some (Value control)
asked_for (GetGlobal control) = Some (Value control)
asked_for (SaveLoop target name) = Some OfLoop
asked_for (SaveSession name) = Some OfSession
asked_for _ = None

-- an entry's question for this
abbrev pub question_for : Entry → What → Question
question_for e what = record { sender = e.sender; seq = e.seq; what = what }

-- the question of an entry, where it asks
abbrev pub question : Entry → Option Question
question e = option_map (question_for e) (asked_for e.command)

-- the questions of these entries, in order
abbrev pub questions : List Entry → List Question
questions es = filter_map question es

-- the question that a reply answers
abbrev pub answered : Reply → Question
answered r = record { sender = r.sender; seq = r.seq; what = r.what }

-- a reply of a run comes with one of its entries, and answers this one or one before it
pub record AnswersInTime (es : List Entry) (input : List Sound) (l : Looper)
    (r : Reply) : Type 0 where
  pub comes : ComesWithEntry reply es input l r
  pub asked : Contains (questions (comes.before ++ comes.entry ∷ [])) (answered r)

-- whether a question has this sender and this seq
abbrev pub is_of : ℕ → ℕ → Question → Bool
is_of sender seq q = q.sender == sender && q.seq == seq

-- whether a value is told or asked for
abbrev pub is_value : What → Bool
is_value (Value control) = true
is_value _ = false

-- whether a question is a get's
abbrev pub is_get : Question → Bool
is_get q = is_value q.what

-- the entries that are valid, for so many loops
abbrev pub valid_ones : ℕ → List Entry → List Entry
valid_ones loops es = filter (is_valid loops) es
