-- A session is `looper session 1`, a line for each setting, a line for each loop in the order of
-- their indices, and `end`. Behind the last loop `end` is due, and another line there is one too
-- many. Where `end` stands earlier it has no form, as each line that isn't of the form due at its
-- place. A line of that form with a number outside its range, a loop's index aside, is the line of
-- no value. A loop's line of another index is out of order.
-- "Sessions" in docs/formats.md.
use Rattle.std.specs.Prelude.{ℕ, ◌≡◌, ◌≢◌, ◌+◌, ◌≤◌, ◌<◌, IsTrue, IsFalse, Option, List, length, codes}
use Rattle.sl_commands.specs.declared.fault.TextKind.{TextKind}
use Rattle.sl_commands.specs.declared.fault.TextKind.TheVariants.{Form, Value, Order, TooMany}
use Rattle.sl_commands.specs.declared.fault.ReadText.{ReadText}
use Rattle.sl_commands.specs.declared.fault.ReadText.TheVariants.{Fault, Memory}
use Rattle.sl_commands.specs.Settings.{LooperSettings, are_settings}
use Rattle.text_lines.specs.Lines.{words_in, text_of}
use Rattle.text_lines.specs.FirstFaults.{TextForm, FirstFault}
use Rattle.session_file.specs.declared.line.Setting.{Setting}
use Rattle.session_file.specs.declared.line.Line.{Line}
use Rattle.session_file.specs.SessionLines.{line_text, lines_of, due_behind, loops_said, HasValues, IsDue, is_in_place, is_form}

-- the first line
abbrev pub session_header : List ℕ
session_header = codes "looper session 1"

-- how many lines there are before `end`
abbrev pub lines_due : List Line → ℕ
lines_due before = 8 + loops_said before

-- a line may stand behind these
pub record MayStand (before : List Line) (line : Line) : Type 0 where
  pub room : length before < lines_due before
  pub due : IsDue (due_behind before) line
  pub values : HasValues (loops_said before) line
  pub place : IsTrue (is_in_place (length before) line)

-- the line hasn't the form that is due, or it has and is the line of no values in their ranges
abbrev pub HasNoValues : Option Setting → ℕ → List ℕ → TextKind → Type 0
HasNoValues due loops line Form = IsFalse (is_form due (words_in line))
HasNoValues due loops line Value = IsTrue (is_form due (words_in line))
    × ((l : Line) → IsDue due l → HasValues loops l → line ≢ line_text l)
HasNoValues due loops line _ = ⊥

-- what is wrong with a line behind these
pub data IsWrong (before : List Line) (line : List ℕ) (kind : TextKind) : Type 0 where
  -- `end` is due
  one_too_many : lines_due before ≤ length before → kind ≡ TooMany → IsWrong before line kind
  -- it has not the form due, or is the line of no values
  no_values : length before < lines_due before →
      HasNoValues (due_behind before) (loops_said before) line kind → IsWrong before line kind
  -- it is a loop's line with another index
  no_place : length before < lines_due before → (l : Line) → IsDue (due_behind before) l →
      HasValues (loops_said before) l → line ≡ line_text l →
      IsFalse (is_in_place (length before) l) → kind ≡ Order → IsWrong before line kind

-- sessions as a form of text: `end` is due behind the last loop
abbrev pub session_form : TextForm Line
session_form =
    record {
      header = session_header;
      spell = line_text;
      Next = MayStand;
      Due = λ before. length before ≡ lines_due before;
      Wrong = IsWrong;
    }

-- the text of settings
abbrev pub session_text : LooperSettings → List ℕ
session_text s = text_of session_header line_text (lines_of s)

-- the bytes are the session of these settings
pub record IsSession (bytes : List ℕ) (s : LooperSettings) : Type 0 where
  pub valid : IsTrue (are_settings s)
  pub spelled : bytes ≡ session_text s

-- why bytes weren't read: their first fault; reading takes no memory
abbrev pub IsReason : List ℕ → ReadText → Type 0
IsReason bytes (Fault fault) = FirstFault session_form bytes fault.line fault.kind
IsReason bytes Memory = ⊥
