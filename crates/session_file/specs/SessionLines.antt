-- The first eight lines of a session behind its header are settings of the looper: a word and a
-- number. Then each loop has a line: its index, the length of its list, its cycle, and the values
-- of its controls that can be set. A line has the form that is due by the shapes of its words.
-- "Sessions" in docs/formats.md.
use Rattle.std.specs.Prelude.{ℕ, suc, ℤ, pos, negsuc, ◌≡◌, ◌<◌, ◌^◌, ◌+◌, ◌==◌, Bool, true, false, ◌&&◌, IsTrue, unsigned_abs, List, [], ◌∷◌, ◌++◌, codes, length, Option, Some, None, ⊤}
use Rattle.std.specs.Str.{bytes_eq}
use Rattle.std.specs.Fmt.{decimal, signed_decimal}
use Rattle.sl_commands.specs.declared.control.Control.TheVariants.{Dry, SyncSource, SelectedLoopNum, FadeStep, LongPress, Pulse}
use Rattle.sl_commands.specs.declared.settings.Globals.{Globals}
use Rattle.sl_commands.specs.declared.settings.StripSettings.{StripSettings}
use Rattle.sl_commands.specs.Controls.{control_name, is_in_range}
use Rattle.sl_commands.specs.Settings.{LooperSettings, is_rate, is_loop_count, is_strip}
use Rattle.text_lines.specs.Lines.{line_of}
use Rattle.text_lines.specs.Shapes.{have_shapes}
use Rattle.text_lines.specs.declared.shape.Shape.{Shape}
use Rattle.text_lines.specs.declared.shape.Shape.TheVariants.{Number, Integer}
use Rattle.session_file.specs.declared.line.Setting.{Setting}
use Rattle.session_file.specs.declared.line.Setting.TheVariants.{Rate, Loops, GlobalDry, GlobalSyncSource, GlobalSelectedLoopNum, GlobalFadeStep, GlobalLongPress, GlobalPulse}
use Rattle.session_file.specs.declared.line.Line.{Line}
use Rattle.session_file.specs.declared.line.Line.TheVariants.{Value, Loop}

-- the word that a setting's line begins with
abbrev pub setting_word : Setting → List ℕ
setting_word Rate = codes "rate"
setting_word Loops = codes "loops"
setting_word GlobalDry = control_name Dry
setting_word GlobalSyncSource = control_name SyncSource
setting_word GlobalSelectedLoopNum = control_name SelectedLoopNum
setting_word GlobalFadeStep = control_name FadeStep
setting_word GlobalLongPress = control_name LongPress
setting_word GlobalPulse = control_name Pulse

-- the shape of its number: `-` may stand in `sync_source` alone
abbrev pub setting_shape : Setting → Shape
setting_shape GlobalSyncSource = Integer
setting_shape _ = Number

-- a test of a number, of a whole one
abbrev pub holds_of : (ℕ → Bool) → ℤ → Bool
holds_of test (pos n) = test n
holds_of test (negsuc n) = false

-- a setting's number is in its range, where there are so many loops
abbrev pub is_value : ℕ → Setting → ℤ → Bool
is_value loops Rate z = holds_of is_rate z
is_value loops Loops z = holds_of is_loop_count z
is_value loops GlobalDry z = is_in_range Dry z loops
is_value loops GlobalSyncSource z = is_in_range SyncSource z loops
is_value loops GlobalSelectedLoopNum z = is_in_range SelectedLoopNum z loops
is_value loops GlobalFadeStep z = is_in_range FadeStep z loops
is_value loops GlobalLongPress z = is_in_range LongPress z loops
is_value loops GlobalPulse z = is_in_range Pulse z loops

-- the word that a loop's line begins with
abbrev pub loop_word : List ℕ
loop_word = codes "loop"

-- the words of a loop's settings
abbrev pub strip_words : StripSettings → List (List ℕ)
strip_words s =
    decimal s.length ∷ decimal s.cycle ∷ decimal s.feedback ∷ decimal s.wet
    ∷ decimal s.round ∷ decimal s.quantize ∷ decimal s.rec_thresh ∷ []

-- the words of a loop's line
abbrev pub loop_words : ℕ → StripSettings → List (List ℕ)
loop_words index s = loop_word ∷ decimal index ∷ strip_words s

-- the words of a line
abbrev pub line_words : Line → List (List ℕ)
line_words (Value setting z) = setting_word setting ∷ signed_decimal z ∷ []
line_words (Loop index s) = loop_words index s

-- the spelling of a line
abbrev pub line_text : Line → List ℕ
line_text l = line_of (line_words l)

-- all numbers of a line but a loop's index are in their ranges, where there are so many loops, and
-- each has a spelling
abbrev pub HasValues : ℕ → Line → Type 0
HasValues loops (Value setting z) = (unsigned_abs z < 10 ^ 19) × IsTrue (is_value loops setting z)
HasValues loops (Loop index s) = (index < 10 ^ 19) × IsTrue (is_strip s)

-- the settings that come before the loops, in order
abbrev pub first_settings : List Setting
first_settings = Rate ∷ Loops ∷ GlobalDry ∷ GlobalSyncSource ∷ GlobalSelectedLoopNum
    ∷ GlobalFadeStep ∷ GlobalLongPress ∷ GlobalPulse ∷ []

-- the first of the settings behind so many lines
abbrev pub setting_behind : List Setting → List Line → Option Setting
setting_behind [] lines = None
setting_behind (s ∷ settings) [] = Some s
setting_behind (s ∷ settings) (l ∷ lines) = setting_behind settings lines

-- the setting that is due behind these lines, or None where a loop is
abbrev pub due_behind : List Line → Option Setting
due_behind lines = setting_behind first_settings lines

-- the line is one of what is due
abbrev pub IsDue : Option Setting → Line → Type 0
IsDue (Some due) (Value setting z) = setting ≡ due
IsDue (Some due) (Loop index s) = ⊥
IsDue None (Value setting z) = ⊥
IsDue None (Loop index s) = ⊤

-- a loop's line has the index of its place
abbrev pub is_in_place : ℕ → Line → Bool
is_in_place count (Value setting z) = true
is_in_place count (Loop index s) = 8 + index == count

-- the shapes of a loop's numbers
abbrev pub loop_shapes : List Shape
loop_shapes = Number ∷ Number ∷ Number ∷ Number ∷ Number ∷ Number ∷ Number ∷ Number ∷ []

-- the words begin with this one, and the others have these shapes
abbrev pub begin_with : List ℕ → List Shape → List (List ℕ) → Bool
begin_with due shapes [] = false
begin_with due shapes (word ∷ words) = bytes_eq word due && have_shapes shapes words

-- the words have the form of what is due
abbrev pub is_form : Option Setting → List (List ℕ) → Bool
is_form (Some setting) words = begin_with (setting_word setting) (setting_shape setting ∷ []) words
is_form None words = begin_with loop_word loop_shapes words

-- how many loops a line says
abbrev pub loops_of : Line → ℕ
loops_of (Value Loops (pos n)) = n
loops_of _ = 0

-- how many loops the second line says
abbrev pub loops_said : List Line → ℕ
loops_said (first ∷ second ∷ lines) = loops_of second
loops_said _ = 0

-- the lines of loops, from an index on
abbrev pub loop_lines : ℕ → List StripSettings → List Line
loop_lines index [] = []
loop_lines index (s ∷ strips) = Loop index s ∷ loop_lines (suc index) strips

-- the lines of the looper's own values
abbrev pub global_lines : Globals → List Line
global_lines g =
    Value GlobalDry (pos g.dry)
    ∷ Value GlobalSyncSource g.sync_source
    ∷ Value GlobalSelectedLoopNum (pos g.selected_loop_num)
    ∷ Value GlobalFadeStep (pos g.fade_step)
    ∷ Value GlobalLongPress (pos g.long_press)
    ∷ Value GlobalPulse (pos g.pulse)
    ∷ []

-- the lines of settings
abbrev pub lines_of : LooperSettings → List Line
lines_of s = Value Rate (pos s.rate) ∷ Value Loops (pos (length s.strips))
    ∷ (global_lines s.globals ++ loop_lines 0 s.strips)
