-- A control is a number that is set or read. The first fifteen are of each loop, the others of the
-- looper. Each has a name, and those that can be set have a range and a value to begin with.
-- Lengths, positions and times are frames, feedback, wet and dry thousandths, rec_thresh is an
-- absolute sample. quantize is 0 off, 1 cycle, 2 eighth of a cycle, 3 loop. round is 0 or 1.
-- sync_source is -3 for the pulse, 0 for none, or a loop's number counted from 1. selected_loop_num
-- counts from 0.
-- "Controls" in docs/rules.md.
use Rattle.std.specs.Str.{bytes_eq}
use Rattle.std.specs.Prelude.{ℕ, ℤ, pos, negsuc, Bool, true, false, ◌&&◌, ◌==◌, nat_le, nat_lt, List, [], ◌∷◌, codes}
use Rattle.sl_base.specs.Limits.{max_list_frames}
use Rattle.sl_commands.specs.declared.control.Control.{Control}
use Rattle.sl_commands.specs.declared.control.Control.TheVariants.{Feedback, Wet, Round, Quantize, RecThresh, State, LoopLen, LoopPos, CycleLen, Waiting, Layers, RedoLayers, Refused, Reversed, FreeTime, Dry, SyncSource, SelectedLoopNum, FadeStep, LongPress, Pulse}
use Rattle.sl_commands.specs.declared.control.Range.{Range}
use Rattle.sl_commands.specs.declared.control.Range.TheVariants.{ReadOnly, Between, Source, LoopIndex}

-- a control's line in the table
pub record ControlRow : Type 0 where
  pub name : List ℕ
  pub of_loop : Bool
  pub range : Range

-- a line on a control of each loop
abbrev pub loop_line : List ℕ → Range → ControlRow
loop_line name range = record { name = name; of_loop = true; range = range }

-- a line on a control of the looper
abbrev pub looper_line : List ℕ → Range → ControlRow
looper_line name range = record { name = name; of_loop = false; range = range }

-- the table of controls; `Between` has the least value, the greatest and the first
abbrev pub control_row : Control → ControlRow
control_row Feedback = loop_line (codes "feedback") (Between 0 1000 1000)
control_row Wet = loop_line (codes "wet") (Between 0 1000 1000)
control_row Round = loop_line (codes "round") (Between 0 1 0)
control_row Quantize = loop_line (codes "quantize") (Between 0 3 0)
control_row RecThresh = loop_line (codes "rec_thresh") (Between 0 8388607 0)
control_row State = loop_line (codes "state") ReadOnly
control_row LoopLen = loop_line (codes "loop_len") ReadOnly
control_row LoopPos = loop_line (codes "loop_pos") ReadOnly
control_row CycleLen = loop_line (codes "cycle_len") ReadOnly
control_row Waiting = loop_line (codes "waiting") ReadOnly
control_row Layers = loop_line (codes "layers") ReadOnly
control_row RedoLayers = loop_line (codes "redo_layers") ReadOnly
control_row Refused = loop_line (codes "refused") ReadOnly
control_row Reversed = loop_line (codes "reversed") ReadOnly
control_row FreeTime = loop_line (codes "free_time") ReadOnly
control_row Dry = looper_line (codes "dry") (Between 0 1000 0)
control_row SyncSource = looper_line (codes "sync_source") Source
control_row SelectedLoopNum = looper_line (codes "selected_loop_num") LoopIndex
control_row FadeStep = looper_line (codes "fade_step") (Between 1 1000 20)
control_row LongPress = looper_line (codes "long_press") (Between 0 max_list_frames 24000)
control_row Pulse = looper_line (codes "pulse") (Between 1 max_list_frames 24000)

-- the name of a control, in messages and texts
abbrev pub control_name : Control → List ℕ
control_name c = (control_row c).name

-- the control is one of each loop
abbrev pub is_of_loop : Control → Bool
is_of_loop c = (control_row c).of_loop

-- the bytes are the name of a control
abbrev pub has_control_name : List ℕ → Control → Bool
has_control_name bytes c = bytes_eq (control_name c) bytes

-- a value is in a range, for so many loops
abbrev pub is_within : Range → ℕ → ℤ → Bool
is_within ReadOnly loops z = false
is_within (Between least greatest first) loops (pos n) = nat_le least n && nat_le n greatest
is_within (Between least greatest first) loops (negsuc n) = false
is_within Source loops (pos n) = nat_le n loops
is_within Source loops (negsuc n) = n == 2
is_within LoopIndex loops (pos n) = nat_lt n loops
is_within LoopIndex loops (negsuc n) = false

-- the control can be set to this value, for so many loops
abbrev pub is_in_range : Control → ℤ → ℕ → Bool
is_in_range c z loops = is_within (control_row c).range loops z

-- something can be set
abbrev pub is_settable : Range → Bool
is_settable ReadOnly = false
is_settable _ = true

-- the control can be set
abbrev pub can_be_set : Control → Bool
can_be_set c = is_settable (control_row c).range

-- the first value of a range: 0 where none is named
abbrev pub first_of : Range → ℕ
first_of (Between least greatest first) = first
first_of _ = 0

-- the value that a control begins with
abbrev pub default_of : Control → ℕ
default_of c = first_of (control_row c).range

-- all controls, in the order of the table
abbrev pub controls : List Control
controls = Feedback ∷ Wet ∷ Round ∷ Quantize ∷ RecThresh ∷ State ∷ LoopLen ∷ LoopPos ∷ CycleLen
    ∷ Waiting ∷ Layers ∷ RedoLayers ∷ Refused ∷ Reversed ∷ FreeTime ∷ Dry ∷ SyncSource
    ∷ SelectedLoopNum ∷ FadeStep ∷ LongPress ∷ Pulse ∷ []
