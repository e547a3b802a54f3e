-- What is read of a loop comes from its controls, its face and the free chunks, and what is read of
-- the looper from its own controls. A value above 2147483647 is told as that number.
-- loop_len is the length of the current list, loop_pos pos, cycle_len the cycle, layers and
-- redo_layers how many there are, refused the loop's count, waiting 1 where a verb waits, reversed
-- 1 where backward, free_time the frames of the free chunks.
-- state is 1 in WaitStart, and in Off where `record` waits; 3 in Recording where a verb waits, and
-- in Multiplying and Inserting while rounding; else the number of the mode.
-- A set of a control puts its value in place of the one before.
-- "Values" in docs/rules.md.
use Rattle.std.specs.Prelude.{ℕ, min, ℤ, pos, negsuc, unsigned_abs, Bool, true, false, IsTrue, Option, Some, is_some, if◌then◌else◌}
use Rattle.sl_commands.specs.declared.Verb.{Verb}
use Rattle.sl_commands.specs.declared.Verb.TheVariants.{Rec}
use Rattle.sl_commands.specs.declared.Mode.{Mode}
use Rattle.sl_commands.specs.declared.Mode.TheVariants.{Off, WaitStart, Recording, Playing, Overdubbing, Multiplying, Inserting, Replacing, Muted, OneShot, Substituting, Paused}
use Rattle.sl_commands.specs.declared.Control.{Control}
use Rattle.sl_commands.specs.declared.Control.TheVariants.{Feedback, Wet, Round, Quantize, RecThresh, State, LoopLen, LoopPos, CycleLen, Waiting, Layers, RedoLayers, Refused, Reversed, FreeTime, Dry, SyncSource, SelectedLoopNum, FadeStep, LongPress, Pulse}
use Rattle.sl_commands.specs.declared.Face.{Face}
use Rattle.sl_commands.specs.declared.Globals.{Globals}
use Rattle.sl_commands.specs.Controls.{is_in_range}
use Rattle.sl_base.specs.Limits.{max_value}
use Rattle.looper_rules.specs.Room.{free_time}
use Rattle.looper_rules.specs.Loop.{Controls}

-- the number of a mode
abbrev pub mode_number : Mode → ℕ
mode_number Off = 0
mode_number WaitStart = 1
mode_number Recording = 2
mode_number Playing = 4
mode_number Overdubbing = 5
mode_number Multiplying = 6
mode_number Inserting = 7
mode_number Replacing = 8
mode_number Muted = 10
mode_number OneShot = 12
mode_number Substituting = 13
mode_number Paused = 14

-- 1 for true
abbrev pub flag : Bool → ℕ
flag true = 1
flag false = 0

-- whether this is the verb `record`
abbrev pub is_record : Option Verb → Bool
is_record (Some Rec) = true
is_record _ = false

-- the state in this mode, by the verb that waits and rounding
abbrev pub state_in : Mode → Option Verb → Bool → ℕ
state_in Off waiting rounding = flag (is_record waiting)
state_in Recording waiting rounding = if is_some waiting then 3 else 2
state_in Multiplying waiting rounding = if rounding then 3 else 6
state_in Inserting waiting rounding = if rounding then 3 else 7
state_in mode waiting rounding = mode_number mode

-- the number of a loop's state
abbrev pub state_number : Face → ℕ
state_number face = state_in face.mode face.waiting face.rounding

-- the value of a loop's control, where so many chunks are free
abbrev pub loop_value : Control → ℕ → Controls → Face → ℕ
loop_value Feedback free controls face = controls.feedback
loop_value Wet free controls face = controls.wet
loop_value Round free controls face = controls.round
loop_value Quantize free controls face = controls.quantize
loop_value RecThresh free controls face = controls.rec_thresh
loop_value State free controls face = state_number face
loop_value LoopLen free controls face = face.length
loop_value LoopPos free controls face = face.pos
loop_value CycleLen free controls face = face.cycle
loop_value Waiting free controls face = flag (is_some face.waiting)
loop_value Layers free controls face = face.layers
loop_value RedoLayers free controls face = face.redo
loop_value Refused free controls face = face.refused
loop_value Reversed free controls face = flag face.backward
loop_value FreeTime free controls face = free_time free
loop_value _ free controls face = 0

-- the value of one of the looper's controls
abbrev pub global_value : Control → Globals → ℤ
global_value Dry g = pos g.dry
global_value SyncSource g = g.sync_source
global_value SelectedLoopNum g = pos g.selected_loop_num
global_value FadeStep g = pos g.fade_step
global_value LongPress g = pos g.long_press
global_value Pulse g = pos g.pulse
global_value _ g = pos 0

-- a value as a reply tells it
abbrev pub reply_value : ℤ → ℤ
reply_value (pos n) = pos (min n max_value)
reply_value (negsuc n) = negsuc n

-- a loop's controls with one set
abbrev pub with_control : Control → ℕ → Controls → Controls
with_control Feedback value c = record c { feedback = value }
with_control Wet value c = record c { wet = value }
with_control Round value c = record c { round = value }
with_control Quantize value c = record c { quantize = value }
with_control RecThresh value c = record c { rec_thresh = value }
with_control _ value c = c

-- a loop's controls lie in their ranges
pub record AreControls (c : Controls) : Type 0 where
  pub feedback : IsTrue (is_in_range Feedback (pos c.feedback) 0)
  pub wet : IsTrue (is_in_range Wet (pos c.wet) 0)
  pub round : IsTrue (is_in_range Round (pos c.round) 0)
  pub quantize : IsTrue (is_in_range Quantize (pos c.quantize) 0)
  pub rec_thresh : IsTrue (is_in_range RecThresh (pos c.rec_thresh) 0)

-- the looper's controls with one set
abbrev pub with_global : Control → ℤ → Globals → Globals
with_global Dry value g = record g { dry = unsigned_abs value }
with_global SyncSource value g = record g { sync_source = value }
with_global SelectedLoopNum value g = record g { selected_loop_num = unsigned_abs value }
with_global FadeStep value g = record g { fade_step = unsigned_abs value }
with_global LongPress value g = record g { long_press = unsigned_abs value }
with_global Pulse value g = record g { pulse = unsigned_abs value }
with_global _ value g = g
