-- While a session is read, the lines so far were read off the front of the bytes, and the rest is
-- left.
-- "Sessions" in docs/formats.md.
use Rattle.std.specs.Prelude.{ℕ, ◌≤◌, List, ⊤}
use Rattle.sl_base.specs.Limits.{max_list_frames, max_rate, max_loops}
use Rattle.sl_commands.specs.declared.fault.ReadText.{ReadText}
use Rattle.sl_commands.specs.declared.fault.ReadText.TheVariants.{Fault, Memory}
use Rattle.sl_commands.specs.Settings.{LooperSettings}
use Rattle.sl_commands.specs.declared.fault.TextFault.{TextFault}
use Rattle.sl_commands.specs.declared.settings.StripSettings.{StripSettings}
use Rattle.text_lines.specs.FirstFaults.{FirstFault, IsReadUpTo}
use Rattle.session_file.specs.declared.line.Setting.{Setting}
use Rattle.session_file.specs.declared.line.Setting.TheVariants.{Rate, Loops, GlobalDry, GlobalSyncSource, GlobalSelectedLoopNum, GlobalFadeStep, GlobalLongPress, GlobalPulse}
use Rattle.session_file.specs.declared.line.Line.{Line}
use Rattle.session_file.specs.declared.reading.Reading.TheInside.{Inside}
use Rattle.session_file.specs.Sessions.{session_form}

-- what is known of a reading: the bytes, the lines so far, and what is left
pub record Front : Type 0 where
  pub bytes : List ℕ
  pub lines : List Line
  pub rest : List ℕ

abbrev pub front_of : Inside → Front
front_of r = record { bytes = r.bytes.now; lines = r.lines.items; rest = r.rest.now }

-- the lines are those of the front
abbrev pub IsFront : Inside → Type 0
IsFront r = IsReadUpTo session_form r.bytes.now r.lines.items r.rest.now

-- the fault is the first of the bytes
abbrev pub IsFirst : List ℕ → TextFault → Type 0
IsFirst bytes fault = FirstFault session_form bytes fault.line fault.kind

-- a loop's numbers are in the ranges that stand alone
pub record StripFits (s : StripSettings) : Type 0 where
  pub length : s.length ≤ max_list_frames
  pub cycle : s.cycle ≤ max_list_frames
  pub feedback : s.feedback ≤ 1000
  pub wet : s.wet ≤ 1000
  pub round : s.round ≤ 1
  pub quantize : s.quantize ≤ 3
  pub rec_thresh : s.rec_thresh ≤ 8388607

-- the greatest number that a setting may have, where there are so many loops; of `sync_source` it
-- isn't asked
abbrev pub most_value : ℕ → Setting → ℕ
most_value loops Rate = max_rate
most_value loops Loops = max_loops
most_value loops GlobalDry = 1000
most_value loops GlobalSyncSource = loops
most_value loops GlobalSelectedLoopNum = loops
most_value loops GlobalFadeStep = 1000
most_value loops GlobalLongPress = max_list_frames
most_value loops GlobalPulse = max_list_frames

-- where there is a fault, the bytes are the text of no settings
abbrev pub DeniesAll : (LooperSettings → Type 0) → ReadText → Type 0
DeniesAll Is (Fault fault) = (s : LooperSettings) → ¬ Is s
DeniesAll Is Memory = ⊤
