-- The settings of a looper are its rate, the values of its own controls, and one strip per loop.
-- A strip's settings are the length of its list, its cycle, and the values of a loop's controls
-- that can be set. The rate is 1 to 768000, there are 1 to 16 loops, and each value lies in its
-- control's range.
-- A length is at most 16777216. The cycle is 1 to the length, or 0 where the length is 0.
-- "Settings" in docs/rules.md.
use Rattle.std.specs.Prelude.{ℕ, zero, suc, pos, Bool, ◌&&◌, ◌==◌, nat_le, List, length, replicate}
use Rattle.std.specs.List.{list_all}
use Rattle.sl_base.specs.Limits.{max_list_frames, max_rate, max_loops}
use Rattle.sl_commands.specs.declared.control.Control.TheVariants.{Feedback, Wet, Round, Quantize, RecThresh, Dry, SyncSource, SelectedLoopNum, FadeStep, LongPress, Pulse}
use Rattle.sl_commands.specs.declared.settings.Globals.{Globals}
use Rattle.sl_commands.specs.declared.settings.StripSettings.{StripSettings}
use Rattle.sl_commands.specs.Controls.{is_in_range, default_of}

-- what contracts see of settings; the number of loops is that of the strips
pub record LooperSettings : Type 0 where
  pub rate : ℕ
  pub globals : Globals
  pub strips : List StripSettings

-- the looper's own values lie in their ranges, for so many loops
abbrev pub are_globals : ℕ → Globals → Bool
are_globals loops g =
    is_in_range Dry (pos g.dry) loops
    && is_in_range SyncSource g.sync_source loops
    && is_in_range SelectedLoopNum (pos g.selected_loop_num) loops
    && is_in_range FadeStep (pos g.fade_step) loops
    && is_in_range LongPress (pos g.long_press) loops
    && is_in_range Pulse (pos g.pulse) loops

-- the cycle fits the length
abbrev pub is_cycle_of : ℕ → ℕ → Bool
is_cycle_of zero cycle = cycle == 0
is_cycle_of (suc n) cycle = nat_le 1 cycle && nat_le cycle (suc n)

-- a strip's values lie in their ranges
abbrev pub is_strip : StripSettings → Bool
is_strip s =
    nat_le s.length max_list_frames
    && is_cycle_of s.length s.cycle
    && is_in_range Feedback (pos s.feedback) 0
    && is_in_range Wet (pos s.wet) 0
    && is_in_range Round (pos s.round) 0
    && is_in_range Quantize (pos s.quantize) 0
    && is_in_range RecThresh (pos s.rec_thresh) 0

-- each strip's values do
abbrev pub are_strips : List StripSettings → Bool
are_strips ss = list_all is_strip ss

-- the rate is one of audio files and sessions
abbrev pub is_rate : ℕ → Bool
is_rate rate = nat_le 1 rate && nat_le rate max_rate

-- so many loops there may be
abbrev pub is_loop_count : ℕ → Bool
is_loop_count loops = nat_le 1 loops && nat_le loops max_loops

-- all values lie in their ranges
abbrev pub are_settings : LooperSettings → Bool
are_settings s = is_rate s.rate && is_loop_count (length s.strips)
    && are_globals (length s.strips) s.globals && are_strips s.strips

-- the looper's controls as they begin
abbrev pub default_globals : Globals
default_globals =
    record {
      dry = default_of Dry;
      sync_source = pos (default_of SyncSource);
      selected_loop_num = default_of SelectedLoopNum;
      fade_step = default_of FadeStep;
      long_press = default_of LongPress;
      pulse = default_of Pulse;
    }

-- an empty loop, its controls as they begin
abbrev pub default_strip : StripSettings
default_strip =
    record {
      length = 0;
      cycle = 0;
      feedback = default_of Feedback;
      wet = default_of Wet;
      round = default_of Round;
      quantize = default_of Quantize;
      rec_thresh = default_of RecThresh;
    }

-- so many empty loops at a rate, all controls as they begin
abbrev pub default_settings : ℕ → ℕ → LooperSettings
default_settings rate loops =
    record { rate = rate; globals = default_globals; strips = replicate loops default_strip }
