-- Controls stay in their ranges where a valid entry sets one.
use Rattle.std.proofs.Common.{◌≡◌, ℕ, Bool, true, nat_le}
use Rattle.std.specs.Prelude.{◌&&◌, ℤ, pos, negsuc, unsigned_abs}
use Rattle.std.proofs.lemmas.Bool.{and_parts, and_from}
use Rattle.sl_commands.specs.declared.Control.{Control}
use Rattle.sl_commands.specs.declared.Control.TheVariants.{Feedback, Wet, Round, Quantize, RecThresh, Dry, SyncSource, SelectedLoopNum, FadeStep, LongPress, Pulse}
use Rattle.sl_commands.specs.declared.Globals.{Globals}
use Rattle.sl_commands.specs.Controls.{is_in_range}
use Rattle.sl_commands.specs.Settings.{are_globals}
use Rattle.looper_rules.specs.Loop.{Controls}
use Rattle.looper_rules.specs.Values.{AreControls, with_control, with_global}

-- a control of a loop that is set to a value in its range
pub set_keeps :
    (control : Control) (value : ℤ) (loops : ℕ) (c : Controls) →
    is_in_range control value loops ≡ true → AreControls c →
    AreControls (with_control control (unsigned_abs value) c)
set_keeps Feedback (pos n) loops c e h =
    record {
      feedback = e;
      wet = h.wet;
      round = h.round;
      quantize = h.quantize;
      rec_thresh =
          h.rec_thresh;
    }
set_keeps Wet (pos n) loops c e h =
    record {
      feedback = h.feedback;
      wet = e;
      round = h.round;
      quantize = h.quantize;
      rec_thresh =
          h.rec_thresh;
    }
set_keeps Round (pos n) loops c e h =
    record {
      feedback = h.feedback;
      wet = h.wet;
      round = e;
      quantize = h.quantize;
      rec_thresh =
          h.rec_thresh;
    }
set_keeps Quantize (pos n) loops c e h =
    record {
      feedback = h.feedback;
      wet = h.wet;
      round = h.round;
      quantize = e;
      rec_thresh =
          h.rec_thresh;
    }
set_keeps RecThresh (pos n) loops c e h =
    record {
      feedback = h.feedback;
      wet = h.wet;
      round = h.round;
      quantize =
          h.quantize;
      rec_thresh = e;
    }
set_keeps Feedback (negsuc n) loops c e h = absurd (let none : ⊥ = Prim.cc in none)
set_keeps Wet (negsuc n) loops c e h = absurd (let none : ⊥ = Prim.cc in none)
set_keeps Round (negsuc n) loops c e h = absurd (let none : ⊥ = Prim.cc in none)
set_keeps Quantize (negsuc n) loops c e h = absurd (let none : ⊥ = Prim.cc in none)
set_keeps RecThresh (negsuc n) loops c e h = absurd (let none : ⊥ = Prim.cc in none)
set_keeps _ value loops c e h = h

-- the looper's controls in their ranges, one by one
record InRanges (loops : ℕ) (g : Globals) : Type 0 where
  dry : is_in_range Dry (pos g.dry) loops ≡ true
  sync_source : is_in_range SyncSource g.sync_source loops ≡ true
  selected_loop_num : is_in_range SelectedLoopNum (pos g.selected_loop_num) loops ≡ true
  fade_step : is_in_range FadeStep (pos g.fade_step) loops ≡ true
  long_press : is_in_range LongPress (pos g.long_press) loops ≡ true
  pulse : is_in_range Pulse (pos g.pulse) loops ≡ true

-- six tests at once
all_six : (a b c d e f : Bool) → (a && b && c && d && e && f) ≡ true → (a ≡ true) × (b ≡ true)
    × (c ≡ true) × (d ≡ true) × (e ≡ true) × (f ≡ true)
all_six a b c d e f h =
    let five = and_parts (a && b && c && d && e) f h
    in let four = and_parts (a && b && c && d) e five.0
    in let three = and_parts (a && b && c) d four.0
    in let two = and_parts (a && b) c three.0
    in let one = and_parts a b two.0
    in (one.0, one.1, two.1, three.1, four.1, five.1)

six_in_ranges : (loops : ℕ) (g : Globals) → are_globals loops g ≡ true → InRanges loops g
six_in_ranges loops g h =
    let six = all_six (is_in_range Dry (pos g.dry) loops)
    (is_in_range SyncSource g.sync_source loops)
    (is_in_range SelectedLoopNum (pos g.selected_loop_num) loops)
    (is_in_range FadeStep (pos g.fade_step) loops)
    (is_in_range LongPress (pos g.long_press) loops) (is_in_range Pulse (pos g.pulse) loops) h
    in record {
      dry = six.0;
      sync_source = six.1;
      selected_loop_num = six.2;
      fade_step =
          six.3;
      long_press = six.4;
      pulse = six.5;
    }

all_globals : (loops : ℕ) (g : Globals) → InRanges loops g → are_globals loops g ≡ true
all_globals loops g h =
    and_from _ _ (and_from _ _
    (and_from _ _ (and_from _ _ (and_from _ _ h.dry h.sync_source) h.selected_loop_num)
    h.fade_step) h.long_press) h.pulse

-- dry is at most 1000
pub dry_range : (loops : ℕ) (g : Globals) → are_globals loops g ≡ true →
    (nat_le 0 g.dry && nat_le g.dry 1000) ≡ true
dry_range loops g h = (six_in_ranges loops g h).dry

-- the selected loop is one of the loops
pub selected_range : (loops : ℕ) (g : Globals) → are_globals loops g ≡ true →
    is_in_range SelectedLoopNum (pos g.selected_loop_num) loops ≡ true
selected_range loops g h = (six_in_ranges loops g h).selected_loop_num

-- a control of the looper that is set to a value in its range
global_in_ranges :
    (control : Control) (value : ℤ) (loops : ℕ) (g : Globals) →
    is_in_range control value loops ≡ true → InRanges loops g →
    InRanges loops (with_global control value g)
global_in_ranges SyncSource value loops g e h =
    record {
      dry = h.dry;
      sync_source = e;
      selected_loop_num = h.selected_loop_num;
      fade_step =
          h.fade_step;
      long_press = h.long_press;
      pulse = h.pulse;
    }
global_in_ranges Dry (pos n) loops g e h =
    record {
      dry = e;
      sync_source = h.sync_source;
      selected_loop_num = h.selected_loop_num;
      fade_step = h.fade_step;
      long_press = h.long_press;
      pulse = h.pulse;
    }
global_in_ranges SelectedLoopNum (pos n) loops g e h =
    record {
      dry = h.dry;
      sync_source = h.sync_source;
      selected_loop_num = e;
      fade_step =
          h.fade_step;
      long_press = h.long_press;
      pulse = h.pulse;
    }
global_in_ranges FadeStep (pos n) loops g e h =
    record {
      dry = h.dry;
      sync_source = h.sync_source;
      selected_loop_num = h.selected_loop_num;
      fade_step = e;
      long_press = h.long_press;
      pulse = h.pulse;
    }
global_in_ranges LongPress (pos n) loops g e h =
    record {
      dry = h.dry;
      sync_source = h.sync_source;
      selected_loop_num = h.selected_loop_num;
      fade_step = h.fade_step;
      long_press = e;
      pulse = h.pulse;
    }
global_in_ranges Pulse (pos n) loops g e h =
    record {
      dry = h.dry;
      sync_source = h.sync_source;
      selected_loop_num = h.selected_loop_num;
      fade_step = h.fade_step;
      long_press = h.long_press;
      pulse = e;
    }
global_in_ranges Dry (negsuc n) loops g e h = absurd (let none : ⊥ = Prim.cc in none)
global_in_ranges SelectedLoopNum (negsuc n) loops g e h = absurd (let none : ⊥ = Prim.cc in none)
global_in_ranges FadeStep (negsuc n) loops g e h = absurd (let none : ⊥ = Prim.cc in none)
global_in_ranges LongPress (negsuc n) loops g e h = absurd (let none : ⊥ = Prim.cc in none)
global_in_ranges Pulse (negsuc n) loops g e h = absurd (let none : ⊥ = Prim.cc in none)
global_in_ranges _ value loops g e h = h

pub set_global_keeps :
    (control : Control) (value : ℤ) (loops : ℕ) (g : Globals) →
    is_in_range control value loops ≡ true →
    are_globals loops g ≡ true → are_globals loops (with_global control value g) ≡ true
set_global_keeps control value loops g e h =
    all_globals loops (with_global control value g)
    (global_in_ranges control value loops g e (six_in_ranges loops g h))
