-- Short words for worked runs: what comes in, in 16-bit samples and timed commands, and what is
-- left, in layers and loops. Unless a run says otherwise, all controls have their first values, and
-- there are 4096 chunks.
-- "The run" in docs/rules.md.
use Rattle.std.specs.Prelude.{ℕ, suc, pos, negsuc, List, [], ◌∷◌, map, Option, Some, None}
use Rattle.sl_base.specs.Arithmetic.{widened}
use Rattle.sl_base.specs.Sounds.{Sound, both}
use Rattle.sl_commands.specs.declared.Verb.{Verb}
use Rattle.sl_commands.specs.declared.Mode.{Mode}
use Rattle.sl_commands.specs.declared.How.{How}
use Rattle.sl_commands.specs.declared.Target.TheVariants.{One, All}
use Rattle.sl_commands.specs.declared.Command.{Command}
use Rattle.sl_commands.specs.declared.Command.TheVariants.{Hit, Release}
use Rattle.sl_commands.specs.declared.Control.{Control}
use Rattle.sl_commands.specs.declared.Entry.{Entry}
use Rattle.sl_commands.specs.declared.Reply.{Reply}
use Rattle.sl_commands.specs.declared.What.TheVariants.{Value, Save as OfLoop, Session as OfSession}
use Rattle.sl_commands.specs.Settings.{LooperSettings, default_strip, default_settings}
use Rattle.looper_rules.specs.Layers.{Cell, Layer, contents, old_cells, fresh_cell}
use Rattle.looper_rules.specs.Stack.{Stack, LastWrite}
use Rattle.looper_rules.specs.Loop.{Controls, Loop, new_deck}
use Rattle.looper_rules.specs.Looper.{Track, Looper}
use Rattle.looper_rules.specs.Saves.{Save}
use Rattle.looper_rules.specs.Run.{controls_of, start, run, Ran}

-- mono frames of these 16-bit samples
abbrev pub sample : ℕ → Sound
sample n = both (widened (pos n))

abbrev pub samples : List ℕ → List Sound
samples ns = map sample ns

-- a hit on the loop of an index
abbrev pub hit : ℕ → Verb → Command
hit k verb = Hit (One k) verb

-- an entry
abbrev pub entry : ℕ → ℕ → ℕ → Command → Entry
entry frame sender seq command =
    record { frame = frame; sender = sender; seq = seq; command = command }

-- commands with their frames, stamped: releases from the saver, all others as OSC
abbrev pub stamped_from : ℕ → ℕ → List (ℕ × Command) → List Entry
stamped_from osc saver [] = []
stamped_from osc saver ((frame, Release target outcome) ∷ cs) =
    entry frame 2 saver (Release target outcome) ∷ stamped_from osc (suc saver) cs
stamped_from osc saver ((frame, command) ∷ cs) =
    entry frame 0 osc command ∷ stamped_from (suc osc) saver cs

abbrev pub journal : List (ℕ × Command) → List Entry
journal cs = stamped_from 0 0 cs

-- so many new loops, with so many chunks
abbrev pub new_looper : ℕ → ℕ → Looper
new_looper loops chunks = start (default_settings 48000 loops) chunks []

-- what a run gave and left
abbrev pub gave : List Sound → List Reply → List Save → Looper → Ran
gave output replies saves left =
    record { output = output; replies = replies; saves = saves; looper = left }

-- the reply of a loop's value to an entry that came as OSC: its seq, the loop's index, the control
-- and the value
abbrev pub value_reply : ℕ → ℕ → Control → ℕ → Reply
value_reply seq k control value =
    record {
      sender = 0;
      seq = seq;
      index = pos k;
      what = Value control;
      value = pos value;
    }

-- the reply to the save of a loop: the seq of the save, the loop's index, and how it ended
abbrev pub save_reply : ℕ → ℕ → ℕ → Reply
save_reply seq k outcome =
    record { sender = 0; seq = seq; index = pos k; what = OfLoop; value = pos outcome }

-- the reply to the save of a session: the seq of the save, and how it ended
abbrev pub session_reply : ℕ → ℕ → Reply
session_reply seq outcome =
    record {
      sender = 0;
      seq = seq;
      index = negsuc 1;
      what = OfSession;
      value = pos outcome;
    }

-- the save of a session: its number, its name, the settings and the lists
abbrev pub session_saved : ℕ → List ℕ → LooperSettings → List (List Sound) → Save
session_saved number name settings lists =
    record {
      number = number;
      target = All;
      name = name;
      settings = settings;
      lists = lists;
    }

-- the save of a loop: its number, the loop's index, its name, the settings and the list
abbrev pub saved : ℕ → ℕ → List ℕ → LooperSettings → List Sound → Save
saved number k name settings list =
    record {
      number = number;
      target = One k;
      name = name;
      settings = settings;
      lists = list ∷ [];
    }

-- the run of these commands over an input, from one new loop
abbrev pub one_loop_run : List (ℕ × Command) → List Sound → Ran
one_loop_run cs input = run (journal cs) input (new_looper 1 4096)

-- one new loop as a run has left it
abbrev pub one_loop_left : Track → Looper
one_loop_left t = record (new_looper 1 4096) { tracks = t ∷ [] }

-- a closed layer: its list, cycle, end and seams
abbrev pub layer : List Sound → ℕ → ℕ → ℕ → Layer Sound
layer list cycle end seams =
    record {
      cells = old_cells list;
      base = [];
      base_seams = 0;
      cycle = cycle;
      end = end;
      seams = seams;
    }

-- the layer that was opened at this tape length over one of this list, cycle and seams, and of
-- which these cells are left
abbrev pub open_layer : List (Cell Sound) → Layer Sound → ℕ → ℕ → Layer Sound
open_layer cells below end seams =
    record {
      cells = cells;
      base = contents below.cells;
      base_seams = below.seams;
      cycle = below.cycle;
      end = end;
      seams = seams;
    }

-- these frames, all fresh
abbrev pub fresh_cells : List Sound → List (Cell Sound)
fresh_cells list = map fresh_cell list

-- the layer of a Recording: its frames, its end and its seams
abbrev pub recorded_layer : List Sound → ℕ → ℕ → Layer Sound
recorded_layer list end seams =
    record {
      cells = fresh_cells list;
      base = [];
      base_seams = 0;
      cycle = 0;
      end = end;
      seams = seams;
    }

-- layers, redo layers and tape length, with no pin and no streak
abbrev pub stack : List (Layer Sound) → List (Layer Sound) → ℕ → Stack Sound
stack layers redo tape =
    record { layers = layers; redo = redo; tape = tape; pin = None; streak = None }

-- the last write of a streak
abbrev pub last_write : ℕ → How → Option LastWrite
last_write place how = Some (record { place = place; how = how })

-- the controls that a loop begins with
abbrev pub first_controls : Controls
first_controls = controls_of default_strip

-- a loop in a mode, at a place, with a stack
abbrev pub loop_in : Mode → ℕ → Stack Sound → Loop Sound
loop_in mode place s =
    record {
      deck = record (new_deck mode) { pos = place };
      controls = first_controls;
      refused = 0;
      stack = s;
    }

-- a loop at full gain, which no save pins
abbrev pub track : Loop Sound → Track
track l = record { loop = l; gain = 1000; asker = None }
