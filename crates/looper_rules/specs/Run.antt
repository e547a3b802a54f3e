-- A run begins with settings, a number of chunks, and the list of each loop. A loop with a list has
-- one layer of it, with 2 seams; its tape length and the layer's end are the length, its mode is
-- Paused and pos 0. A loop without is Off. Gains begin at wet and dry. All else is as in a new
-- loop.
-- Before each frame the entries that are due apply: those at the head of the list whose frame isn't
-- later. Entries behind the last frame apply after it, in order, as at the frame behind the last.
-- A run gives the output, the replies in the order in which they come, the saves, and the last
-- looper.
-- "The run" in docs/rules.md.
use Rattle.std.specs.Prelude.{ℕ, ◌+◌, List, [], ◌∷◌, ◌++◌, length, Option, None, nat_le, option_to_list, if◌then◌else◌}
use Rattle.sl_base.specs.Sounds.{Sound}
use Rattle.sl_commands.specs.declared.Mode.TheVariants.{Off, Paused}
use Rattle.sl_commands.specs.declared.Entry.{Entry}
use Rattle.sl_commands.specs.declared.Reply.{Reply}
use Rattle.sl_commands.specs.declared.StripSettings.{StripSettings}
use Rattle.sl_commands.specs.Settings.{LooperSettings}
use Rattle.looper_rules.specs.Layers.{Layer, old_cells}
use Rattle.looper_rules.specs.Stack.{Stack, empty_stack}
use Rattle.looper_rules.specs.Loop.{Controls, Loop, new_deck}
use Rattle.looper_rules.specs.Looper.{Track, Looper}
use Rattle.looper_rules.specs.Saves.{Save}
use Rattle.looper_rules.specs.Entries.{applied, reply, save}
use Rattle.looper_rules.specs.Frame.{framed}

-- the controls that a loop begins with
abbrev pub controls_of : StripSettings → Controls
controls_of s =
    record {
      feedback = s.feedback;
      wet = s.wet;
      round = s.round;
      quantize = s.quantize;
      rec_thresh = s.rec_thresh;
    }

-- a closed layer of this list and cycle, whose tape ends here
abbrev pub loaded_layer : {A : Type 0} → List A → ℕ → ℕ → Layer A
loaded_layer list cycle end =
    record {
      cells = old_cells list;
      base = [];
      base_seams = 0;
      cycle = cycle;
      end = end;
      seams = 2;
    }

-- a stack of this list
abbrev pub loaded_stack : {A : Type 0} → List A → ℕ → Stack A
loaded_stack list cycle =
    record {
      layers = loaded_layer list cycle (length list) ∷ [];
      redo = [];
      tape = length list;
      pin = None;
      streak = None;
    }

-- a stack with a layer of this list more, whose frames stand on the tape behind what it has
abbrev pub loaded : {A : Type 0} → List A → ℕ → Stack A → Stack A
loaded list cycle s =
    let tape = s.tape + length list
    in record s {
      layers = loaded_layer list cycle tape ∷ s.layers;
      tape = tape;
      streak = None;
    }

-- a loop that begins with this list
abbrev pub first_loop : {A : Type 0} → List A → StripSettings → Loop A
first_loop [] s = record {
  deck = new_deck Off;
  controls = controls_of s;
  refused = 0;
  stack =
      empty_stack;
}
first_loop (x ∷ xs) s =
    record {
      deck = new_deck Paused;
      controls = controls_of s;
      refused = 0;
      stack = loaded_stack (x ∷ xs) s.cycle;
    }

-- a track that begins with this list
abbrev pub first_track : List Sound → StripSettings → Track
first_track list s = record { loop = first_loop list s; gain = s.wet; asker = None }

-- the tracks that begin with these lists, with no list where they end
abbrev pub first_tracks : List StripSettings → List (List Sound) → List Track
first_tracks [] lists = []
first_tracks (s ∷ ss) [] = first_track [] s ∷ first_tracks ss []
first_tracks (s ∷ ss) (list ∷ lists) = first_track list s ∷ first_tracks ss lists

-- the looper that a run begins with
abbrev pub start : LooperSettings → ℕ → List (List Sound) → Looper
start settings chunks initial =
    record {
      rate = settings.rate;
      chunks = chunks;
      globals = settings.globals;
      dry = settings.globals.dry;
      tracks = first_tracks settings.strips initial;
      saves = 0;
    }

-- the looper after some entries, with their replies and saves
pub record Entered : Type 0 where
  pub replies : List Reply
  pub saves : List Save
  pub looper : Looper

-- what one entry gives, before what others gave
abbrev pub entered_before : Option Reply → Option Save → Entered → Entered
entered_before answer made rest =
    record {
      replies = option_to_list answer ++ rest.replies;
      saves = option_to_list made ++ rest.saves;
      looper = rest.looper;
    }

-- these entries applied at a frame
abbrev pub entered : ℕ → List Entry → Looper → Entered
entered frame [] l = record { replies = []; saves = []; looper = l }
entered frame (e ∷ es) l =
    entered_before (reply e l) (save e l) (entered frame es (applied frame e l))

-- the entries that are due at a frame
abbrev pub due : ℕ → List Entry → List Entry
due frame [] = []
due frame (e ∷ es) = if nat_le e.frame frame then e ∷ due frame es else []

-- the entries behind them
abbrev pub later : ℕ → List Entry → List Entry
later frame [] = []
later frame (e ∷ es) = if nat_le e.frame frame then later frame es else e ∷ es

-- what some frames gave and left: the entries that are left, and the looper
pub record RunSoFar : Type 0 where
  pub output : List Sound
  pub replies : List Reply
  pub saves : List Save
  pub left : List Entry
  pub looper : Looper

-- what the entries and the output of one frame gave, before what the frames behind it gave
abbrev pub begun_before : Entered → Sound → RunSoFar → RunSoFar
begun_before before sound rest =
    record rest {
      output = sound ∷ rest.output;
      replies = before.replies ++ rest.replies;
      saves = before.saves ++ rest.saves;
    }

-- these frames, of which the first has this number
abbrev pub begun : ℕ → List Entry → List Sound → Looper → RunSoFar
begun frame es [] l = record { output = []; replies = []; saves = []; left = es; looper = l }
begun frame es (x ∷ xs) l =
    let before = entered frame (due frame es) l
    in let now = framed frame x before.looper
    in begun_before before now.output (begun (frame + 1) (later frame es) xs now.looper)

-- a whole run
pub record Ran : Type 0 where
  pub output : List Sound
  pub replies : List Reply
  pub saves : List Save
  pub looper : Looper

-- what the frames gave, and behind it what the entries that were left gave
abbrev pub ended_with : RunSoFar → Entered → Ran
ended_with b last =
    record {
      output = b.output;
      replies = b.replies ++ last.replies;
      saves = b.saves ++ last.saves;
      looper = last.looper;
    }

-- the run of frames that end before this one
abbrev pub ended : ℕ → RunSoFar → Ran
ended frame b = ended_with b (entered frame b.left b.looper)

-- the run of entries over an input, from a looper
abbrev pub run : List Entry → List Sound → Looper → Ran
run es input l = ended (length input) (begun 0 es input l)
