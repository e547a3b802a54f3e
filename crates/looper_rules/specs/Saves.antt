-- A save of a loop is answered 2 where a pin stands on it, and else 3 where its list is empty.
-- Otherwise the list is saved, and the loop is pinned: the pin holds the list and the tape length,
-- all fresh marks are cleared, and no streak goes on. The answer comes with the release.
-- A save of a session is answered 2 where a pin stands on any loop. Otherwise all loops are pinned,
-- empty ones too, and all lists are saved. Each save has a number, counted from 0, its target, its
-- name, the settings and the lists at that moment. In the settings a loop in Recording has its
-- length as its cycle.
-- A release of loop i takes the pin of a loop's save away and answers that save with its outcome. A
-- release of all loops does so with the pins of a session's save. In other cases nothing happens.
-- "Saves" in docs/rules.md.
use Rattle.std.specs.Prelude.{ℕ, Bool, false, ◌||◌, List, [], ◌∷◌, map, Option, Some, None, is_some, ◌==◌, if◌then◌else◌}
use Rattle.sl_base.specs.Sounds.{Sound}
use Rattle.sl_commands.specs.declared.Mode.{Mode}
use Rattle.sl_commands.specs.declared.Mode.TheVariants.{Recording}
use Rattle.sl_commands.specs.declared.Target.{Target}
use Rattle.sl_commands.specs.declared.StripSettings.{StripSettings}
use Rattle.sl_commands.specs.Settings.{LooperSettings}
use Rattle.looper_rules.specs.Layers.{Layer, unmarked, with_current, current_list}
use Rattle.looper_rules.specs.Stack.{Stack}
use Rattle.looper_rules.specs.Loop.{Loop, length_of, cycle_of, with_stack}
use Rattle.looper_rules.specs.Looper.{Asker, Track, Looper}

-- a save that was made
pub record Save : Type 0 where
  pub number : ℕ
  pub target : Target
  pub name : List ℕ
  pub settings : LooperSettings
  pub lists : List (List Sound)

-- the layer without fresh marks
abbrev pub unmarked_layer : {A : Type 0} → Layer A → Layer A
unmarked_layer l = record l { cells = unmarked l.cells }

-- the stack pinned
abbrev pub pinned : {A : Type 0} → Stack A → Stack A
pinned s =
    record s {
      layers = with_current unmarked_layer s.layers;
      pin = Some (record { tape = s.tape; list = current_list s.layers });
      streak = None;
    }

-- the stack without its pin
abbrev pub unpinned : {A : Type 0} → Stack A → Stack A
unpinned s = record s { pin = None }

-- whether a pin stands on a loop
abbrev pub is_pinned : {A : Type 0} → Loop A → Bool
is_pinned l = is_some l.stack.pin

-- the list of a track
abbrev pub list_on : Track → List Sound
list_on t = current_list t.loop.stack.layers

-- the track pinned for this asker
abbrev pub pinned_for : Asker → Track → Track
pinned_for asker t = record t { loop = with_stack (pinned t.loop.stack) t.loop; asker = Some asker }

-- the track without its pin
abbrev pub freed : Track → Track
freed t = record t { loop = with_stack (unpinned t.loop.stack) t.loop; asker = None }

-- the cycle that a save tells of a loop in this mode
abbrev pub saved_cycle : Mode → ℕ → ℕ → ℕ
saved_cycle Recording len cycle = len
saved_cycle _ len cycle = cycle

-- the settings of a loop
abbrev pub strip_of : {A : Type 0} → Loop A → StripSettings
strip_of l =
    record {
      length = length_of l;
      cycle = saved_cycle l.deck.mode (length_of l) (cycle_of l);
      feedback = l.controls.feedback;
      wet = l.controls.wet;
      round = l.controls.round;
      quantize = l.controls.quantize;
      rec_thresh = l.controls.rec_thresh;
    }

-- the settings of a track's loop
abbrev pub strip_on : Track → StripSettings
strip_on t = strip_of t.loop

-- the settings of a looper
abbrev pub settings_of : Looper → LooperSettings
settings_of l = record { rate = l.rate; globals = l.globals; strips = map strip_on l.tracks }

-- the answer that a save of this loop gets at once, where it isn't made
abbrev pub loop_refusal : Bool → Bool → Option ℕ
loop_refusal pin empty = if pin then Some 2 else if empty then Some 3 else None

abbrev pub save_refusal : Track → Option ℕ
save_refusal t = loop_refusal (is_pinned t.loop) (length_of t.loop == 0)

-- whether a pin stands on one of these tracks
abbrev pub any_pinned : List Track → Bool
any_pinned [] = false
any_pinned (t ∷ ts) = is_pinned t.loop || any_pinned ts

-- the answer that a save of the session gets at once, where it isn't made
abbrev pub session_refusal : List Track → Option ℕ
session_refusal ts = if any_pinned ts then Some 2 else None

-- the asker of a loop's save, where it is one
abbrev pub loop_asker : Option Asker → Option Asker
loop_asker None = None
loop_asker (Some asker) = if asker.of_session then None else Some asker

-- the asker of a session's save, where it is one
abbrev pub session_asker : Option Asker → Option Asker
session_asker None = None
session_asker (Some asker) = if asker.of_session then Some asker else None

-- the asker, or another where there is none
abbrev pub asker_or : Option Asker → Option Asker → Option Asker
asker_or None other = other
asker_or (Some asker) other = Some asker

-- the asker of the session's save that runs, where one does
abbrev pub running_session : List Track → Option Asker
running_session [] = None
running_session (t ∷ ts) = asker_or (session_asker t.asker) (running_session ts)

-- the track after a release, by the asker whose save it ends
abbrev pub freed_if : Option Asker → Track → Track
freed_if None t = t
freed_if (Some asker) t = freed t

-- the track after a release of its loop's save
abbrev pub loop_released : Track → Track
loop_released t = freed_if (loop_asker t.asker) t

-- the track after a release of the session's save
abbrev pub session_released : Track → Track
session_released t = freed_if (session_asker t.asker) t
