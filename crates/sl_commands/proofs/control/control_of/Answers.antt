-- A control is found by its name, and none is where none has it: the table has each control.
use Rattle.std.proofs.Common.{◌≡◌, ◌≢◌, IfNone, ℕ, List, Option, Some, None, find, sym}
use Rattle.sl_commands.specs.declared.control.Control.{Control}
use Rattle.sl_commands.specs.declared.control.Control.TheVariants.{Feedback, Wet, Round, Quantize, RecThresh, State, LoopLen, LoopPos, CycleLen, Waiting, Layers, RedoLayers, Refused, Reversed, FreeTime, Dry, SyncSource, SelectedLoopNum, FadeStep, LongPress, Pulse}
use Rattle.sl_commands.specs.Controls.{control_name, controls, has_control_name}
use Rattle.sl_commands.proofs.TableLemmas.{find_has_name, none_has_name, NoneHasName}
use Rattle.sl_commands.proofs.control.control_of.Goals as goal

-- what no control of the table has as its name, no control has
each_control : (bytes : List ℕ) → NoneHasName control_name bytes controls → (x : Control) →
    bytes ≢ control_name x
each_control bytes none Feedback = none.0
each_control bytes none Wet = none.1.0
each_control bytes none Round = none.1.1.0
each_control bytes none Quantize = none.1.1.1.0
each_control bytes none RecThresh = none.1.1.1.1.0
each_control bytes none State = none.1.1.1.1.1.0
each_control bytes none LoopLen = none.1.1.1.1.1.1.0
each_control bytes none LoopPos = none.1.1.1.1.1.1.1.0
each_control bytes none CycleLen = none.1.1.1.1.1.1.1.1.0
each_control bytes none Waiting = none.1.1.1.1.1.1.1.1.1.0
each_control bytes none Layers = none.1.1.1.1.1.1.1.1.1.1.0
each_control bytes none RedoLayers = none.1.1.1.1.1.1.1.1.1.1.1.0
each_control bytes none Refused = none.1.1.1.1.1.1.1.1.1.1.1.1.0
each_control bytes none Reversed = none.1.1.1.1.1.1.1.1.1.1.1.1.1.0
each_control bytes none FreeTime = none.1.1.1.1.1.1.1.1.1.1.1.1.1.1.0
each_control bytes none Dry = none.1.1.1.1.1.1.1.1.1.1.1.1.1.1.1.0
each_control bytes none SyncSource = none.1.1.1.1.1.1.1.1.1.1.1.1.1.1.1.1.0
each_control bytes none SelectedLoopNum = none.1.1.1.1.1.1.1.1.1.1.1.1.1.1.1.1.1.0
each_control bytes none FadeStep = none.1.1.1.1.1.1.1.1.1.1.1.1.1.1.1.1.1.1.0
each_control bytes none LongPress = none.1.1.1.1.1.1.1.1.1.1.1.1.1.1.1.1.1.1.1.0
each_control bytes none Pulse = none.1.1.1.1.1.1.1.1.1.1.1.1.1.1.1.1.1.1.1.1.0

-- the same of a search that finds nothing
nothing_found : (bytes : List ℕ) (o : Option Control) → o ≡ find (has_control_name bytes) controls →
    IfNone o ((x : Control) → bytes ≢ control_name x)
nothing_found bytes None is =
    each_control bytes (none_has_name control_name bytes controls (sym is))
nothing_found bytes (Some x) is = tt

pub returns-clause-found : goal.returns-clause-found
returns-clause-found c =
    rw c.first_named.ensures (find_has_name control_name c.args.bytes.now controls)

pub returns-clause-only : goal.returns-clause-only
returns-clause-only c = nothing_found c.args.bytes.now _ c.first_named.ensures
