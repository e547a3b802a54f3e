-- What is found by its name is what a search through the table finds.
use Rattle.std.proofs.Common.{◌≡◌, ◌≢◌, ℕ, List, Option, Some, None, refl, sym, ap, ◌∙◌, IfSome, IfNone}
use Rattle.sl_commands.specs.declared.control.Control.{Control}
use Rattle.sl_commands.specs.declared.control.Control.TheVariants.{Feedback, Wet, Round, Quantize, RecThresh, State, LoopLen, LoopPos, CycleLen, Waiting, Layers, RedoLayers, Refused, Reversed, FreeTime, Dry, SyncSource, SelectedLoopNum, FadeStep, LongPress, Pulse}
use Rattle.sl_commands.specs.declared.verb.Verb.{Verb}
use Rattle.sl_commands.specs.declared.verb.Verb.TheVariants.{Rec, Overdub, Multiply, Insert, Replace, Substitute, Mute, MuteOn, MuteOff, OneShot, Trigger, Reverse, Pause, Undo, Redo, UndoAll, RedoAll}
use Rattle.sl_commands.specs.Controls.{control_name, controls}
use Rattle.sl_commands.specs.Verbs.{verb_name, verbs}
use Rattle.sl_commands.proofs.TableLemmas.{find_has_name}
use Rattle.osc_paths.specs.Answers.{verb_in, control_in}

pub verb_has_its_name : (verb : Verb) → verb_in (verb_name verb) ≡ Some verb
verb_has_its_name Rec = refl
verb_has_its_name Overdub = refl
verb_has_its_name Multiply = refl
verb_has_its_name Insert = refl
verb_has_its_name Replace = refl
verb_has_its_name Substitute = refl
verb_has_its_name Mute = refl
verb_has_its_name MuteOn = refl
verb_has_its_name MuteOff = refl
verb_has_its_name OneShot = refl
verb_has_its_name Trigger = refl
verb_has_its_name Reverse = refl
verb_has_its_name Pause = refl
verb_has_its_name Undo = refl
verb_has_its_name Redo = refl
verb_has_its_name UndoAll = refl
verb_has_its_name RedoAll = refl

pub control_has_its_name : (control : Control) → control_in (control_name control) ≡ Some control
control_has_its_name Feedback = refl
control_has_its_name Wet = refl
control_has_its_name Round = refl
control_has_its_name Quantize = refl
control_has_its_name RecThresh = refl
control_has_its_name State = refl
control_has_its_name LoopLen = refl
control_has_its_name LoopPos = refl
control_has_its_name CycleLen = refl
control_has_its_name Waiting = refl
control_has_its_name Layers = refl
control_has_its_name RedoLayers = refl
control_has_its_name Refused = refl
control_has_its_name Reversed = refl
control_has_its_name FreeTime = refl
control_has_its_name Dry = refl
control_has_its_name SyncSource = refl
control_has_its_name SelectedLoopNum = refl
control_has_its_name FadeStep = refl
control_has_its_name LongPress = refl
control_has_its_name Pulse = refl

abbrev there : {X : Type 0} → X → Option X
there x = Some x

some_is : {X : Type 0} (x y : X) → there x ≡ there y → x ≡ y
some_is x y same = cc

-- what a search found has the name
named : {X : Type 0} (name : X → List ℕ) (bytes : List ℕ) (found : Option X) (x : X) →
    found ≡ Some x → IfSome found (λ y. bytes ≡ name y) → bytes ≡ name x
named name bytes None x same has = absurd cc
named name bytes (Some y) x same has = has ∙ ap name (some_is y x same)

pub verb_is_named : (bytes : List ℕ) (verb : Verb) → verb_in bytes ≡ Some verb →
    bytes ≡ verb_name verb
verb_is_named bytes verb same =
    named verb_name bytes (verb_in bytes) verb same (find_has_name verb_name bytes verbs)

pub control_is_named : (bytes : List ℕ) (control : Control) → control_in bytes ≡ Some control →
    bytes ≡ control_name control
control_is_named bytes control same = named control_name bytes (control_in bytes) control same
    (find_has_name control_name bytes controls)

-- nothing is found where nothing has the name
none_there : {X : Type 0} (name : X → List ℕ) (bytes : List ℕ) (found : Option X) →
    IfSome found (λ y. bytes ≡ name y) → ((x : X) → bytes ≢ name x) → None ≡ found
none_there name bytes None has none = refl
none_there name bytes (Some x) has none = absurd (none x has)

pub verb_found : (bytes : List ℕ) (read : Option Verb) →
    IfSome read (λ verb. bytes ≡ verb_name verb) →
    IfNone read ((verb : Verb) → bytes ≢ verb_name verb) → read ≡ verb_in bytes
verb_found bytes (Some verb) found only = sym (ap verb_in found ∙ verb_has_its_name verb)
verb_found bytes None found only =
    none_there verb_name bytes (verb_in bytes) (find_has_name verb_name bytes verbs) only

pub control_found : (bytes : List ℕ) (read : Option Control) →
    IfSome read (λ control. bytes ≡ control_name control) →
    IfNone read ((control : Control) → bytes ≢ control_name control) → read ≡ control_in bytes
control_found bytes (Some control) found only =
    sym (ap control_in found ∙ control_has_its_name control)
control_found bytes None found only = none_there control_name bytes (control_in bytes)
    (find_has_name control_name bytes controls) only
