-- A verb is found by its name, and none is where none has it: the table has each verb.
use Rattle.std.proofs.Common.{◌≡◌, ◌≢◌, IfNone, ℕ, List, Option, Some, None, find, sym}
use Rattle.sl_commands.specs.declared.verb.Verb.{Verb}
use Rattle.sl_commands.specs.declared.verb.Verb.TheVariants.{Rec, Overdub, Multiply, Insert, Replace, Substitute, Mute, MuteOn, MuteOff, OneShot, Trigger, Reverse, Pause, Undo, Redo, UndoAll, RedoAll}
use Rattle.sl_commands.specs.Verbs.{verb_name, verbs, has_verb_name}
use Rattle.sl_commands.proofs.TableLemmas.{find_has_name, none_has_name, NoneHasName}
use Rattle.sl_commands.proofs.verb.verb_of.Goals as goal

-- what no verb of the table has as its name, no verb has
each_verb : (bytes : List ℕ) → NoneHasName verb_name bytes verbs → (x : Verb) → bytes ≢ verb_name x
each_verb bytes none Rec = none.0
each_verb bytes none Overdub = none.1.0
each_verb bytes none Multiply = none.1.1.0
each_verb bytes none Insert = none.1.1.1.0
each_verb bytes none Replace = none.1.1.1.1.0
each_verb bytes none Substitute = none.1.1.1.1.1.0
each_verb bytes none Mute = none.1.1.1.1.1.1.0
each_verb bytes none MuteOn = none.1.1.1.1.1.1.1.0
each_verb bytes none MuteOff = none.1.1.1.1.1.1.1.1.0
each_verb bytes none OneShot = none.1.1.1.1.1.1.1.1.1.0
each_verb bytes none Trigger = none.1.1.1.1.1.1.1.1.1.1.0
each_verb bytes none Reverse = none.1.1.1.1.1.1.1.1.1.1.1.0
each_verb bytes none Pause = none.1.1.1.1.1.1.1.1.1.1.1.1.0
each_verb bytes none Undo = none.1.1.1.1.1.1.1.1.1.1.1.1.1.0
each_verb bytes none Redo = none.1.1.1.1.1.1.1.1.1.1.1.1.1.1.0
each_verb bytes none UndoAll = none.1.1.1.1.1.1.1.1.1.1.1.1.1.1.1.0
each_verb bytes none RedoAll = none.1.1.1.1.1.1.1.1.1.1.1.1.1.1.1.1.0

-- the same of a search that finds nothing
nothing_found : (bytes : List ℕ) (o : Option Verb) → o ≡ find (has_verb_name bytes) verbs →
    IfNone o ((x : Verb) → bytes ≢ verb_name x)
nothing_found bytes None is = each_verb bytes (none_has_name verb_name bytes verbs (sym is))
nothing_found bytes (Some x) is = tt

pub returns-clause-found : goal.returns-clause-found
returns-clause-found c = rw c.first_named.ensures (find_has_name verb_name c.args.bytes.now verbs)

pub returns-clause-only : goal.returns-clause-only
returns-clause-only c = nothing_found c.args.bytes.now _ c.first_named.ensures
