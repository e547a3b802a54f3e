-- `hit v` gives v. `down v` gives v and remembers v and the frame. `up v` does nothing where the
-- remembered verb isn't v. Otherwise it forgets the press, and where at least long_press frames
-- passed and the mode is v's, it gives v again. The verbs with a mode are the six writing verbs,
-- `mute` (Muted), `pause` (Paused) and `oneshot` (OneShot). Giving v: where quantize is 0, or v is
-- one of undo, redo, undo_all, redo_all, mute_on, mute_off and pause, v acts at once and a verb
-- that waits stays. Otherwise v becomes the verb that waits, in place of another.
-- "Presses" in docs/rules.md.
use Rattle.std.specs.Prelude.{ℕ, ◌-◌, Bool, true, false, ◌&&◌, ◌||◌, Option, Some, None, nat_le, ◌==◌, if◌then◌else◌}
use Rattle.sl_commands.specs.declared.Verb.{Verb}
use Rattle.sl_commands.specs.declared.Verb.TheVariants.{MuteOn, MuteOff, Pause, Undo, Redo, UndoAll, RedoAll}
use Rattle.sl_commands.specs.Verbs.{verb_number}
use Rattle.sl_commands.specs.declared.Held.{Held}
use Rattle.looper_rules.specs.Loop.{Loop}
use Rattle.looper_rules.specs.Verbs.{is_mode_of, acts}

-- whether a verb never waits
abbrev pub never_waits : Verb → Bool
never_waits Undo = true
never_waits Redo = true
never_waits UndoAll = true
never_waits RedoAll = true
never_waits MuteOn = true
never_waits MuteOff = true
never_waits Pause = true
never_waits _ = false

-- the loop with this verb waiting, or none
abbrev pub with_waiting : {A : Type 0} → Option Verb → Loop A → Loop A
with_waiting verb l = record l { deck = record l.deck { waiting = verb } }

-- the loop with this press remembered, or none
abbrev pub with_press : {A : Type 0} → Option Held → Loop A → Loop A
with_press press l = record l { deck = record l.deck { press = press } }

-- a verb given, acting at once or waiting
abbrev pub given_at_once : {A : Type 0} → Bool → Verb → ℕ → Loop A → Loop A
given_at_once true verb reach l = acts verb reach l
given_at_once false verb reach l = with_waiting (Some verb) l

-- a verb given: what `hit` does
abbrev pub given : {A : Type 0} → Verb → ℕ → Loop A → Loop A
given verb reach l = given_at_once (l.controls.quantize == 0 || never_waits verb) verb reach l

-- what `down` does at a frame
abbrev pub pressed : {A : Type 0} → Verb → ℕ → ℕ → Loop A → Loop A
pressed verb frame reach l =
    with_press (Some (record { verb = verb; frame = frame })) (given verb reach l)

-- whether the press is of this verb
abbrev pub is_press_of : Verb → Option Held → Bool
is_press_of verb None = false
is_press_of verb (Some press) = verb_number press.verb == verb_number verb

-- whether the press is at least so many frames old at a frame
abbrev pub is_long : ℕ → ℕ → Option Held → Bool
is_long frame long_press None = false
is_long frame long_press (Some press) = nat_le long_press (frame - press.frame)

-- the end of a press of this verb: whether it was long and the mode is the verb's
abbrev pub released_long : {A : Type 0} → Bool → Verb → ℕ → Loop A → Loop A
released_long true verb reach l = given verb reach (with_press None l)
released_long false verb reach l = with_press None l

-- what `up` does at a frame
abbrev pub released : {A : Type 0} → Verb → ℕ → ℕ → ℕ → Loop A → Loop A
released verb frame long_press reach l =
    if is_press_of verb l.deck.press
    then released_long (is_long frame long_press l.deck.press && is_mode_of verb l.deck.mode) verb
    reach l
    else l

-- the waiting verb acts, where there is one
abbrev pub waiting_acts_from : {A : Type 0} → Option Verb → ℕ → Loop A → Loop A
waiting_acts_from None reach l = l
waiting_acts_from (Some verb) reach l = acts verb reach (with_waiting None l)

abbrev pub waiting_acts : {A : Type 0} → ℕ → Loop A → Loop A
waiting_acts reach l = waiting_acts_from l.deck.waiting reach l
