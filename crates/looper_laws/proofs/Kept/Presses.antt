-- A loop keeps what it has to keep through presses, and through verbs that wait.
use Rattle.std.proofs.Common.{ℕ, Bool, true, false, Option, Some, None, refl, sym, subst}
use Rattle.std.specs.Prelude.{◌==◌, ◌&&◌, ◌||◌}
use Rattle.std.proofs.lemmas.Bool.{cond_both}
use Rattle.sl_commands.specs.declared.Verb.{Verb}
use Rattle.sl_commands.specs.declared.Held.{Held}
use Rattle.looper_rules.specs.Loop.{Loop}
use Rattle.looper_rules.specs.Verbs.{is_mode_of}
use Rattle.looper_rules.specs.Presses.{never_waits, with_waiting, with_press, given_at_once, given, pressed, is_press_of, is_long, released_long, released, waiting_acts_from, waiting_acts}
use Rattle.looper_rules.specs.States.{IsPressBefore}
use Rattle.looper_rules.specs.Reached.{Unchanged, Keeps}
use Rattle.looper_laws.proofs.Kept.Decks.{with_deck}
use Rattle.looper_laws.proofs.Kept.Verbs.{acts_keeps}

-- what is left unchanged, with this press
abbrev pub with_press_of : Option Held → Unchanged → Unchanged
with_press_of press a = record a { press = press }

-- another verb that waits
with_waiting_keeps : {A : Type 0} {a : Unchanged} {l : Loop A} (verb : Option Verb) → Keeps a l →
    Keeps a (with_waiting verb l)
with_waiting_keeps {l = l} verb h =
    with_deck (record l.deck { waiting = verb }) l.stack.streak h h.loop.in_mode h.loop.streak refl

-- another press
with_press_keeps : {A : Type 0} {a : Unchanged} {l : Loop A} (press : Option Held) → Keeps a l →
    Keeps (with_press_of press a) (with_press press l)
with_press_keeps press h =
    record {
      loop = record {
        in_mode = h.loop.in_mode;
        streak = h.loop.streak;
        stack = h.loop.stack;
        refused = h.loop.refused;
      };
      reach = h.reach;
      pinned = h.pinned;
      controls =
          h.controls;
      press = refl;
    }

-- its own press
own_press : {A : Type 0} {a : Unchanged} {l : Loop A} → Keeps a l →
    Keeps (with_press_of l.deck.press a) l
own_press {l = l} h = with_press_keeps l.deck.press h

-- a verb that is given
given_keeps_as : {A : Type 0} {a : Unchanged} {l : Loop A} (now : Bool) (verb : Verb) (reach : ℕ) →
    Keeps a l → Keeps a (given_at_once now verb reach l)
given_keeps_as true verb reach h = acts_keeps verb reach h
given_keeps_as false verb reach h = with_waiting_keeps (Some verb) h

pub given_keeps : {A : Type 0} {a : Unchanged} {l : Loop A} (verb : Verb) (reach : ℕ) → Keeps a l →
    Keeps a (given verb reach l)
given_keeps {l = l} verb reach h =
    given_keeps_as (l.controls.quantize == 0 || never_waits verb) verb reach h

-- a press
pub pressed_keeps :
    {A : Type 0} {a : Unchanged} {l : Loop A} (verb : Verb) (frame reach : ℕ) → Keeps a l →
    Keeps (with_press_of (Some (record { verb = verb; frame = frame })) a)
    (pressed verb frame reach l)
pressed_keeps verb frame reach h =
    with_press_keeps (Some (record { verb = verb; frame = frame })) (given_keeps verb reach h)

-- the end of a press
released_long_keeps :
    {A : Type 0} {a : Unchanged} {l : Loop A} (long : Bool) (verb : Verb) (reach : ℕ) → Keeps a l →
    Keeps (with_press_of None a) (released_long long verb reach l)
released_long_keeps true verb reach h = given_keeps verb reach (with_press_keeps None h)
released_long_keeps false verb reach h = with_press_keeps None h

-- what holds after the end of a press: the press is gone, or is the one before
abbrev pub IsReleased : {A : Type 0} → Unchanged → Loop A → Type 0
IsReleased a l = Keeps (with_press_of l.deck.press a) l
    × ((frame : ℕ) → IsPressBefore frame a.press → IsPressBefore frame l.deck.press)

released_as :
    {A : Type 0} {a : Unchanged} {l : Loop A} (long : Bool) (verb : Verb) (reach : ℕ) → Keeps a l →
    IsReleased a (released_long long verb reach l)
released_as long verb reach h =
    let now = released_long_keeps long verb reach h
    in (own_press now, λ frame before. subst (λ p. IsPressBefore frame p) (sym now.press) tt)

pub released_keeps :
    {A : Type 0} {a : Unchanged} {l : Loop A} (verb : Verb) (frame long_press reach : ℕ) →
    Keeps a l →
    IsReleased a (released verb frame long_press reach l)
released_keeps {a = a} {l = l} verb frame long_press reach h =
    cond_both (is_press_of verb l.deck.press)
    (released_long (is_long frame long_press l.deck.press && is_mode_of verb l.deck.mode) verb
    reach l) l (λ r. IsReleased a r)
    (λ same. released_as _ verb reach h)
    (λ other. (own_press h, λ at before. subst (λ p. IsPressBefore at p) (sym h.press) before))

-- a verb that waited and acts
waiting_acts_as : {A : Type 0} {a : Unchanged} {l : Loop A} (waiting : Option Verb) (reach : ℕ) →
    Keeps a l → Keeps a (waiting_acts_from waiting reach l)
waiting_acts_as None reach h = h
waiting_acts_as (Some verb) reach h = acts_keeps verb reach (with_waiting_keeps None h)

pub waiting_acts_keeps : {A : Type 0} {a : Unchanged} {l : Loop A} (reach : ℕ) → Keeps a l →
    Keeps a (waiting_acts reach l)
waiting_acts_keeps {l = l} reach h = waiting_acts_as l.deck.waiting reach h
