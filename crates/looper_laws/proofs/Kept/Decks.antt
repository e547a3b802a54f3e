-- A loop keeps what it has to keep where only its deck, its streak or its count of refusals
-- changes.
use Rattle.std.proofs.Common.{◌≡◌, ℕ, ◌+◌, ◌≤◌, min, Option, None, Bool, refl, arith, ◌∙◌}
use Rattle.sl_commands.specs.declared.Mode.{Mode}
use Rattle.sl_commands.specs.declared.Mode.TheVariants.{Recording, Overdubbing, Multiplying, Inserting, Replacing, Substituting}
use Rattle.sl_base.specs.Limits.{max_value}
use Rattle.looper_rules.specs.Stack.{Stack, LastWrite}
use Rattle.looper_rules.specs.Loop.{Deck, Loop, refused_once}
use Rattle.looper_rules.specs.States.{InMode, IsStreak, IsStack}
use Rattle.looper_rules.specs.Reached.{Unchanged, Keeps}

-- the limits of a stack say nothing of its streak
pub stack_in_streak : {A : Type 0} {s : Stack A} (streak : Option LastWrite) → IsStack s →
    IsStack (record s { streak = streak })
stack_in_streak streak h =
    record {
      layers_within = h.layers_within;
      redo_within = h.redo_within;
      pin_within =
          h.pin_within;
      count = h.count;
      seams = h.seams;
      order = h.order;
      redo_order = h.redo_order;
    }

-- another deck and another streak
pub with_deck :
    {A : Type 0} {a : Unchanged} {l : Loop A} (d : Deck) (streak : Option LastWrite) → Keeps a l →
    InMode d.mode l.stack.layers l.stack.redo d.pos d.backward →
    IsStreak d.mode streak d.pos d.backward → d.press ≡ l.deck.press →
    Keeps a (record l { deck = d; stack = record l.stack { streak = streak } })
with_deck d streak h in_mode goes press =
    record {
      loop = record {
        in_mode = in_mode;
        streak = goes;
        stack = stack_in_streak streak h.loop.stack;
        refused = h.loop.refused;
      };
      reach = h.reach;
      pinned = h.pinned;
      controls =
          h.controls;
      press = press ∙ h.press;
    }

-- one refusal more
pub refused_keeps : {A : Type 0} {a : Unchanged} {l : Loop A} → Keeps a l → Keeps a (refused_once l)
refused_keeps {l = l} h =
    record {
      loop = record {
        in_mode = h.loop.in_mode;
        streak = h.loop.streak;
        stack = h.loop.stack;
        refused = (let at_most : min (l.refused + 1) max_value ≤ max_value = omega arith in
            at_most);
      };
      reach = h.reach;
      pinned = h.pinned;
      controls = h.controls;
      press = h.press;
    }

-- where no streak goes on, none has to be told
pub no_streak : (mode : Mode) (pos : ℕ) (backward : Bool) → IsStreak mode None pos backward
no_streak Recording pos backward = tt
no_streak Overdubbing pos backward = tt
no_streak Multiplying pos backward = tt
no_streak Inserting pos backward = tt
no_streak Replacing pos backward = tt
no_streak Substituting pos backward = tt
no_streak _ pos backward = refl
