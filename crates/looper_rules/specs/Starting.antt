-- Starting `record`: with rec_thresh above 0 the mode becomes WaitStart. Otherwise the loop opens
-- an empty layer; if that isn't refused, the mode is Recording, pos 0 and the direction forward.
-- Starting another writing verb: the loop opens a copy of its list; if that isn't refused, the mode
-- is the verb's, and pos and direction stay. A refusal leaves the mode, and is counted.
-- Leaving WaitStart makes the mode Off where there is no layer, else Playing.
-- "Starting" in docs/rules.md.
use Rattle.std.specs.Prelude.{ℕ, true, false, List, [], ◌∷◌, nat_lt, if◌then◌else◌}
use Rattle.sl_commands.specs.declared.Mode.{Mode}
use Rattle.sl_commands.specs.declared.Mode.TheVariants.{Off, WaitStart, Recording, Playing}
use Rattle.sl_commands.specs.declared.Started.{Started}
use Rattle.sl_commands.specs.declared.Started.TheVariants.{Ok}
use Rattle.looper_rules.specs.Layers.{Layer}
use Rattle.looper_rules.specs.Opening.{opening, opened}
use Rattle.looper_rules.specs.Loop.{Loop, in_mode, refused_once}

-- the loop opened for `record`, or the refusal counted
abbrev pub records : {A : Type 0} → Started → Loop A → Loop A
records Ok l =
    record l {
      deck = record l.deck { mode = Recording; pos = 0; backward = false };
      stack = opened true l.stack;
    }
records _ l = refused_once l

-- starting `record`
abbrev pub starts_record : {A : Type 0} → ℕ → Loop A → Loop A
starts_record reach l =
    if nat_lt 0 l.controls.rec_thresh
    then in_mode WaitStart l
    else records (opening reach true l.stack) l

-- the loop opened for the writing verb of this mode, or the refusal counted
abbrev pub layers_on : {A : Type 0} → Started → Mode → Loop A → Loop A
layers_on Ok mode l =
    record l { deck = record l.deck { mode = mode }; stack = opened false l.stack }
layers_on _ mode l = refused_once l

-- starting the writing verb of this mode
abbrev pub starts : {A : Type 0} → Mode → ℕ → Loop A → Loop A
starts mode reach l = layers_on (opening reach false l.stack) mode l

-- the mode behind WaitStart, over these layers
abbrev pub mode_after_wait : {A : Type 0} → List (Layer A) → Mode
mode_after_wait [] = Off
mode_after_wait (_ ∷ _) = Playing

-- leaving WaitStart
abbrev pub leaves_wait : {A : Type 0} → Loop A → Loop A
leaves_wait l = in_mode (mode_after_wait l.stack.layers) l
