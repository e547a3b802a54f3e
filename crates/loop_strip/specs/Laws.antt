-- What calls on a loop do together: a list was made, and plays from its first place on. An overdub
-- of one turn is the list frame by frame scaled, with what was played on top. Each call leaves a
-- strip and a pool, as its own clause says.
-- "Starting", "Closing" and "History: undo and redo" in docs/rules.md.
use Rattle.std.specs.Prelude.{◌≡◌, ℕ, false, List, [], ◌∷◌}
use Rattle.sl_base.specs.Sounds.{Sound, summed, clamped_sound, scaled_sound}
use Rattle.sl_commands.specs.declared.Mode.TheVariants.{Playing}
use Rattle.sl_commands.specs.declared.Verb.TheVariants.{Overdub}
use Rattle.sl_commands.specs.declared.Started.TheVariants.{Ok as Granted}
use Rattle.looper_rules.specs.Layers.{current_list}
use Rattle.looper_rules.specs.Opening.{opening}
use Rattle.looper_rules.specs.Loop.{Loop}
use Rattle.looper_rules.specs.LoopSpans.{loop_over}
use Rattle.looper_rules.specs.Presses.{given}
use Rattle.loop_tape.specs.Pools.{PoolOf}
use Rattle.loop_strip.specs.Strips.{StripOf, seen, reach_in, Did}
use Rattle.loop_strip.specs.Moving.{IsAtRest}

-- the list was recorded, and plays from its first place on
pub record IsRecording (xs : List Sound) (l : Loop Sound) : Type 0 where
  pub list : current_list l.stack.layers ≡ xs
  pub mode : l.deck.mode ≡ Playing
  pub pos : l.deck.pos ≡ 0

-- each frame of a list scaled by this feedback, with another on top
abbrev pub overdubbed : ℕ → List Sound → List Sound → List Sound
overdubbed feedback [] xs = []
overdubbed feedback (o ∷ os) [] = o ∷ os
overdubbed feedback (o ∷ os) (x ∷ xs) = clamped_sound (summed (scaled_sound o feedback) x)
    ∷ overdubbed feedback os xs

-- `overdub` was given at once to a loop at rest that grants it, and then these frames were played
pub record HasOverdubbed (xs : List Sound) (old pressed played : StripOf) (p p1 p2 : PoolOf) : Type
    0 where
  pub at_once : (seen old p).controls.quantize ≡ 0
  pub rests : IsAtRest (seen old p).deck.mode
  pub granted : opening (reach_in old p) false (seen old p).stack ≡ Granted
  pub press : Did (given Overdub) old pressed p p1
  pub frames : Did (loop_over xs) pressed played p1 p2
