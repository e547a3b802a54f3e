-- Where frames that are played stand: the frames that are left lead to the loop and to the sounds
-- that all of them give.
-- "Frames in a row" in docs/rules.md.
use Rattle.std.specs.Prelude.{◌≡◌, ℕ, List, take}
use Rattle.sl_base.specs.Sounds.{Sound}
use Rattle.looper_rules.specs.LoopSpans.{loop_over, loop_heard_over}
use Rattle.loop_tape.specs.Pools.{PoolOf}
use Rattle.loop_strip.specs.declared.parts.Parts.{Parts}
use Rattle.loop_strip.specs.Strips.{seen, reach_in, Did}
use Rattle.loop_strip.specs.Parts.{strip_of, IsWhole}

-- so many frames were played, and heard
pub record PlaysTo (done : ℕ) (xs sounds : List Sound) (first now : Parts)
    (p p' : PoolOf) : Type 0 where
  pub did : Did (loop_over (take done xs)) (strip_of first) (strip_of now) p p'
  pub heard : take done sounds ≡ loop_heard_over (take done xs) (reach_in (strip_of first) p)
      (seen (strip_of first) p)
  pub whole : IsWhole now
