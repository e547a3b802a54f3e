-- Where an act stands: the moves that are left lead where all of them do.
-- "Verbs" in docs/rules.md.
use Rattle.std.specs.Prelude.{◌≡◌, ℕ, List, drop}
use Rattle.loop_tape.specs.Pools.{PoolOf}
use Rattle.loop_states.specs.declared.act.Move.{Move}
use Rattle.loop_states.specs.Moves.{carry_all}
use Rattle.loop_strip.specs.declared.parts.Parts.{Parts}
use Rattle.loop_strip.specs.Strips.{seen, reach_in, Owns, OthersStay}
use Rattle.loop_strip.specs.Parts.{loop_of, strip_of, IsWhole}
use Rattle.loop_strip.proofs.Allowed.{AreAllowed}

-- so many moves were made, and those that are left lead to the end
pub record IsCarried (done : ℕ) (moves : List Move) (first now : Parts)
    (p p' : PoolOf) : Type 0 where
  pub left : carry_all (reach_in (strip_of first) p) (drop done moves) (seen (strip_of now) p')
      ≡ carry_all (reach_in (strip_of first) p) moves (seen (strip_of first) p)
  pub owns : Owns (strip_of now) p'
  pub reach : reach_in (strip_of now) p' ≡ reach_in (strip_of first) p
  pub others : OthersStay (strip_of first) (strip_of now) p p'
  pub allowed : AreAllowed (reach_in (strip_of first) p) (drop done moves) (loop_of now)
  pub whole : IsWhole now
