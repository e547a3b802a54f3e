-- A strip is one loop over layers that share a tape. Its cells hold addresses of the tape; with the
-- pool, whose chunks the tape has, it is a loop of frames, and that is what the rules speak of.
-- A strip owns the chunks of its tape, and another strip of the same pool owns others. A call on
-- one strip leaves every other strip of the pool as it was.
-- "The loop" and "Room" in docs/rules.md.
use Rattle.std.specs.Prelude.{◌≡◌, ℕ, ◌+◌, length}
use Rattle.sl_base.specs.Sounds.{Sound}
use Rattle.sl_commands.specs.declared.Verb.{Verb}
use Rattle.looper_rules.specs.Mapping.{stack_map}
use Rattle.looper_rules.specs.Room.{chunks_of}
use Rattle.looper_rules.specs.Loop.{Loop}
use Rattle.looper_rules.specs.Presses.{given, pressed, released}
use Rattle.loop_tape.specs.Pools.{PoolOf}
use Rattle.loop_tape.specs.Tapes.{TapeOf, at, IsWhole, Owns as OwnsTape, Apart as ApartTapes}
use Rattle.layer_memory.specs.Kept.{StackBelow}
use Rattle.loop_strip.specs.declared.given.Given.{Given}
use Rattle.loop_strip.specs.declared.given.Press.{Press}
use Rattle.loop_strip.specs.declared.given.Press.TheVariants.{Down, Up, Hit}

-- what a strip is seen as: its loop over addresses, and its tape
pub record StripOf : Type 0 where
  pub loop : Loop ℕ
  pub tape : TapeOf

-- the same loop with other contents
abbrev pub loop_map : {A B : Type 0} → (A → B) → Loop A → Loop B
loop_map f l = record {
  deck = l.deck;
  controls = l.controls;
  refused = l.refused;
  stack =
      stack_map f l.stack;
}

-- the loop of frames that a strip is with this pool
unfoldable pub seen : StripOf → PoolOf → Loop Sound
seen s p = loop_map (at s.tape p) s.loop

-- the free chunks of a pool
abbrev pub free_in : PoolOf → ℕ
free_in p = length p.free

-- the chunks that a strip reaches
abbrev pub reach_in : StripOf → PoolOf → ℕ
reach_in s p = free_in p + chunks_of (seen s p).stack.tape

-- the strip's chunks are the pool's, and all its addresses lie on its tape
pub record Owns (s : StripOf) (p : PoolOf) : Type 0 where
  pub tape : OwnsTape s.tape p
  pub whole : IsWhole s.tape
  pub length : s.loop.stack.tape ≡ s.tape.len
  pub low : StackBelow s.tape.len s.loop.stack

-- no chunk is of both
pub record Apart (u s : StripOf) : Type 0 where
  pub tapes : ApartTapes u.tape s.tape

-- another strip of the pool, beside this one
pub record IsBeside (s : StripOf) (p : PoolOf) (u : StripOf) : Type 0 where
  pub owns : Owns u p
  pub apart : Apart u s

-- it is still beside the one that has changed, and is seen as before
pub record StaysBeside (s : StripOf) (p p' : PoolOf) (u : StripOf) : Type 0 where
  pub beside : IsBeside s p' u
  pub same : seen u p' ≡ seen u p

-- every other strip of the pool stays as it was
abbrev pub OthersStay : StripOf → StripOf → PoolOf → PoolOf → Type 0
OthersStay s s' p p' = (u : StripOf) → IsBeside s p u → StaysBeside s' p p' u

-- a call did this to the strip's loop, which reached so many chunks and still does
pub record Did (act : ℕ → Loop Sound → Loop Sound) (s s' : StripOf) (p p' : PoolOf) : Type 0 where
  pub seen : seen s' p' ≡ act (reach_in s p) (seen s p)
  pub owns : Owns s' p'
  pub reach : reach_in s' p' ≡ reach_in s p
  pub others : OthersStay s s' p p'

-- the same of a call that takes no pool
abbrev pub DidAlone : (ℕ → Loop Sound → Loop Sound) → StripOf → StripOf → Type 0
DidAlone act s s' = (p : PoolOf) → Owns s p → Did act s s' p p

-- what a verb does that is given in this way, at a frame and with this long press
abbrev pub gives_by : Press → Verb → ℕ → ℕ → ℕ → Loop Sound → Loop Sound
gives_by Down verb frame long_press = pressed verb frame
gives_by Up verb frame long_press = released verb frame long_press
gives_by Hit verb frame long_press = given verb

-- what a given verb does
abbrev pub gives : Given → ℕ → Loop Sound → Loop Sound
gives g = gives_by g.press g.verb g.frame g.long_press
