-- What the calls of layers answer and leave.
-- A refusal changes nothing. Else the stack of frames is that of the rules, the tape stays the
-- layers' own, what they reach stays as it was, and so do all other tapes of the pool.
-- "Opening", "Writing" and "The streak" in docs/rules.md.
use Rattle.std.specs.Prelude.{◌≡◌, ◌≤◌, ◌<◌, ℕ, ◌+◌, ⊤, Bool, true, false, List, length}
use Rattle.std.specs.List.{range_with_len}
use Rattle.sl_base.specs.Limits.{max_layers, max_seams}
use Rattle.sl_base.specs.Sounds.{Sound}
use Rattle.sl_commands.specs.declared.How.{How}
use Rattle.sl_commands.specs.declared.Started.{Started}
use Rattle.sl_commands.specs.declared.Started.TheVariants.{Ok, Layers, Seams, Room}
use Rattle.looper_rules.specs.Layers.{total_seams}
use Rattle.looper_rules.specs.Stack.{Stack}
use Rattle.looper_rules.specs.Opening.{opened, opening_seams}
use Rattle.looper_rules.specs.Run.{loaded}
use Rattle.looper_rules.specs.Writing.{written, write_fits}
use Rattle.loop_tape.specs.Pools.{PoolOf}
use Rattle.loop_tape.specs.Tapes.{Owns, OthersStay, IsWhole}
use Rattle.layer_memory.specs.Seen.{Held, seen, reach}

-- the tape is still the layers' own, the other tapes of the pool stay as they were, and so does
-- what is in reach
pub record Keeps (h h' : Held) (p p' : PoolOf) : Type 0 where
  pub owns : Owns h'.tape p'
  pub whole : IsWhole h'.tape
  pub others : OthersStay h.tape h'.tape p p'
  pub reached : reach h' p' ≡ reach h p
  pub all : p'.all ≡ p.all

-- nothing has changed
pub record Same (h h' : Held) (p p' : PoolOf) : Type 0 where
  pub held : h' ≡ h
  pub pool : p' ≡ p

-- what an opening leaves: it changes no frame of the pool
pub record Opens (empty : Bool) (h h' : Held) (p p' : PoolOf) : Type 0 where
  pub stack : h'.stack ≡ opened empty h.stack
  pub seen : seen h' p' ≡ opened empty (seen h p)
  pub writing : h'.writing ≡ true
  pub frames : p'.store ≡ p.store
  pub keeps : Keeps h h' p p'

-- what an opening leaves, by its answer
abbrev pub Leaves : Bool → Held → Held → PoolOf → PoolOf → Started → Type 0
Leaves empty h h' p p' Ok = Opens empty h h' p p'
Leaves empty h h' p p' Layers = Same h h' p p'
Leaves empty h h' p p' Seams = Same h h' p p'
Leaves empty h h' p p' Room = Same h h' p p'

-- there is room for a layer more and its seams
pub record IsOpening (empty : Bool) (s : Stack ℕ) : Type 0 where
  pub few : length s.layers < max_layers
  pub seams : total_seams s.layers + opening_seams empty s.layers + 2 ≤ max_seams

-- a fact of an opening that isn't refused
abbrev pub OnOpen : Started → Type 0 → Type 0
OnOpen Ok P = P
OnOpen Layers P = ⊤
OnOpen Seams P = ⊤
OnOpen Room P = ⊤

-- what a write that fits leaves
pub record Writes (how : How) (place : ℕ) (x : Sound) (h h' : Held) (p p' : PoolOf) : Type 0 where
  pub fits : write_fits (reach h p) how place (seen h p) ≡ true
  pub seen : seen h' p' ≡ written how place x (seen h p)
  pub writing : h'.writing ≡ true
  pub keeps : Keeps h h' p p'

-- what a write that doesn't fit leaves
pub record Refuses (how : How) (place : ℕ) (h h' : Held) (p p' : PoolOf) : Type 0 where
  pub full : write_fits (reach h p) how place (seen h p) ≡ false
  pub same : Same h h' p p'

-- what a write leaves, by its answer
abbrev pub Written : How → ℕ → Sound → Held → Held → PoolOf → PoolOf → Bool → Type 0
Written how place x h h' p p' true = Writes how place x h h' p p'
Written how place x h h' p p' false = Refuses how place h h' p p'

-- what a loading of a list leaves: its frames stand on the tape behind all others
pub record Loads (list : List Sound) (cycle : ℕ) (h h' : Held) (p p' : PoolOf) : Type 0 where
  pub stack : h'.stack ≡ loaded (range_with_len h.stack.tape (length list)) cycle h.stack
  pub seen : seen h' p' ≡ loaded list cycle (seen h p)
  pub writing : h'.writing ≡ false
  pub keeps : Keeps h h' p p'
