-- A stack is all that a loop holds of frames: its layers, newest first, the redo layers, the next
-- one first, the tape length (how many frames it has written), a pin where a save holds its list,
-- and whether a streak goes on. A streak is a stretch of writes in one manner, each at the place
-- behind the one before it (before it, where backward). While it goes on, the place and the manner
-- of the last write are kept. A pin keeps the list that is being saved and the tape length at its
-- entry: what stands below it on the tape is not written again.
-- "The stack" in docs/rules.md.
use Rattle.std.specs.Prelude.{ℕ, List, [], Option, Some, None}
use Rattle.sl_commands.specs.declared.How.{How}
use Rattle.looper_rules.specs.Layers.{Layer}

-- the last write of a streak that goes on
pub record LastWrite : Type 0 where
  pub place : ℕ
  pub how : How

-- the hold on a list that is being saved
pub record Pin (A : Type 0) : Type 0 where
  pub tape : ℕ
  pub list : List A

-- layers, redo layers, tape length, pin and streak
pub record Stack (A : Type 0) : Type 0 where
  pub layers : List (Layer A)
  pub redo : List (Layer A)
  pub tape : ℕ
  pub pin : Option (Pin A)
  pub streak : Option LastWrite

-- a stack of which nothing was ever written
abbrev pub empty_stack : {A : Type 0} → Stack A
empty_stack = record { layers = []; redo = []; tape = 0; pin = None; streak = None }

-- the tape length that a pin holds, 0 without one
abbrev pub pinned_tape : {A : Type 0} → Option (Pin A) → ℕ
pinned_tape None = 0
pinned_tape (Some p) = p.tape

-- the list that a pin holds, empty without one
abbrev pub pinned_list : {A : Type 0} → Option (Pin A) → List A
pinned_list None = []
pinned_list (Some p) = p.list

-- the streak is over: the next write begins another
abbrev pub streak_broken : {A : Type 0} → Stack A → Stack A
streak_broken s = record s { streak = None }
