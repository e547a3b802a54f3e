-- A row is some frames, one after another, that a loop writes forward over the cells of its list
-- before the list's border. What is written and what is heard of it comes from the list as it stood
-- before the row.
-- "Frames in a row" and "One frame of a loop" in docs/rules.md.
use Rattle.std.specs.Prelude.{◌≡◌, ◌<◌, ℕ, ◌+◌, ⊤, Bool, false}
use Rattle.sl_commands.specs.declared.Mode.{Mode}
use Rattle.sl_commands.specs.declared.Mode.TheVariants.{Overdubbing, Replacing, Substituting}

-- the modes in which a loop goes on place by place and writes over its list
abbrev pub WritesOver : Mode → Type 0
WritesOver Overdubbing = ⊤
WritesOver Replacing = ⊤
WritesOver Substituting = ⊤
WritesOver _ = ⊥

-- these frames are a row for a loop in this mode, direction and place
pub record IsRow (mode : Mode) (frames : ℕ) (backward : Bool) (place len : ℕ) : Type 0 where
  pub over : WritesOver mode
  pub forward : backward ≡ false
  pub ahead : place + frames < len
