-- Where a repeated undo or redo stands: what is left of it gives what it is to give.
-- "History: undo and redo" in docs/rules.md.
use Rattle.std.specs.Prelude.{◌≡◌, ℕ, drop}
use Rattle.looper_rules.specs.History.{undo_each, undo_all, redo_each, redo_all}
use Rattle.loop_strip.specs.declared.parts.Parts.{Parts}
use Rattle.loop_strip.specs.Parts.{loop_of, IsWhole}

-- so many undos were done, and those that are left lead to the end
pub record IsUndone (done : ℕ) (first now : Parts) : Type 0 where
  pub ok : undo_each (drop done (loop_of first).stack.layers) (loop_of now) ≡ undo_all
      (loop_of first)
  pub tape : now.layers.tape ≡ first.layers.tape
  pub whole : IsWhole now

-- so many redos were done, and those that are left lead to the end
pub record IsRedone (done : ℕ) (first now : Parts) : Type 0 where
  pub ok : redo_each (drop done (loop_of first).stack.redo) (loop_of now) ≡ redo_all (loop_of first)
  pub tape : now.layers.tape ≡ first.layers.tape
  pub whole : IsWhole now
