-- Frames written in a row, each over the one at its place: the rules' single write, as often.
-- "Writing" in docs/rules.md.
use Rattle.std.specs.Prelude.{◌≡◌, ◌<◌, ℕ, zero, suc, ◌+◌, ⊤, Bool, true, List, [], ◌∷◌, slice_get}
use Rattle.sl_base.specs.Sounds.{Sound}
use Rattle.sl_commands.specs.declared.How.TheVariants.{Forward}
use Rattle.looper_rules.specs.Layers.{Layer, current_cells, is_fresh}
use Rattle.looper_rules.specs.Stack.{Stack}
use Rattle.looper_rules.specs.Writing.{newly_written, write_fits, written}
use Rattle.loop_tape.specs.Pools.{PoolOf}
use Rattle.layer_memory.specs.Kept.{Alone}
use Rattle.layer_memory.specs.Seen.{Held, seen, reach}
use Rattle.layer_memory.specs.Answers.{Keeps}

-- the stack after these writes, from a place on
abbrev pub written_span : {A : Type 0} → List A → ℕ → Stack A → Stack A
written_span [] place s = s
written_span (x ∷ xs) place s = written_span xs (place + 1) (written Forward place x s)

-- each of these writes fits
abbrev pub AllFit : {A : Type 0} → ℕ → List A → ℕ → Stack A → Type 0
AllFit reach [] place s = ⊤
AllFit reach (x ∷ xs) place s = (write_fits reach Forward place s ≡ true)
    × AllFit reach xs (place + 1) (written Forward place x s)

-- what these writes leave
pub record WritesSpan (xs : List Sound) (place : ℕ) (h h' : Held) (p p' : PoolOf) : Type 0 where
  pub fits : AllFit (reach h p) xs place (seen h p)
  pub seen : seen h' p' ≡ written_span xs place (seen h p)
  pub writing : h'.writing ≡ true
  pub keeps : Keeps h h' p p'

-- so many new cells in a row, which hold addresses in a row
abbrev pub newly_written_span : ℕ → ℕ → ℕ → Stack ℕ → Stack ℕ
newly_written_span zero place a s = s
newly_written_span (suc k) place a s =
    newly_written_span k (place + 1) (a + 1) (newly_written Forward place a s)

-- so many cells in a row are fresh, or none of them is
abbrev pub AreMarked : {A : Type 0} → Bool → ℕ → ℕ → List (Layer A) → Type 0
AreMarked b n place layers = (k : ℕ) → k < n →
    is_fresh (slice_get (current_cells layers) (place + k)) ≡ b

-- so many cells in a row hold addresses in a row, and each stands alone
abbrev pub AreAlone : ℕ → ℕ → ℕ → Stack ℕ → Type 0
AreAlone n place a s = (k : ℕ) → k < n → Alone (place + k) (a + k) s
