-- The place from which a loop in this mode may go on.
-- "One frame of a loop" in docs/rules.md.
use Rattle.std.specs.Prelude.{ℕ, ◌+◌, ◌≤◌, ⊤}
use Rattle.sl_base.specs.Limits.{max_list_frames}
use Rattle.sl_commands.specs.declared.Mode.{Mode}
use Rattle.sl_commands.specs.declared.Mode.TheVariants.{Off, WaitStart, Recording, Multiplying, Inserting, Paused}

abbrev pub MayAdvance : Mode → ℕ → ℕ → Type 0
MayAdvance Off pos length = ⊤
MayAdvance WaitStart pos length = ⊤
MayAdvance Paused pos length = ⊤
MayAdvance Recording pos length = ⊤
MayAdvance Inserting pos length = (pos + 1 ≤ length) × (pos ≤ max_list_frames)
MayAdvance Multiplying pos length = (pos + 1 ≤ length) × (pos ≤ max_list_frames)
MayAdvance _ pos length = pos ≤ max_list_frames
