-- What is written and heard of a row, from the list as it stood before the row.
use Rattle.std.specs.Prelude.{ℕ, ◌+◌, List, [], ◌∷◌}
use Rattle.sl_base.specs.Sounds.{Sound}
use Rattle.sl_commands.specs.declared.Mode.{Mode}
use Rattle.looper_rules.specs.LoopFrame.{heard_from, new_frame, sound_at}

-- what is written in this mode, with this feedback, over a list from a place on
abbrev pub row_written : Mode → ℕ → List Sound → ℕ → List Sound → List Sound
row_written mode feedback list place [] = []
row_written mode feedback list place (x ∷ xs) = new_frame mode feedback (sound_at list place) x
    ∷ row_written mode feedback list (place + 1) xs

-- what is heard in this mode of a list from a place on, for each of these frames
abbrev pub row_heard : Mode → List Sound → ℕ → List Sound → List Sound
row_heard mode list place [] = []
row_heard mode list place (x ∷ xs) = heard_from mode list place ∷ row_heard mode list (place + 1) xs
