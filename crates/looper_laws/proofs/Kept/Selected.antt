-- The selected loop is one of a looper's loops.
use Rattle.std.proofs.Common.{ℕ, length}
use Rattle.std.proofs.lemmas.Bool.{ltb-true}
use Rattle.looper_rules.specs.Looper.{Looper}
use Rattle.looper_rules.specs.States.{IsLooper}
use Rattle.looper_laws.specs.Selecting.{SelectsALoop}
use Rattle.looper_laws.proofs.Kept.Settings.{selected_range}

pub selects : (frame : ℕ) (l : Looper) → IsLooper frame l → SelectsALoop l
selects frame l h = ltb-true l.globals.selected_loop_num (length l.tracks)
    (selected_range (length l.tracks) l.globals h.globals)
