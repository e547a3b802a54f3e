-- The selected loop, to which commands may speak by -3, is one of the looper's loops.
-- "The looper" in docs/rules.md.
use Rattle.std.specs.Prelude.{◌<◌, length}
use Rattle.looper_rules.specs.Looper.{Looper}

-- the selected loop is one of the looper's
abbrev pub SelectsALoop : Looper → Type 0
SelectsALoop l = l.globals.selected_loop_num < length l.tracks
