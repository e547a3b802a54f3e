-- What is read of a looper beside its controls: how often something was refused, the list that a
-- pin holds, and that a run may have reached it.
-- "The looper" and "Saves" in docs/rules.md.
use Rattle.std.specs.Prelude.{◌≤◌, ℕ, IsTrue, List, length, sum_by, slice_get}
use Rattle.sl_base.specs.Sounds.{Sound}
use Rattle.sl_commands.specs.declared.Globals.{Globals}
use Rattle.sl_commands.specs.declared.Command.{Command}
use Rattle.sl_commands.specs.declared.Entry.{Entry}
use Rattle.sl_commands.specs.Settings.{are_globals}
use Rattle.looper_rules.specs.Looper.{Looper}
use Rattle.looper_rules.specs.Reached.{KeepsLooper}
use Rattle.looper_tracks.specs.Tracks.{TracksOf, refused_on}
pub use Rattle.looper_tracks.specs.Tracks.{held_on}

-- the looper of these tracks
abbrev pub looper_of : ℕ → Globals → ℕ → ℕ → TracksOf → Looper
looper_of rate globals dry saves t =
    record {
      rate = rate;
      chunks = t.chunks;
      globals = globals;
      dry = dry;
      tracks = t.tracks;
      saves = saves;
    }

-- how often something was refused, over all loops
abbrev pub refused_in : Looper → ℕ
refused_in l = sum_by refused_on l.tracks

-- the list that the pin of the loop of this index holds
abbrev pub pinned_at : ℕ → Looper → List Sound
pinned_at k l = held_on (slice_get l.tracks k)

-- some number of frames is done, and it keeps what a looper keeps
pub record IsReached (l : Looper) : Type 0 where
  pub frame : ℕ
  pub kept : KeepsLooper frame l

-- the entry of these
abbrev pub entry_at : ℕ → ℕ → ℕ → Command → Entry
entry_at frame sender seq command =
    record { frame = frame; sender = sender; seq = seq; command = command }

-- what always holds of a looper: how many there are, the looper's own controls, and room for all
-- faces
pub record IsWithinBounds (globals : Globals) (t : TracksOf) (room : ℕ) : Type 0 where
  pub some : 1 ≤ length t.tracks
  pub few : length t.tracks ≤ 16
  pub in_range : IsTrue (are_globals (length t.tracks) globals)
  pub faces : length t.tracks ≤ room
