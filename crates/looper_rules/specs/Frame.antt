-- One frame of the looper: the entries of the frame apply in order; then all faces are taken, and
-- in index order each verb that waits, and has a boundary by these faces, stops waiting and acts;
-- then in index order each loop's gain moves toward wet, and the loop has its frame; then the dry
-- gain moves toward dry, and the output is the clamped sum.
-- "One frame of the looper" in docs/rules.md.
use Rattle.std.specs.Prelude.{ℕ, List, map, if◌then◌else◌}
use Rattle.sl_base.specs.Sounds.{Sound, scaled_sound}
use Rattle.sl_commands.specs.declared.Face.{Face}
use Rattle.sl_commands.specs.declared.Globals.{Globals}
use Rattle.looper_rules.specs.Loop.{Loop}
use Rattle.looper_rules.specs.Presses.{waiting_acts}
use Rattle.looper_rules.specs.Boundaries.{is_boundary}
use Rattle.looper_rules.specs.Gains.{gain_after, output_of}
use Rattle.looper_rules.specs.LoopFrame.{ready, heard, after}
use Rattle.looper_rules.specs.Looper.{Track, Looper, faces_of, free_of, swept, itself, on_loop}

-- the loop after the boundary of a frame, by all faces
abbrev pub at_boundary : Globals → ℕ → List Face → ℕ → Loop Sound → Loop Sound
at_boundary g frame faces reach l =
    if is_boundary g.sync_source l.controls.quantize g.pulse frame faces
    then waiting_acts reach l
    else l

-- the looper after the boundaries of a frame
abbrev pub at_boundaries : ℕ → Looper → Looper
at_boundaries frame l =
    record l {
      tracks = swept itself (on_loop (at_boundary l.globals frame (faces_of l)))
          (free_of l.chunks l.tracks) l.tracks;
    }

-- what a track gives to the sum, and the track after the frame
pub record Played : Type 0 where
  pub given : Sound
  pub track : Track

abbrev pub given_by : Played → Sound
given_by p = p.given

abbrev pub played_on : Played → Track
played_on p = p.track

-- one frame of a track, for which its loop is ready
abbrev pub played_ready : Sound → ℕ → ℕ → Loop Sound → Track → Played
played_ready x gain reach l t =
    record {
      given = scaled_sound (heard l) gain;
      track = record t { loop = after x reach l; gain = gain };
    }

-- one frame of a track with this fade step and input
abbrev pub played : ℕ → Sound → ℕ → Track → Played
played step x reach t =
    played_ready x (gain_after t.gain t.loop.controls.wet step) reach (ready x reach t.loop) t

-- one frame of all tracks
abbrev pub all_played : Sound → Looper → List Played
all_played x l = swept played_on (played l.globals.fade_step x) (free_of l.chunks l.tracks) l.tracks

-- what a frame puts out, and the looper after it
pub record Framed : Type 0 where
  pub output : Sound
  pub looper : Looper

-- one frame whose loops were played
abbrev pub framed_with : Sound → List Played → ℕ → Looper → Framed
framed_with x all dry l =
    record {
      output = output_of x dry (map given_by all);
      looper = record l { dry = dry; tracks = map played_on all };
    }

-- one frame whose boundaries were met
abbrev pub framed_from : Sound → Looper → Framed
framed_from x l = framed_with x (all_played x l)
    (gain_after l.dry l.globals.dry l.globals.fade_step) l

-- one frame whose entries were applied
abbrev pub framed : ℕ → Sound → Looper → Framed
framed frame x l = framed_from x (at_boundaries frame l)
