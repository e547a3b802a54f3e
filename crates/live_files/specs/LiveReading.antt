-- The files of a live session are read in this order: the session's text and its WAV files by index
-- where a session is named, and then the bindings where their file is named, for as many loops as
-- the settings have. Where no session is named the settings are those of empty loops at the rate,
-- and no list is given.
-- The first bad file is the first by this order that is missing or not in its form. The chunks that
-- the lists need are judged behind all files.
-- "The files of a live session" in docs/formats.md.
use Rattle.std.specs.Prelude.{◌≤◌, ◌<◌, ℕ, List, Option, length}
use Rattle.sl_base.specs.Sounds.{Sound}
use Rattle.sl_commands.specs.Settings.{LooperSettings}
use Rattle.sl_ports.specs.Files.{Files}
use Rattle.midi_bindings.specs.declared.binding.Binding.{Binding}
use Rattle.run_files.specs.AllFiles.{Begins, IsBadBeginning}
use Rattle.run_files.specs.RunLimits.{chunks_for}
use Rattle.live_files.specs.LiveNamed.{LiveNamed}
use Rattle.live_files.specs.BoundFile.{Binds, IsBadBound}

-- what the files of a live session tell
pub record LiveContents : Type 0 where
  pub settings : LooperSettings
  pub lists : List (List Sound)
  pub bindings : List Binding

-- all files are good, and this is what they tell
pub record HoldsLive (files : Option Files) (n : LiveNamed) (t : LiveContents) : Type 0 where
  pub begins : Begins files n.session n.rate n.loops t.settings t.lists
  pub binds : Binds files n.bind (length t.settings.strips) t.bindings

-- all files are good, and there are chunks enough
pub record IsLiveOf (files : Option Files) (n : LiveNamed) (t : LiveContents) : Type 0 where
  pub holds : HoldsLive files n t
  pub within : chunks_for t.lists ≤ n.chunks

-- all files are good, and there are too few chunks
pub record ExceedsLive (files : Option Files) (n : LiveNamed) : Type 0 where
  pub contents : LiveContents
  pub holds : HoldsLive files n contents
  pub beyond : n.chunks < chunks_for contents.lists

-- the first bad file of a live session: all before it are good
pub data FirstBadLive (files : Option Files) (n : LiveNamed) (name : List ℕ)
    (kind line : ℕ) : Type 0 where
  bad_session : IsBadBeginning files n.session name kind line → FirstBadLive files n name kind line
  bad_bindings : (settings : LooperSettings) (lists : List (List Sound)) →
      Begins files n.session n.rate n.loops settings lists →
      IsBadBound files n.bind (length settings.strips) name kind line →
      FirstBadLive files n name kind line
