-- A span of frames is quiet behind its first frame where no loop takes a chunk there or depends on
-- what it reaches. It is calm there where no boundary acts: because no verb waits, or because the
-- source of boundaries keeps time and no boundary comes by the faces of the span's beginning.
-- A loop keeps time in Playing, Muted and OneShot, and where its cycle is at least 1 also in
-- Overdubbing, Replacing and Substituting: whatever comes in, it goes on by one place at each
-- frame. A frame that is written takes the place of another, and where it doesn't fit the layer
-- closes, which leaves place, direction, length and such a cycle.
-- "One frame of the looper" and "Boundaries" in docs/rules.md.
use Rattle.std.specs.Prelude.{◌≡◌, ◌≤◌, ◌⊎◌, ⊤, ℕ, suc, ℤ, pos, Bool, true, false, IsTrue, List, [], None, IfSome, slice_get, nat_le}
use Rattle.sl_base.specs.Sounds.{Sound}
use Rattle.sl_commands.specs.declared.Mode.{Mode}
use Rattle.sl_commands.specs.declared.Mode.TheVariants.{Playing, Overdubbing, Replacing, Muted, OneShot, Substituting}
use Rattle.sl_commands.specs.declared.Face.{Face}
use Rattle.sl_commands.specs.declared.Globals.{Globals}
use Rattle.looper_rules.specs.LoopSpans.{AreQuiet, AreQuietBehind}
use Rattle.looper_rules.specs.FacesLater.{is_boundary_behind}
use Rattle.looper_rules.specs.Looper.{Track}
use Rattle.looper_rules.specs.TrackSpans.{Spanned}
use Rattle.looper_rules.specs.Run.{RunSoFar}

-- these frames are quiet for a track
pub record IsQuietFor (xs : List Sound) (t : Track) : Type 0 where
  pub quiet : AreQuiet xs t.loop

-- these frames are quiet for a track behind the first, whatever it reaches
pub record IsQuietBehindFor (xs : List Sound) (t : Track) : Type 0 where
  pub quiet : (reach : ℕ) → AreQuietBehind xs reach t.loop

-- no verb waits on a track
pub record NoVerbWaits (t : Track) : Type 0 where
  pub waiting : t.loop.deck.waiting ≡ None

-- whether a loop in this mode, of this cycle, keeps time
abbrev pub keeps_time_in : Mode → ℕ → Bool
keeps_time_in Playing cycle = true
keeps_time_in Muted cycle = true
keeps_time_in OneShot cycle = true
keeps_time_in Overdubbing cycle = nat_le 1 cycle
keeps_time_in Replacing cycle = nat_le 1 cycle
keeps_time_in Substituting cycle = nat_le 1 cycle
keeps_time_in _ cycle = false

-- whether a loop with this face keeps time
abbrev pub keeps_time : Face → Bool
keeps_time face = keeps_time_in face.mode face.cycle

-- the source of boundaries keeps time, where it is a loop
abbrev pub KeepsTime : ℤ → List Face → Type 0
KeepsTime (pos (suc k)) faces = IfSome (slice_get faces k) (λ face. IsTrue (keeps_time face))
KeepsTime _ faces = ⊤

-- no boundary comes for this quantize in so many frames behind this one
abbrev pub NoBoundaryWithin : Globals → ℕ → List Face → ℕ → ℕ → Type 0
NoBoundaryWithin g frame faces count quantize =
    (frames : ℕ) → 1 ≤ frames → frames ≤ count →
    is_boundary_behind g.sync_source quantize g.pulse frame faces frames ≡ false

-- no verb waits on a track, or no boundary comes for it
pub record IsClearFor (g : Globals) (frame : ℕ) (faces : List Face) (count : ℕ)
    (t : Track) : Type 0 where
  pub clear : (t.loop.deck.waiting ≡ None)
      ⊎ NoBoundaryWithin g frame faces count t.loop.controls.quantize

-- what a span gives and leaves, as what frames do with no entry among them
abbrev pub as_frames : Spanned → RunSoFar
as_frames s =
    record {
      output = s.output;
      replies = [];
      saves = [];
      left = [];
      looper = s.looper;
    }
