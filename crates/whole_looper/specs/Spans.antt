-- Frames are played span by span. In a span no boundary acts behind the first frame, and no loop
-- takes a chunk there or depends on what it reaches: so the span may be played one loop after
-- another.
-- "One frame of the looper" in docs/rules.md.
use Rattle.std.specs.Prelude.{◌≡◌, ℕ, ◌+◌, List, [], ◌∷◌, length}
use Rattle.std.specs.List.{AllByRecursion}
use Rattle.sl_base.specs.Sounds.{Sound}
use Rattle.looper_rules.specs.Looper.{Looper}
use Rattle.looper_rules.specs.Frame.{framed_from}
use Rattle.looper_rules.specs.TrackSpans.{IsCalm, spanned_from}
use Rattle.looper_rules.specs.Run.{begun}
use Rattle.looper_laws.specs.Spans.{IsQuietBehindFor}
use Rattle.sl_commands.specs.declared.Globals.{Globals}
use Rattle.looper_tracks.specs.Tracks.{TracksOf}
use Rattle.whole_looper.specs.Loopers.{looper_of}

-- frames that may be played one loop after another, the boundaries of the first being met
pub record IsSpan (frame : ℕ) (xs : List Sound) (l : Looper) : Type 0 where
  pub quiet : AllByRecursion (IsQuietBehindFor xs) l.tracks
  pub calm : (x : Sound) (rest : List Sound) → xs ≡ x ∷ rest →
      IsCalm (frame + 1) rest (framed_from x l).looper

-- these frames, with no entry among them, gave this output and led from one looper to another
pub record HasBegun (frame : ℕ) (xs out : List Sound) (l l' : Looper) : Type 0 where
  pub is : begun frame [] xs l
      ≡ record { output = out; replies = []; saves = []; left = []; looper = l' }

-- the parts of a looper before and after a span whose boundaries were met: whatever the rate and
-- the number of saves are
pub record DidSpan (g : Globals) (xs out : List Sound) (dry dry' : ℕ) (t t' : TracksOf) : Type 0
  where
    pub gave : (rate saves : ℕ) →
        spanned_from xs (looper_of rate g dry saves t)
        ≡ record { output = out; looper = looper_of rate g dry' saves t' }
    pub count : length t'.tracks ≡ length t.tracks
