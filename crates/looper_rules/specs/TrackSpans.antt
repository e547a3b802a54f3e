-- A span of frames may be played one loop after another: boundaries at its first frame alone, then
-- each track over the whole span with the chunks that it reaches, and the sums frame by frame. It
-- is what the frames give one by one where no boundary acts behind the first, and no loop takes a
-- chunk there or depends on what it reaches.
-- "One frame of the looper" in docs/rules.md.
use Rattle.std.specs.Prelude.{◌≡◌, ℕ, ◌+◌, ⊤, List, [], ◌∷◌, map, length, replicate}
use Rattle.sl_base.specs.Sounds.{Sound, silence, clamped_sound}
use Rattle.looper_rules.specs.Looper.{Track, Looper, free_of, swept}
use Rattle.looper_rules.specs.GainSpans.{gain_over, scaled_over, added, added_all}
use Rattle.looper_rules.specs.Frame.{played, at_boundaries, framed_from}

-- a track behind some frames
abbrev pub track_over : ℕ → List Sound → ℕ → Track → Track
track_over step [] reach t = t
track_over step (x ∷ xs) reach t = track_over step xs reach (played step x reach t).track

-- what a track gives to the sums of some frames
abbrev pub given_over : ℕ → List Sound → ℕ → Track → List Sound
given_over step [] reach t = []
given_over step (x ∷ xs) reach t =
    let now = played step x reach t
    in now.given ∷ given_over step xs reach now.track

-- what a track gives over some frames, and the track behind them
pub record PlayedOver : Type 0 where
  pub given : List Sound
  pub track : Track

abbrev pub given_of : PlayedOver → List Sound
given_of p = p.given

abbrev pub track_of : PlayedOver → Track
track_of p = p.track

-- some frames of a track
abbrev pub played_over : ℕ → List Sound → ℕ → Track → PlayedOver
played_over step xs reach t =
    record { given = given_over step xs reach t; track = track_over step xs reach t }

-- some frames of all tracks, one track after another
abbrev pub all_over : ℕ → List Sound → ℕ → List Track → List PlayedOver
all_over step xs free ts = swept track_of (played_over step xs) free ts

-- what a span puts out, and the looper behind it
pub record Spanned : Type 0 where
  pub output : List Sound
  pub looper : Looper

-- the sums of a span
abbrev pub sums_of : List Sound → List PlayedOver → List Sound
sums_of xs all = added_all (replicate (length xs) silence) (map given_of all)

-- a span whose tracks were played
abbrev pub spanned_with : List Sound → List PlayedOver → Looper → Spanned
spanned_with xs all l =
    record {
      output = map clamped_sound
          (added (sums_of xs all) (scaled_over l.globals.dry l.globals.fade_step xs l.dry));
      looper = record l {
        dry = gain_over l.globals.dry l.globals.fade_step xs l.dry;
        tracks = map track_of all;
      };
    }

-- a span whose boundaries were met
abbrev pub spanned_from : List Sound → Looper → Spanned
spanned_from xs l =
    spanned_with xs (all_over l.globals.fade_step xs (free_of l.chunks l.tracks) l.tracks) l

-- a span of which the first frame has this number
abbrev pub spanned : ℕ → List Sound → Looper → Spanned
spanned frame xs l = spanned_from xs (at_boundaries frame l)

-- no boundary acts at these frames
abbrev pub IsCalm : ℕ → List Sound → Looper → Type 0
IsCalm frame [] l = ⊤
IsCalm frame (x ∷ xs) l = (at_boundaries frame l ≡ l)
    × IsCalm (frame + 1) xs (framed_from x l).looper
