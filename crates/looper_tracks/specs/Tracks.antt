-- All tracks over one pool, and how many chunks it has. Calls that do something to some tracks
-- leave the chunks as many.
-- "The looper" and "Room" in docs/rules.md.
use Rattle.std.specs.Prelude.{◌≡◌, ℕ, ⊤, false, List, [], length, Option, Some, None, slice_get}
use Rattle.sl_base.specs.Sounds.{Sound}
use Rattle.looper_rules.specs.Stack.{pinned_list}
use Rattle.looper_rules.specs.Looper.{Track, free_of}
use Rattle.looper_rules.specs.Pins.{pin_on}
use Rattle.looper_rules.specs.Saves.{is_pinned}
use Rattle.loop_tape.specs.Pools.{PoolOf}
use Rattle.looper_tracks.specs.Track.{TrackOf, tracks_in, all_in}

-- what all tracks are seen as
pub record TracksOf : Type 0 where
  pub chunks : ℕ
  pub tracks : List Track

-- all tracks over this pool
abbrev pub tracks_of : PoolOf → List TrackOf → TracksOf
tracks_of p ls = record { chunks = all_in p ls; tracks = tracks_in p ls }

-- the free chunks
abbrev pub free_among : TracksOf → ℕ
free_among t = free_of t.chunks t.tracks

-- something was done to the tracks, where so many chunks were free
pub record DidTracks (act : ℕ → List Track → List Track) (t t' : TracksOf) : Type 0 where
  pub tracks : t'.tracks ≡ act (free_among t) t.tracks
  pub chunks : t'.chunks ≡ t.chunks
  pub count : length t'.tracks ≡ length t.tracks

-- how often something was refused to a track's loop
abbrev pub refused_on : Track → ℕ
refused_on t = t.loop.refused

-- the list that the pin of a track holds, empty without one
abbrev pub held_on : Option Track → List Sound
held_on None = []
held_on (Some t) = pinned_list (pin_on t)

-- no pin stands on the track of this index, where there is one
abbrev pub IsFreeOn : Option Track → Type 0
IsFreeOn None = ⊤
IsFreeOn (Some t) = is_pinned t.loop ≡ false

abbrev pub IsFreeAt : ℕ → List Track → Type 0
IsFreeAt k ts = IsFreeOn (slice_get ts k)
