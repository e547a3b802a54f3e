-- A track here is a strip with its gain and, while a save pins it, who asked for that save: with
-- the pool it is a track of the rules. The tracks of a looper stand over one pool, and no two of
-- them have a chunk in common. A call on one track leaves every other as it was, and free chunks
-- and those of all tracks are together as many as before.
-- "The looper" in docs/rules.md.
use Rattle.std.specs.Prelude.{◌≡◌, ℕ, ◌+◌, ⊤, List, [], ◌∷◌, map, length, Option}
use Rattle.std.specs.List.{AllByRecursion}
use Rattle.looper_rules.specs.Room.{used}
use Rattle.looper_rules.specs.Looper.{Asker, Track, tape_of}
use Rattle.loop_tape.specs.Pools.{PoolOf}
use Rattle.loop_strip.specs.Strips.{StripOf, seen, free_in, reach_in, Owns, Apart, OthersStay}

-- what a track is seen as without its pool
pub record TrackOf : Type 0 where
  pub strip : StripOf
  pub gain : ℕ
  pub asker : Option Asker

-- the rules' track that this is with this pool
abbrev pub track_in : PoolOf → TrackOf → Track
track_in p l = record { loop = seen l.strip p; gain = l.gain; asker = l.asker }

-- the rules' tracks that these are with this pool
abbrev pub tracks_in : PoolOf → List TrackOf → List Track
tracks_in p ls = map (track_in p) ls

-- the track's chunks are the pool's
pub record OwnsTrack (p : PoolOf) (l : TrackOf) : Type 0 where
  pub owns : Owns l.strip p

-- no chunk is of both tracks
pub record TracksApart (l u : TrackOf) : Type 0 where
  pub apart : Apart u.strip l.strip

-- no two of these tracks have a chunk in common
abbrev pub AreApart : List TrackOf → Type 0
AreApart [] = ⊤
AreApart (l ∷ ls) = AllByRecursion (TracksApart l) ls × AreApart ls

-- tracks over one pool
pub record AreIn (p : PoolOf) (ls : List TrackOf) : Type 0 where
  pub own : AllByRecursion (OwnsTrack p) ls
  pub apart : AreApart ls

-- a call did this to a track
pub record DidTrack (act : ℕ → Track → Track) (l l' : TrackOf) (p p' : PoolOf) : Type 0 where
  pub track : track_in p' l' ≡ act (reach_in l.strip p) (track_in p l)
  pub owns : Owns l'.strip p'
  pub reach : reach_in l'.strip p' ≡ reach_in l.strip p
  pub others : OthersStay l.strip l'.strip p p'

-- the same of a call that takes no pool
abbrev pub DidTrackAlone : (ℕ → Track → Track) → TrackOf → TrackOf → Type 0
DidTrackAlone act l l' = (p : PoolOf) → Owns l.strip p → DidTrack act l l' p p

-- the free chunks and those of all tracks
abbrev pub all_in : PoolOf → List TrackOf → ℕ
all_in p ls = free_in p + used (map tape_of (tracks_in p ls))

-- calls did this to all tracks, where so many chunks were free
pub record DidAll (act : ℕ → List Track → List Track) (ls ls' : List TrackOf) (p p' : PoolOf) : Type
    0 where
  pub tracks : tracks_in p' ls' ≡ act (free_in p) (tracks_in p ls)
  pub inside : AreIn p' ls'
  pub chunks : all_in p' ls' ≡ all_in p ls
  pub count : length ls' ≡ length ls
