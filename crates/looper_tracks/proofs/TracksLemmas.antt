-- What was done to all tracks of a pool was done to the rules' tracks that they are.
use Rattle.std.proofs.Common.{◌≡◌, ℕ, List, sym, ap, ◌∙◌, arith}
use Rattle.std.proofs.lemmas.List.{length-map}
use Rattle.looper_rules.specs.Looper.{Track}
use Rattle.loop_tape.specs.Pools.{PoolOf}
use Rattle.loop_strip.specs.Strips.{free_in}
use Rattle.looper_tracks.specs.Track.{TrackOf, tracks_in, DidAll}
use Rattle.looper_tracks.specs.Tracks.{tracks_of, free_among, DidTracks}

-- the free chunks of the tracks are those of the pool
pub free_is : (p : PoolOf) (ls : List TrackOf) → free_among (tracks_of p ls) ≡ free_in p
free_is p ls = omega arith
