-- How all loops begin: each track with no list, over a pool of which every chunk is free, and then
-- each list on its tape.
-- "The run" in docs/rules.md.
use Rattle.std.specs.Prelude.{◌≡◌, ◌≤◌, ℕ, true, List, [], length, None}
use Rattle.sl_base.specs.Sounds.{Sound}
use Rattle.sl_commands.specs.declared.StripSettings.{StripSettings}
use Rattle.sl_commands.specs.Settings.{is_strip}
use Rattle.looper_rules.specs.Room.{chunks_of}
use Rattle.looper_rules.specs.Run.{first_loop, first_tracks}
use Rattle.loop_tape.specs.Pools.{PoolOf}
use Rattle.loop_strip.specs.Strips.{free_in, Owns}
use Rattle.looper_tracks.specs.Track.{TrackOf, tracks_in, AreIn, all_in}

-- a track of no list, with room for a tape of so many chunks
abbrev pub new_track : ℕ → StripSettings → TrackOf
new_track chunks s =
    record {
      strip = record {
        loop = first_loop [] s;
        tape = record { chunks = []; len = 0; room = chunks };
      };
      gain = s.wet;
      asker = None;
    }

-- a new track may begin with this list, as its settings say, and there are chunks for it
pub record MayLoad (s : StripSettings) (list : List Sound) (all : ℕ) (l : TrackOf)
    (p : PoolOf) : Type 0 where
  pub track : l ≡ new_track all s
  pub owns : Owns l.strip p
  pub valid : is_strip s ≡ true
  pub long : s.length ≡ length list
  pub room : chunks_of (length list) ≤ free_in p

-- these lists stand on the tracks, over a pool of so many chunks
pub record HaveLoaded (strips : List StripSettings) (lists : List (List Sound)) (all : ℕ)
    (ls : List TrackOf) (p : PoolOf) : Type 0 where
  pub tracks : tracks_in p ls ≡ first_tracks strips lists
  pub inside : AreIn p ls
  pub chunks : all_in p ls ≡ all
  pub count : length ls ≡ length strips
