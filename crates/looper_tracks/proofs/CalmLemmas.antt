-- Frames behind which no boundary comes.
use Rattle.std.proofs.Common.{◌≡◌, ℕ, ◌+◌, ◌-◌, ◌<◌, ◌≤◌, ◌⊎◌, inl, inr, false, List, [], ◌∷◌, length, take, get_or, None, arith}
use Rattle.std.specs.List.{AllByRecursion}
use Rattle.sl_commands.specs.declared.Face.{Face}
use Rattle.sl_commands.specs.declared.Globals.{Globals}
use Rattle.looper_rules.specs.Looper.{Track}
use Rattle.looper_rules.specs.FacesLater.{is_boundary_behind}
use Rattle.looper_laws.specs.Spans.{NoBoundaryWithin, IsClearFor}
use Rattle.loop_tape.specs.Pools.{PoolOf}
use Rattle.looper_tracks.specs.Track.{TrackOf, track_in, tracks_in}
use Rattle.looper_tracks.proofs.ReadLemmas.{all_more}

-- fewer frames are as clear
no_boundary_fewer : (g : Globals) (frame : ℕ) (faces : List Face) (count fewer quantize : ℕ) →
    fewer ≤ count → NoBoundaryWithin g frame faces count quantize →
    NoBoundaryWithin g frame faces fewer quantize
no_boundary_fewer g frame faces count fewer quantize le clear n some within =
    clear n some (omega arith)

clear_either : (g : Globals) (frame : ℕ) (faces : List Face) (count fewer quantize : ℕ)
    (W : Type 0) → fewer ≤ count →
    W ⊎ NoBoundaryWithin g frame faces count quantize →
    W ⊎ NoBoundaryWithin g frame faces fewer quantize
clear_either g frame faces count fewer quantize W le (inl none) = inl none
clear_either g frame faces count fewer quantize W le (inr clear) =
    inr (no_boundary_fewer g frame faces count fewer quantize le clear)

-- what is clear for some frames is clear for fewer
pub clear_fewer : (g : Globals) (frame : ℕ) (faces : List Face) (count fewer : ℕ) (t : Track) →
    fewer ≤ count → IsClearFor g frame faces count t → IsClearFor g frame faces fewer t
clear_fewer g frame faces count fewer t le c =
    record {
      clear =
          clear_either g frame faces count fewer t.loop.controls.quantize
          (t.loop.deck.waiting ≡ None) le
          c.clear;
    }

-- and so for all tracks
pub clear_fewer_all : (g : Globals) (frame : ℕ) (faces : List Face) (count fewer : ℕ)
    (ts : List Track) → fewer ≤ count → AllByRecursion (IsClearFor g frame faces count) ts →
    AllByRecursion (IsClearFor g frame faces fewer) ts
clear_fewer_all g frame faces count fewer [] le all = tt
clear_fewer_all g frame faces count fewer (t ∷ ts) le all = (
  clear_fewer g frame faces count fewer t le all.0,
  clear_fewer_all g frame faces count fewer ts le all.1,
)

-- one track more
pub clear_more : (g : Globals) (frame : ℕ) (faces : List Face) (n q m k : ℕ) (ls : List TrackOf)
    (l : TrackOf) (p : PoolOf) → k < length ls → l ≡ get_or ls k l → m ≤ n → m ≤ q →
    AllByRecursion (IsClearFor g frame faces (n - 1)) (tracks_in p (take k ls)) →
    IsClearFor g frame faces (q - 1) (track_in p l) →
    AllByRecursion (IsClearFor g frame faces (m - 1)) (tracks_in p (take (k + 1) ls))
clear_more g frame faces n q m k ls l p less is by_n by_q all here =
    let all' =
    clear_fewer_all g frame faces (n - 1) (m - 1) (tracks_in p (take k ls)) (omega arith) all
    in let here' = clear_fewer g frame faces (q - 1) (m - 1) (track_in p l) (omega arith) here
    in all_more (IsClearFor g frame faces (m - 1)) k ls l p less is all' here'
