-- A track keeps what it has to keep where something is done to its loop, and all tracks do so in a
-- sweep.
use Rattle.std.proofs.Common.{◌≡◌, ℕ, zero, suc, ◌+◌, ◌-◌, ◌≤◌, min, max, List, [], ◌∷◌, length, map, Option, Some, None, is_some, refl, sym, ap, subst, arith, nat_le, leb-true}
use Rattle.std.proofs.lemmas.Bool.{cond_both, and_parts}
use Rattle.std.proofs.lemmas.List.Sums.{sum_by-cons}
use Rattle.std.specs.List.{AllByRecursion}
use Rattle.sl_base.specs.Sounds.{Sound}
use Rattle.sl_commands.specs.declared.Face.{Face}
use Rattle.sl_commands.specs.declared.Globals.{Globals}
use Rattle.sl_commands.specs.declared.Held.{Held}
use Rattle.looper_rules.specs.Room.{chunks_of, used}
use Rattle.looper_rules.specs.Loop.{Controls, Loop}
use Rattle.looper_rules.specs.Presses.{waiting_acts}
use Rattle.looper_rules.specs.Boundaries.{is_boundary}
use Rattle.looper_rules.specs.Gains.{gain_after}
use Rattle.looper_rules.specs.Looper.{Track, tape_of, reach_of, swept, at_index, on_loop}
use Rattle.looper_rules.specs.Frame.{at_boundary, played_on, played}
use Rattle.looper_rules.specs.Values.{AreControls}
use Rattle.looper_rules.specs.States.{IsPressBefore, IsTrack}
use Rattle.looper_rules.specs.Reached.{Unchanged, Keeps, KeepsLoops}
use Rattle.looper_laws.proofs.Kept.Presses.{waiting_acts_keeps}
use Rattle.looper_laws.proofs.Kept.LoopFrame.{framed_keeps}

-- what verbs and frames leave unchanged of a track that reaches so many chunks: a pin stands where
-- someone asked for a save
abbrev pub unchanged_of : ℕ → Track → Unchanged
unchanged_of reach t = record {
  reach = reach;
  pinned = is_some t.asker;
  controls = t.loop.controls;
  press = t.loop.deck.press;
}

-- what a track keeps that reaches so many chunks, when so many frames are done
pub record KeepsTrack (reach frame : ℕ) (t : Track) : Type 0 where
  pub track : IsTrack frame t
  pub within : chunks_of (tape_of t) ≤ reach

-- a loop keeps what it has, whatever was left unchanged, with its own controls and press and
-- another reach
pub own :
    {A : Type 0} {a : Unchanged} {l : Loop A} (reach : ℕ) → Keeps a l →
    chunks_of l.stack.tape ≤ reach →
    Keeps (record { reach = reach; pinned = a.pinned; controls = l.controls; press = l.deck.press })
    l
own reach h within =
    record { loop = h.loop; reach = within; pinned = h.pinned; controls = refl; press = refl }

-- a track whose loop keeps its own
pub track_of_loop :
    {reach frame : ℕ} {t : Track} → Keeps (unchanged_of reach t) t.loop →
    AreControls t.loop.controls → t.gain ≤ 1000 →
    IsPressBefore frame t.loop.deck.press → KeepsTrack reach frame t
track_of_loop k controls gain press =
    record {
      track = record {
        loop = k.loop;
        controls = controls;
        gain = gain;
        press =
            press;
        asker = sym k.pinned;
      };
      within = k.reach;
    }

-- and the loop of such a track
pub loop_of_track : {reach frame : ℕ} {t : Track} → KeepsTrack reach frame t →
    Keeps (unchanged_of reach t) t.loop
loop_of_track h = record {
  loop = h.track.loop;
  reach = h.within;
  pinned = sym h.track.asker;
  controls = refl;
  press = refl;
}

-- a track that reaches other chunks
pub reaching : {reach frame : ℕ} {t : Track} (other : ℕ) → KeepsTrack reach frame t →
    chunks_of (tape_of t) ≤ other → KeepsTrack other frame t
reaching other h within = record { track = h.track; within = within }

-- a track whose loop keeps what was left unchanged
pub track_keeps :
    {reach frame : ℕ} {t : Track} {l : Loop Sound} (gain : ℕ) → KeepsTrack reach frame t →
    gain ≤ 1000 →
    Keeps (unchanged_of reach t) l → KeepsTrack reach frame (record t { loop = l; gain = gain })
track_keeps {reach = reach} {frame = frame} gain h within k =
    track_of_loop (own reach k k.reach)
    (subst (λ c. AreControls c) (sym k.controls) h.track.controls) within
    (subst (λ p. IsPressBefore frame p) (sym k.press) h.track.press)

-- what is done to each track keeps it
abbrev pub KeepsTracks : ℕ → (ℕ → Track → Track) → Type 0
KeepsTracks frame act = (reach : ℕ) (t : Track) → KeepsTrack reach frame t →
    KeepsTrack reach frame (act reach t)

pub on_loop_keeps : (frame : ℕ) (act : ℕ → Loop Sound → Loop Sound) → KeepsLoops act →
    KeepsTracks frame (on_loop act)
on_loop_keeps frame act keeps reach t h =
    track_keeps t.gain h h.track.gain (keeps (unchanged_of reach t) t.loop (loop_of_track h))

-- one track more uses its chunks more
pub used-cons : (t : Track) (ts : List Track) →
    used (map tape_of (t ∷ ts)) ≡ chunks_of (tape_of t) + used (map tape_of ts)
used-cons t ts = sum_by-cons chunks_of (tape_of t) (map tape_of ts)

-- the tracks after something keeps them all, and uses no more than was free or used
pub record AreKept (chunks frame most : ℕ) (before after : List Track) : Type 0 where
  pub tracks : AllByRecursion (KeepsTrack chunks frame) after
  pub used_chunks : used (map tape_of after) ≤ most
  pub same_count : length after ≡ length before

-- a sweep
pub swept_keeps :
    {B : Type 0} (track_of : B → Track) (act : ℕ → Track → B) (chunks frame free : ℕ)
    (ts : List Track) →
    KeepsTracks frame (λ reach t. track_of (act reach t)) →
    AllByRecursion (KeepsTrack chunks frame) ts → free + used (map tape_of ts) ≤ chunks →
    AreKept chunks frame (free + used (map tape_of ts)) ts
    (map track_of (swept track_of act free ts))
swept_keeps track_of act chunks frame free [] keeps h within =
    record { tracks = tt; used_chunks = omega arith; same_count = refl }
swept_keeps track_of act chunks frame free (t ∷ ts) keeps h within =
    let reach : ℕ = reach_of free t
    in let now : Track = track_of (act (reach_of free t) t)
    in let uses : used (map tape_of (t ∷ ts)) ≡ chunks_of (tape_of t) + used (map tape_of ts) =
    used-cons t ts
    in let kept : KeepsTrack (reach_of free t) frame (track_of (act (reach_of free t) t)) =
    keeps (reach_of free t) t (reaching (reach_of free t) h.0 (omega arith))
    in let at_most : chunks_of (tape_of (track_of (act (reach_of free t) t))) ≤ reach_of free t =
    kept.within
    in let rest = swept_keeps track_of act chunks frame
    (reach_of free t - chunks_of (tape_of (track_of (act (reach_of free t) t)))) ts keeps h.1
    (omega arith)
    in let those : used
    (map tape_of (map track_of
    (swept track_of act
    (reach_of free t - chunks_of (tape_of (track_of (act (reach_of free t) t)))) ts)))
    ≤ (reach_of free t - chunks_of (tape_of (track_of (act (reach_of free t) t))))
    + used (map tape_of ts) = rest.used_chunks
    in let all = used-cons (track_of (act (reach_of free t) t))
    (map track_of (swept track_of act
    (reach_of free t - chunks_of (tape_of (track_of (act (reach_of free t) t)))) ts))
    in record {
      tracks = (reaching chunks kept (omega arith), rest.tracks);
      used_chunks = omega arith;
      same_count = ap suc rest.same_count;
    }

-- one track alone
pub at_index_keeps :
    (k : ℕ) (act : ℕ → Track → Track) (chunks frame free : ℕ) (ts : List Track) →
    KeepsTracks frame act → AllByRecursion (KeepsTrack chunks frame) ts →
    free + used (map tape_of ts) ≤ chunks →
    AreKept chunks frame (free + used (map tape_of ts)) ts (at_index k act free ts)
at_index_keeps k act chunks frame free [] keeps h within =
    record { tracks = tt; used_chunks = omega arith; same_count = refl }
at_index_keeps zero act chunks frame free (t ∷ ts) keeps h within =
    let before = used-cons t ts
    in let kept : KeepsTrack (reach_of free t) frame (act (reach_of free t) t) =
    keeps (reach_of free t) t (reaching (reach_of free t) h.0 (omega arith))
    in let at_most : chunks_of (tape_of (act (reach_of free t) t)) ≤ reach_of free t = kept.within
    in let now = used-cons (act (reach_of free t) t) ts
    in record {
      tracks = (reaching chunks kept (omega arith), h.1);
      used_chunks = omega arith;
      same_count = refl;
    }
at_index_keeps (suc k) act chunks frame free (t ∷ ts) keeps h within =
    let before = used-cons t ts
    in let rest = at_index_keeps k act chunks frame free ts keeps h.1 (omega arith)
    in let at_most : used (map tape_of (at_index k act free ts)) ≤ free + used (map tape_of ts) =
    rest.used_chunks
    in let now = used-cons t (at_index k act free ts)
    in record {
      tracks = (h.0, rest.tracks);
      used_chunks = omega arith;
      same_count =
          ap suc rest.same_count;
    }

-- each track, with nothing of another's tape
pub mapped_keeps :
    (act : Track → Track) (chunks frame : ℕ) (ts : List Track) →
    KeepsTracks frame (λ reach t. act t) → ((t : Track) → tape_of (act t) ≡ tape_of t) →
    AllByRecursion (KeepsTrack chunks frame) ts →
    AreKept chunks frame (used (map tape_of ts)) ts (map act ts)
mapped_keeps act chunks frame [] keeps same h =
    record { tracks = tt; used_chunks = omega arith; same_count = refl }
mapped_keeps act chunks frame (t ∷ ts) keeps same h =
    let rest = mapped_keeps act chunks frame ts keeps same h.1
    in let before = used-cons t ts
    in let now = used-cons (act t) (map act ts)
    in let at_most : used (map tape_of (map act ts)) ≤ used (map tape_of ts) = rest.used_chunks
    in let chunks_same : chunks_of (tape_of (act t)) ≡ chunks_of (tape_of t) = ap chunks_of (same t)
    in record {
      tracks = (keeps chunks t h.0, rest.tracks);
      used_chunks = omega arith;
      same_count =
          ap suc rest.same_count;
    }

-- a gain stays within 1000 on its way
pub gain_within : (gain target step : ℕ) → gain ≤ 1000 → target ≤ 1000 →
    gain_after gain target step ≤ 1000
gain_within gain target step from to =
    cond_both (nat_le gain target) (min target (gain + step)) (max target (gain - step))
    (λ g. g ≤ 1000) (λ up. omega arith) (λ down. omega arith)

-- wet is at most 1000
pub wet_within : (c : Controls) → AreControls c → c.wet ≤ 1000
wet_within c h = leb-true c.wet 1000 (and_parts (nat_le 0 c.wet) (nat_le c.wet 1000) h.wet).1

-- a frame of a track
pub played_keeps : (frame step : ℕ) (x : Sound) →
    KeepsTracks frame (λ reach t. played_on (played step x reach t))
played_keeps frame step x reach t h =
    track_keeps (gain_after t.gain t.loop.controls.wet step) h
    (gain_within t.gain t.loop.controls.wet step h.track.gain
    (wet_within t.loop.controls h.track.controls)) (framed_keeps x (loop_of_track h))

-- the boundary of a frame
pub at_boundary_keeps : (g : Globals) (frame : ℕ) (faces : List Face) →
    KeepsLoops (at_boundary g frame faces)
at_boundary_keeps g frame faces a l h =
    cond_both (is_boundary g.sync_source l.controls.quantize g.pulse frame faces)
    (waiting_acts a.reach l) l (λ r. Keeps a r) (λ now. waiting_acts_keeps a.reach h) (λ later. h)

-- a press that isn't later than one frame isn't later than the next
press_before_next : (frame : ℕ) (press : Option Held) → IsPressBefore frame press →
    IsPressBefore (frame + 1) press
press_before_next frame None h = tt
press_before_next frame (Some p) h = omega arith

-- when one frame more is done
pub one_frame_more :
    (frame : ℕ) (ts : List Track) → AllByRecursion (IsTrack frame) ts →
    AllByRecursion (IsTrack (frame + 1)) ts
one_frame_more frame [] h = tt
one_frame_more frame (t ∷ ts) h = (
  record {
    loop = h.0.loop;
    controls = h.0.controls;
    gain = h.0.gain;
    press =
        press_before_next frame t.loop.deck.press h.0.press;
    asker = h.0.asker;
  },
  one_frame_more frame ts h.1,
)

-- tracks that use at most the chunks reach them
pub in_reach :
    (chunks frame : ℕ) (ts : List Track) → AllByRecursion (IsTrack frame) ts →
    used (map tape_of ts) ≤ chunks →
    AllByRecursion (KeepsTrack chunks frame) ts
in_reach chunks frame [] h within = tt
in_reach chunks frame (t ∷ ts) h within =
    let uses = used-cons t ts
    in (record { track = h.0; within = (omega arith) }, in_reach chunks frame ts h.1 (omega arith))

-- and are tracks
pub are_tracks : (chunks frame : ℕ) (ts : List Track) →
    AllByRecursion (KeepsTrack chunks frame) ts → AllByRecursion (IsTrack frame) ts
are_tracks chunks frame [] h = tt
are_tracks chunks frame (t ∷ ts) h = (h.0.track, are_tracks chunks frame ts h.1)
