-- What a strip's call does to its track: frames by loop and gain, a verb, a control, a pin and its
-- release.
use Rattle.std.proofs.Common.{◌≡◌, ℕ, List, [], ◌∷◌, Bool, true, false, Option, Some, None, is_some, refl, sym, ap, ◌∙◌, subst}
use Rattle.sl_base.specs.Sounds.{Sound, scaled_sound}
use Rattle.looper_rules.specs.Loop.{Controls, Loop, with_stack}
use Rattle.looper_rules.specs.LoopFrame.{ready, heard, after}
use Rattle.looper_rules.specs.Looper.{Asker, Track, on_loop}
use Rattle.looper_rules.specs.Gains.{gain_after}
use Rattle.looper_rules.specs.GainSpans.{gain_over, scaled_over, added}
use Rattle.looper_rules.specs.Frame.{played}
use Rattle.looper_rules.specs.TrackSpans.{track_over, given_over}
use Rattle.looper_rules.specs.LoopSpans.{loop_over, loop_heard_over as heard_over}
use Rattle.looper_rules.specs.Saves.{pinned, unpinned, pinned_for, freed, freed_if}
use Rattle.loop_tape.specs.Pools.{PoolOf}
use Rattle.loop_strip.specs.Strips.{StripOf, seen, reach_in, Did, DidAlone, Owns}
use Rattle.looper_tracks.specs.Track.{TrackOf, track_in, DidTrack, DidTrackAlone}
use Rattle.looper_laws.proofs.InSpans.Controls.{frame_controls}
use Rattle.looper_tracks.proofs.TrackLemmas.{did_nothing}

wet_stays : (x : Sound) (reach : ℕ) (l : Loop Sound) (wet : ℕ) → wet ≡ l.controls.wet →
    wet ≡ (after x reach (ready x reach l)).controls.wet
wet_stays x reach l wet is = is ∙ sym (ap (λ (c : Controls). c.wet) (frame_controls x reach l))

-- a track over frames is its loop over them, and its gain
pub track_played : (step wet reach : ℕ) (xs : List Sound) (t : Track) → wet ≡ t.loop.controls.wet →
    track_over step xs reach t
    ≡ record {
      loop = loop_over xs reach t.loop;
      gain =
          gain_over wet step (heard_over xs reach t.loop) t.gain;
      asker = t.asker;
    }
track_played step wet reach [] t is = refl
track_played step wet reach (x ∷ xs) t is =
    let now = played step x reach t
    in let rest = track_played step wet reach xs now.track (wet_stays x reach t.loop wet is)
    in rest
    ∙ ap (λ g. let next : Track =
    record {
      loop = loop_over xs reach (after x reach (ready x reach t.loop));
      gain =
          gain_over wet step (heard_over xs reach (after x reach (ready x reach t.loop)))
          (gain_after t.gain g step);
      asker = t.asker;
    } in next) (sym is)

-- what a track gives is what is heard of its loop, scaled by its gain
pub track_gives : (step wet reach : ℕ) (xs : List Sound) (t : Track) → wet ≡ t.loop.controls.wet →
    given_over step xs reach t ≡ scaled_over wet step (heard_over xs reach t.loop) t.gain
track_gives step wet reach [] t is = refl
track_gives step wet reach (x ∷ xs) t is =
    let now = played step x reach t
    in let rest = track_gives step wet reach xs now.track (wet_stays x reach t.loop wet is)
    in let l' = after x reach (ready x reach t.loop)
    in ap (λ gs. now.given ∷ gs) rest
    ∙ ap
    (λ g. scaled_sound (heard (ready x reach t.loop)) (gain_after t.gain g step) ∷ scaled_over
    wet step (heard_over xs reach l') (gain_after t.gain g step)) (sym is)

same_three : (l l' : Loop Sound) (g g' : ℕ) (a : Option Asker) → l' ≡ l → g' ≡ g →
    record { loop = l'; gain = g'; asker = a }
    ≡ (let t : Track = record { loop = l; gain = g; asker = a } in t)
same_three l l' g g' a e f = cc

-- a track after some frames
pub track_did_play :
    (step wet : ℕ) (xs heard : List Sound) (s s' : StripOf) (g g' : ℕ) (a : Option Asker)
    (p p' : PoolOf) (l : TrackOf) →
    record { strip = s; gain = g; asker = a } ≡ l → wet ≡ (seen s p).controls.wet →
    Did (loop_over xs) s s' p p' → heard ≡ heard_over xs (reach_in s p) (seen s p) →
    g' ≡ gain_over wet step heard g →
    DidTrack (track_over step xs) l (record { strip = s'; gain = g'; asker = a }) p p'
track_did_play step wet xs heard s s' g g' a p p' l is wets did heard_is gain_is =
    let before : TrackOf = record { strip = s; gain = g; asker = a }
    in let gain : g' ≡ gain_over wet step (heard_over xs (reach_in s p) (seen s p)) g = gain_is
    ∙ ap (λ hs. gain_over wet step hs g) heard_is
    in let now : DidTrack (track_over step xs) before
    (record { strip = s'; gain = g'; asker = a }) p
    p' = record {
      track = same_three _ _ _ _ a did.seen gain
          ∙ sym (track_played step wet (reach_in s p) xs (track_in p before) wets);
      owns = did.owns;
      reach = did.reach;
      others = did.others;
    }
    in subst
    (λ m. DidTrack (track_over step xs) m (record { strip = s'; gain = g'; asker = a }) p p') is
    now

-- what is heard of a strip, added to sums
pub track_did_give :
    (step wet : ℕ) (xs heard before after : List Sound) (s : StripOf) (g : ℕ) (a : Option Asker)
    (p : PoolOf) (l : TrackOf) →
    record { strip = s; gain = g; asker = a } ≡ l → wet ≡ (seen s p).controls.wet →
    heard ≡ heard_over xs (reach_in s p) (seen s p) →
    after ≡ added before (scaled_over wet step heard g) →
    after ≡ added before (given_over step xs (reach_in l.strip p) (track_in p l))
track_did_give step wet xs heard before after s g a p l is wets heard_is sums =
    let track : TrackOf = record { strip = s; gain = g; asker = a }
    in let now : after ≡ added before (given_over step xs (reach_in s p) (track_in p track)) = sums
    ∙ ap (λ hs. added before (scaled_over wet step hs g)) heard_is
    ∙ ap (added before) (sym (track_gives step wet (reach_in s p) xs (track_in p track) wets))
    in subst (λ m. after ≡ added before (given_over step xs (reach_in m.strip p) (track_in p m))) is
    now

-- a strip's call that leaves gain and asker
pub track_did :
    (act : ℕ → Loop Sound → Loop Sound) (s s' : StripOf) (g : ℕ) (a : Option Asker) (p p' : PoolOf)
    (l : TrackOf) →
    record { strip = s; gain = g; asker = a } ≡ l → Did act s s' p p' →
    DidTrack (on_loop act) l (record { strip = s'; gain = g; asker = a }) p p'
track_did act s s' g a p p' l is did =
    let now : DidTrack (on_loop act) (record { strip = s; gain = g; asker = a })
    (record { strip = s'; gain = g; asker = a }) p p' = record {
      track = same_three _ _ _ _ a did.seen refl;
      owns = did.owns;
      reach = did.reach;
      others = did.others;
    }
    in subst
    (λ m. DidTrack (on_loop act) m (record { strip = s'; gain = g; asker = a }) p p') is now

-- the same with no pool
pub track_alone :
    (act : ℕ → Loop Sound → Loop Sound) (s s' : StripOf) (g : ℕ) (a : Option Asker) (l : TrackOf) →
    record { strip = s; gain = g; asker = a } ≡ l → DidAlone act s s' →
    DidTrackAlone (on_loop act) l (record { strip = s'; gain = g; asker = a })
track_alone act s s' g a l is did p owns =
    track_did act s s' g a p p l is (did p (subst (λ (m : TrackOf). Owns m.strip p) (sym is) owns))

-- a track with another asker
track_asked :
    (act : ℕ → Loop Sound → Loop Sound) (asker : Option Asker) (s s' : StripOf) (g : ℕ)
    (a : Option Asker) (l : TrackOf) →
    record { strip = s; gain = g; asker = a } ≡ l → DidAlone act s s' →
    DidTrackAlone (λ reach t. record { loop = act reach t.loop; gain = t.gain; asker = asker }) l
    (record { strip = s'; gain = g; asker = asker })
track_asked act asker s s' g a l is did p owns =
    let set = track_alone act s s' g a l is did p owns
    in record {
      track =
          ap (λ (t : Track). let u : Track = record { loop = t.loop; gain = t.gain; asker = asker }
          in u) set.track;
      owns = set.owns;
      reach = set.reach;
      others = set.others;
    }

-- a track pinned for an asker, and freed
pub track_pinned :
    (asker : Asker) (s s' : StripOf) (g : ℕ) (a : Option Asker) (l : TrackOf) →
    record { strip = s; gain = g; asker = a } ≡ l →
    DidAlone (λ reach m. with_stack (pinned m.stack) m) s s' →
    DidTrackAlone (λ reach t. pinned_for asker t) l
    (record { strip = s'; gain = g; asker = Some asker })
track_pinned asker s s' g a l is did =
    track_asked (λ reach m. with_stack (pinned m.stack) m) (Some asker) s s' g a l is did

-- a track freed
pub track_freed :
    (s s' : StripOf) (g : ℕ) (a : Option Asker) (l : TrackOf) →
    record { strip = s; gain = g; asker = a } ≡ l →
    DidAlone (λ reach m. with_stack (unpinned m.stack) m) s s' →
    DidTrackAlone (λ reach t. freed t) l (record { strip = s'; gain = g; asker = None })
track_freed s s' g a l is did =
    track_asked (λ reach m. with_stack (unpinned m.stack) m) None s s' g a l is did

-- a release, by whether the asker's save is the one that it ends
freed_where : (o : Option Asker) (t : Track) → is_some o ≡ true → freed_if o t ≡ freed t
freed_where None t isit = let off : ⊥ = cc in absurd off
freed_where (Some a) t isit = refl

left_where : (o : Option Asker) (t : Track) → is_some o ≡ false → freed_if o t ≡ t
left_where None t isnt = refl
left_where (Some a) t isnt = let off : ⊥ = cc in absurd off

track_released : (ended : Option Asker → Option Asker) (l l' : TrackOf) →
    is_some (ended l.asker) ≡ true → DidTrackAlone (λ reach t. freed t) l l' →
    DidTrackAlone (λ reach t. freed_if (ended t.asker) t) l l'
track_released ended l l' isit did p owns =
    let freed_now = did p owns
    in record {
      track = freed_now.track ∙ sym (freed_where (ended l.asker) (track_in p l) isit);
      owns = freed_now.owns;
      reach = freed_now.reach;
      others = freed_now.others;
    }

track_left : (ended : Option Asker → Option Asker) (l : TrackOf) → is_some (ended l.asker) ≡ false →
    DidTrackAlone (λ reach t. freed_if (ended t.asker) t) l l
track_left ended l isnt p owns =
    did_nothing _ l p owns (left_where (ended l.asker) (track_in p l) isnt)

-- a pin taken away where it is of this kind
pub released_as :
    (ended : Option Asker → Option Asker) (s : StripOf) (g : ℕ) (a o : Option Asker) (b : Bool)
    (l l' : TrackOf) → record { strip = s; gain = g; asker = a } ≡ l → o ≡ ended a →
    b ≡ is_some o → b ≡ true →
    DidTrackAlone (λ reach t. freed t) l l' →
    DidTrackAlone (λ reach t. freed_if (ended t.asker) t) l l'
released_as ended s g a o b l l' is asks some isit did =
    track_released ended l l' (ap (λ (u : TrackOf). is_some (ended u.asker)) (sym is)
    ∙ ap is_some (sym asks) ∙ sym some ∙ isit) did

-- and left where it is not
pub left_as :
    (ended : Option Asker → Option Asker) (s : StripOf) (g : ℕ) (a o : Option Asker) (b : Bool)
    (l : TrackOf) → record { strip = s; gain = g; asker = a } ≡ l → o ≡ ended a → b ≡ is_some o →
    b ≡ false →
    DidTrackAlone (λ reach t. freed_if (ended t.asker) t) l l
left_as ended s g a o b l is asks some isnt =
    track_left ended l
    (ap (λ (u : TrackOf). is_some (ended u.asker)) (sym is) ∙ ap is_some (sym asks)
    ∙ sym some ∙ isnt)
