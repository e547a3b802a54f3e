-- A span of one frame is a frame.
use Rattle.std.proofs.Common.{◌≡◌, ℕ, ◌-◌, List, [], ◌∷◌, map, refl, sym, ap, ap₂, ◌∙◌, ℤ}
use Rattle.std.proofs.Math.IntN.{+ℤ_assoc, +ℤ_idl, +ℤ_idr}
use Rattle.sl_base.specs.Sounds.{Sound, silence, summed, clamped_sound, scaled_sound}
use Rattle.looper_rules.specs.Room.{chunks_of}
use Rattle.looper_rules.specs.Looper.{Track, Looper, tape_of, free_of, reach_of, swept}
use Rattle.looper_rules.specs.Gains.{gain_after, sum_of}
use Rattle.looper_rules.specs.Frame.{given_by, played_on, played, all_played, framed_from}
use Rattle.looper_rules.specs.GainSpans.{added, added_all}
use Rattle.looper_rules.specs.TrackSpans.{all_over, given_of, track_of}
use Rattle.looper_rules.specs.TrackSpans.{Spanned, sums_of, spanned_from}

sound_same : (a b c d : ℤ) → a ≡ c → b ≡ d →
    record { left = a; right = b } ≡ (let s : Sound = record { left = c; right = d } in s)
sound_same a b c d e f = ap₂ (λ x y. let s : Sound = record { left = x; right = y } in s) e f

pub summed_assoc : (r s t : Sound) → summed (summed r s) t ≡ summed r (summed s t)
summed_assoc r s t =
    sound_same _ _ _ _ (+ℤ_assoc r.left s.left t.left) (+ℤ_assoc r.right s.right t.right)

pub summed_silence : (s : Sound) → summed s silence ≡ s
summed_silence s = sound_same _ _ _ _ (+ℤ_idr s.left) (+ℤ_idr s.right)

pub silence_summed : (s : Sound) → summed silence s ≡ s
silence_summed s = sound_same _ _ _ _ (+ℤ_idl s.left) (+ℤ_idl s.right)

one : Sound → List Sound
one s = s ∷ []

one_given : (step : ℕ) (x : Sound) (free : ℕ) (ts : List Track) →
    map given_of (all_over step (x ∷ []) free ts) ≡ map one
    (map given_by (swept played_on (played step x) free ts))
unfolding one
one_given step x free [] = refl
one_given step x free (t ∷ ts) =
    let now = played step x (reach_of free t) t
    in ap (λ gs. (now.given ∷ []) ∷ gs)
    (one_given step x (reach_of free t - chunks_of (tape_of now.track)) ts)

one_track : (step : ℕ) (x : Sound) (free : ℕ) (ts : List Track) →
    map track_of (all_over step (x ∷ []) free ts) ≡ map played_on
    (swept played_on (played step x) free ts)
one_track step x free [] = refl
one_track step x free (t ∷ ts) =
    let now = played step x (reach_of free t) t
    in ap (λ us. now.track ∷ us)
    (one_track step x (reach_of free t - chunks_of (tape_of now.track)) ts)

one_sum : (s : Sound) (gs : List Sound) → added_all (s ∷ []) (map one gs) ≡ summed s (sum_of gs)
    ∷ []
unfolding one
one_sum s [] = ap (λ t. t ∷ []) (sym (summed_silence s))
one_sum s (g ∷ gs) = one_sum (summed s g) gs ∙ ap (λ t. t ∷ []) (summed_assoc s g (sum_of gs))
