-- A span of all tracks and of the input is a span of the looper.
use Rattle.std.proofs.Common.{◌≡◌, ℕ, ◌-◌, List, [], ◌∷◌, length, map, replicate, refl, sym, ap, ap₂, ◌∙◌}
use Rattle.sl_base.specs.Sounds.{Sound, silence, clamped_sound}
use Rattle.sl_commands.specs.declared.Globals.{Globals}
use Rattle.looper_rules.specs.Room.{chunks_of}
use Rattle.looper_rules.specs.Looper.{Track, Looper, tape_of, reach_of, swept, itself}
use Rattle.looper_rules.specs.GainSpans.{gain_over, scaled_over, added, added_all}
use Rattle.looper_rules.specs.TrackSpans.{track_over, all_over, given_of, track_of, Spanned, sums_of, spanned_from}
use Rattle.looper_tracks.specs.Tracks.{TracksOf, free_among, DidTracks}
use Rattle.whole_looper.specs.Loopers.{looper_of}
use Rattle.whole_looper.specs.Spans.{DidSpan}

-- the tracks of a sweep that also gives
swept_tracks : (step : ℕ) (xs : List Sound) (free : ℕ) (ts : List Track) →
    map track_of (all_over step xs free ts) ≡ swept itself (track_over step xs) free ts
swept_tracks step xs free [] = refl
swept_tracks step xs free (t ∷ ts) =
    ap (λ us. track_over step xs (reach_of free t) t ∷ us)
    (swept_tracks step xs
    (reach_of free t - chunks_of (tape_of (track_over step xs (reach_of free t) t))) ts)

same_looper :
    (rate : ℕ) (g : Globals) (saves chunks chunks' dry dry' : ℕ) (ts ts' : List Track) →
    chunks ≡ chunks' → dry ≡ dry' → ts ≡ ts' →
    looper_of rate g dry saves (record { chunks = chunks; tracks = ts })
    ≡ looper_of rate g dry' saves (record { chunks = chunks'; tracks = ts' })
same_looper rate g saves chunks chunks' dry dry' ts ts' a b c = cc

-- cleared sums, what all tracks give and the input, clamped, are a span
pub span_done :
    (g : Globals) (xs out none sums : List Sound) (dry dry' : ℕ) (t t' : TracksOf) →
    none ≡ replicate (length xs) silence →
    DidTracks (swept itself (track_over g.fade_step xs)) t t' →
    sums ≡ added_all none (map given_of (all_over g.fade_step xs (free_among t) t.tracks)) →
    dry' ≡ gain_over g.dry g.fade_step xs dry →
    out ≡ map clamped_sound (added sums (scaled_over g.dry g.fade_step xs dry)) →
    DidSpan g xs out dry dry' t t'
span_done g xs out none sums dry dry' t t' empty did all gain outs =
    let played = all_over g.fade_step xs (free_among t) t.tracks
    in let tracks : map track_of played ≡ t'.tracks =
    swept_tracks g.fade_step xs (free_among t) t.tracks ∙ sym did.tracks
    in let sums_are : sums_of xs played ≡ sums =
    ap (λ n. added_all n (map given_of played)) (sym empty) ∙ sym all
    in let out_is : map clamped_sound
    (added (sums_of xs played) (scaled_over g.dry g.fade_step xs dry)) ≡ out =
    ap (λ s. map clamped_sound (added s (scaled_over g.dry g.fade_step xs dry))) sums_are
    ∙ sym outs
    in record {
      gave = λ rate saves.
          ap₂ (λ o (l : Looper). let s : Spanned = record { output = o; looper = l } in s) out_is
          (same_looper rate g saves _ _ _ _ _ _ (sym did.chunks) (sym gain) tracks);
      count = did.count;
    }

-- a span of the parts is a span of the looper
pub span_of_looper :
    (rate : ℕ) (g : Globals) (dry dry' saves : ℕ) (xs out : List Sound) (t t' : TracksOf)
    (l : Looper) → looper_of rate g dry saves t ≡ l → DidSpan g xs out dry dry' t t' →
    spanned_from xs l ≡ record { output = out; looper = looper_of rate g dry' saves t' }
span_of_looper rate g dry dry' saves xs out t t' l is did = ap (spanned_from xs) (sym is)
    ∙ did.gave rate saves
