-- A span of quiet frames may be played one loop after another.
use Rattle.std.proofs.Common.{◌≡◌, ℕ, ◌+◌, ◌-◌, List, [], ◌∷◌, length, map, replicate, refl, sym, ap, ap₂, ◌∙◌, subst}
use Rattle.std.specs.List.{AllByRecursion}
use Rattle.std.proofs.lemmas.Simd.{map-map}
use Rattle.sl_base.specs.Sounds.{Sound, silence, summed, clamped_sound, scaled_sound}
use Rattle.looper_rules.specs.Room.{chunks_of}
use Rattle.looper_rules.specs.Loop.{Loop}
use Rattle.looper_rules.specs.LoopFrame.{ready, heard}
use Rattle.looper_rules.specs.Looper.{Track, Looper, tape_of, free_of, reach_of, swept}
use Rattle.looper_rules.specs.Gains.{gain_after, sum_of, output_of}
use Rattle.looper_rules.specs.Frame.{Framed, framed_with, Played, given_by, played_on, played, played_ready, all_played, framed, framed_from, at_boundaries}
use Rattle.looper_rules.specs.Run.{RunSoFar, begun}
use Rattle.looper_rules.specs.GainSpans.{added, added_all, scaled_over, gain_over}
use Rattle.looper_rules.specs.TrackSpans.{PlayedOver, track_over, given_over, played_over, all_over, given_of, track_of, IsCalm}
use Rattle.looper_rules.specs.TrackSpans.{sums_of, spanned, spanned_with}
use Rattle.looper_rules.specs.LoopSpans.{IsQuietFrame, AreQuiet}
use Rattle.looper_laws.specs.Spans.{IsQuietFor, IsQuietBehindFor, as_frames}
use Rattle.looper_laws.proofs.InSpans.Sums.{summed_assoc, summed_silence, silence_summed}

-- a quiet frame doesn't depend on what is reached
played_quiet : (step : ℕ) (x : Sound) (reach : ℕ) (t : Track) → IsQuietFrame x t.loop →
    played step x reach t ≡ played step x 0 t
played_quiet step x reach t q =
    let gain = gain_after t.gain t.loop.controls.wet step
    in ap (λ l. played_ready x gain reach l t) (q.ready_is reach)
    ∙ ap (λ (l : Loop Sound). let p : Played =
    record {
      given = scaled_sound (heard (ready x 0 t.loop)) gain;
      track =
          record t { loop = l; gain = gain };
    } in p) (q.after_is reach)

-- nor do some
over_quiet : (step : ℕ) (xs : List Sound) (reach : ℕ) (t : Track) → AreQuiet xs t.loop →
    played_over step xs reach t ≡ played_over step xs 0 t
over_quiet step [] reach t q = refl
over_quiet step (x ∷ xs) reach t q =
    ap (λ (p : Played). let o : PlayedOver =
    record {
      given = p.given ∷ given_over step xs reach p.track;
      track =
          track_over step xs reach p.track;
    } in o) (played_quiet step x reach t q.0)
    ∙ ap (λ (o : PlayedOver). let n : PlayedOver =
    record { given = (played step x 0 t).given ∷ o.given; track = o.track } in n)
    (over_quiet step xs reach (played step x 0 t).track q.1)

-- and no chunk is taken
chunks_quiet : (step : ℕ) (xs : List Sound) (t : Track) → AreQuiet xs t.loop →
    chunks_of (tape_of (track_over step xs 0 t)) ≡ chunks_of (tape_of t)
chunks_quiet step [] t q = refl
chunks_quiet step (x ∷ xs) t q = chunks_quiet step xs (played step x 0 t).track q.1 ∙ q.0.chunks

-- a quiet frame of all
all_quiet : (step : ℕ) (x : Sound) (xs : List Sound) (free : ℕ) (ts : List Track) →
    AllByRecursion (IsQuietFor (x ∷ xs)) ts →
    swept played_on (played step x) free ts ≡ map (played step x 0) ts
all_quiet step x xs free [] q = refl
all_quiet step x xs free (t ∷ ts) q =
    let now = played step x (reach_of free t) t
    in ap₂ (λ p ps. p ∷ ps) (played_quiet step x (reach_of free t) t q.0.quiet.0)
    (all_quiet step x xs (reach_of free t - chunks_of (tape_of now.track)) ts q.1)

-- the rest of quiet tracks is quiet
rest_quiet : (step : ℕ) (x : Sound) (xs : List Sound) (ts : List Track) →
    AllByRecursion (IsQuietFor (x ∷ xs)) ts →
    AllByRecursion (IsQuietFor xs) (map (λ t. (played step x 0 t).track) ts)
rest_quiet step x xs [] q = tt
rest_quiet step x xs (t ∷ ts) q = (record { quiet = q.0.quiet.1 }, rest_quiet step x xs ts q.1)

-- sums, column by column
columns : {X : Type 0} (g : X → Sound) (h : X → List Sound) (s : Sound) (ss : List Sound)
    (ts : List X) →
    added_all (s ∷ ss) (map (λ t. g t ∷ h t) ts) ≡ summed s (sum_of (map g ts))
    ∷ added_all ss (map h ts)
columns g h s ss [] = ap (λ t. t ∷ ss) (sym (summed_silence s))
columns g h s ss (t ∷ ts) = columns g h (summed s (g t)) (added ss (h t)) ts
    ∙ ap (λ u. u ∷ added_all (added ss (h t)) (map h ts)) (summed_assoc s (g t) (sum_of (map g ts)))

no_columns : (gs : List (List Sound)) → added_all [] gs ≡ []
no_columns [] = refl
no_columns (g ∷ gs) = no_columns gs

same_tracks : (step : ℕ) (ts : List Track) → map (λ t. track_over step [] 0 t) ts ≡ ts
same_tracks step [] = refl
same_tracks step (t ∷ ts) = ap (λ us. t ∷ us) (same_tracks step ts)

-- what is left when some quiet frames are done
abbrev pub Rest : List Sound → List Track → Looper → RunSoFar
Rest xs ts l =
    record {
      output = map clamped_sound
          (added (added_all (replicate (length xs) silence)
          (map (given_over l.globals.fade_step xs 0) ts))
          (scaled_over l.globals.dry l.globals.fade_step xs l.dry));
      replies = [];
      saves = [];
      left = [];
      looper = record l {
        dry = gain_over l.globals.dry l.globals.fade_step xs l.dry;
        tracks =
            map (track_over l.globals.fade_step xs 0) ts;
      };
    }

same_begun : (o o' : List Sound) (l l' : Looper) → o ≡ o' → l ≡ l' →
    record { output = o; replies = []; saves = []; left = []; looper = l } ≡ (let b : RunSoFar =
    record { output = o'; replies = []; saves = []; left = []; looper = l' } in b)
same_begun o o' l l' e f =
    ap₂ (λ a c. let b : RunSoFar =
    record { output = a; replies = []; saves = []; left = []; looper = c } in b) e f

same_looper : (l : Looper) (d : ℕ) (ts ts' : List Track) → ts ≡ ts' →
    record l { dry = d; tracks = ts } ≡ (let m : Looper = record l { dry = d; tracks = ts' } in m)
same_looper l d ts ts' e = ap (λ us. let m : Looper = record l { dry = d; tracks = us } in m) e

-- one quiet frame
abbrev pub QuietFramed : Sound → Looper → Framed
QuietFramed x l =
    record {
      output = output_of x (gain_after l.dry l.globals.dry l.globals.fade_step)
          (map (λ t. (played l.globals.fade_step x 0 t).given) l.tracks);
      looper = record l {
        dry = gain_after l.dry l.globals.dry l.globals.fade_step;
        tracks =
            map (λ t. (played l.globals.fade_step x 0 t).track) l.tracks;
      };
    }

pub quiet_frame : (x : Sound) (xs : List Sound) (l : Looper) →
    AllByRecursion (IsQuietFor (x ∷ xs)) l.tracks → framed_from x l ≡ QuietFramed x l
quiet_frame x xs l q =
    let step = l.globals.fade_step
    in let dry = gain_after l.dry l.globals.dry step
    in ap (λ all. framed_with x all dry l)
    (all_quiet step x xs (free_of l.chunks l.tracks) l.tracks q)
    ∙ ap₂ (λ gs ts. let f : Framed =
    record { output = output_of x dry gs; looper = record l { dry = dry; tracks = ts } } in f)
    (map-map given_by (played step x 0) l.tracks) (map-map played_on (played step x 0) l.tracks)

-- what a frame gave, and behind it the rest
abbrev pub AfterFrame : ℕ → List Sound → Framed → RunSoFar
AfterFrame frame xs f = let rest = begun (frame + 1) [] xs f.looper in
    record {
      output = f.output ∷ rest.output;
      replies = rest.replies;
      saves = rest.saves;
      left =
          rest.left;
      looper = rest.looper;
    }

abbrev pub BeforeRest : Sound → RunSoFar → RunSoFar
BeforeRest out rest = record {
  output = out ∷ rest.output;
  replies = rest.replies;
  saves =
      rest.saves;
  left = rest.left;
  looper = rest.looper;
}

rest_more : (x : Sound) (xs : List Sound) (l : Looper) →
    BeforeRest (QuietFramed x l).output
    (Rest xs (QuietFramed x l).looper.tracks (QuietFramed x l).looper) ≡ Rest (x ∷ xs) l.tracks l
rest_more x xs l =
    let step = l.globals.fade_step
    in let dry = gain_after l.dry l.globals.dry step
    in let next : Track → Track = λ t. (played step x 0 t).track
    in let g : Track → Sound = λ t. (played step x 0 t).given
    in let h : Track → List Sound = λ t. given_over step xs 0 (next t)
    in let none = replicate (length xs) silence
    in let scaled = scaled_over l.globals.dry step xs dry
    in let sums : added_all (silence ∷ none) (map (given_over step (x ∷ xs) 0) l.tracks) ≡ sum_of
    (map g l.tracks) ∷ added_all none (map (given_over step xs 0) (map next l.tracks)) =
    columns g h silence none l.tracks
    ∙ ap₂ (λ s gs. s ∷ added_all none gs) (silence_summed (sum_of (map g l.tracks)))
    (sym (map-map (given_over step xs 0) next l.tracks))
    in same_begun _ _ _ _
    (sym (ap (λ ss. map clamped_sound (added ss (scaled_sound x dry ∷ scaled))) sums))
    (same_looper l (gain_over l.globals.dry step xs dry) _ _
    (map-map (track_over step xs 0) next l.tracks))

pub rest_done : (frame : ℕ) (xs : List Sound) (l : Looper) →
    AllByRecursion (IsQuietFor xs) l.tracks → IsCalm frame xs l →
    begun frame [] xs l ≡ Rest xs l.tracks l
rest_done frame [] l q calm =
    same_begun _ _ _ _
    (sym (ap (λ ss. map clamped_sound (added ss []))
    (no_columns (map (given_over l.globals.fade_step [] 0) l.tracks))))
    (same_looper l l.dry _ _ (sym (same_tracks l.globals.fade_step l.tracks)))
rest_done frame (x ∷ xs) l q calm =
    let now = quiet_frame x xs l q
    in let calm' : IsCalm (frame + 1) xs (QuietFramed x l).looper =
    subst (λ (f : Framed). IsCalm (frame + 1) xs f.looper) now calm.1
    in ap (λ m. AfterFrame frame xs (framed_from x m)) calm.0
    ∙ ap (AfterFrame frame xs) now
    ∙ ap (BeforeRest (QuietFramed x l).output)
    (rest_done (frame + 1) xs (QuietFramed x l).looper
    (rest_quiet l.globals.fade_step x xs l.tracks q) calm')
    ∙ rest_more x xs l

-- what a first frame gave, and the rest behind it
abbrev pub FirstAndRest : ℕ → List Sound → Played → PlayedOver
FirstAndRest step xs p =
    record { given = p.given ∷ given_over step xs 0 p.track; track = track_over step xs 0 p.track }

-- the first frame in turn, and the rest with it
first_over : (step : ℕ) (x : Sound) (xs : List Sound) (free : ℕ) (ts : List Track) →
    AllByRecursion (IsQuietBehindFor (x ∷ xs)) ts →
    all_over step (x ∷ xs) free ts ≡ map (FirstAndRest step xs)
    (swept played_on (played step x) free ts)
first_over step x xs free [] q = refl
first_over step x xs free (t ∷ ts) q =
    let reach = reach_of free t
    in let now = played step x reach t
    in let quiet : AreQuiet xs now.track.loop = q.0.quiet reach
    in let over : played_over step (x ∷ xs) reach t ≡ FirstAndRest step xs now =
    ap (λ (o : PlayedOver). let n : PlayedOver =
    record { given = now.given ∷ o.given; track = o.track } in n)
    (over_quiet step xs reach now.track quiet)
    in let left : chunks_of (tape_of (played_over step (x ∷ xs) reach t).track) ≡ chunks_of
    (tape_of now.track) = ap (λ (o : PlayedOver). chunks_of (tape_of o.track)) over
    ∙ chunks_quiet step xs now.track quiet
    in ap₂ (λ o n. o ∷ all_over step (x ∷ xs) (reach - n) ts) over left
    ∙ ap (λ os. FirstAndRest step xs now ∷ os)
    (first_over step x xs (reach - chunks_of (tape_of now.track)) ts q.1)

-- behind the first frame all are quiet
behind_quiet : (step : ℕ) (x : Sound) (xs : List Sound) (free : ℕ) (ts : List Track) →
    AllByRecursion (IsQuietBehindFor (x ∷ xs)) ts →
    AllByRecursion (IsQuietFor xs) (map played_on (swept played_on (played step x) free ts))
behind_quiet step x xs free [] q = tt
behind_quiet step x xs free (t ∷ ts) q =
    let reach = reach_of free t
    in let now = played step x reach t
    in (
      record { quiet = q.0.quiet reach },
      behind_quiet step x xs (reach - chunks_of (tape_of now.track)) ts q.1,
    )

pub span_is_frames : (frame : ℕ) (x : Sound) (xs : List Sound) (l : Looper) →
    AllByRecursion (IsQuietBehindFor (x ∷ xs)) (at_boundaries frame l).tracks →
    IsCalm (frame + 1) xs (framed frame x l).looper →
    begun frame [] (x ∷ xs) l ≡ (as_frames (spanned frame (x ∷ xs) l))
span_is_frames frame x xs l q calm =
    let m = at_boundaries frame l
    in let step = m.globals.fade_step
    in let f = framed_from x m
    in let ps = all_played x m
    in let dry = gain_after m.dry m.globals.dry step
    in let none = replicate (length xs) silence
    in let scaled = scaled_over m.globals.dry step xs dry
    in let all : all_over step (x ∷ xs) (free_of m.chunks m.tracks) m.tracks ≡ map
    (FirstAndRest step xs) ps = first_over step x xs (free_of m.chunks m.tracks) m.tracks q
    in let sums : sums_of (x ∷ xs) (map (FirstAndRest step xs) ps) ≡ sum_of (map given_by ps)
    ∷ added_all none (map (given_over step xs 0) (map played_on ps)) =
    ap (added_all (silence ∷ none)) (map-map given_of (FirstAndRest step xs) ps)
    ∙ columns given_by (λ p. given_over step xs 0 p.track) silence none ps
    ∙ ap₂ (λ s gs. s ∷ added_all none gs) (silence_summed (sum_of (map given_by ps)))
    (sym (map-map (given_over step xs 0) played_on ps))
    in let tracks : map track_of (map (FirstAndRest step xs) ps) ≡ map (track_over step xs 0)
    (map played_on ps) = map-map track_of (FirstAndRest step xs) ps
    ∙ sym (map-map (track_over step xs 0) played_on ps)
    in ap (BeforeRest f.output)
    (rest_done (frame + 1) xs f.looper
    (behind_quiet step x xs (free_of m.chunks m.tracks) m.tracks q) calm)
    ∙ sym (
    ap (λ os. let s = spanned_with (x ∷ xs) os m in let b : RunSoFar =
    record { output = s.output; replies = []; saves = []; left = []; looper = s.looper } in b)
    all
    ∙ same_begun _ _ _ _ (ap (λ ss. map clamped_sound (added ss (scaled_sound x dry ∷ scaled)))
    sums) (same_looper m (gain_over m.globals.dry step xs dry) _ _ tracks)
    )
