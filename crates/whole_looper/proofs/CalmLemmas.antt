-- Frames of a span in which no boundary acts.
use Rattle.std.proofs.Common.{◌≡◌, ℕ, ◌+◌, ◌-◌, ◌<◌, ◌≤◌, ◌⊎◌, inl, inr, List, [], ◌∷◌, length, map, take, min, ap, sym, subst, arith, length-take}
use Rattle.std.specs.List.{AllByRecursion}
use Rattle.std.proofs.lemmas.Bool.{cases_lt}
use Rattle.sl_base.specs.Sounds.{Sound, silence}
use Rattle.sl_commands.specs.declared.Face.{Face}
use Rattle.sl_commands.specs.declared.Globals.{Globals}
use Rattle.looper_rules.specs.Looper.{Looper, faces_of}
use Rattle.looper_rules.specs.Frame.{framed_from, at_boundaries}
use Rattle.looper_rules.specs.TrackSpans.{IsCalm}
use Rattle.looper_laws.specs.Spans.{IsQuietBehindFor, NoVerbWaits, KeepsTime, IsClearFor}
use Rattle.looper_laws.proofs.InSpans.Calm.{calm_where_none_waits, calm_by_time}
use Rattle.looper_rules.specs.Looper.{face_on}
use Rattle.looper_tracks.specs.Tracks.{TracksOf}
use Rattle.whole_looper.specs.Loopers.{looper_of}
use Rattle.whole_looper.specs.Spans.{IsSpan}
use Rattle.looper_tracks.proofs.CalmLemmas.{clear_fewer_all}
use Rattle.looper_tracks.proofs.SpanLemmas.{take_least}

-- where no verb waits
pub span_of_none : (frame : ℕ) (xs : List Sound) (l : Looper) →
    AllByRecursion (IsQuietBehindFor xs) l.tracks → AllByRecursion NoVerbWaits l.tracks →
    IsSpan frame xs l
span_of_none frame xs l quiet none = record {
  quiet = quiet;
  calm = λ x rest is. (calm_where_none_waits frame (x ∷ rest) l none).1;
}

-- frames that are quiet, while no waiting verb acts, are a span
pub span_in_time : (frame count : ℕ) (xs : List Sound) (l : Looper) → length xs ≤ count + 1 →
    AllByRecursion (IsQuietBehindFor xs) l.tracks →
    KeepsTime l.globals.sync_source (faces_of l) →
    AllByRecursion (IsClearFor l.globals frame (faces_of l) count) l.tracks → IsSpan frame xs l
span_in_time frame count xs l long quiet keeps clear = record {
  quiet = quiet;
  calm = λ x rest is.
      (let sum : length xs ≡ length (x ∷ rest) = ap length is
      in calm_by_time frame x rest l keeps
      (clear_fewer_all l.globals frame (faces_of l) count (length rest) l.tracks (omega arith)
      clear));
}

-- one frame is a span
pub span_of_frame : (frame : ℕ) (xs : List Sound) (l : Looper) → length xs ≤ 1 →
    AllByRecursion (IsQuietBehindFor xs) l.tracks → IsSpan frame xs l
span_of_frame frame xs l one quiet =
    record {
      quiet = quiet;
      calm =
          λ x rest is. calm_none frame x rest l (let sum : length xs ≡ length (x ∷ rest) =
          ap length is
          in omega arith);
    }
  where
    calm_none : (frame : ℕ) (x : Sound) (rest : List Sound) (l : Looper) → length rest ≡ 0 →
        IsCalm (frame + 1) rest (framed_from x l).looper
    calm_none frame x [] l none = tt
    calm_none frame x (y ∷ ys) l none = absurd (omega arith)

-- the same of a looper that is made of these
pub span_as_none : (frame : ℕ) (xs : List Sound) (rate : ℕ) (g : Globals) (dry saves : ℕ)
    (t : TracksOf) (l : Looper) → looper_of rate g dry saves t ≡ l →
    AllByRecursion (IsQuietBehindFor xs) t.tracks → AllByRecursion NoVerbWaits t.tracks →
    IsSpan frame xs l
span_as_none frame xs rate g dry saves t l is quiet none =
    subst (λ m. IsSpan frame xs m) is
    (span_of_none frame xs (looper_of rate g dry saves t) quiet none)

-- and so they are, as far as was told by the faces
pub span_as_timed : (frame calm n : ℕ) (faces : List Face) (input : List Sound) (rate : ℕ)
    (g : Globals) (dry saves : ℕ) (t : TracksOf) (l : Looper) → looper_of rate g dry saves t ≡ l →
    faces ≡ map face_on t.tracks → n ≤ length (take calm input) →
    AllByRecursion (IsQuietBehindFor (take n (take calm input))) t.tracks →
    (1 < calm → KeepsTime g.sync_source faces) →
    (1 < calm → AllByRecursion (IsClearFor g frame faces (calm - 1)) t.tracks) →
    IsSpan frame (take n input) l
span_as_timed frame calm n faces input rate g dry saves t l is taken within quiet keeps clear =
    let most : length (take calm input) ≡ min calm (length input) = length-take calm input
    in let by_calm : n ≤ calm = omega arith
    in let long : length (take n input) ≡ min n (length input) = length-take n input
    in let quiet' : AllByRecursion (IsQuietBehindFor (take n input)) t.tracks =
    subst (λ zs. AllByRecursion (IsQuietBehindFor zs) t.tracks)
    (take_least n calm input by_calm) quiet
    in subst (λ m. IsSpan frame (take n input) m) is
    (by_length (cases_lt 1 calm) (omega arith) quiet')
  where
    by_length : (1 < calm) ⊎ (calm ≤ 1) → length (take n input) ≤ calm →
        AllByRecursion (IsQuietBehindFor (take n input)) t.tracks →
        IsSpan frame (take n input) (looper_of rate g dry saves t)
    by_length (inr one) within_calm all =
        span_of_frame frame (take n input) (looper_of rate g dry saves t) (omega arith) all
    by_length (inl more) within_calm all =
        span_in_time frame (calm - 1) (take n input) (looper_of rate g dry saves t) (omega arith)
        all
        (subst (λ fs. KeepsTime g.sync_source fs) taken (keeps more))
        (subst (λ fs. AllByRecursion (IsClearFor g frame fs (calm - 1)) t.tracks) taken
        (clear more))

-- where no verb waits, no boundary does anything
pub nothing_met : (frame : ℕ) (rate : ℕ) (g : Globals) (dry saves : ℕ) (t : TracksOf) (l : Looper) →
    looper_of rate g dry saves t ≡ l → AllByRecursion NoVerbWaits t.tracks →
    l ≡ at_boundaries frame l
nothing_met frame rate g dry saves t l is none =
    subst (λ m. m ≡ at_boundaries frame m) is
    (sym (calm_where_none_waits frame (silence ∷ []) (looper_of rate g dry saves t) none).0)
