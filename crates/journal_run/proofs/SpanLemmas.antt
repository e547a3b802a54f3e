-- A run that plays a span, and then another, plays both as one.
use Rattle.std.proofs.Common.{◌≡◌, ℕ, ◌+◌, ◌-◌, ◌≤◌, List, [], ◌++◌, length, drop, refl, sym, ap, ap₂, ◌∙◌, subst, arith, append-nil, append_assoc, length-drop}
use Rattle.std.proofs.lemmas.Grind.{flat_map-append}
use Rattle.std.proofs.lemmas.List.{length-take-le}
use Rattle.sl_base.specs.Sounds.{Sound}
use Rattle.wav_pcm.specs.WavText.{samples, frame_bytes}
use Rattle.wav_pcm.specs.Inputs.{InputOf, span_of}
use Rattle.wav_pcm.proofs.InputLemmas.{span_more}
use Rattle.engine_steps.specs.Engines.{EngineOf, went_on, put_out}
use Rattle.engine_steps.proofs.StepLemmas.{went_on-append, put_out-append}
use Rattle.journal_run.specs.Runs.{RunOf, IsSpelledAs, PlaysTo, frames_to}

-- a span and the one behind it are one
spans_join : (from done until : ℕ) (frames : List Sound) → from ≤ done → done ≤ until →
    span_of from (until - from) frames
    ≡ span_of from (done - from) frames ++ span_of done (until - done) frames
spans_join from done until frames before behind =
    ap (λ n. span_of from n frames)
    (let all : until - from ≡ done - from + (until - done) = omega arith in all)
    ∙ span_more from (done - from) (until - done) frames
    ∙ ap (λ n. span_of from (done - from) frames ++ span_of n (until - done) frames)
    (let here : from + (done - from) ≡ done = omega arith in here)

-- how long a span is
length-span_of : (from count : ℕ) (frames : List Sound) → from + count ≤ length frames →
    length (span_of from count frames) ≡ count
length-span_of from count frames within =
    let left = length-drop from frames in
    length-take-le count (drop from frames) (omega (arith, left))

-- a run that has played up to so many frames has played so many
pub frames-plays : (input : InputOf) (until : ℕ) (r next : RunOf) → r.engine.frames ≤ until →
    until ≤ length input.frames → PlaysTo input until r next → next.engine.frames ≡ until
frames-plays input until r next order within plays =
    let size = length-span_of r.engine.frames (until - r.engine.frames) input.frames (omega arith)
    in
    let on : next.engine.frames ≡ r.engine.frames + length (frames_to input until r) =
    ap (λ (e : EngineOf). e.frames) plays.engine in
    omega (arith, size, on)

-- an engine that plays no frame is left as it is
went_on-none : (e : EngineOf) → e ≡ went_on [] e
went_on-none e =
    ap (λ n. let f : EngineOf = record e { frames = n } in f)
    (let same : e.frames ≡ e.frames + 0 = omega arith in same)

-- before a run plays it has played up to where it is
pub plays_none : (input : InputOf) (r : RunOf) → IsSpelledAs input r.period →
    PlaysTo input r.engine.frames r r
plays_none input r spelled =
    let none : frames_to input r.engine.frames r ≡ [] =
    ap (λ n. span_of r.engine.frames n input.frames)
    (let zero_is : r.engine.frames - r.engine.frames ≡ 0 = omega arith in zero_is) in
    record {
      engine = went_on-none r.engine
          ∙ ap (λ (xs : List Sound). went_on xs r.engine) (sym none);
      out =
          sym (append-nil r.out)
          ∙ ap (λ (xs : List Sound). r.out
          ++ samples input.channels input.bits (put_out xs r.engine)) (sym none);
      spelled = spelled;
      saver = refl;
      text = refl;
      replies = refl;
    }

-- a run that plays on from where it is
pub plays_more : (input : InputOf) (done until : ℕ) (r s t : RunOf) → r.engine.frames ≤ done →
    done ≤ until → done ≤ length input.frames → PlaysTo input done r s → PlaysTo input until s t →
    PlaysTo input until r t
plays_more input done until r s t before behind within first second =
    let here = frames-plays input done r s before within first in
    let xs = frames_to input done r in
    let ys = span_of done (until - done) input.frames in
    let rest : frames_to input until s ≡ ys = ap (λ n. span_of n (until - n) input.frames) here in
    let all : frames_to input until r ≡ xs ++ ys =
    spans_join r.engine.frames done until input.frames before behind in
    let made : (zs : List Sound) → List ℕ = λ zs. samples input.channels input.bits zs in
    record {
      engine =
          second.engine
          ∙ ap₂ (λ (zs : List Sound) (e : EngineOf). went_on zs e) rest first.engine
          ∙ sym (went_on-append xs ys r.engine)
          ∙ ap (λ (zs : List Sound). went_on zs r.engine) (sym all);
      out =
          second.out
          ∙ ap₂ (λ (o : List ℕ) (zs : List Sound). o ++ made (put_out zs s.engine)) first.out rest
          ∙ ap (λ (e : EngineOf). (r.out ++ made (put_out xs r.engine)) ++ made (put_out ys e))
          first.engine
          ∙ append_assoc r.out (made (put_out xs r.engine))
          (made (put_out ys (went_on xs r.engine)))
          ∙ ap (λ (o : List ℕ). r.out ++ o)
          (sym
          (flat_map-append (frame_bytes input.channels input.bits) (put_out xs r.engine)
          (put_out ys (went_on xs r.engine)))
          ∙ ap made (sym (put_out-append xs ys r.engine)
          ∙ ap (λ (zs : List Sound). put_out zs r.engine) (sym all)));
      spelled = second.spelled;
      saver = second.saver ∙ first.saver;
      text = second.text ∙ first.text;
      replies = second.replies ∙ first.replies;
    }

-- a run that plays one span more
pub plays_on : (input : InputOf) (count : ℕ) (r s t : RunOf) →
    r.engine.frames ≤ s.engine.frames → s.engine.frames + count ≤ length input.frames →
    PlaysTo input s.engine.frames r s → PlaysTo input (s.engine.frames + count) s t →
    (t.engine.frames ≡ s.engine.frames + count) × PlaysTo input t.engine.frames r t
plays_on input count r s t before within first second =
    let here = frames-plays input (s.engine.frames + count) s t (omega arith) within second in (
      here,
      subst (λ n. PlaysTo input n r t) (sym here)
          (plays_more input s.engine.frames (s.engine.frames + count) r s t before (omega arith)
          (omega arith) first second),
    )
