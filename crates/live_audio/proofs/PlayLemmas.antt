-- A period that is played, and none where all frames of a session are done.
use Rattle.std.proofs.Common.{◌≡◌, ◌≢◌, ◌⊎◌, inl, inr, ◌≤◌, ◌<◌, ◌+◌, ◌-◌, ◌*◌, ◌/◌, ◌%◌, ℕ, zero, suc, List, [], ◌∷◌, ◌++◌, length, Option, Some, None, refl, sym, ap, ◌∙◌, subst, arith, append-nil, length-append, length-take, mul_comm, nat_le, Bool, true, false}
use Rattle.std.specs.Prelude.{min, take, drop}
use Rattle.std.proofs.lemmas.Nat.{div-add-mod', div-mul-add}
use Rattle.std.proofs.Math.Nat.{mod-lt, div-le_of_le-mul}
use Rattle.std.proofs.lemmas.List.{take-append-le}
use Rattle.std.proofs.lemmas.Bool.{leb-true, leb-false}
use Rattle.std.specs.Io.KnownBytes.{Appends}
use Rattle.sl_base.specs.Limits.{max_session_frames}
use Rattle.sl_base.specs.Sounds.{Sound}
use Rattle.sl_base.specs.Counting.{Counts}
use Rattle.sl_ports.specs.declared.SinkAnswer.{SinkAnswer}
use Rattle.sl_ports.specs.declared.SinkAnswer.TheVariants.{Done}
use Rattle.sl_ports.specs.Texts.{is_failed, Writes}
use Rattle.wav_pcm.specs.Samples.{frames_in}
use Rattle.wav_pcm.specs.WavText.{IsFormat, frame_size, samples}
use Rattle.live_ports.specs.Sources.{SourceSeen, Consumes}
use Rattle.engine_steps.specs.Engines.{EngineOf, went_on, put_out}
use Rattle.audio_ends.specs.declared.Halt.{Halt}
use Rattle.audio_ends.specs.declared.Halt.TheVariants.{Whole}
use Rattle.audio_ends.specs.Fills.{CameBehind, ReadsFrames, Halts}
use Rattle.audio_ends.proofs.FillLemmas.{or-false, frames_read}
use Rattle.audio_ends.specs.Did.{SinkSeen}
use Rattle.live_audio.specs.declared.play.Played.{Played}
use Rattle.live_audio.specs.Plays.{Plays}

consumes_none : (left : Option (List ℕ)) → Consumes left [] left
consumes_none None = tt
consumes_none (Some bytes) = refl

appends_none : (held : Option (List ℕ)) → Appends held held []
appends_none None = tt
appends_none (Some bytes) = sym (append-nil bytes)

-- nothing is played
pub plays_nothing : (channels most : ℕ) (e : EngineOf) (s : SourceSeen) (o : SinkSeen)
    (kept : List ℕ) → length kept < frame_size channels 16 → 1 ≤ most →
    min (max_session_frames - e.frames) most ≡ 0 →
    Plays channels most e e s s o o kept kept
    (record { frames = 0; halt = Whole; answer = Done })
plays_nothing channels most e s o kept few some none =
    let all : max_session_frames ≤ e.frames = omega arith
    in record {
      input = [];
      output = [];
      engine = (let same : e.frames ≡ e.frames + 0 = omega arith in
          ap (λ n. let f : EngineOf = record e { frames = n } in f) same);
      heard = refl;
      frames = refl;
      within = omega arith;
      whole = λ is. inr all;
      few = few;
      read = record {
        got = [];
        whole = [];
        consumes = consumes_none s.left;
        cut = append-nil kept;
        size = (let none : 0 * frame_size channels 16 ≡ 0 = omega arith in sym none);
        are = refl;
      };
      halts = record {
        cause = refl;
        ended = sym (or-false s.ended);
        faults = omega arith;
        idles = omega arith;
      };
      wrote = appends_none o.held;
      counts = record { later = omega arith; rose = λ is. absurd (cc); stayed = λ is. refl };
    }

-- a period that isn't whole by its frames has all that are left
pub whole_period : (n due most frames now : ℕ) → due ≡ min (max_session_frames - frames) most →
    n ≡ due → now ≡ frames + n → (n ≡ most) ⊎ (max_session_frames ≤ now)
whole_period n due most frames now due_is is goes =
    by_test (nat_le most (max_session_frames - frames)) refl
  where
    by_test : (b : Bool) → nat_le most (max_session_frames - frames) ≡ b →
        (n ≡ most) ⊎ (max_session_frames ≤ now)
    by_test true fits =
        let few = leb-true most (max_session_frames - frames) fits in inl (omega arith)
    by_test false beyond =
        let more = leb-false most (max_session_frames - frames) beyond in inr (omega arith)

-- as many as there is room for at most
pub within_due : {X : Type 0} (n due : ℕ) (xs : List X) → n ≤ length (take due xs) → n ≤ due
within_due n due xs within = let most = at_most due xs in omega arith
  where
    at_most : {Y : Type 0} (k : ℕ) (ys : List Y) → length (take k ys) ≤ k
    at_most zero ys = omega arith
    at_most (suc k) [] = omega arith
    at_most (suc k) (y ∷ ys) = let rest = at_most k ys in omega arith

-- no more than a period
pub least_most : (due left most : ℕ) → due ≡ min left most → due ≤ most
least_most due left most is = omega arith

-- the first ones of two lists are the first list
take_whole : {X : Type 0} (n : ℕ) (xs ys : List X) → length xs ≡ n → take n (xs ++ ys) ≡ xs
take_whole zero [] ys is = refl
take_whole zero (x ∷ xs) ys is = absurd (omega arith)
take_whole (suc n) [] ys is = absurd (omega arith)
take_whole (suc n) (x ∷ xs) ys is = ap (λ zs. x ∷ zs) (take_whole n xs ys (omega arith))

-- no more bytes are kept than there are behind whole frames
kept_few : (count size : ℕ) (bytes : List ℕ) → 0 < size →
    length (take (count - count / size * size) bytes) < size
kept_few count size bytes some =
    let all : count / size * size + count % size ≡ count = div-add-mod' count size
    in let below : count % size < size = mod-lt count some
    in let most = within_most (count - count / size * size) bytes
    in omega arith
  where
    within_most : (k : ℕ) (xs : List ℕ) → length (take k xs) ≤ k
    within_most zero xs = omega arith
    within_most (suc k) [] = omega arith
    within_most (suc k) (x ∷ xs) = let rest = within_most k xs in omega arith

-- a period that was read, played and written: the bytes that came stand before others, and so do
-- the frames, what was heard and what was written
pub plays_period : (channels size due most count : ℕ) (e next : EngineOf) (s t : SourceSeen)
    (o u : SinkSeen) (halt : Halt) (answer : SinkAnswer) (kept kept_now came behind : List ℕ)
    (frames more heard rest : List Sound) (written last : List ℕ) →
    size ≡ frame_size channels 16 → 0 < size →
    due ≡ min (max_session_frames - e.frames) most →
    CameBehind s.left t.left kept (take count came) → count ≤ length came →
    length came ≡ due * size →
    length frames ≡ count / size →
    frames ≡ frames_in channels 16 (count / size) (take (count / size * size) (came ++ behind)) →
    kept_now ≡ take (count - count / size * size)
    (drop (count / size * size) (came ++ behind)) →
    next ≡ went_on (take (count / size) (frames ++ more)) e →
    heard ≡ put_out (take (count / size) (frames ++ more)) e → length heard ≡ count / size →
    written ≡ samples channels 16 (take (count / size) (heard ++ rest)) →
    length written ≡ count / size * size →
    Halts s t halt → (halt ≡ Whole → count ≡ length came) →
    Writes o.held u.held (take (count / size * size) (written ++ last)) answer →
    Counts o.faults u.faults (is_failed answer) →
    Plays channels most e next s t o u kept kept_now
    (record { frames = count / size; halt = halt; answer = answer })
plays_period channels size due most count e next s t o u halt answer kept kept_now came behind
    frames more heard rest written last size_is some due_is came_is within long frames_long
    frames_is keeps goes out heard_long written_is written_long halts whole wrote counts =
    let n = count / size
    in let input_is : take n (frames ++ more) ≡ frames = take_whole n frames more frames_long
    in let output_is : take n (heard ++ rest) ≡ heard = take_whole n heard rest heard_long
    in let bytes_is : take (n * size) (written ++ last) ≡ written =
    take_whole (n * size) written last written_long
    in let here : next ≡ went_on frames e = goes ∙ ap (λ xs. went_on xs e) input_is
    in let now : next.frames ≡ e.frames + length frames = ap (λ (f : EngineOf). f.frames) here
    in let front : take count (came ++ behind) ≡ take count came =
    take-append-le count came behind within
    in let both = length-append came behind
    in let reached : n ≤ due = div-le_of_le-mul size
    (let sw : due * size ≡ size * due = mul_comm due size in omega (arith, within, long, sw))
    in let bound : due ≤ most = least_most due (max_session_frames - e.frames) most due_is
    in record {
      input = frames;
      output = heard;
      engine = here;
      heard = out ∙ ap (λ xs. put_out xs e) input_is;
      frames = sym frames_long;
      within = omega arith;
      whole = λ is.
          let all : count ≡ due * size = whole is ∙ long
          in let full : n ≡ due = ap (λ k. k / size) (all ∙ sum_zero (due * size))
          ∙ div-mul-add due size 0 some
          in whole_period (length frames) due most e.frames next.frames due_is
          (frames_long ∙ full) now;
      few = subst (λ bs. length bs < frame_size channels 16) (sym keeps)
          (let few = kept_few count size (drop (n * size) (came ++ behind)) some in omega arith);
      read = frames_read channels size count s.left t.left kept (came ++ behind) kept_now frames
          (subst (CameBehind s.left t.left kept) (sym front) came_is) size_is some (omega arith)
          frames_long frames_is keeps;
      halts = halts;
      wrote = subst (λ bs. Writes o.held u.held bs answer)
          (bytes_is ∙ written_is ∙ ap (samples channels 16) output_is) wrote;
      counts = counts;
    }
  where
    sum_zero : (k : ℕ) → k ≡ k + 0
    sum_zero k = omega arith

-- the buffers have room for a period
pub bytes_fit : (channels due size most : ℕ) → IsFormat channels 16 →
    size ≡ frame_size channels 16 → due ≤ most → most ≤ 8192 → due * size ≤ 32768
bytes_fit channels due size most format size_is few within = by_channels format.one_or_two
  where
    by_channels : (channels ≡ 1) ⊎ (channels ≡ 2) → due * size ≤ 32768
    by_channels (inl one) =
        let two : size ≡ 2 = size_is ∙ ap (λ c. frame_size c 16) one in
        let same : due * size ≡ due * 2 = ap (λ k. due * k) two in omega arith
    by_channels (inr two) =
        let four : size ≡ 4 = size_is ∙ ap (λ c. frame_size c 16) two in
        let same : due * size ≡ due * 4 = ap (λ k. due * k) four in omega arith

-- and whole frames are no more than those that were due
pub whole_few : (count size due : ℕ) → count ≤ due * size → count / size ≤ due
whole_few count size due within =
    div-le_of_le-mul size
    (let turned : due * size ≡ size * due = mul_comm due size in omega (arith, within, turned))

-- so many of a list that has as many
pub length_taken : {X : Type 0} (k : ℕ) (xs : List X) → k ≤ length xs → length (take k xs) ≡ k
length_taken k xs few = simp length-take (omega arith)

-- and of two lists of which the first has as many
pub length_front : {X : Type 0} (k : ℕ) (xs ys : List X) → k ≤ length xs →
    length (take k (xs ++ ys)) ≡ k
length_front k xs ys few =
    length_taken k (xs ++ ys) (let both = length-append xs ys in omega arith)
