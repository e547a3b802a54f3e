-- What audio did, one turn behind another.
use Rattle.std.proofs.Common.{◌≡◌, ◌⊎◌, inl, inr, ℕ, ◌+◌, ◌*◌, ◌≤◌, List, [], ◌++◌, length, Bool, true, false, ◌||◌, Option, Some, None, refl, sym, ap, ◌∙◌, subst, arith, append_assoc, length-append}
use Rattle.std.specs.Io.KnownBytes.{Appends}
use Rattle.sl_base.specs.Sounds.{Sound}
use Rattle.sl_base.specs.Counting.{Rose, Counts}
use Rattle.sl_ports.specs.declared.SinkAnswer.{SinkAnswer}
use Rattle.sl_ports.specs.declared.SinkAnswer.TheVariants.{Done, Failed as Unwritten}
use Rattle.sl_ports.specs.Texts.{is_failed, AppendsPrefix, Writes}
use Rattle.wav_pcm.specs.WavText.{IsFormat, frame_size, frame_bytes, samples_size, samples}
use Rattle.wav_pcm.specs.Samples.{frames_in}
use Rattle.wav_pcm.proofs.CutLemmas.{frames_in-append}
use Rattle.std.proofs.lemmas.Grind.{flat_map-append}
use Rattle.sl_ports.proofs.TextLemmas.{appends_in_parts}
use Rattle.looper_rules.specs.Reached.{IsBeginning}
use Rattle.engine_steps.specs.Engines.{Beginning, first_engine}
use Rattle.live_steps.specs.Passed.{Passed, none_passed}
use Rattle.live_steps.specs.InStep.{AreInStep}
use Rattle.live_steps.proofs.StepLemmas.{new_in_step}
use Rattle.audio_ends.specs.declared.rings.RingEnds.{RingEnds}
use Rattle.live_ports.specs.Sources.{SourceSeen, Consumes}
use Rattle.audio_ends.specs.declared.fill.Halt.{Halt}
use Rattle.audio_ends.specs.declared.fill.Halt.TheVariants.{Whole, Idle, End, Failed}
use Rattle.audio_ends.specs.Fills.{ReadsFrames, HaltCause, is_at_end, Halts}
use Rattle.audio_ends.specs.Ends.{passed, has_quit, HasLimits, MayTurn}
use Rattle.audio_ends.specs.Did.{AudioAt, IsReady, MayGoOn, AudioDid, HasMore}
use Rattle.audio_ends.proofs.TurnLemmas.{on_then}
use Rattle.audio_ends.proofs.FillLemmas.{consumes_then, or-false}

-- frames that were read behind others
reads_then : (channels : ℕ) (left mid rest : Option (List ℕ)) (kept between last : List ℕ)
    (xs ys : List Sound) → IsFormat channels 16 →
    ReadsFrames channels left mid kept between xs → ReadsFrames channels mid rest between last ys →
    ReadsFrames channels left rest kept last (xs ++ ys)
reads_then channels left mid rest kept between last xs ys format r q =
    let both = length-append xs ys
    in let sizes = length-append r.whole q.whole
    in record {
      got = r.got ++ q.got;
      whole = r.whole ++ q.whole;
      consumes = consumes_then left mid rest r.got q.got r.consumes q.consumes;
      cut = sym (append_assoc kept r.got q.got)
          ∙ ap (λ bs. bs ++ q.got) r.cut
          ∙ append_assoc r.whole between q.got
          ∙ ap (λ bs. r.whole ++ bs) q.cut
          ∙ sym (append_assoc r.whole q.whole last);
      size = sizes ∙ is_sum (length r.whole) _ (length q.whole) _ r.size q.size
          ∙ sym (of_size (length xs) (length ys) channels format.one_or_two)
          ∙ ap (λ n. n * frame_size channels 16) (sym both);
      are = both_are (xs) (ys) r.are q.are
          ∙ sym (frames_in-append channels 16 (length xs) (length ys) r.whole q.whole format r.size)
          ∙ ap (λ n. frames_in channels 16 n (r.whole ++ q.whole)) (sym both);
    }
  where
    is_sum : (a u b v : ℕ) → a ≡ u → b ≡ v → a + b ≡ u + v
    is_sum a u b v p q = omega arith

    of_size : (m n c : ℕ) → (c ≡ 1) ⊎ (c ≡ 2) →
        (m + n) * frame_size c 16 ≡ m * frame_size c 16 + n * frame_size c 16
    of_size m n c (inl one) =
        ap (λ k. (m + n) * frame_size k 16) one
        ∙ (let sum : (m + n) * 2 ≡ m * 2 + n * 2 = omega arith in sum)
        ∙ sym (ap (λ k. m * frame_size k 16 + n * frame_size k 16) one)
    of_size m n c (inr two) =
        ap (λ k. (m + n) * frame_size k 16) two
        ∙ (let sum : (m + n) * 4 ≡ m * 4 + n * 4 = omega arith in sum)
        ∙ sym (ap (λ k. m * frame_size k 16 + n * frame_size k 16) two)

    both_are : (us vs : List Sound) {u v : List Sound} → us ≡ u → vs ≡ v → us ++ vs ≡ u ++ v
    both_are us vs p q = λ i. p i ++ q i

-- what stopped reading the second time
halts_then : (a b c : SourceSeen) (first last : Halt) → HasMore first → Halts a b first →
    Halts b c last → Halts a c last
halts_then a b c first last fine h k =
    record {
      cause = by_last last k.cause (stayed first fine h.cause);
      ended = k.ended ∙ ap (λ (x : Bool). x || is_at_end last) (goes_on first fine h.ended);
      faults = (let x = h.faults in let y = k.faults in omega arith);
      idles = (let x = h.idles in let y = k.idles in omega arith);
    }
  where
    stayed : (halt : Halt) → HasMore halt → HaltCause a b halt → b.faults ≡ a.faults
    stayed Whole fine cause = cause
    stayed Idle fine cause = cause.1
    stayed End fine cause = absurd fine
    stayed Failed fine cause = absurd fine

    goes_on : (halt : Halt) → HasMore halt → b.ended ≡ (a.ended || is_at_end halt) →
        b.ended ≡ a.ended
    goes_on Whole fine is = is ∙ or-false a.ended
    goes_on Idle fine is = is ∙ or-false a.ended
    goes_on End fine is = absurd fine
    goes_on Failed fine is = absurd fine

    since : (before mid now : ℕ) → before ≤ mid → Rose mid now → Rose before now
    since before mid now later rose = omega (arith, later, rose)

    by_last : (halt : Halt) → HaltCause b c halt → b.faults ≡ a.faults → HaltCause a c halt
    by_last Whole cause same = cause ∙ same
    by_last Idle cause same = (since a.idles b.idles c.idles h.idles cause.0, cause.1 ∙ same)
    by_last End cause same = (cause.0, cause.1 ∙ same)
    by_last Failed cause same = since a.faults b.faults c.faults h.faults cause

-- bytes that were written behind others
writes_then : (old mid new : Option (List ℕ)) (xs ys : List ℕ) (answer : SinkAnswer) →
    Appends old mid xs → Writes mid new ys answer → Writes old new (xs ++ ys) answer
writes_then old mid new xs ys Done first next = appends_in_parts old mid new xs ys first next
writes_then old mid new xs ys Unwritten first next =
    record {
      part = xs ++ next.part;
      rest = next.rest;
      whole = ap (λ bs. xs ++ bs) next.whole ∙ sym (append_assoc xs next.part next.rest);
      appended = appends_in_parts old mid new xs next.part first next.appended;
    }

counts_then : (a b c : ℕ) (failed : Bool) → Counts a b false → Counts b c failed →
    Counts a c failed
counts_then a b c failed h k =
    let same : b ≡ a = h.stayed refl
    in subst (λ n. Counts n c failed) same k

-- and all of it
pub did_then : (input output more out : List Sound) (halt last : Halt) (answer : SinkAnswer)
    (x y z : AudioAt) → HasMore halt → AudioDid input output halt Done x y →
    AudioDid more out last answer y z → AudioDid (input ++ more) (output ++ out) last answer x z
did_then input output more out halt last answer x y z fine h k =
    let channels = x.ends.channels
    in let same : y.ends.channels ≡ channels = h.channels
    in let format = subst (λ c. IsFormat c 16) same h.may.ready.format
    in record {
      step = λ b before so_far is.
          subst (λ (l : List Sound × List Sound). AreInStep b l.0 l.1 z.engine (passed
          z.ends.rings))
          (λ i. (append_assoc before input more i, append_assoc so_far output out i))
          (k.step b (before ++ input) (so_far ++ output) (h.step b before so_far is));
      rings = on_then x.ends.rings y.ends.rings z.ends.rings h.rings k.rings;
      may = k.may;
      frames = (let a = h.frames in let b = k.frames in let c = length-append input more in
          omega arith);
      quota = k.quota ∙ h.quota;
      channels = k.channels ∙ h.channels;
      most = k.most ∙ h.most;
      read = reads_then channels x.source.left y.source.left z.source.left x.ends.rest.items
          y.ends.rest.items z.ends.rest.items input more format h.read
          (subst (λ c. ReadsFrames c y.source.left z.source.left y.ends.rest.items
          z.ends.rest.items more) same k.read);
      halts = halts_then x.source y.source z.source halt last fine h.halts k.halts;
      wrote = subst (λ bs. Writes x.sink.held z.sink.held bs answer)
          (sym (flat_map-append (frame_bytes channels 16) output out))
          (writes_then x.sink.held y.sink.held z.sink.held (samples channels 16 output)
          (samples channels 16 out) answer h.wrote
          (subst (λ c. Writes y.sink.held z.sink.held (samples c 16 out) answer) same k.wrote));
      counts = counts_then x.sink.faults y.sink.faults z.sink.faults (is_failed answer) h.counts
          k.counts;
    }

-- turns may begin
pub may_begin : (b : Beginning) (a : RingEnds) → IsBeginning b.settings b.chunks b.initial →
    passed a ≡ none_passed → a.quit ≡ false → HasLimits b.quota a → MayTurn (first_engine b) a
may_begin b a begins none free limits =
    let step : AreInStep b [] [] (first_engine b) none_passed = new_in_step b begins
    in record {
      step = (b, [], [], subst (AreInStep b [] [] (first_engine b)) (sym none) step);
      limits = limits;
      osc = (let size = ap (λ (p : Passed). length p.osc) none in omega arith);
      midi = (let size = ap (λ (p : Passed). length p.midi) none in omega arith);
      quit = free ∙ ap has_quit (sym none);
    }
