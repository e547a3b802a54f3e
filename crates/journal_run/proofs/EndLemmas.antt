-- How a run begins and ends.
use Rattle.std.proofs.Common.{◌≡◌, ℕ, ◌≤◌, ◌<◌, ◌^◌, List, [], ◌++◌, length, take, refl, sym, ap, ap₂, ◌∙◌, subst, arith, append-nil, append_assoc}
use Rattle.std.specs.String.{string_bytes}
use Rattle.std.specs.Prelude.{IsTrue, Result, Ok, Err, None, OnOk, IfErr}
use Rattle.std.proofs.lemmas.List.{take_all}
use Rattle.std.proofs.lemmas.List.Elements.{All-nil}
use Rattle.sl_base.specs.Limits.{max_file_frames}
use Rattle.sl_base.specs.Sounds.{Sound}
use Rattle.sl_commands.specs.declared.Entry.{Entry}
use Rattle.sl_commands.specs.Entries.{are_stamped}
use Rattle.sl_ports.specs.declared.keepers.Keeper.{Ghosts as Keeper}
use Rattle.wav_pcm.specs.WavText.{samples, samples_size, padding, wav_header, wav_text}
use Rattle.looper_rules.specs.Looper.{Looper}
use Rattle.looper_rules.specs.Saves.{Save}
use Rattle.looper_rules.specs.Run.{Ran, run}
use Rattle.run_laws.proofs.Answers.Runs.{length-run_output}
use Rattle.loop_saver.specs.declared.ending.Ending.TheVariants.{Written}
use Rattle.loop_saver.specs.SavedFiles.{files_for_all}
use Rattle.loop_saver.specs.Savers.{SaverOf}
use Rattle.loop_saver.specs.Accepting.{Writes}
use Rattle.engine_steps.specs.Engines.{EngineOf, Beginning, first_looper, first_engine, left}
use Rattle.engine_steps.specs.InStep.{IsInStep, nothing}
use Rattle.engine_steps.proofs.ReachedLemmas.{saves_counted}
use Rattle.journal_run.specs.Clipping.{all_clipped}
use Rattle.wav_pcm.specs.Inputs.{InputOf}
use Rattle.save_feeding.specs.Feeding.{StopsAt}
use Rattle.whole_looper.specs.Loopers.{refused_in}
use Rattle.journal_run.specs.RunTexts.{reply_lines, numbers_line, run_text}
use Rattle.save_feeding.specs.declared.stopped.Stopped.{Stopped}
use Rattle.save_feeding.specs.declared.stopped.Stopped.TheVariants.{Memory as NoMemory}
use Rattle.periods.specs.Periods.{PeriodOf, silent_period}
use Rattle.journal_run.specs.declared.ending.Performed.{Performed}
use Rattle.journal_run.specs.Runs.{RunOf, IsSpelledAs, Finishes}
use Rattle.journal_run.specs.Performing.{HasRoomFor, IsFirst, IsPlayable, HasCome, HasTaken, EndsRun, Performs, head_of, played_before, ran_over, saved_by}
use Rattle.journal_run.proofs.ClipLemmas.{run-clipped}
use Rattle.journal_run.proofs.PlayLemmas.{come_frames}
use Rattle.journal_run.proofs.TurnLemmas.{stop_now}

-- an engine begins in step with nothing
begins_in_step : (b : Beginning) → IsInStep b nothing (first_engine b)
begins_in_step b =
    record {
      ran = refl;
      frames = refl;
      before = All-nil (λ (en : Entry). en.frame ≤ 0);
      unanswered = refl;
      blocks = refl;
      part = refl;
      quota = refl;
      stamped = refl;
    }

-- a run before all entries and frames
begin_come :
    {P : Type 0} (k : Keeper P) (b : Beginning) (es : List Entry) (input : InputOf) (start : P)
    (r : RunOf) → r.engine ≡ first_engine b →
    r.saver ≡ record { rate = b.settings.rate; saving = None } → IsSpelledAs input r.period →
    r.out ≡ head_of input → r.text ≡ [] → r.replies ≡ 0 → HasTaken k b es input start 0 start r
begin_come k b es input start r is idle spelled head none zero_is =
    let none_played : 0 ≡ played_before (length input.frames) es 0 = omega arith in
    subst (λ n. HasCome k b es input start n 0 start r) none_played (record {
      so_far = nothing;
      step = subst (IsInStep b nothing) (sym is) (begins_in_step b);
      frames = refl;
      entries = ap (λ (e : EngineOf). e.journal.entries) is;
      quota = ap (λ (e : EngineOf). e.journal.quota) is;
      none = ap left is;
      idle = ap (λ (s : SaverOf). s.saving) idle;
      rate = ap (λ (s : SaverOf). s.rate) idle;
      spelled = spelled;
      heard = head ∙ sym (append-nil (head_of input));
      told = none;
      counted = zero_is;
      few = omega (arith, zero_is);
      files = (refl, refl);
    })

-- all of it
all_taken : {X : Type 0} (xs : List X) → take (length xs) xs ≡ xs
all_taken xs = take_all (length xs) xs (omega arith)

-- the run that has come to its end is the run
ran_to_end :
    {P : Type 0} (k : Keeper P) (b : Beginning) (es : List Entry) (input : InputOf) (start : P)
    (now : P) (r : RunOf) →
    (come : HasCome k b es input start (length input.frames) (length es) now r) →
    ran_over es input (first_looper b) ≡ record {
      output = come.so_far.output;
      replies =
          come.so_far.replies;
      saves = come.so_far.saves;
      looper = r.engine.looper;
    }
ran_to_end k b es input start now r come =
    sym (run-clipped es input.frames (first_looper b))
    ∙ ap₂ (λ (fs : List Entry) (xs : List Sound). run fs xs (first_looper b))
    (ap (all_clipped (length input.frames)) (sym (all_taken es)) ∙ sym come.entries)
    (sym (all_taken input.frames) ∙ sym come.frames)
    ∙ come.step.ran

-- OUT at the end
out_at_end :
    {P : Type 0} (k : Keeper P) (b : Beginning) (es : List Entry) (input : InputOf) (start : P)
    (now : P) (r : RunOf) (whole : List ℕ) →
    HasCome k b es input start (length input.frames) (length es) now r →
    whole ≡ r.out ++ padding (samples_size (length input.frames) input.channels input.bits) →
    whole ≡ wav_text (ran_over es input (first_looper b)).output input.channels input.bits
    input.rate
out_at_end k b es input start now r whole come whole_is =
    let ran = ran_over es input (first_looper b) in
    let same : come.so_far.output ≡ ran.output = ap (λ (n : Ran). n.output)
    (sym (ran_to_end k b es input start now r come)) in
    let size : length input.frames ≡ length ran.output =
    sym (length-run_output es input.frames (first_looper b)) in
    let made : List ℕ = samples input.channels input.bits ran.output in
    whole_is
    ∙ ap (λ (o : List ℕ). o
    ++ padding (samples_size (length input.frames) input.channels input.bits))
    (come.heard ∙ ap (λ (fs : List Sound). head_of input ++ samples input.channels input.bits fs)
    same)
    ∙ append_assoc (head_of input) made
    (padding (samples_size (length input.frames) input.channels input.bits))
    ∙ ap (λ n. wav_header (samples_size n input.channels input.bits) input.channels input.bits
    input.rate ++ (made ++ padding (samples_size n input.channels input.bits))) size

-- the text at the end
text_at_end :
    {P : Type 0} (k : Keeper P) (b : Beginning) (es : List Entry) (input : InputOf) (start : P)
    (now : P) (r : RunOf) (whole : List ℕ) → IsPlayable b es input →
    HasCome k b es input start (length input.frames) (length es) now r →
    whole ≡ r.text ++ numbers_line (length input.frames) (length es) r.replies
    r.engine.looper.saves (refused_in r.engine.looper) →
    whole ≡ run_text (length input.frames) (length es) (ran_over es input (first_looper b))
text_at_end k b es input start now r whole playable come whole_is =
    let s = come.so_far in
    let l = r.engine.looper in
    whole_is
    ∙ ap (λ (t : List ℕ). t ++ numbers_line (length input.frames) (length es) r.replies l.saves
    (refused_in l)) come.told
    ∙ ap₂ (λ (n m : ℕ). reply_lines s.replies ++ numbers_line (length input.frames) (length es) n m
    (refused_in l)) come.counted (saves_counted b s r.engine playable.begins come.step)
    ∙ ap (run_text (length input.frames) (length es))
    (sym (ran_to_end k b es input start now r come))

-- the files at the end
files_at_end :
    {P : Type 0} (k : Keeper P) (b : Beginning) (es : List Entry) (input : InputOf) (start : P)
    (now : P) (r : RunOf) → HasCome k b es input start (length input.frames) (length es) now r →
    Writes k (saved_by es input (first_looper b)) start now Written
files_at_end k b es input start now r come =
    subst (λ (ss : List Save). Writes k (files_for_all b.settings.rate ss) start now Written)
    (ap (λ (n : Ran). n.saves) (sym (ran_to_end k b es input start now r come))) come.files

-- the run plays what is behind the last entry, and ends, or it wants memory
pub ends :
    {P : Type 0} (k : Keeper P) (b : Beginning) (es : List Entry) (input : InputOf) (start : P)
    (now : P) (r last : RunOf) (result : Result Unit Stopped) → IsPlayable b es input →
    HasTaken k b es input start (length es) now r →
    OnOk result (Finishes input (length es) r last) → IfErr result (λ why. why ≡ NoMemory) →
    EndsRun k es input (first_looper b) start now last result
ends k b es input start now r last (Ok u) playable come finishes memory =
    let count = length input.frames in
    let all : count ≤ count = omega arith in
    let within : played_before count es (length es) ≤ count = omega arith in
    let played = finishes.played in
    let on = come_frames k b es input start (played_before count es (length es)) count (length es)
    now r played within all come finishes.plays in
    let text : last.text ≡ played.text ++ numbers_line count (length es) played.replies
    played.engine.looper.saves (refused_in played.engine.looper) =
    finishes.text
    ∙ ap₂ (λ (t : List ℕ) (n : ℕ). t ++ numbers_line count (length es) n
    played.engine.looper.saves (refused_in played.engine.looper)) (sym finishes.plays.text)
    (sym finishes.plays.replies) in (
      out_at_end k b es input start now played last.out on finishes.out,
      text_at_end k b es input start now played last.text playable on text,
      files_at_end k b es input start now played on,
    )
ends k b es input start now r last (Err why) playable come finishes memory =
    subst (λ (w : Stopped). StopsAt k (saved_by es input (first_looper b)) start now w) (sym memory)
    (stop_now k b es input start (length es) now r playable come)

-- a run that begins can be played
pub first_playable :
    (e : EngineOf) (first : IsFirst e) (es : List Entry) (input : InputOf) →
    HasRoomFor e.journal.quota es → IsTrue (are_stamped es) → length es < 2 ^ 63 →
    length input.frames ≤ max_file_frames →
    IsPlayable first.beginning es input
first_playable e first es input room stamped few short =
    record {
      begins = first.begins;
      stamped = stamped;
      room = subst (λ q. HasRoomFor q es) (ap (λ (f : EngineOf). f.journal.quota) first.is) room;
      few = few;
      short = short;
    }

-- and has come to its beginning
pub first_come :
    {P : Type 0} (k : Keeper P) (e : EngineOf) (first : IsFirst e) (es : List Entry)
    (input : InputOf) (start : P) (r : RunOf) (rate : ℕ) → r.engine ≡ e →
    r.saver ≡ record { rate = rate; saving = None } → rate ≡ e.looper.rate →
    IsSpelledAs input r.period → r.out ≡ head_of input → r.text ≡ [] → r.replies ≡ 0 →
    HasTaken k first.beginning es input start 0 start r
first_come k e first es input start r rate is idle rate_is spelled head none zero_is =
    let same : rate ≡ first.beginning.settings.rate =
    rate_is ∙ ap (λ (f : EngineOf). f.looper.rate) first.is in
    let fresh : r.saver ≡ record { rate = first.beginning.settings.rate; saving = None } =
    idle ∙ ap (λ n. let s : SaverOf = record { rate = n; saving = None } in s) same in
    begin_come k first.beginning es input start r (is ∙ first.is) fresh spelled head none zero_is

-- how it ends is told of its looper
pub ends_first :
    {P : Type 0} (k : Keeper P) (e : EngineOf) (first : IsFirst e) (es : List Entry)
    (input : InputOf) (start now : P) (r : RunOf) (result : Result Unit Stopped) →
    EndsRun k es input (first_looper first.beginning) start now r result →
    EndsRun k es input e.looper start now r result
ends_first k e first es input start now r result ended =
    subst (λ (l : Looper). EndsRun k es input l start now r result)
    (sym (ap (λ (f : EngineOf). f.looper) first.is)) ended

-- a period that was made for an input is spelled as it
pub silent_spelled : (input : InputOf) (p : PeriodOf) (channels bits most : ℕ) →
    p ≡ silent_period channels bits most → channels ≡ input.channels → bits ≡ input.bits →
    IsSpelledAs input p
silent_spelled input p channels bits most is channels_is bits_is = record {
  channels = ap (λ (q : PeriodOf). q.channels) is ∙ channels_is;
  bits = ap (λ (q : PeriodOf). q.bits) is ∙ bits_is;
}

-- what a run that has ended gives
pub performs :
    {P : Type 0} (k : Keeper P) (es : List Entry) (input : InputOf) (l : Looper) (start now : P)
    (r : RunOf) (p : Performed) (u : Unit {0}) → p.out.items ≡ r.out → string_bytes p.text ≡ r.text
    →
    EndsRun k es input l start now r (Ok u) → Performs k es input l start now (Ok p)
performs k es input l start now r p u out text ended = (
  out ∙ ended.0,
  text ∙ ended.1,
  ended.2,
)
