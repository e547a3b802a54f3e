-- A run is the engine and the saver, the buffers of its period, OUT as far as it was heard, and
-- what was told, in so many replies. It plays the frames of its input one behind the other, and
-- puts the samples of what is heard at the end of OUT.
-- "The run" in docs/rules.md.
use Rattle.std.specs.Prelude.{◌≡◌, ℕ, ◌+◌, ◌-◌, List, [], ◌∷◌, ◌++◌, length, None, option_to_list}
use Rattle.sl_base.specs.Sounds.{Sound}
use Rattle.sl_commands.specs.declared.Entry.{Entry}
use Rattle.wav_pcm.specs.WavText.{samples, samples_size, padding}
use Rattle.wav_pcm.specs.Inputs.{InputOf, span_of}
use Rattle.periods.specs.Periods.{PeriodOf}
use Rattle.looper_rules.specs.Entries.{reply, save}
use Rattle.loop_saver.specs.Savers.{SaverOf}
use Rattle.engine_steps.specs.Engines.{EngineOf, Beginning, left, went_on, put_out}
use Rattle.engine_steps.specs.InStep.{SoFar, IsInStep, with_taken}
use Rattle.whole_looper.specs.Loopers.{refused_in}
use Rattle.save_feeding.specs.Feeding.{SentOn}
use Rattle.journal_run.specs.RunTexts.{reply_lines, numbers_line}

-- what contracts see of a run
pub record RunOf : Type 0 where
  pub engine : EngineOf
  pub saver : SaverOf
  pub period : PeriodOf
  pub out : List ℕ
  pub text : List ℕ
  pub replies : ℕ

-- the run of these parts
abbrev pub run_of : EngineOf → SaverOf → PeriodOf → List ℕ → List ℕ → ℕ → RunOf
run_of engine saver period out text replies = record {
  engine = engine;
  saver = saver;
  period = period;
  out = out;
  text = text;
  replies = replies;
}

-- a period's samples are spelled as the input's
pub record IsSpelledAs (input : InputOf) (p : PeriodOf) : Type 0 where
  pub channels : p.channels ≡ input.channels
  pub bits : p.bits ≡ input.bits

-- the frames from those that a run has played up to so many
abbrev pub frames_to : InputOf → ℕ → RunOf → List Sound
frames_to input until r = span_of r.engine.frames (until - r.engine.frames) input.frames

-- the run has played the frames up to so many, and nothing else of it changed but its buffers
pub record PlaysTo (input : InputOf) (until : ℕ) (r next : RunOf) : Type 0 where
  pub engine : next.engine ≡ went_on (frames_to input until r) r.engine
  pub out : next.out
      ≡ r.out ++ samples input.channels input.bits (put_out (frames_to input until r) r.engine)
  pub spelled : IsSpelledAs input next.period
  pub saver : next.saver ≡ r.saver
  pub text : next.text ≡ r.text
  pub replies : next.replies ≡ r.replies

-- the run has taken this entry: its reply is told, and the blocks of its save went to the saver
pub record Takes (en : Entry) (r next : RunOf) : Type 0 where
  pub step : (b : Beginning) → (s : SoFar) → IsInStep b s r.engine → SentOn b
      (with_taken (reply en r.engine.looper) (save en r.engine.looper) s) next.engine
  pub journal : next.engine.journal ≡ record r.engine.journal {
    entries = r.engine.journal.entries ++ en ∷ [];
  }
  pub none : left next.engine ≡ []
  pub rate : next.saver.rate ≡ r.saver.rate
  pub idle : next.saver.saving ≡ None
  pub period : next.period ≡ r.period
  pub out : next.out ≡ r.out
  pub text : next.text ≡ r.text ++ reply_lines (option_to_list (reply en r.engine.looper))
  pub replies : next.replies ≡ r.replies + length (option_to_list (reply en r.engine.looper))

-- the run has played all frames behind so many entries, and has put the pad and the numbers at the
-- end
pub record Finishes (input : InputOf) (entries : ℕ) (r next : RunOf) : Type 0 where
  pub played : RunOf
  pub plays : PlaysTo input (length input.frames) r played
  pub engine : next.engine ≡ played.engine
  pub out : next.out
      ≡ played.out ++ padding (samples_size (length input.frames) input.channels input.bits)
  pub text : next.text ≡ r.text ++ numbers_line (length input.frames) entries r.replies
      played.engine.looper.saves (refused_in played.engine.looper)
