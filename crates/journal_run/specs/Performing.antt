-- A run begins with an engine before all frames and entries, whose journal has room for all
-- entries. Each entry is taken at its frame, or behind the last one, and the blocks of its save are
-- given to the saver at once. So at the end what was heard, what was told and what was written are
-- those of the run.
-- "The run" in docs/rules.md.
use Rattle.std.specs.Prelude.{◌≡◌, ◌≤◌, ℕ, ◌^◌, ◌<◌, ◌++◌, min, [], List, None, Result, Ok, Err, length, take, IsTrue}
use Rattle.sl_base.specs.Limits.{max_file_frames}
use Rattle.sl_commands.specs.declared.Entry.{Entry}
use Rattle.sl_commands.specs.Entries.{entries_of, are_stamped, last_frame}
use Rattle.sl_ports.specs.declared.keepers.Keeper.{Ghosts as Keeper}
use Rattle.wav_pcm.specs.WavText.{samples, samples_size, wav_header, wav_text}
use Rattle.looper_rules.specs.Looper.{Looper}
use Rattle.looper_rules.specs.Run.{Ran, run}
use Rattle.looper_rules.specs.Reached.{IsBeginning}
use Rattle.frame_stamp.specs.Journals.{room_of}
use Rattle.loop_saver.specs.declared.ending.Ending.TheVariants.{Written}
use Rattle.loop_saver.specs.SavedFiles.{SavedFile, files_for_all}
use Rattle.loop_saver.specs.Accepting.{Writes}
use Rattle.engine_steps.specs.Engines.{EngineOf, Beginning, first_engine, first_looper, left}
use Rattle.engine_steps.specs.InStep.{SoFar, IsInStep}
use Rattle.journal_run.specs.Clipping.{all_clipped}
use Rattle.save_feeding.specs.Feeding.{StopsAt}
use Rattle.wav_pcm.specs.Inputs.{InputOf}
use Rattle.journal_run.specs.RunTexts.{reply_lines, run_text}
use Rattle.journal_run.specs.Runs.{RunOf, IsSpelledAs}
use Rattle.journal_run.specs.declared.ending.Performed.{Performed}
use Rattle.std.specs.String.{string_bytes}
use Rattle.save_feeding.specs.declared.stopped.Stopped.{Stopped}

-- an engine before all frames and entries
pub record IsFirst (e : EngineOf) : Type 0 where
  pub beginning : Beginning
  pub is : e ≡ first_engine beginning
  pub begins : IsBeginning beginning.settings beginning.chunks beginning.initial

-- a journal of this quota has room for these entries
abbrev pub HasRoomFor : ℕ → List Entry → Type 0
HasRoomFor quota es = (sender : ℕ) → length (entries_of sender es) ≤ room_of sender quota

-- the run of these entries over the input, from this looper
abbrev pub ran_over : List Entry → InputOf → Looper → Ran
ran_over es input l = run es input.frames l

-- the files of the saves of a run that begins with this looper
abbrev pub saved_by : List Entry → InputOf → Looper → List SavedFile
saved_by es input l = files_for_all l.rate (ran_over es input l).saves

-- what stands before the samples
abbrev pub head_of : InputOf → List ℕ
head_of input =
    wav_header (samples_size (length input.frames) input.channels input.bits) input.channels
    input.bits input.rate

-- what the run gave so far: so many frames were played, and so many entries taken
pub record HasCome {P : Type 0} (k : Keeper P) (b : Beginning) (es : List Entry) (input : InputOf)
    (start : P) (done taken : ℕ) (now : P) (r : RunOf) : Type 0 where
  pub so_far : SoFar
  pub step : IsInStep b so_far r.engine
  pub frames : so_far.input ≡ take done input.frames
  pub entries : r.engine.journal.entries ≡ all_clipped (length input.frames) (take taken es)
  pub quota : r.engine.journal.quota ≡ b.quota
  pub none : left r.engine ≡ []
  pub idle : r.saver.saving ≡ None
  pub rate : r.saver.rate ≡ b.settings.rate
  pub spelled : IsSpelledAs input r.period
  pub heard : r.out ≡ head_of input ++ samples input.channels input.bits so_far.output
  pub told : r.text ≡ reply_lines so_far.replies
  pub counted : r.replies ≡ length so_far.replies
  pub few : r.replies ≤ taken
  pub files : Writes k (files_for_all b.settings.rate so_far.saves) start now Written

-- the entries of a journal, and a beginning with room for them
pub record IsPlayable (b : Beginning) (es : List Entry) (input : InputOf) : Type 0 where
  pub begins : IsBeginning b.settings b.chunks b.initial
  pub stamped : IsTrue (are_stamped es)
  pub room : HasRoomFor b.quota es
  pub few : length es < 2 ^ 63
  pub short : length input.frames ≤ max_file_frames

-- how many frames are played where so many entries are taken
abbrev pub played_before : ℕ → List Entry → ℕ → ℕ
played_before count es taken = min (last_frame (take taken es)) count

-- the run has come to the place of the last of so many entries, and has taken these
abbrev pub HasTaken : {P : Type 0} → Keeper P → Beginning → List Entry → InputOf → P → ℕ → P →
    RunOf → Type 0
HasTaken k b es input start taken now r =
    HasCome k b es input start (played_before (length input.frames) es taken) taken now r

-- the run is on its way
pub record IsComing {P : Type 0} (k : Keeper P) (es : List Entry) (input : InputOf) (taken : ℕ)
    (now : P) (r : RunOf) : Type 0 where
  pub beginning : Beginning
  pub playable : IsPlayable beginning es input
  pub start : P
  pub come : HasTaken k beginning es input start taken now r

-- what one entry more leaves: the run has come further, or it stops with the first files of its
-- saves
abbrev pub ComesOrStops : {P : Type 0} → Keeper P → Beginning → List Entry → InputOf → P → ℕ → P →
    RunOf → Result Unit Stopped → Type 0
ComesOrStops k b es input start taken now r (Ok _) = HasTaken k b es input start taken now r
ComesOrStops k b es input start taken now r (Err why) =
    StopsAt k (files_for_all b.settings.rate (ran_over es input (first_looper b)).saves) start now
    why

-- how a run over this looper ends, by its answer: OUT and the text are the run's and all files of
-- its saves are written, or the first of them are
abbrev pub EndsRun : {P : Type 0} → Keeper P → List Entry → InputOf → Looper → P → P → RunOf →
    Result Unit Stopped → Type 0
EndsRun k es input l start now r (Ok _) =
    (r.out ≡ wav_text (ran_over es input l).output input.channels input.bits input.rate)
    × (r.text ≡ run_text (length input.frames) (length es) (ran_over es input l))
    × Writes k (saved_by es input l) start now Written
EndsRun k es input l start now r (Err why) = StopsAt k (saved_by es input l) start now why

-- the same of what the run gives
abbrev pub Performs : {P : Type 0} → Keeper P → List Entry → InputOf → Looper → P → P →
    Result Performed Stopped → Type 0
Performs k es input l start now (Ok p) =
    (p.out.items ≡ wav_text (ran_over es input l).output input.channels input.bits input.rate)
    × (string_bytes p.text ≡ run_text (length input.frames) (length es) (ran_over es input l))
    × Writes k (saved_by es input l) start now Written
Performs k es input l start now (Err why) = StopsAt k (saved_by es input l) start now why
