-- How a command ends, by its status.
-- - Done: of `render`, the files of all saves of the run are written in their order, and OUT last,
--   every other file is as before, and the console has the run's replies and numbers. Of `drill`,
--   the console has its numbers, and of `show` the session's loops, and no file changed. No count
--   rose.
-- - BadFile: the console names the first bad file. No file changed.
-- - Limit: all files are good, and IN is too long or the lists need too many chunks. No file
--   changed.
-- - ReadFault: the keeper's count of readings rose. No file changed.
-- - WriteFault: of `render`, the keeper's count of writes rose, and the first of the files of a
--   command that is done are written, of which one at least is left: what wasn't written isn't
--   tried again. Or the console's count rose, and the files are those of a command that is done.
-- - Memory: nothing was told, and no file changed, but that of `render` the first of the files of a
--   command that is done may be written.
-- The keeper's count of readings rises at ReadFault alone, and that of writes at WriteFault alone.
-- The console has the text of the status, or a prefix of it, and then only where its count rose.
-- "Statuses" in docs/formats.md.
use Rattle.std.specs.Prelude.{◌≡◌, ◌⊎◌, ⊤, ℕ, ◌++◌, Option, List, [], ◌∷◌, length, Result, Ok, Err}
use Rattle.std.specs.String.{string_bytes}
use Rattle.std.specs.declared.string.String.{String}
use Rattle.std.specs.declared.alloc.Global.{Global}
use Rattle.std.specs.Io.KnownBytes.{Appends}
use Rattle.sl_base.specs.Sounds.{Sound}
use Rattle.sl_base.specs.Counting.{Rose}
use Rattle.sl_commands.specs.Settings.{LooperSettings}
use Rattle.session_file.specs.Loading.{IsLoaded, FirstBadFile}
use Rattle.session_file.specs.declared.loading.LoadFault.{LoadFault}
use Rattle.session_file.specs.declared.loading.LoadFault.TheVariants.{File as BadPart, Read as Unread, Memory as NoMemory}
use Rattle.sl_ports.specs.Effects.{TellsTo}
use Rattle.sl_ports.specs.Files.{Files}
use Rattle.sl_ports.specs.Texts.{AppendsPrefix}
use Rattle.sl_ports.specs.declared.keepers.Keeper.{Ghosts as Keeper}
use Rattle.sl_ports.specs.declared.sinks.Sink.{Ghosts as Sink}
use Rattle.wav_pcm.specs.WavText.{wav_text}
use Rattle.looper_rules.specs.Looper.{Looper}
use Rattle.looper_rules.specs.Run.{Ran, start}
use Rattle.loop_saver.specs.SavedFiles.{SavedFile, put_all}
use Rattle.loop_saver.specs.Accepting.{WritesFirst, StopsWriting}
use Rattle.wav_pcm.specs.Inputs.{InputOf}
use Rattle.journal_run.specs.RunTexts.{run_text}
use Rattle.journal_run.specs.Performing.{ran_over, saved_by}
use Rattle.save_feeding.specs.declared.stopped.Stopped.{Stopped}
use Rattle.save_feeding.specs.declared.stopped.Stopped.TheVariants.{Writing as Unwritten, Memory as Wanted}
use Rattle.run_files.specs.AllFiles.{Contents, IsRunOf, ExceedsLimit, FirstBad}
use Rattle.command_words.specs.Words.{RenderAsked, DrillAsked, Asked, renders, drills, shows}
use Rattle.looper_cli.specs.Named.{named_of}
use Rattle.console_lines.specs.Telling.{bad_file_text, done_text}
use Rattle.looper_cli.specs.Console.{drill_text, show_text}
use Rattle.console_lines.specs.Statuses.{status_line, status_of}
use Rattle.console_lines.specs.declared.status.RunFault.{RunFault}
use Rattle.console_lines.specs.declared.status.RunFault.TheVariants.{BadFile as IsBad, Limit as Beyond, Reading, Writing, Memory as Lacking}
use Rattle.console_lines.specs.declared.status.Status.{Status}
use Rattle.console_lines.specs.declared.status.Status.TheVariants.{Done, Words, BadFile, ReadFault, WriteFault, Memory, Limit}

-- what a run goes over, and the looper that it begins with
abbrev pub input_of : Contents → InputOf
input_of t = record {
  rate = t.spelling.rate;
  channels = t.spelling.channels;
  bits =
      t.spelling.bits;
  frames = t.frames;
}

abbrev pub looper_of : RenderAsked → Contents → Looper
looper_of r t = start t.settings r.chunks t.lists

-- the run of the rules
abbrev pub ran_of : RenderAsked → Contents → Ran
ran_of r t = ran_over t.entries (input_of t) (looper_of r t)

-- what is written: the files of all saves, and OUT behind them
abbrev pub out_file : RenderAsked → Contents → SavedFile
out_file r t = record {
  name = r.out;
  bytes =
      wav_text (ran_of r t).output t.spelling.channels t.spelling.bits t.spelling.rate;
}

abbrev pub files_of_run : RenderAsked → Contents → List SavedFile
files_of_run r t = saved_by t.entries (input_of t) (looper_of r t) ++ out_file r t ∷ []

-- what is told
abbrev pub text_of_run : RenderAsked → Contents → List ℕ
text_of_run r t = done_text (run_text (length t.frames) (length t.entries) (ran_of r t))

-- all files of a run are written and no other, and its text is told so
pub record Renders (r : RenderAsked) (before after : Option Files)
    (Says : List ℕ → Type 0) : Type 0 where
  pub contents : Contents
  pub run : IsRunOf before (named_of r) contents
  pub files : after ≡ put_all (files_of_run r contents) before
  pub text : Says (text_of_run r contents)

-- the first of the files of a run are written and no other
pub record RendersFirst (r : RenderAsked) (before after : Option Files) : Type 0 where
  pub contents : Contents
  pub run : IsRunOf before (named_of r) contents
  pub files : WritesFirst (files_of_run r contents) before after

-- the same where one of the files is left at least: it isn't written, and none behind it is
pub record StopsRendering (r : RenderAsked) (before after : Option Files) : Type 0 where
  pub contents : Contents
  pub run : IsRunOf before (named_of r) contents
  pub files : StopsWriting (files_of_run r contents) before after

-- no count of the keeper rose
pub record StaysWhole {P : Type 0} (k : Keeper P) (old new : P) : Type 0 where
  pub reads : k.read_faults new ≡ k.read_faults old
  pub writes : k.write_faults new ≡ k.write_faults old

-- a file of a run couldn't be written
pub record FailsToWrite {P : Type 0} (k : Keeper P) (r : RenderAsked) (old new : P) : Type 0 where
  pub first : StopsRendering r (k.files old) (k.files new)
  pub rose : Rose (k.write_faults old) (k.write_faults new)

-- which counts of the keeper stay as they are, by how a command ends
abbrev pub KeepsCounts : {P : Type 0} → Keeper P → P → P → Status → Type 0
KeepsCounts k old new Done = StaysWhole k old new
KeepsCounts k old new Words = StaysWhole k old new
KeepsCounts k old new BadFile = StaysWhole k old new
KeepsCounts k old new ReadFault = k.write_faults new ≡ k.write_faults old
KeepsCounts k old new WriteFault = k.read_faults new ≡ k.read_faults old
KeepsCounts k old new Memory = StaysWhole k old new
KeepsCounts k old new Limit = StaysWhole k old new

-- the same by what it answers: its text, or a fault
abbrev pub CountsBy : {P : Type 0} → Keeper P → P → P → Result (String Global) RunFault → Type 0
CountsBy k old new (Ok text) = StaysWhole k old new
CountsBy k old new (Err fault) = KeepsCounts k old new (status_of fault)

-- what a run that isn't done leaves, by its fault
abbrev pub FailsBy : {P : Type 0} → Keeper P → RenderAsked → P → P → RunFault → Type 0
FailsBy k r old new (IsBad name kind line) = FirstBad (k.files old) (named_of r) name kind line
    × (k.files new ≡ k.files old)
FailsBy k r old new Beyond = ExceedsLimit (k.files old) (named_of r) × (k.files new ≡ k.files old)
FailsBy k r old new Reading = Rose (k.read_faults old) (k.read_faults new)
    × (k.files new ≡ k.files old)
FailsBy k r old new Writing = FailsToWrite k r old new
FailsBy k r old new Lacking = (k.files new ≡ k.files old)
    ⊎ RendersFirst r (k.files old) (k.files new)

-- what a run of `render` does to the keeper's files, by its answer: its text, or a fault
abbrev pub Leaves : {P : Type 0} → Keeper P → RenderAsked → P → P →
    Result (String Global) RunFault → Type 0
Leaves k r old new (Ok text) =
    Renders r (k.files old) (k.files new) (λ said. string_bytes text ≡ said) × StaysWhole k old new
Leaves k r old new (Err fault) = FailsBy k r old new fault

-- why a session isn't loaded, or a run gives nothing, is handed on
abbrev pub PassesLoad : LoadFault → RunFault → Type 0
PassesLoad (BadPart name kind line) result = result ≡ IsBad name kind line
PassesLoad Unread result = result ≡ Reading
PassesLoad NoMemory result = result ≡ Lacking

abbrev pub PassesPlay : Stopped → RunFault → Type 0
PassesPlay Unwritten result = result ≡ Writing
PassesPlay Wanted result = result ≡ Lacking

-- the session of this name is told
pub record Shows (session : List ℕ) (files : Option Files) (Says : List ℕ → Type 0) : Type 0 where
  pub settings : LooperSettings
  pub lists : List (List Sound)
  pub loaded : IsLoaded files session settings lists
  pub text : Says (show_text settings)

-- what a look at a session that isn't done says of the files, by its fault; it never writes
abbrev pub FailsToShow : {P : Type 0} → Keeper P → List ℕ → P → P → RunFault → Type 0
FailsToShow k session old new (IsBad name kind line) =
    FirstBadFile (k.files old) session name kind line
FailsToShow k session old new Beyond = ⊥
FailsToShow k session old new Reading = Rose (k.read_faults old) (k.read_faults new)
FailsToShow k session old new Writing = ⊥
FailsToShow k session old new Lacking = ⊤

-- what a look at a session tells, by its answer: the session's text, or a fault
abbrev pub LooksAt : {P : Type 0} → Keeper P → List ℕ → P → P → Result (String Global) RunFault →
    Type 0
LooksAt k session old new (Ok text) = Shows session (k.files old) (λ said. string_bytes text ≡ said)
    × StaysWhole k old new
LooksAt k session old new (Err fault) = FailsToShow k session old new fault

-- what a drill tells, by its answer: its numbers, or a want of memory
abbrev pub Drills : DrillAsked → Result (String Global) RunFault → Type 0
Drills d (Ok text) = string_bytes text ≡ drill_text d
Drills d (Err fault) = fault ≡ Lacking

-- what a command does to the keeper's files, by its answer
abbrev pub Does : {P : Type 0} → Keeper P → Asked → P → P → Result (String Global) RunFault → Type 0
Does k (renders r) old new result = Leaves k r old new result
Does k (drills d) old new result = Drills d result × (new ≡ old)
Does k (shows session) old new result = LooksAt k session old new result
    × (k.files new ≡ k.files old)

-- a command that is done: the files that it leaves, and what it tells
abbrev pub IsDone : Asked → Option Files → Option Files → (List ℕ → Type 0) → Type 0
IsDone (renders r) before after Says = Renders r before after Says
IsDone (drills d) before after Says = Says (drill_text d) × (after ≡ before)
IsDone (shows session) before after Says = Shows session before Says × (after ≡ before)

-- a command's first bad file, with the number of what is wrong and its line
abbrev pub IsBadFor : Asked → Option Files → List ℕ → ℕ → ℕ → Type 0
IsBadFor (renders r) files name kind line = FirstBad files (named_of r) name kind line
IsBadFor (drills d) files name kind line = ⊥
IsBadFor (shows session) files name kind line = FirstBadFile files session name kind line

-- a command's files are good, and a limit is exceeded
abbrev pub IsBeyondFor : Asked → Option Files → Type 0
IsBeyondFor (renders r) files = ExceedsLimit files (named_of r)
IsBeyondFor (drills d) files = ⊥
IsBeyondFor (shows session) files = ⊥

-- the first bad file is told so
pub record NamesBad (asked : Asked) (files : Option Files) (Says : List ℕ → Type 0) : Type 0 where
  pub name : List ℕ
  pub kind : ℕ
  pub line : ℕ
  pub first : IsBadFor asked files name kind line
  pub text : Says (bad_file_text name kind line)

-- a command couldn't write a file
abbrev pub CannotWrite : {P : Type 0} → Keeper P → Asked → P → P → Type 0
CannotWrite k (renders r) old new = FailsToWrite k r old new
CannotWrite k (drills d) old new = ⊥
CannotWrite k (shows session) old new = ⊥

-- no file changed, or the first files of a run are written
abbrev pub WritesAtMost : Asked → Option Files → Option Files → Type 0
WritesAtMost (renders r) before after = (after ≡ before) ⊎ RendersFirst r before after
WritesAtMost (drills d) before after = after ≡ before
WritesAtMost (shows session) before after = after ≡ before

-- what holds where a command ends with a status
abbrev pub Ends : {P C : Type 0} → Keeper P → Sink C → Asked → P → P → C → C → Status → Type 0
Ends k s asked old new before after Done =
    IsDone asked (k.files old) (k.files new) (Appends (s.held before) (s.held after))
    × StaysWhole k old new × (s.faults after ≡ s.faults before)
Ends k s asked old new before after Words = ⊥
Ends k s asked old new before after BadFile = NamesBad asked (k.files old) (TellsTo s before after)
    × (k.files new ≡ k.files old)
Ends k s asked old new before after Limit = IsBeyondFor asked (k.files old)
    × TellsTo s before after (status_line Limit) × (k.files new ≡ k.files old)
Ends k s asked old new before after ReadFault =
    Rose (k.read_faults old) (k.read_faults new) × TellsTo s before after (status_line ReadFault)
    × (k.files new ≡ k.files old)
Ends k s asked old new before after WriteFault =
    (CannotWrite k asked old new × TellsTo s before after (status_line WriteFault))
    ⊎ (Rose (s.faults before) (s.faults after)
    × IsDone asked (k.files old) (k.files new) (AppendsPrefix (s.held before) (s.held after)))
Ends k s asked old new before after Memory = WritesAtMost asked (k.files old) (k.files new)
    × (after ≡ before)
