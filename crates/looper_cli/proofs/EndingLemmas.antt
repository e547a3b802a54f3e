-- How a command ends, from what it answers.
use Rattle.std.proofs.Common.{◌≡◌, ◌≢◌, ℕ, List, Option, Some, None, sym, ap, ◌∙◌, subst, refl, inl, inr, ◌⊎◌, arith}
use Rattle.std.specs.Prelude.{Ok, Err, IfSome}
use Rattle.std.specs.String.{string_bytes}
use Rattle.std.specs.declared.string.String.{String}
use Rattle.std.specs.declared.alloc.Global.{Global}
use Rattle.std.specs.Io.KnownBytes.{Appends}
use Rattle.sl_ports.specs.Files.{Files}
use Rattle.sl_ports.specs.Texts.{AppendsPrefix}
use Rattle.sl_ports.specs.declared.keepers.Keeper.{Ghosts as Keeper}
use Rattle.sl_ports.specs.declared.sinks.Sink.{Ghosts as Sink}
use Rattle.run_files.specs.AllFiles.{IsRunOf}
use Rattle.run_files.proofs.PartLemmas.{loaded_or_bad}
use Rattle.run_files.proofs.RunLemmas.{run_or_bad, run_or_limit}
use Rattle.command_words.specs.Words.{Asked, renders, drills, shows}
use Rattle.looper_cli.specs.Named.{named_of, IsNamedBy}
use Rattle.console_lines.specs.Telling.{TellsDone, TellsFault}
use Rattle.console_lines.specs.Statuses.{status_number, status_of}
use Rattle.looper_cli.specs.Endings.{StaysWhole, KeepsCounts, CountsBy, Does, IsDone, IsBadFor, IsBeyondFor, CannotWrite, Ends}
use Rattle.console_lines.specs.declared.status.RunFault.{RunFault}
use Rattle.console_lines.specs.declared.status.RunFault.TheVariants.{BadFile as IsBad, Limit as Beyond, Reading, Writing, Memory as Lacking}
use Rattle.console_lines.specs.declared.status.Status.{Status}
use Rattle.console_lines.specs.declared.status.Status.TheVariants.{Done, Words, BadFile, ReadFault, WriteFault, Memory, Limit}

-- a command that is done and told so
told_done :
    (asked : Asked) (before after : Option Files) (Said Told : List ℕ → Type 0) →
    ((bytes : List ℕ) → Said bytes → Told bytes) →
    IsDone asked before after Said → IsDone asked before after Told
told_done (renders r) before after Said Told tells done =
    record {
      contents = done.contents;
      run = done.run;
      files = done.files;
      text = tells _ done.text;
    }
told_done (drills d) before after Said Told tells done = (tells _ done.0, done.1)
told_done (shows session) before after Said Told tells done = (
  record {
    settings = done.0.settings;
    lists = done.0.lists;
    loaded = done.0.loaded;
    text =
        tells _ done.0.text;
  },
  done.1,
)

-- what a command that answers a text did
text_done :
    {P : Type 0} (k : Keeper P) (asked : Asked) (old new : P) (text : String Global) →
    Does k asked old new (Ok text) →
    IsDone asked (k.files old) (k.files new) (λ said. string_bytes text ≡ said)
    × StaysWhole k old new
text_done k (renders r) old new text does = does
text_done k (drills d) old new text does = (
  (does.0, ap k.files does.1),
  record { reads = ap k.read_faults does.1; writes = ap k.write_faults does.1 },
)
text_done k (shows session) old new text does = ((does.0.0, does.1), does.0.1)

-- a command that is done ends by how its text is told
pub done_ends :
    {P C : Type 0} (k : Keeper P) (s : Sink C) (asked : Asked) (old new : P) (before after : C)
    (text : String Global) (bytes : List ℕ) (status : Status) →
    Does k asked old new (Ok text) → bytes ≡ string_bytes text →
    TellsDone s before after bytes status → Ends k s asked old new before after status
done_ends k s asked old new before after text bytes Done does same told =
    let done = text_done k asked old new text does in (
      told_done asked (k.files old) (k.files new) (λ said. string_bytes text ≡ said)
          (Appends (s.held before) (s.held after))
          (λ b is. subst (Appends (s.held before) (s.held after)) (same ∙ is) told.0) done.0,
      done.1,
      told.1,
    )
done_ends k s asked old new before after text bytes WriteFault does same told =
    let done = text_done k asked old new text does in
    inr (
      told.0,
      told_done asked (k.files old) (k.files new) (λ said. string_bytes text ≡ said)
          (AppendsPrefix (s.held before) (s.held after))
          (λ b is. subst (AppendsPrefix (s.held before) (s.held after)) (same ∙ is) told.1) done.0,
    )
done_ends k s asked old new before after text bytes Words does same told = absurd told
done_ends k s asked old new before after text bytes BadFile does same told = absurd told
done_ends k s asked old new before after text bytes ReadFault does same told = absurd told
done_ends k s asked old new before after text bytes Memory does same told = absurd told
done_ends k s asked old new before after text bytes Limit does same told = absurd told

-- a command that isn't done ends by its fault
fault_ends_so :
    {P C : Type 0} (k : Keeper P) (s : Sink C) (asked : Asked) (old new : P) (before after : C)
    (fault : RunFault) →
    Does k asked old new (Err fault) → TellsFault s before after fault →
    Ends k s asked old new before after (status_of fault)
fault_ends_so k s (renders r) old new before after (IsBad name kind line) does told =
    (record { name = name; kind = kind; line = line; first = does.0; text = told }, does.1)
fault_ends_so k s (renders r) old new before after Beyond does told = (does.0, told, does.1)
fault_ends_so k s (renders r) old new before after Reading does told = (does.0, told, does.1)
fault_ends_so k s (renders r) old new before after Writing does told = inl (does, told)
fault_ends_so k s (renders r) old new before after Lacking does told = (does, told)
fault_ends_so k s (drills d) old new before after (IsBad name kind line) does told =
    absurd (let is = does.0 in cc)
fault_ends_so k s (drills d) old new before after Beyond does told =
    absurd (let is = does.0 in cc)
fault_ends_so k s (drills d) old new before after Reading does told =
    absurd (let is = does.0 in cc)
fault_ends_so k s (drills d) old new before after Writing does told =
    absurd (let is = does.0 in cc)
fault_ends_so k s (drills d) old new before after Lacking does told = (ap k.files does.1, told)
fault_ends_so k s (shows session) old new before after (IsBad name kind line) does told =
    (record { name = name; kind = kind; line = line; first = does.0; text = told }, does.1)
fault_ends_so k s (shows session) old new before after Beyond does told = absurd does.0
fault_ends_so k s (shows session) old new before after Reading does told = (does.0, told, does.1)
fault_ends_so k s (shows session) old new before after Writing does told = absurd does.0
fault_ends_so k s (shows session) old new before after Lacking does told = (does.1, told)

pub fault_ends :
    {P C : Type 0} (k : Keeper P) (s : Sink C) (asked : Asked) (old new : P) (before after : C)
    (fault : RunFault) (status : Status) →
    Does k asked old new (Err fault) → TellsFault s before after fault → status ≡ status_of fault →
    Ends k s asked old new before after status
fault_ends k s asked old new before after fault status does told is =
    subst (Ends k s asked old new before after) (sym is)
    (fault_ends_so k s asked old new before after fault does told)

-- a command that is done has no bad file
done_has_no_bad_file :
    (asked : Asked) (files : Files) (after : Option Files) (Told : List ℕ → Type 0) (name : List ℕ)
    (kind line : ℕ) → IsNamedBy asked →
    IsDone asked (Some files) after Told → IsBadFor asked (Some files) name kind line → ⊥
done_has_no_bad_file (renders r) files after Told name kind line named done bad =
    run_or_bad files (named_of r) done.contents name kind line named done.run.holds bad
done_has_no_bad_file (drills d) files after Told name kind line named done bad = bad
done_has_no_bad_file (shows session) files after Told name kind line named done bad =
    loaded_or_bad files session done.0.settings done.0.lists name kind line done.0.loaded bad

-- nor has one that couldn't write
unwritten_has_no_bad_file :
    {P : Type 0} (k : Keeper P) (asked : Asked) (old new : P) (files : Files) (name : List ℕ)
    (kind line : ℕ) → IsNamedBy asked → k.files old ≡ Some files →
    CannotWrite k asked old new → IsBadFor asked (Some files) name kind line → ⊥
unwritten_has_no_bad_file k (renders r) old new files name kind line named told cannot bad =
    run_or_bad files (named_of r) cannot.first.contents name kind line named
    (subst (λ before. IsRunOf before (named_of r) cannot.first.contents) told
    cannot.first.run).holds
    bad
unwritten_has_no_bad_file k (drills d) old new files name kind line named told cannot bad = bad
unwritten_has_no_bad_file k (shows session) old new files name kind line named told cannot bad =
    cannot

-- nor has one that is beyond a limit
beyond_has_no_bad_file :
    (asked : Asked) (files : Files) (name : List ℕ) (kind line : ℕ) → IsNamedBy asked →
    IsBeyondFor asked (Some files) →
    IsBadFor asked (Some files) name kind line → ⊥
beyond_has_no_bad_file (renders r) files name kind line named beyond bad =
    run_or_bad files (named_of r) beyond.contents name kind line named beyond.holds bad
beyond_has_no_bad_file (drills d) files name kind line named beyond bad = bad
beyond_has_no_bad_file (shows session) files name kind line named beyond bad = beyond

-- a command that is done is within the limits
done_is_within :
    (asked : Asked) (files : Files) (after : Option Files) (Told : List ℕ → Type 0) →
    IsNamedBy asked → IsDone asked (Some files) after Told →
    IsBeyondFor asked (Some files) → ⊥
done_is_within (renders r) files after Told named done beyond =
    run_or_limit files (named_of r) done.contents named done.run beyond
done_is_within (drills d) files after Told named done beyond = beyond
done_is_within (shows session) files after Told named done beyond = beyond

-- and so is one that couldn't write
unwritten_is_within :
    {P : Type 0} (k : Keeper P) (asked : Asked) (old new : P) (files : Files) → IsNamedBy asked →
    k.files old ≡ Some files → CannotWrite k asked old new →
    IsBeyondFor asked (Some files) → ⊥
unwritten_is_within k (renders r) old new files named told cannot beyond =
    run_or_limit files (named_of r) cannot.first.contents named
    (subst (λ before. IsRunOf before (named_of r) cannot.first.contents) told cannot.first.run)
    beyond
unwritten_is_within k (drills d) old new files named told cannot beyond = beyond
unwritten_is_within k (shows session) old new files named told cannot beyond = beyond

-- where there is a bad file, the status is one of three
bad_file_ends :
    {P C : Type 0} (k : Keeper P) (s : Sink C) (asked : Asked) (old new : P) (before after : C)
    (status : Status) (files : Files) (name : List ℕ) (kind line : ℕ) →
    IsNamedBy asked → k.files old ≡ Some files → Ends k s asked old new before after status →
    IsBadFor asked (Some files) name kind line →
    (status_number status ≡ 3) ⊎ (status_number status ≡ 4) ⊎ (status_number status ≡ 8)
bad_file_ends k s asked old new before after Done files name kind line named told ends bad =
    absurd
    (done_has_no_bad_file asked files (k.files new) (Appends (s.held before) (s.held after)) name
    kind line named
    (subst (λ o. IsDone asked o (k.files new) (Appends (s.held before) (s.held after))) told ends.0)
    bad)
bad_file_ends k s asked old new before after Words files name kind line named told ends bad =
    absurd ends
bad_file_ends k s asked old new before after BadFile files name kind line named told ends bad =
    inl refl
bad_file_ends k s asked old new before after ReadFault files name kind line named told ends bad =
    inr (inl refl)
bad_file_ends k s asked old new before after WriteFault files name kind line named told
    (inl (cannot, text)) bad =
    absurd (unwritten_has_no_bad_file k asked old new files name kind line named told cannot bad)
bad_file_ends k s asked old new before after WriteFault files name kind line named told
    (inr (rose, done)) bad =
    absurd
    (done_has_no_bad_file asked files (k.files new) (AppendsPrefix (s.held before) (s.held after))
    name kind line named
    (subst (λ o. IsDone asked o (k.files new) (AppendsPrefix (s.held before) (s.held after))) told
    done) bad)
bad_file_ends k s asked old new before after Memory files name kind line named told ends bad =
    inr (inr refl)
bad_file_ends k s asked old new before after Limit files name kind line named told ends bad =
    absurd (beyond_has_no_bad_file asked files name kind line named
    (subst (IsBeyondFor asked) told ends.0) bad)

-- where a limit is exceeded, the status is one of three
limit_ends :
    {P C : Type 0} (k : Keeper P) (s : Sink C) (asked : Asked) (old new : P) (before after : C)
    (status : Status) (files : Files) →
    IsNamedBy asked → k.files old ≡ Some files → Ends k s asked old new before after status →
    IsBeyondFor asked (Some files) →
    (status_number status ≡ 4) ⊎ (status_number status ≡ 8) ⊎ (status_number status ≡ 9)
limit_ends k s asked old new before after Done files named told ends beyond =
    absurd
    (done_is_within asked files (k.files new) (Appends (s.held before) (s.held after)) named
    (subst (λ o. IsDone asked o (k.files new) (Appends (s.held before) (s.held after))) told ends.0)
    beyond)
limit_ends k s asked old new before after Words files named told ends beyond = absurd ends
limit_ends k s asked old new before after BadFile files named told ends beyond =
    absurd
    (beyond_has_no_bad_file asked files ends.0.name ends.0.kind ends.0.line named beyond
    (subst (λ o. IsBadFor asked o ends.0.name ends.0.kind ends.0.line) told ends.0.first))
limit_ends k s asked old new before after ReadFault files named told ends beyond = inl refl
limit_ends k s asked old new before after WriteFault files named told (inl (cannot, text)) beyond =
    absurd (unwritten_is_within k asked old new files named told cannot beyond)
limit_ends k s asked old new before after WriteFault files named told (inr (rose, done)) beyond =
    absurd
    (done_is_within asked files (k.files new) (AppendsPrefix (s.held before) (s.held after)) named
    (subst (λ o. IsDone asked o (k.files new) (AppendsPrefix (s.held before) (s.held after))) told
    done) beyond)
limit_ends k s asked old new before after Memory files named told ends beyond = inr (inl refl)
limit_ends k s asked old new before after Limit files named told ends beyond = inr (inr refl)

-- the same of what words ask for and a keeper tells
pub bad_file_always_ends :
    {P C : Type 0} (k : Keeper P) (s : Sink C) (words : Option Asked) (asked : Asked) (old new : P)
    (before after : C) (status : Status) (number : ℕ) (files : Option Files) →
    words ≡ Some asked → IsNamedBy asked → k.files old ≡ files →
    Ends k s asked old new before after status → number ≡ status_number status →
    IfSome words (λ a. IfSome files (λ f. (name : List ℕ) (kind line : ℕ) →
    IsBadFor a (Some f) name kind line → (number ≡ 3) ⊎ (number ≡ 4) ⊎ (number ≡ 8)))
bad_file_always_ends k s None asked old new before after status number files is named told ends
    numbered = absurd (cc)
bad_file_always_ends k s (Some a) asked old new before after status number None is named told ends
    numbered = tt
bad_file_always_ends k s (Some a) asked old new before after status number (Some f) is named told
    ends numbered = λ name kind line bad.
    let same : asked ≡ a = cc in
    subst (λ n. (n ≡ 3) ⊎ (n ≡ 4) ⊎ (n ≡ 8)) (sym numbered)
    (bad_file_ends k s a old new before after status f name kind line (subst IsNamedBy same named)
    told
    (subst (λ one. Ends k s one old new before after status) same ends) bad)

pub limit_always_ends :
    {P C : Type 0} (k : Keeper P) (s : Sink C) (words : Option Asked) (asked : Asked) (old new : P)
    (before after : C) (status : Status) (number : ℕ) (files : Option Files) →
    words ≡ Some asked → IsNamedBy asked → k.files old ≡ files →
    Ends k s asked old new before after status → number ≡ status_number status →
    IfSome words (λ a.
    IfSome files (λ f. IsBeyondFor a (Some f) → (number ≡ 4) ⊎ (number ≡ 8) ⊎ (number ≡ 9)))
limit_always_ends k s None asked old new before after status number files is named told ends
    numbered = absurd (cc)
limit_always_ends k s (Some a) asked old new before after status number None is named told ends
    numbered = tt
limit_always_ends k s (Some a) asked old new before after status number (Some f) is named told ends
    numbered = λ beyond.
    let same : asked ≡ a = cc in
    subst (λ n. (n ≡ 4) ⊎ (n ≡ 8) ⊎ (n ≡ 9)) (sym numbered)
    (limit_ends k s a old new before after status f (subst IsNamedBy same named) told
    (subst (λ one. Ends k s one old new before after status) same ends) beyond)

-- the counts of a command that is done, however its text is told
pub done_counts :
    {P C : Type 0} (k : Keeper P) (s : Sink C) (old new : P) (before after : C) (bytes : List ℕ)
    (status : Status) → StaysWhole k old new → TellsDone s before after bytes status →
    KeepsCounts k old new status
done_counts k s old new before after bytes Done whole told = whole
done_counts k s old new before after bytes Words whole told = whole
done_counts k s old new before after bytes BadFile whole told = whole
done_counts k s old new before after bytes ReadFault whole told = whole.writes
done_counts k s old new before after bytes WriteFault whole told = whole.reads
done_counts k s old new before after bytes Memory whole told = whole
done_counts k s old new before after bytes Limit whole told = whole

-- where the status isn't that of a reading that failed, none did
pub read_only_at_4 :
    {P : Type 0} (k : Keeper P) (old new : P) (status : Status) (number : ℕ) →
    KeepsCounts k old new status → number ≡ status_number status → number ≢ 4 →
    k.read_faults new ≡ k.read_faults old
read_only_at_4 k old new Done number keeps is other = keeps.reads
read_only_at_4 k old new Words number keeps is other = keeps.reads
read_only_at_4 k old new BadFile number keeps is other = keeps.reads
read_only_at_4 k old new ReadFault number keeps is other = absurd (other is)
read_only_at_4 k old new WriteFault number keeps is other = keeps
read_only_at_4 k old new Memory number keeps is other = keeps.reads
read_only_at_4 k old new Limit number keeps is other = keeps.reads

-- and so of writes
pub write_only_at_5 :
    {P : Type 0} (k : Keeper P) (old new : P) (status : Status) (number : ℕ) →
    KeepsCounts k old new status → number ≡ status_number status → number ≢ 5 →
    k.write_faults new ≡ k.write_faults old
write_only_at_5 k old new Done number keeps is other = keeps.writes
write_only_at_5 k old new Words number keeps is other = keeps.writes
write_only_at_5 k old new BadFile number keeps is other = keeps.writes
write_only_at_5 k old new ReadFault number keeps is other = keeps
write_only_at_5 k old new WriteFault number keeps is other = absurd (other is)
write_only_at_5 k old new Memory number keeps is other = keeps.writes
write_only_at_5 k old new Limit number keeps is other = keeps.writes

-- words in the grammar don't end as others do
pub asked_not_at_2 :
    {P C : Type 0} (k : Keeper P) (s : Sink C) (asked : Asked) (old new : P) (before after : C)
    (status : Status) (number : ℕ) → Ends k s asked old new before after status →
    number ≡ status_number status → number ≡ 2 → new ≡ old
asked_not_at_2 k s asked old new before after Done number ends is two = absurd (omega arith)
asked_not_at_2 k s asked old new before after Words number ends is two = absurd ends
asked_not_at_2 k s asked old new before after BadFile number ends is two = absurd (omega arith)
asked_not_at_2 k s asked old new before after ReadFault number ends is two = absurd (omega arith)
asked_not_at_2 k s asked old new before after WriteFault number ends is two =
    absurd (omega arith)
asked_not_at_2 k s asked old new before after Memory number ends is two = absurd (omega arith)
asked_not_at_2 k s asked old new before after Limit number ends is two = absurd (omega arith)
