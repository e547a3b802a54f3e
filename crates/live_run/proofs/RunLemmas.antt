-- A session is played, or the console is told why not.
use Rattle.std.proofs.Common.{◌≡◌, ◌≤◌, ◌<◌, ◌⊎◌, ℕ, Bool, true, false, List, length, map, Option, Some, None, refl, sym, ap, ◌∙◌, subst, arith}
use Rattle.std.specs.Prelude.{Result, Ok, Err}
use Rattle.sl_base.specs.Counting.{Rose, RoseBy}
use Rattle.sl_commands.specs.declared.entry.Entry.{Entry}
use Rattle.sl_commands.specs.Entries.{commands_of}
use Rattle.sl_commands.proofs.EntriesLemmas.{length-commands_of}
use Rattle.sl_ports.specs.Effects.{OnlyReads}
use Rattle.sl_ports.specs.declared.keepers.Keeper.{Ghosts as Keeper}
use Rattle.sl_ports.specs.declared.sinks.Sink.{Ghosts as Sink}
use Rattle.looper_rules.specs.Room.{used}
use Rattle.looper_rules.specs.Saves.{Save}
use Rattle.live_ports.specs.Sources.{SourceSeen}
use Rattle.live_ports.specs.declared.link.Link.{Ghosts as Link}
use Rattle.live_ports.specs.declared.source.Source.{Ghosts as Source}
use Rattle.frame_stamp.specs.Journals.{next_seq}
use Rattle.loop_saver.specs.Keeping.{failed_in}
use Rattle.whole_looper.specs.declared.fault.BeginFault.{BeginFault}
use Rattle.whole_looper.specs.declared.fault.BeginFault.TheVariants.{Memory as NoRoom, Limit as TooMany}
use Rattle.run_files.specs.declared.run.FilesFault.{FilesFault}
use Rattle.run_files.specs.declared.run.FilesFault.TheVariants.{File as BadOne, Read as NotRead, Memory as NoMemory, Limit as TooMuch}
use Rattle.run_files.specs.Readings.{is_unread}
use Rattle.command_words.specs.LiveWords.{LiveAsked}
use Rattle.console_lines.specs.Faults.{PassesFiles}
use Rattle.console_lines.specs.declared.status.RunFault.{RunFault}
use Rattle.console_lines.specs.declared.status.RunFault.TheVariants.{BadFile, Limit, Reading, Writing, Memory as Lacking}
use Rattle.live_files.specs.LiveReading.{LiveContents, IsLiveOf, ExceedsLive, FirstBadLive}
use Rattle.live_files.specs.LiveAnswers.{ReadsLive, told_live}
use Rattle.live_files.specs.declared.live.LiveFiles.{LiveFiles}
use Rattle.live_steps.specs.Passed.{releases_of}
use Rattle.live_steps.proofs.JournalLemmas.{releases-count}
use Rattle.live_session.specs.Whole.{WhyEnded, run_of, HasReleases}
use Rattle.live_core.specs.declared.devices.Devices.{Devices}
use Rattle.live_core.specs.declared.ending.LiveEnd.{LiveEnd}
use Rattle.live_core.specs.declared.status.LiveStatus.{LiveStatus}
use Rattle.live_core.specs.declared.status.LiveStatus.TheVariants.{Done}
use Rattle.live_core.specs.Ending.{HasEnded}
use Rattle.live_run.specs.declared.outside.Outside.{Outside}
use Rattle.live_run.specs.declared.outside.End.{End}
use Rattle.live_run.specs.Statuses.{first_of}
use Rattle.live_run.specs.Causes.{Told, Cause, EachIsTold}
use Rattle.live_run.specs.Closing.{closing_text}
use Rattle.live_run.specs.Playing.{named_in, beginning, devices_of, outside_with, numbers_of, HasClosed, HasPlayed, Refuses, is_reading, HasRefused, Plays, played, refused}
use Rattle.live_run.specs.Steps.{PassesBegin, TurnsAway}
use Rattle.live_run.proofs.CauseLemmas.{core_cause, first_cause}
use Rattle.live_run.proofs.AlwaysLemmas.{each_told}

-- the files are bad, or aren't read
files_refuse : {P : Type 0} (k : Keeper P) (asked : LiveAsked) (old new : P) (fault : FilesFault)
    (f : RunFault) → ReadsLive (k.files old) (named_in asked) (Err fault) →
    OnlyReads k old new (is_unread {A = LiveFiles} (Err fault)) → PassesFiles fault f →
    Refuses k asked old new f × OnlyReads k old new (is_reading f)
files_refuse k asked old new (BadOne name kind line) f reads only is =
    subst (λ (x : RunFault). Refuses k asked old new x × OnlyReads k old new (is_reading x))
    (sym is) (reads, only)
files_refuse k asked old new NotRead f reads only is =
    subst (λ (x : RunFault). Refuses k asked old new x × OnlyReads k old new (is_reading x))
    (sym is) (only.counts.rose refl, only)
files_refuse k asked old new NoMemory f reads only is =
    subst (λ (x : RunFault). Refuses k asked old new x × OnlyReads k old new (is_reading x))
    (sym is) (tt, only)
files_refuse k asked old new TooMuch f reads only is =
    subst (λ (x : RunFault). Refuses k asked old new x × OnlyReads k old new (is_reading x))
    (sym is) (reads, only)

-- the session didn't begin: for want of memory, since its lists are within the limit
begin_refuses : {P : Type 0} (k : Keeper P) (asked : LiveAsked) (old new : P) (files : LiveFiles)
    (fault : BeginFault) (f : RunFault) →
    IsLiveOf (k.files old) (named_in asked) (told_live files) → OnlyReads k old new false →
    (fault ≡ TooMany → asked.chunks < used (map length files.initial)) → PassesBegin fault f →
    Refuses k asked old new f × OnlyReads k old new (is_reading f)
begin_refuses k asked old new files NoRoom f reads only limit is =
    subst (λ (x : RunFault). Refuses k asked old new x × OnlyReads k old new (is_reading x))
    (sym is) (tt, only)
begin_refuses k asked old new files TooMany f reads only limit is =
    absurd (omega (arith, limit refl, reads.within))

-- the console is told why, and all is given back
turned_away : {P A O L M C : Type 0} (k : Keeper P) (c : Sink C) (asked : LiveAsked)
    (old : Outside P A O L M C) (keeper : P) (fault : RunFault) (e : End P A O L M C) →
    Refuses k asked old.keeper keeper fault × OnlyReads k old.keeper keeper (is_reading fault) →
    TurnsAway c fault (devices_of keeper old) old.console e → HasRefused k c asked old e
turned_away k c asked old keeper fault e why turned =
    let same : keeper ≡ e.outside.keeper = sym (ap (λ (x : Outside _ _ _ _ _ _). x.keeper)
    turned.unused) in
    record {
      fault = fault;
      cause = subst (λ (x : _). Refuses k asked old.keeper x fault) same why.0;
      only_read = subst (λ (x : _). OnlyReads k old.keeper x (is_reading fault)) same why.1;
      told = turned.told;
      status_is = turned.status_is;
      unused = turned.unused ∙ ap (λ (x : _). outside_with x e.outside.console
          (devices_of old.keeper old)) same;
      no_session = turned.no_session;
    }

pub files_turned_away : {P A O L M C : Type 0} (k : Keeper P) (a : Source A) (o : Sink O)
    (l : Link L) (m : Source M) (c : Sink C) (asked : LiveAsked)
    (old : Outside P A O L M C) (keeper : P) (fault : FilesFault) (f : RunFault)
    (e : End P A O L M C) → ReadsLive (k.files old.keeper) (named_in asked) (Err fault) →
    OnlyReads k old.keeper keeper (is_unread {A = LiveFiles} (Err fault)) → PassesFiles fault f →
    TurnsAway c f (devices_of keeper old) old.console e → Plays k a o l m c asked old e
files_turned_away k a o l m c asked old keeper fault f e reads only is turned =
    refused (turned_away k c asked old keeper f e
    (files_refuse k asked old.keeper keeper fault f reads only is) turned)

pub not_begun : {P A O L M C : Type 0} (k : Keeper P) (a : Source A) (o : Sink O)
    (l : Link L) (m : Source M) (c : Sink C) (asked : LiveAsked)
    (old : Outside P A O L M C) (keeper : P) (files : LiveFiles) (fault : BeginFault)
    (f : RunFault) (e : End P A O L M C) →
    IsLiveOf (k.files old.keeper) (named_in asked) (told_live files) →
    OnlyReads k old.keeper keeper false →
    (fault ≡ TooMany → asked.chunks < used (map length files.initial)) → PassesBegin fault f →
    TurnsAway c f (devices_of keeper old) old.console e → Plays k a o l m c asked old e
not_begun k a o l m c asked old keeper files fault f e reads only limit is turned =
    refused (turned_away k c asked old keeper f e
    (begin_refuses k asked old.keeper keeper files fault f reads only limit is) turned)

-- as many saves as releases
saves_are : (journal : List Entry) (saves : List Save) (outcomes : List ℕ) →
    commands_of 2 journal ≡ releases_of saves outcomes → length outcomes ≡ length saves →
    next_seq 2 journal ≡ length saves
saves_are journal saves outcomes are each =
    sym (length-commands_of 2 journal) ∙ ap length are ∙ releases-count saves outcomes (sym each)
    ∙ each

module _ {P A O L M C : Type 0} (k : Keeper P) (a : Source A) (o : Sink O) (l : Link L)
    (m : Source M) (c : Sink C) (asked : LiveAsked) (old : Outside P A O L M C) (keeper : P)
    (contents : LiveContents) (ended : LiveEnd P A O L M)
    (h : HasEnded a o l m k (beginning asked contents) contents.bindings asked.channels
    (devices_of keeper old) ended) where
  abbrev told : Told
  told =
      record {
        name = asked.journal;
        journal = ended.journal.entries;
        outcomes = h.whole.outcomes;
        rest = h.whole.output_is_the_run.rest;
        frames = ended.frames;
      }

  abbrev saves : ℕ
  saves = length (run_of (beginning asked contents) ended.journal.entries h.whole.input).saves

  module _ (e : End P A O L M C) (reads : IsLiveOf (k.files old.keeper) (named_in asked) contents)
      (only : OnlyReads k old.keeper keeper false)
      (given : HasClosed k c asked.journal (next_seq 2 ended.journal.entries) ended old.console
      e) where
    closed : HasClosed k c asked.journal saves ended old.console e
    closed =
        subst (λ (n : ℕ). HasClosed k c asked.journal n ended old.console e)
        (saves_are ended.journal.entries
        (run_of (beginning asked contents) ended.journal.entries h.whole.input).saves
        h.whole.outcomes h.whole.each_save_is_released.are h.whole.each_save_is_released.each)
        given

    abbrev new : Outside P A O L M C
    new = outside_with e.outside.keeper e.outside.console ended.devices

    failed : RoseBy (failed_in h.whole.outcomes) (k.write_faults old.keeper)
        (k.write_faults ended.devices.keeper)
    failed =
        subst (λ (n : ℕ). RoseBy (failed_in h.whole.outcomes) n
        (k.write_faults ended.devices.keeper)) only.writes h.whole.files_are_the_saves.failed

    why : WhyEnded h.state (a.seen old.audio) (a.seen ended.devices.audio)
        (record { faults = o.faults old.out; held = o.held old.out })
        (record { faults = o.faults ended.devices.out; held = o.held ended.devices.out })
        h.whole.output_is_the_run.rest ended.journal.entries ended.frames
    why =
        subst (λ (n : ℕ). WhyEnded h.state (a.seen old.audio) (a.seen ended.devices.audio)
        (record { faults = o.faults old.out; held = o.held old.out })
        (record { faults = o.faults ended.devices.out; held = o.held ended.devices.out })
        h.whole.output_is_the_run.rest ended.journal.entries n) (sym h.whole.frames)
        h.whole.output_is_the_run.why

    core : ((ended.status ≡ Done → c.faults e.outside.console ≡ c.faults old.console) →
        Cause k a o l m c told old new ended.status)
    core same =
        subst (Cause k a o l m c told old new) (sym h.status)
        (core_cause k a o l m c told old new h.osc_ended h.midi_ended h.state h.within
        h.link_cause h.midi_cause why (λ is. same (h.status ∙ is)))

    because : Cause k a o l m c told old e.outside closed.status
    because =
        subst (λ (x : Outside P A O L M C). Cause k a o l m c told old x closed.status)
        (sym closed.others)
        (subst (Cause k a o l m c told old new) (sym closed.first)
        (first_cause k a o l m c told old new ended.status closed.wrote closed.told
        asked.journal ended.devices.keeper
        (closing_text (numbers_of ended saves) (first_of ended.status closed.wrote)) refl failed
        closed.journal_is_written closed.console_is_told core))

    each : EachIsTold a o l m c told old e.outside closed.status
    each =
        subst (λ (x : Outside P A O L M C). EachIsTold a o l m c told old x closed.status)
        (sym closed.others)
        (subst (EachIsTold a o l m c told old new) (sym closed.first)
        (each_told a o l m c told old new h.osc_ended h.midi_ended h.state ended.status
        closed.wrote closed.told
        (closing_text (numbers_of ended saves) (first_of ended.status closed.wrote)) h.status
        h.link_cause h.midi_cause why closed.console_is_told))

    pub has_played : Plays k a o l m c asked old e
    has_played =
        played (record {
          contents = contents;
          keeper = keeper;
          ended = ended;
          files_are_read = reads;
          only_read = only;
          session = h;
          closed = closed;
          told = told;
          told_is = refl;
          cause = because;
          always = each;
        })
