-- What `live` does with what stands outside: the keeper of files, the audio, the link of OSC, MIDI
-- and the console.
-- - The session and the bindings that it names are read first. Where one is bad, or a reading
--   fails, or the session needs more chunks than there are, or there is no memory, no device is
--   used and no file written, and the console is told why.
-- - Else the session is played to its end over these devices, and is whole: the journal holds each
--   accepted command once, in its sender's order, and output, replies and saved files are those of
--   one looper that replays it. Then the journal is written where it is asked for, and at last the
--   console is told the session's numbers and its status.
-- "How a session ends" in docs/rules.md.
use Rattle.std.specs.Prelude.{◌≡◌, ⊤, ℕ, Bool, true, false, List, length, Option, Some, None}
use Rattle.sl_base.specs.Counting.{Rose}
use Rattle.sl_ports.specs.Effects.{OnlyReads}
use Rattle.sl_ports.specs.declared.keepers.Keeper.{Ghosts as Keeper}
use Rattle.sl_ports.specs.declared.sinks.Sink.{Ghosts as Sink}
use Rattle.live_ports.specs.declared.link.Link.{Ghosts as Link}
use Rattle.live_ports.specs.declared.source.Source.{Ghosts as Source}
use Rattle.engine_steps.specs.Engines.{Beginning}
use Rattle.command_words.specs.LiveWords.{LiveAsked}
use Rattle.console_lines.specs.Statuses.{status_number, status_of}
use Rattle.console_lines.specs.Telling.{TellsFault}
use Rattle.console_lines.specs.declared.status.RunFault.{RunFault}
use Rattle.console_lines.specs.declared.status.RunFault.TheVariants.{BadFile, Limit, Reading, Writing, Memory as Lacking}
use Rattle.live_files.specs.LiveNamed.{LiveNamed}
use Rattle.live_files.specs.LiveReading.{LiveContents, IsLiveOf, ExceedsLive, FirstBadLive}
use Rattle.live_session.specs.Whole.{run_of}
use Rattle.live_core.specs.declared.devices.Devices.{Devices}
use Rattle.live_core.specs.declared.ending.LiveEnd.{LiveEnd}
use Rattle.live_core.specs.declared.status.LiveStatus.{LiveStatus}
use Rattle.live_core.specs.Statuses.{number_of}
use Rattle.live_core.specs.Ending.{HasEnded}
use Rattle.live_run.specs.declared.closing.Numbers.{Numbers}
use Rattle.live_run.specs.declared.outside.Outside.{Outside}
use Rattle.live_run.specs.declared.outside.Session.{Session}
use Rattle.live_run.specs.declared.outside.End.{End}
use Rattle.live_run.specs.Statuses.{first_of}
use Rattle.live_run.specs.Writing.{WritesJournal}
use Rattle.live_run.specs.Closing.{closing_text, TellsClosing}
use Rattle.live_run.specs.Causes.{Told, Cause, EachIsTold}

-- the files that a session names
abbrev pub named_in : LiveAsked → LiveNamed
named_in asked =
    record {
      session = asked.session;
      bind = asked.bind;
      rate = asked.rate;
      loops = asked.loops;
      chunks = asked.chunks;
    }

-- with what a session begins
abbrev pub beginning : LiveAsked → LiveContents → Beginning
beginning asked t =
    record {
      settings = t.settings;
      chunks = asked.chunks;
      initial = t.lists;
      quota = asked.quota;
    }

-- the devices, with the keeper behind the readings
abbrev pub devices_of : {P A O L M C : Type 0} → P → Outside P A O L M C → Devices P A O L M
devices_of keeper x =
    record { keeper = keeper; audio = x.audio; out = x.out; link = x.link; midi = x.midi }

-- what stands outside behind a session: its devices, with the keeper and the console behind the
-- last lines
abbrev pub outside_with : {P A O L M C : Type 0} → P → C → Devices P A O L M → Outside P A O L M C
outside_with keeper console d =
    record {
      keeper = keeper;
      audio = d.audio;
      out = d.out;
      link = d.link;
      midi = d.midi;
      console = console;
    }

-- what a session leaves beside its devices
abbrev pub left_by : {P A O L M : Type 0} → LiveEnd P A O L M → Session
left_by e =
    record {
      journal = e.journal;
      osc = e.osc;
      midi = e.midi;
      frames = e.frames;
      refused = e.refused;
    }

-- its numbers, with so many saves
abbrev pub numbers_of : {P A O L M : Type 0} → LiveEnd P A O L M → ℕ → Numbers
numbers_of e saves =
    record {
      frames = e.frames;
      entries = length e.journal.entries;
      osc = length e.osc.tally.accepted;
      midi = length e.midi.tally.accepted;
      unsent = e.osc.unsent;
      saves = saves;
      refused = e.refused;
    }

-- behind its end, with the journal's text and the console's lines, this stands outside, with this
-- status
pub record HasClosed {P A O L M C : Type 0} (k : Keeper P) (c : Sink C) (name : Option (List ℕ))
    (saves : ℕ) (ended : LiveEnd P A O L M) (console : C) (e : End P A O L M C) : Type 0 where
  pub wrote : LiveStatus
  pub told : LiveStatus
  pub journal_is_written : WritesJournal k name ended.journal.entries ended.devices.keeper
      e.outside.keeper wrote
  pub console_is_told : TellsClosing c
      (closing_text (numbers_of ended saves) (first_of ended.status wrote)) console
      e.outside.console told
  pub status : LiveStatus
  pub first : status ≡ first_of (first_of ended.status wrote) told
  pub status_is : e.status ≡ number_of status
  pub others : e.outside ≡ outside_with e.outside.keeper e.outside.console ended.devices
  pub session_is : e.session ≡ Some (left_by ended)

-- a session was played
pub record HasPlayed {P A O L M C : Type 0} (k : Keeper P) (a : Source A) (o : Sink O) (l : Link L)
    (m : Source M) (c : Sink C) (asked : LiveAsked) (old : Outside P A O L M C)
    (e : End P A O L M C) : Type 0 where
  pub contents : LiveContents
  pub keeper : P
  pub ended : LiveEnd P A O L M
  pub files_are_read : IsLiveOf (k.files old.keeper) (named_in asked) contents
  pub only_read : OnlyReads k old.keeper keeper false
  pub session : HasEnded a o l m k (beginning asked contents) contents.bindings asked.channels
      (devices_of keeper old) ended
  pub closed : HasClosed k c asked.journal
      (length (run_of (beginning asked contents) ended.journal.entries session.whole.input).saves)
      ended old.console e
  pub told : Told
  pub told_is : told ≡ record {
    name = asked.journal;
    journal = ended.journal.entries;
    outcomes = session.whole.outcomes;
    rest = session.whole.output_is_the_run.rest;
    frames = ended.frames;
  }
  pub cause : Cause k a o l m c told old e.outside closed.status
  pub always : EachIsTold a o l m c told old e.outside closed.status

-- why no session was played
abbrev pub Refuses : {P : Type 0} → Keeper P → LiveAsked → P → P → RunFault → Type 0
Refuses k asked old new (BadFile name kind line) =
    FirstBadLive (k.files old) (named_in asked) name kind line
Refuses k asked old new Limit = ExceedsLive (k.files old) (named_in asked)
Refuses k asked old new Reading = Rose (k.read_faults old) (k.read_faults new)
Refuses k asked old new Writing = ⊥
Refuses k asked old new Lacking = ⊤

-- a reading failed
abbrev pub is_reading : RunFault → Bool
is_reading Reading = true
is_reading _ = false

-- no session was played: the console was told why, and all else is as before, but for the keeper's
-- count of readings where one failed
pub record HasRefused {P A O L M C : Type 0} (k : Keeper P) (c : Sink C) (asked : LiveAsked)
    (old : Outside P A O L M C) (e : End P A O L M C) : Type 0 where
  pub fault : RunFault
  pub cause : Refuses k asked old.keeper e.outside.keeper fault
  pub only_read : OnlyReads k old.keeper e.outside.keeper (is_reading fault)
  pub told : TellsFault c old.console e.outside.console fault
  pub status_is : e.status ≡ status_number (status_of fault)
  pub unused : e.outside ≡ outside_with e.outside.keeper e.outside.console
      (devices_of old.keeper old)
  pub no_session : e.session ≡ None

-- what comes of a session that is asked for
pub data Plays {P A O L M C : Type 0} (k : Keeper P) (a : Source A) (o : Sink O) (l : Link L)
    (m : Source M) (c : Sink C) (asked : LiveAsked) (old : Outside P A O L M C)
    (e : End P A O L M C) : Type 0 where
  played : HasPlayed k a o l m c asked old e → Plays k a o l m c asked old e
  refused : HasRefused k c asked old e → Plays k a o l m c asked old e
