-- Why a session that was played ended with its status.
-- - Done: the input was read to its end, or a quit stands in the journal, and no count of faults
--   rose: of the audio that was read and written, of MIDI, of receives, of the console.
-- - ReadFault: the count of the audio source or of the MIDI source rose.
-- - WriteFault: the count of the sink of audio or of the console rose, or the journal was asked for
--   and the keeper's count of writes rose by more than the saves whose write failed.
-- - Torn: the audio source is at its end, and bytes are left over that are no frame.
-- - LongInput: all frames of a session were played.
-- - LinkFault: the link's count of receives rose.
-- - Memory: nothing is said.
-- And no fault is passed over: where a count of faults rose, the input ended within a frame, or all
-- frames were played, the status is that of this fault or one before it in the order.
-- "Statuses" in docs/formats.md.
use Rattle.std.specs.Prelude.{◌≡◌, ◌≤◌, ◌<◌, ◌⊎◌, ⊤, ℕ, ◌+◌, true, false, List, length, Option, is_some, IsTrue}
use Rattle.sl_base.specs.Counting.{Rose, RoseBy}
use Rattle.sl_base.specs.Limits.{max_session_frames}
use Rattle.sl_commands.specs.declared.entry.Entry.{Entry}
use Rattle.sl_ports.specs.declared.keepers.Keeper.{Ghosts as Keeper}
use Rattle.sl_ports.specs.declared.sinks.Sink.{Ghosts as Sink}
use Rattle.live_ports.specs.declared.link.Link.{Ghosts as Link}
use Rattle.live_ports.specs.declared.source.Source.{Ghosts as Source}
use Rattle.loop_saver.specs.Keeping.{failed_in}
use Rattle.live_session.specs.Whole.{has_quit}
use Rattle.live_core.specs.declared.status.LiveStatus.{LiveStatus}
use Rattle.live_core.specs.declared.status.LiveStatus.TheVariants.{Done, ReadFault, WriteFault, Torn, LinkFault, Memory, LongInput}
use Rattle.live_run.specs.declared.outside.Outside.{Outside}
use Rattle.live_run.specs.Statuses.{rank}

-- what a session was asked to write, and what came of it: the journal's name, the entries, the
-- outcomes of its saves, the bytes left over, and how many frames were played
pub record Told : Type 0 where
  pub name : Option (List ℕ)
  pub journal : List Entry
  pub outcomes : List ℕ
  pub rest : List ℕ
  pub frames : ℕ

-- no count of faults rose, and there was a reason to end
pub record IsDone {P A O L M C : Type 0} (a : Source A) (o : Sink O) (l : Link L) (m : Source M)
    (c : Sink C) (journal : List Entry) (old new : Outside P A O L M C) : Type 0 where
  pub reads : (a.seen new.audio).faults ≡ (a.seen old.audio).faults
  pub writes : o.faults new.out ≡ o.faults old.out
  pub midi : (m.seen new.midi).faults ≡ (m.seen old.midi).faults
  pub receives : (l.seen new.link).receives ≡ (l.seen old.link).receives
  pub console : c.faults new.console ≡ c.faults old.console
  pub ended : ((a.seen new.audio).ended ≡ true) ⊎ (has_quit journal ≡ true)

-- the journal couldn't be written: the keeper's count of writes rose by more than the saves whose
-- write failed
pub record LacksJournal {P : Type 0} (k : Keeper P) (t : Told) (old new : P) : Type 0 where
  pub asked : IsTrue (is_some t.name)
  pub rose : RoseBy (failed_in t.outcomes + 1) (k.write_faults old) (k.write_faults new)

-- why it ended so
abbrev pub Cause : {P A O L M C : Type 0} → Keeper P → Source A → Sink O → Link L → Source M →
    Sink C → Told → Outside P A O L M C → Outside P A O L M C → LiveStatus → Type 0
Cause k a o l m c t old new Done = IsDone a o l m c t.journal old new
Cause k a o l m c t old new ReadFault = Rose (a.seen old.audio).faults (a.seen new.audio).faults
    ⊎ Rose (m.seen old.midi).faults (m.seen new.midi).faults
Cause k a o l m c t old new WriteFault = Rose (o.faults old.out) (o.faults new.out)
    ⊎ Rose (c.faults old.console) (c.faults new.console)
    ⊎ LacksJournal k t old.keeper new.keeper
Cause k a o l m c t old new Torn = ((a.seen new.audio).ended ≡ true) × (1 ≤ length t.rest)
Cause k a o l m c t old new LongInput = t.frames ≡ max_session_frames
Cause k a o l m c t old new LinkFault = Rose (l.seen old.link).receives (l.seen new.link).receives
Cause k a o l m c t old new Memory = ⊤

-- no fault is passed over: the status is its own or one before it; what came of the journal's write
-- takes part in the status beside these
pub record EachIsTold {P A O L M C : Type 0} (a : Source A) (o : Sink O) (l : Link L) (m : Source M)
    (c : Sink C) (t : Told) (old new : Outside P A O L M C) (status : LiveStatus) : Type 0 where
  pub reads : (a.seen old.audio).faults < (a.seen new.audio).faults → rank status ≤ rank ReadFault
  pub midi : (m.seen old.midi).faults < (m.seen new.midi).faults → rank status ≤ rank ReadFault
  pub writes : o.faults old.out < o.faults new.out → rank status ≤ rank WriteFault
  pub console : c.faults old.console < c.faults new.console → rank status ≤ rank WriteFault
  pub torn : (a.seen old.audio).ended ≡ false → (a.seen new.audio).ended ≡ true →
      1 ≤ length t.rest → rank status ≤ rank Torn
  pub played : t.frames ≡ max_session_frames → rank status ≤ rank LongInput
  pub receives : (l.seen old.link).receives < (l.seen new.link).receives →
      rank status ≤ rank LinkFault
