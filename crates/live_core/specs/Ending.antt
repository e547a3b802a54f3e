-- A session ends settled: all that was left is taken, fed and told, and it gives back its devices,
-- the journal, the account of each sender, how many frames were played, how often a loop refused
-- something, and a status.
-- "How a session ends" in docs/rules.md.
use Rattle.std.specs.Prelude.{◌≡◌, ◌≤◌, ◌==◌, ℕ, Bool, true, false, List, [], Option}
use Rattle.sl_base.specs.Limits.{max_session_frames}
use Rattle.sl_base.specs.Counting.{Rose}
use Rattle.sl_commands.specs.declared.Reply.{Reply}
use Rattle.sl_ports.specs.declared.keepers.Keeper.{Ghosts as Keeper}
use Rattle.sl_ports.specs.declared.sinks.Sink.{Ghosts as Sink}
use Rattle.whole_looper.specs.Loopers.{refused_in}
use Rattle.loop_saver.specs.Savers.{SavingOf}
use Rattle.midi_bindings.specs.declared.binding.Binding.{Binding}
use Rattle.live_ports.specs.declared.link.Link.{Ghosts as Link}
use Rattle.live_ports.specs.declared.source.Source.{Ghosts as Source}
use Rattle.engine_steps.specs.Engines.{EngineOf, Beginning}
use Rattle.audio_ends.specs.declared.state.AudioState.{AudioState}
use Rattle.midi_serving.specs.declared.serving.MidiEnd.{MidiEnd}
use Rattle.midi_serving.specs.declared.serving.MidiEnd.TheVariants.{ReadFault}
use Rattle.midi_serving.specs.Serving.{MidiCause}
use Rattle.settling.specs.Settled.{LeftOf, AreLeft, Settled, unsettled, settling}
use Rattle.live_session.specs.Whole.{OutsideOf, GivenOf, IsWholeSession}
use Rattle.live_joining.specs.declared.activities.OscOver.{OscOver}
use Rattle.live_joining.specs.Causes.{lacked_memory, link_failed, LinkCause}
use Rattle.live_core.specs.declared.closing.Closed.{Closed}
use Rattle.live_core.specs.declared.devices.Devices.{Devices}
use Rattle.live_core.specs.declared.ending.LiveEnd.{LiveEnd}
use Rattle.live_core.specs.declared.ending.Settlement.{Settlement}
use Rattle.live_core.specs.Telling.{TellsMore}
use Rattle.live_core.specs.Statuses.{status_of}

-- a read of MIDI failed
abbrev pub midi_failed : MidiEnd → Bool
midi_failed ReadFault = true
midi_failed _ = false

-- what was closed was settled: all that was left, and the replies were told
abbrev pub SettledTo : {A O L M P : Type 0} → Link L → Keeper P → Closed A O L M P →
    Settlement A O L M P → Type 0
SettledTo l k c s = (left : LeftOf) × (told : List Reply) × AreLeft c.rings left
    × TellsMore told (l.seen c.link) (l.seen s.link) c.osc s.osc
    × Settled k c.saver.rate
    (unsettled c.engine c.reply c.saver.saving c.keeper c.outcome []) left
    (settling s.engine s.saver.saving s.keeper told)

-- and nothing else changed
pub record StaysAsClosed {A O L M P : Type 0} (c : Closed A O L M P)
    (s : Settlement A O L M P) : Type 0 where
  pub midi : s.midi ≡ c.midi
  pub audio : s.audio ≡ c.audio
  pub out : s.out ≡ c.out
  pub midi_source : s.midi_source ≡ c.midi_source
  pub state : s.state ≡ c.state
  pub osc_ended : s.osc_ended ≡ c.osc_ended
  pub midi_ended : s.midi_ended ≡ c.midi_ended

-- a session ends with what was settled, and with its status
pub record IsEndOf {A O L M P : Type 0} (s : Settlement A O L M P)
    (e : LiveEnd P A O L M) : Type 0 where
  pub journal : e.journal ≡ s.engine.journal
  pub frames : e.frames ≡ s.engine.frames
  pub refused : e.refused ≡ refused_in s.engine.looper
  pub osc : e.osc ≡ s.osc
  pub midi : e.midi ≡ s.midi
  pub keeper : e.devices.keeper ≡ s.keeper
  pub audio : e.devices.audio ≡ s.audio
  pub out : e.devices.out ≡ s.out
  pub link : e.devices.link ≡ s.link
  pub midi_source : e.devices.midi ≡ s.midi_source
  pub status : e.status ≡ status_of (lacked_memory s.osc_ended) (midi_failed s.midi_ended) s.state
      (e.frames == max_session_frames) (link_failed s.osc_ended)

-- what was closed was settled, and ended so
pub record HasSettled {A O L M P : Type 0} (l : Link L) (k : Keeper P) (c : Closed A O L M P)
    (e : LiveEnd P A O L M) : Type 0 where
  pub left : LeftOf
  pub told : List Reply
  pub engine : EngineOf
  pub saving : Option SavingOf
  pub is_left : AreLeft c.rings left
  pub tells : TellsMore told (l.seen c.link) (l.seen e.devices.link) c.osc e.osc
  pub settled : Settled k c.saver.rate
      (unsettled c.engine c.reply c.saver.saving c.keeper c.outcome []) left
      (settling engine saving e.devices.keeper told)
  pub journal : e.journal ≡ engine.journal
  pub frames : e.frames ≡ engine.frames
  pub within : e.frames ≤ max_session_frames
  pub refused : e.refused ≡ refused_in engine.looper
  pub midi : e.midi ≡ c.midi
  pub audio : e.devices.audio ≡ c.audio
  pub out : e.devices.out ≡ c.out
  pub midi_source : e.devices.midi ≡ c.midi_source
  pub status : e.status ≡ status_of (lacked_memory c.osc_ended) (midi_failed c.midi_ended) c.state
      (e.frames == max_session_frames) (link_failed c.osc_ended)

-- what contracts see of devices, and of what a session gives back beside them
abbrev pub outside_at : {A O L M P : Type 0} → Source A → Sink O → Link L → Source M →
    Devices P A O L M → OutsideOf P
outside_at a o l m d =
    record {
      keeper = d.keeper;
      audio = a.seen d.audio;
      out = record { faults = o.faults d.out; held = o.held d.out };
      link = l.seen d.link;
      midi = m.seen d.midi;
    }

abbrev pub given_at : {A O L M P : Type 0} → LiveEnd P A O L M → GivenOf
given_at e =
    record {
      journal = e.journal.entries;
      osc = e.osc;
      midi = e.midi;
      frames = e.frames;
      refused = e.refused;
    }

-- a session over these devices has ended: it is whole, and its status is the first that holds
pub record HasEnded {A O L M P : Type 0} (a : Source A) (o : Sink O) (l : Link L) (m : Source M)
    (k : Keeper P) (b : Beginning) (bindings : List Binding) (channels : ℕ)
    (d : Devices P A O L M) (e : LiveEnd P A O L M) : Type 0 where
  pub state : AudioState
  pub osc_ended : OscOver
  pub midi_ended : MidiEnd
  pub whole : IsWholeSession k b channels bindings (outside_at a o l m d)
      (outside_at a o l m e.devices) (given_at e) state (lacked_memory osc_ended)
  pub within : e.frames ≤ max_session_frames
  pub status : e.status ≡ status_of (lacked_memory osc_ended) (midi_failed midi_ended) state
      (e.frames == max_session_frames) (link_failed osc_ended)
  pub link_cause : LinkCause (l.seen d.link) (l.seen e.devices.link) osc_ended
  pub midi_cause : MidiCause (m.seen d.midi) (m.seen e.devices.midi) midi_ended
