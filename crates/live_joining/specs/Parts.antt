-- What contracts see of what each activity owns.
-- "The activities of a session" in docs/rules.md.
use Rattle.std.specs.Prelude.{ℕ, List, Option}
use Rattle.sl_commands.specs.declared.Block.{Block}
use Rattle.sl_commands.specs.declared.Reply.{Reply}
use Rattle.sl_ports.specs.declared.keepers.Keeper.{Ghosts as Keeper}
use Rattle.sl_ports.specs.declared.sinks.Sink.{Ghosts as Sink}
use Rattle.loop_saver.specs.Savers.{SavingOf}
use Rattle.event_rings.specs.Ends.{PutEnd, TakeEnd}
use Rattle.senders.specs.Senders.{OscSenderOf, MidiSenderOf}
use Rattle.live_ports.specs.Links.{LinkSeen}
use Rattle.live_ports.specs.Sources.{SourceSeen}
use Rattle.live_ports.specs.declared.link.Link.{Ghosts as Link}
use Rattle.live_ports.specs.declared.source.Source.{Ghosts as Source}
use Rattle.engine_steps.specs.Engines.{EngineOf}
use Rattle.audio_ends.specs.declared.audio.AudioEnds.{AudioEnds}
use Rattle.audio_ends.specs.Did.{AudioAt}
use Rattle.saver_serving.specs.Serving.{ServingOf}
use Rattle.live_session.specs.Osc.{OscAt}
use Rattle.live_session.specs.Midi.{MidiAt}
use Rattle.live_joining.specs.declared.parts.AudioPart.{AudioPart}
use Rattle.live_joining.specs.declared.parts.OscPart.{OscPart}
use Rattle.live_joining.specs.declared.parts.MidiPart.{MidiPart}
use Rattle.live_joining.specs.declared.parts.SaverPart.{SaverPart}

-- made of its parts
abbrev pub audio_at : EngineOf → AudioEnds → SourceSeen → ℕ → Option (List ℕ) → AudioAt
audio_at engine ends source faults held =
    record {
      engine = engine;
      ends = ends;
      source = source;
      sink = record { faults = faults; held = held };
    }

abbrev pub osc_at : LinkSeen → OscSenderOf → TakeEnd Reply → OscAt
osc_at link sender replies = record { sender = sender; replies = replies; link = link }

abbrev pub midi_at : SourceSeen → MidiSenderOf → MidiAt
midi_at source sender = record { sender = sender; source = source }

abbrev pub serving : {P : Type 0} → Option SavingOf → P → TakeEnd Block → PutEnd ℕ → Option ℕ →
    ServingOf P
serving saving keeper blocks releases held =
    record {
      saving = saving;
      keeper = keeper;
      blocks = blocks;
      releases = releases;
      held = held;
    }

-- of a part
abbrev pub audio_of : {A O : Type 0} → Source A → Sink O → AudioPart A O → AudioAt
audio_of a o p = audio_at p.engine p.ends (a.seen p.source) (o.faults p.sink) (o.held p.sink)

abbrev pub osc_of : {L : Type 0} → Link L → OscPart L → OscAt
osc_of l p = osc_at (l.seen p.link) p.sender p.replies

abbrev pub midi_of : {M : Type 0} → Source M → MidiPart M → MidiAt
midi_of m p = midi_at (m.seen p.source) p.sender

abbrev pub saver_of : {P : Type 0} → SaverPart P → ServingOf P
saver_of p = serving p.saver.saving p.keeper p.blocks p.releases p.held
