-- Once the activities have given their parts back, the two ends of each ring meet; all else is as
-- it was given back.
-- "The activities of a session" in docs/rules.md.
use Rattle.std.specs.Prelude.{◌≡◌, ℕ, List}
use Rattle.sl_ports.specs.declared.keepers.Keeper.{Ghosts as Keeper}
use Rattle.midi_bindings.specs.declared.binding.Binding.{Binding}
use Rattle.engine_steps.specs.Engines.{Beginning}
use Rattle.sl_ports.specs.declared.sinks.Sink.{Ghosts as Sink}
use Rattle.live_ports.specs.declared.link.Link.{Ghosts as Link}
use Rattle.live_ports.specs.declared.source.Source.{Ghosts as Source}
use Rattle.live_rings.specs.declared.meeting.MetRings.{MetRings}
use Rattle.live_session.specs.Session.{AreMet, HaveRun}
use Rattle.live_joining.specs.Causes.{lacked_memory}
use Rattle.live_joining.specs.Running.{AllRan}
use Rattle.live_joining.specs.declared.parts.AllBack.{AllBack}
use Rattle.live_core.specs.declared.closing.Closed.{Closed}
use Rattle.live_core.specs.declared.devices.Devices.{Devices}
use Rattle.live_core.specs.declared.starting.Parts.{Parts}
use Rattle.live_core.specs.Sessions.{session_of, session_back}
use Rattle.live_core.specs.Starting.{HaveStarted}

-- what is closed of parts that were given back, with these rings
abbrev pub closed_of : {A O L M P : Type 0} → MetRings → AllBack A O L M P → Closed A O L M P
closed_of rings q =
    record {
      rings = rings;
      engine = q.three.two.audio.part.engine;
      reply = q.three.two.audio.part.ends.rings.held;
      saver = q.saver.saver;
      outcome = q.saver.held;
      osc = q.three.two.osc.part.sender.account;
      midi = q.three.midi.part.sender.account;
      keeper = q.saver.keeper;
      audio = q.three.two.audio.part.source;
      out = q.three.two.audio.part.sink;
      link = q.three.two.osc.part.link;
      midi_source = q.three.midi.part.source;
      state = q.three.two.audio.state;
      osc_ended = q.three.two.osc.ended;
      midi_ended = q.three.midi.ended;
    }

-- these parts were given back, and their ends have met
pub record IsClosed {A O L M P : Type 0} (a : Source A) (o : Sink O) (l : Link L) (m : Source M)
    (q : AllBack A O L M P) (c : Closed A O L M P) : Type 0 where
  pub met : AreMet (session_back a o l m q) c.rings
  pub is : c ≡ closed_of c.rings q

-- the activities of a session with this beginning ran over these devices, and their ends have met
pub record HasClosed {A O L M P : Type 0} (a : Source A) (o : Sink O) (l : Link L) (m : Source M)
    (k : Keeper P) (b : Beginning) (bindings : List Binding) (channels : ℕ)
    (d : Devices P A O L M) (c : Closed A O L M P) : Type 0 where
  pub parts : Parts A O L M P
  pub back : AllBack A O L M P
  pub started : HaveStarted a o l m b bindings channels d parts
  pub ran : HaveRun k b bindings
      (session_of a o l m parts.audio parts.osc parts.midi parts.saver)
      (session_back a o l m back) back.three.two.audio.state
      (lacked_memory back.three.two.osc.ended)
  pub all : AllRan a o l m k parts.audio parts.osc parts.midi parts.saver back
  pub closed : IsClosed a o l m back c
