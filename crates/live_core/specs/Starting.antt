-- The four parts of a session as it is made: they may run.
-- "The activities of a session" in docs/rules.md.
use Rattle.std.specs.Prelude.{◌≡◌, ℕ, List}
use Rattle.sl_ports.specs.declared.keepers.Keeper.{Ghosts as Keeper}
use Rattle.sl_ports.specs.declared.sinks.Sink.{Ghosts as Sink}
use Rattle.live_ports.specs.declared.link.Link.{Ghosts as Link}
use Rattle.live_ports.specs.declared.source.Source.{Ghosts as Source}
use Rattle.midi_bindings.specs.declared.binding.Binding.{Binding}
use Rattle.engine_steps.specs.Engines.{Beginning}
use Rattle.live_session.specs.Session.{IsMade}
use Rattle.live_joining.specs.Running.{MayRunAudio, MayRunSaver}
use Rattle.live_core.specs.declared.devices.Devices.{Devices}
use Rattle.live_core.specs.declared.starting.Parts.{Parts}
use Rattle.live_core.specs.Sessions.{session_of}

-- the devices of parts
abbrev pub devices_of : {A O L M P : Type 0} → Parts A O L M P → Devices P A O L M
devices_of q =
    record {
      keeper = q.saver.keeper;
      audio = q.audio.source;
      out = q.audio.sink;
      link = q.osc.link;
      midi = q.midi.source;
    }

-- the parts have these devices, are those of a session as it is made, and may run
pub record HaveStarted {A O L M P : Type 0} (a : Source A) (o : Sink O) (l : Link L) (m : Source M)
    (b : Beginning) (bindings : List Binding) (channels : ℕ) (d : Devices P A O L M)
    (q : Parts A O L M P) : Type 0 where
  pub made : IsMade b bindings (session_of a o l m q.audio q.osc q.midi q.saver)
  pub audio : MayRunAudio a o q.audio
  pub saver : MayRunSaver q.saver
  pub rate : q.saver.saver.rate ≡ b.settings.rate
  pub channels_are : q.audio.ends.channels ≡ channels
  pub devices : d ≡ devices_of q
