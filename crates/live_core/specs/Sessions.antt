-- What contracts see of the four parts of a session.
-- "The activities of a session" in docs/rules.md.
use Rattle.sl_ports.specs.declared.keepers.Keeper.{Ghosts as Keeper}
use Rattle.sl_ports.specs.declared.sinks.Sink.{Ghosts as Sink}
use Rattle.live_ports.specs.declared.link.Link.{Ghosts as Link}
use Rattle.live_ports.specs.declared.source.Source.{Ghosts as Source}
use Rattle.live_session.specs.Session.{SessionOf}
use Rattle.live_joining.specs.declared.parts.AudioPart.{AudioPart}
use Rattle.live_joining.specs.declared.parts.OscPart.{OscPart}
use Rattle.live_joining.specs.declared.parts.MidiPart.{MidiPart}
use Rattle.live_joining.specs.declared.parts.SaverPart.{SaverPart}
use Rattle.live_joining.specs.declared.parts.AllBack.{AllBack}
use Rattle.live_joining.specs.Parts.{audio_of, osc_of, midi_of, saver_of}

-- the session of these parts
abbrev pub session_of : {A O L M P : Type 0} → Source A → Sink O → Link L → Source M →
    AudioPart A O → OscPart L → MidiPart M → SaverPart P → SessionOf P
session_of a o l m audio osc midi saver =
    record {
      audio = audio_of a o audio;
      osc = osc_of l osc;
      midi = midi_of m midi;
      saver = saver_of saver;
    }

-- the session of the parts that were given back
abbrev pub session_back : {A O L M P : Type 0} → Source A → Sink O → Link L → Source M →
    AllBack A O L M P → SessionOf P
session_back a o l m q =
    session_of a o l m q.three.two.audio.part q.three.two.osc.part q.three.midi.part q.saver
