-- What all four did is that a session ran.
use Rattle.std.proofs.Common.{◌≡◌, ℕ, List, sym, subst}
use Rattle.sl_ports.specs.declared.keepers.Keeper.{Ghosts as Keeper}
use Rattle.sl_ports.specs.declared.sinks.Sink.{Ghosts as Sink}
use Rattle.live_ports.specs.declared.link.Link.{Ghosts as Link}
use Rattle.live_ports.specs.declared.source.Source.{Ghosts as Source}
use Rattle.midi_bindings.specs.declared.binding.Binding.{Binding}
use Rattle.engine_steps.specs.Engines.{Beginning}
use Rattle.live_session.specs.Session.{IsMade, SaverRan, HaveRun}
use Rattle.live_joining.specs.declared.parts.AudioPart.{AudioPart}
use Rattle.live_joining.specs.declared.parts.OscPart.{OscPart}
use Rattle.live_joining.specs.declared.parts.MidiPart.{MidiPart}
use Rattle.live_joining.specs.declared.parts.SaverPart.{SaverPart}
use Rattle.live_joining.specs.declared.parts.AllBack.{AllBack}
use Rattle.live_joining.specs.Causes.{lacked_memory}
use Rattle.live_joining.specs.Parts.{saver_of}
use Rattle.live_joining.specs.Running.{AllRan}
use Rattle.live_core.specs.Sessions.{session_of, session_back}

pub have_run : {A O L M P : Type 0} (a : Source A) (o : Sink O) (l : Link L) (m : Source M)
    (k : Keeper P) (audio : AudioPart A O) (osc : OscPart L) (midi : MidiPart M)
    (saver : SaverPart P) (q : AllBack A O L M P) (b : Beginning) (bindings : List Binding) →
    AllRan a o l m k audio osc midi saver q →
    IsMade b bindings (session_of a o l m audio osc midi saver) →
    saver.saver.rate ≡ b.settings.rate →
    HaveRun k b bindings (session_of a o l m audio osc midi saver) (session_back a o l m q)
    q.three.two.audio.state (lacked_memory q.three.two.osc.ended)
have_run a o l m k audio osc midi saver q b bindings all made rate =
    record {
      made = made;
      audio = all.three_ran.two_ran.audio_ran.ran;
      osc = all.three_ran.two_ran.osc_ran.ran;
      osc_keeps = all.three_ran.two_ran.osc_ran.keeps;
      midi = all.three_ran.midi_ran.ran;
      midi_keeps = all.three_ran.midi_ran.keeps;
      saver = subst (λ (n : ℕ). SaverRan k n (saver_of saver) (saver_of q.saver)) rate
          all.saver_ran.ran;
    }
