-- What each activity does to its part, and all four to theirs.
-- "The activities of a session" in docs/rules.md.
use Rattle.std.specs.Prelude.{◌≡◌, ◌≤◌, ℕ, [], None}
use Rattle.sl_ports.specs.declared.keepers.Keeper.{Ghosts as Keeper}
use Rattle.sl_ports.specs.declared.sinks.Sink.{Ghosts as Sink}
use Rattle.event_rings.specs.Ends.{PutEnd}
use Rattle.senders.specs.Senders.{IsOscSender, IsMidiSender}
use Rattle.live_ports.specs.declared.link.Link.{Ghosts as Link}
use Rattle.live_ports.specs.declared.source.Source.{Ghosts as Source}
use Rattle.audio_ends.specs.Did.{MayGoOn}
use Rattle.midi_serving.specs.Serving.{MidiCause}
use Rattle.saver_serving.specs.Serving.{MayServe}
use Rattle.live_session.specs.Audio.{AudioRan}
use Rattle.live_session.specs.Osc.{OscRan}
use Rattle.live_session.specs.Midi.{MidiRan}
use Rattle.live_session.specs.Session.{SaverRan}
use Rattle.live_joining.specs.declared.parts.AudioPart.{AudioPart}
use Rattle.live_joining.specs.declared.parts.OscPart.{OscPart}
use Rattle.live_joining.specs.declared.parts.MidiPart.{MidiPart}
use Rattle.live_joining.specs.declared.parts.SaverPart.{SaverPart}
use Rattle.live_joining.specs.declared.parts.AudioBack.{AudioBack}
use Rattle.live_joining.specs.declared.parts.OscBack.{OscBack}
use Rattle.live_joining.specs.declared.parts.MidiBack.{MidiBack}
use Rattle.live_joining.specs.declared.parts.TwoBack.{TwoBack}
use Rattle.live_joining.specs.declared.parts.ThreeBack.{ThreeBack}
use Rattle.live_joining.specs.declared.parts.AllBack.{AllBack}
use Rattle.live_joining.specs.Parts.{audio_of, osc_of, midi_of, saver_of}
use Rattle.live_joining.specs.Causes.{lacked_memory, LinkCause}

-- one number may be put on a ring, the first
pub record MayTell (over : PutEnd ℕ) : Type 0 where
  pub unsent : over.sent ≡ []
  pub room : 1 ≤ over.limit

-- audio may run
pub record MayRunAudio {A O : Type 0} (a : Source A) (o : Sink O) (p : AudioPart A O) : Type 0 where
  pub may : MayGoOn (audio_of a o p)
  pub osc : MayTell p.overs.osc
  pub midi : MayTell p.overs.midi
  pub saver : MayTell p.overs.saver

-- the saver may run
pub record MayRunSaver {P : Type 0} (p : SaverPart P) : Type 0 where
  pub may : MayServe (saver_of p)
  pub free : p.held ≡ None

-- audio ran
pub record RanAudio {A O : Type 0} (a : Source A) (o : Sink O) (p : AudioPart A O)
    (q : AudioBack A O) : Type 0 where
  pub ran : AudioRan (audio_of a o p) (audio_of a o q.part) q.state

-- OSC ran, and what always holds of its sender holds
pub record RanOsc {L : Type 0} (l : Link L) (p : OscPart L) (q : OscBack L) : Type 0 where
  pub ran : OscRan (osc_of l p) (osc_of l q.part) (lacked_memory q.ended)
  pub keeps : IsOscSender q.part.sender
  pub cause : LinkCause (l.seen p.link) (l.seen q.part.link) q.ended

-- so did MIDI
pub record RanMidi {M : Type 0} (m : Source M) (p : MidiPart M) (q : MidiBack M) : Type 0 where
  pub ran : MidiRan (midi_of m p) (midi_of m q.part)
  pub keeps : IsMidiSender q.part.sender
  pub cause : MidiCause (m.seen p.source) (m.seen q.part.source) q.ended

-- and the saver
pub record RanSaver {P : Type 0} (k : Keeper P) (p q : SaverPart P) : Type 0 where
  pub rate : q.saver.rate ≡ p.saver.rate
  pub ran : SaverRan k p.saver.rate (saver_of p) (saver_of q)

-- two, three and all of them did
pub record TwoRan {A O L : Type 0} (a : Source A) (o : Sink O) (l : Link L)
    (audio : AudioPart A O) (osc : OscPart L) (q : TwoBack A O L) : Type 0 where
  pub audio_ran : RanAudio a o audio q.audio
  pub osc_ran : RanOsc l osc q.osc

pub record ThreeRan {A O L M : Type 0} (a : Source A) (o : Sink O) (l : Link L) (m : Source M)
    (audio : AudioPart A O) (osc : OscPart L) (midi : MidiPart M)
    (q : ThreeBack A O L M) : Type 0 where
  pub two_ran : TwoRan a o l audio osc q.two
  pub midi_ran : RanMidi m midi q.midi

pub record AllRan {A O L M P : Type 0} (a : Source A) (o : Sink O) (l : Link L) (m : Source M)
    (k : Keeper P) (audio : AudioPart A O) (osc : OscPart L) (midi : MidiPart M)
    (saver : SaverPart P) (q : AllBack A O L M P) : Type 0 where
  pub three_ran : ThreeRan a o l m audio osc midi q.three
  pub saver_ran : RanSaver k saver q.saver
