-- No fault of a session is passed over by its status.
use Rattle.std.proofs.Common.{◌≡◌, ◌≤◌, ◌<◌, ℕ, Bool, true, false, ◌==◌, List, [], length, refl, sym, ap, ◌∙◌, subst, arith}
use Rattle.std.proofs.lemmas.Bool.{eq-eqb}
use Rattle.sl_base.specs.Limits.{max_session_frames}
use Rattle.sl_ports.specs.declared.sinks.Sink.{Ghosts as Sink}
use Rattle.live_ports.specs.declared.link.Link.{Ghosts as Link}
use Rattle.live_ports.specs.declared.source.Source.{Ghosts as Source}
use Rattle.audio_ends.specs.declared.state.AudioState.{AudioState}
use Rattle.audio_ends.specs.declared.state.AudioState.TheVariants.{ReadFault as Unread, WriteFault as Unwritten, Torn as TornInput, EndOfInput, Quit, LongInput as AllPlayed, More}
use Rattle.midi_serving.specs.declared.serving.MidiEnd.{MidiEnd}
use Rattle.midi_serving.specs.declared.serving.MidiEnd.TheVariants.{Over as MidiOver, End as MidiEnds, ReadFault as MidiUnread}
use Rattle.midi_serving.specs.Serving.{MidiCause}
use Rattle.live_session.specs.Whole.{WhyEnded}
use Rattle.live_joining.specs.declared.activities.OscOver.{OscOver}
use Rattle.live_joining.specs.declared.activities.OscOver.TheVariants.{Over, LinkFault as Unreceived, Memory as NoRoom, Strange}
use Rattle.live_joining.specs.Causes.{lacked_memory, link_failed, LinkCause}
use Rattle.live_core.specs.declared.status.LiveStatus.{LiveStatus}
use Rattle.live_core.specs.declared.status.LiveStatus.TheVariants.{Done, ReadFault, WriteFault, Torn, LinkFault, Memory, LongInput}
use Rattle.live_core.specs.Statuses.{status_of, audio_status, last_status}
use Rattle.live_core.specs.Ending.{midi_failed}
use Rattle.live_run.specs.declared.outside.Outside.{Outside}
use Rattle.live_run.specs.Statuses.{rank, first_of}
use Rattle.live_run.specs.Closing.{TellsClosing}
use Rattle.live_run.specs.Causes.{Told, EachIsTold}
use Rattle.live_run.proofs.FirstLemmas.{first_no_later}

-- want of memory and a failed read of MIDI come before how the audio ended
no_later : (lacked unread : Bool) (state : AudioState) (played failed : Bool) (n : ℕ) → 1 ≤ n →
    rank (audio_status state played failed) ≤ n →
    rank (status_of lacked unread state played failed) ≤ n
no_later true unread state played failed n some audio = omega (arith, some)
no_later false true state played failed n some audio = some
no_later false false state played failed n some audio = audio

-- behind an end without a fault of audio
last_played : (failed : Bool) → rank (last_status true failed) ≤ 4
last_played failed = omega arith

last_failed : (played : Bool) → rank (last_status played true) ≤ 5
last_failed true = omega arith
last_failed false = omega arith

-- by how the audio ended, where all frames were played, or a receive failed
played_told : (state : AudioState) (failed : Bool) → rank (audio_status state true failed) ≤ 4
played_told Unread failed = omega arith
played_told Unwritten failed = omega arith
played_told TornInput failed = omega arith
played_told EndOfInput failed = last_played failed
played_told Quit failed = last_played failed
played_told AllPlayed failed = last_played failed
played_told More failed = last_played failed

failed_told : (state : AudioState) (played : Bool) → rank (audio_status state played true) ≤ 5
failed_told Unread played = omega arith
failed_told Unwritten played = omega arith
failed_told TornInput played = omega arith
failed_told EndOfInput played = last_failed played
failed_told Quit played = last_failed played
failed_told AllPlayed played = last_failed played
failed_told More played = last_failed played

module _ {P A O L M C : Type 0} (a : Source A) (o : Sink O) (l : Link L) (m : Source M)
    (c : Sink C) (t : Told) (old new : Outside P A O L M C) where
  abbrev Why : AudioState → Type 0
  Why state = WhyEnded state (a.seen old.audio) (a.seen new.audio)
      (record { faults = o.faults old.out; held = o.held old.out })
      (record { faults = o.faults new.out; held = o.held new.out }) t.rest t.journal t.frames

  abbrev Unreads : Type 0
  Unreads = (a.seen old.audio).faults < (a.seen new.audio).faults

  abbrev Unwrites : Type 0
  Unwrites = o.faults old.out < o.faults new.out

  reads_told : (state : AudioState) (played failed : Bool) → Why state → Unreads →
      rank (audio_status state played failed) ≤ 1
  reads_told Unread played failed why rose = omega arith
  reads_told Unwritten played failed why rose = absurd (omega (arith, rose, why.0))
  reads_told TornInput played failed why rose = absurd (omega (arith, rose, why.0.reads))
  reads_told EndOfInput played failed why rose = absurd (omega (arith, rose, why.0.reads))
  reads_told Quit played failed why rose = absurd (omega (arith, rose, why.0.reads))
  reads_told AllPlayed played failed why rose = absurd (omega (arith, rose, why.0.reads))
  reads_told More played failed why rose = absurd why

  writes_told : (state : AudioState) (played failed : Bool) → Why state → Unwrites →
      rank (audio_status state played failed) ≤ 2
  writes_told Unread played failed why rose = omega arith
  writes_told Unwritten played failed why rose = omega arith
  writes_told TornInput played failed why rose = absurd (omega (arith, rose, why.0.writes))
  writes_told EndOfInput played failed why rose = absurd (omega (arith, rose, why.0.writes))
  writes_told Quit played failed why rose = absurd (omega (arith, rose, why.0.writes))
  writes_told AllPlayed played failed why rose = absurd (omega (arith, rose, why.0.writes))
  writes_told More played failed why rose = absurd why

  -- it came to its end only now
  ends_now : (a.seen old.audio).ended ≡ false → (a.seen new.audio).ended ≡ true →
      (a.seen new.audio).ended ≡ (a.seen old.audio).ended → false ≡ true
  ends_now before now same = sym before ∙ sym same ∙ now

  torn_told : (state : AudioState) (played failed : Bool) → Why state →
      (a.seen old.audio).ended ≡ false → (a.seen new.audio).ended ≡ true → 1 ≤ length t.rest →
      rank (audio_status state played failed) ≤ 3
  torn_told Unread played failed why before now some = omega arith
  torn_told Unwritten played failed why before now some = omega arith
  torn_told TornInput played failed why before now some = omega arith
  torn_told EndOfInput played failed why before now some =
      let none : length t.rest ≡ 0 = ap length why.2 in absurd (omega (arith, none, some))
  torn_told Quit played failed why before now some =
      let not : false ≡ true = ends_now before now why.2 in absurd (cc)
  torn_told AllPlayed played failed why before now some =
      let not : false ≡ true = ends_now before now why.2 in absurd (cc)
  torn_told More played failed why before now some = absurd why

  -- a read of MIDI failed
  midi_told : (lacked : Bool) (midi : MidiEnd) (state : AudioState) (played failed : Bool) →
      MidiCause (m.seen old.midi) (m.seen new.midi) midi →
      (m.seen old.midi).faults < (m.seen new.midi).faults →
      rank (status_of lacked (midi_failed midi) state played failed) ≤ 1
  midi_told lacked MidiOver state played failed heard rose =
      absurd (omega (arith, rose, heard.1))
  midi_told lacked MidiEnds state played failed heard rose =
      absurd (omega (arith, rose, heard.1))
  midi_told true MidiUnread state played failed heard rose = omega arith
  midi_told false MidiUnread state played failed heard rose = omega arith

  -- a receive failed
  receives_told : (osc : OscOver) (unread : Bool) (state : AudioState) (played : Bool) →
      LinkCause (l.seen old.link) (l.seen new.link) osc →
      (l.seen old.link).receives < (l.seen new.link).receives →
      rank (status_of (lacked_memory osc) unread state played (link_failed osc)) ≤ 5
  receives_told Unreceived unread state played cause rose =
      no_later false unread state played true 5 (omega arith) (failed_told state played)
  receives_told Over unread state played cause rose = absurd (omega (arith, rose, cause))
  receives_told NoRoom unread state played cause rose = absurd (omega (arith, rose, cause))
  receives_told Strange unread state played cause rose = absurd (omega (arith, rose, cause))

  -- the console failed
  console_told : (text : List ℕ) (d : LiveStatus) →
      TellsClosing c text old.console new.console d →
      c.faults old.console < c.faults new.console → rank d ≤ 2
  console_told text Done told rose = absurd (omega (arith, rose, told.1))
  console_told text WriteFault told rose = omega arith
  console_told text Memory told rose = omega arith
  console_told text ReadFault told rose = absurd told
  console_told text Torn told rose = absurd told
  console_told text LinkFault told rose = absurd told
  console_told text LongInput told rose = absurd told

  -- all of them, where the journal and the console take part
  pub each_told : (osc : OscOver) (midi : MidiEnd) (state : AudioState) (s w d : LiveStatus)
      (text : List ℕ) →
      s ≡ status_of (lacked_memory osc) (midi_failed midi) state (t.frames == max_session_frames)
      (link_failed osc) → LinkCause (l.seen old.link) (l.seen new.link) osc →
      MidiCause (m.seen old.midi) (m.seen new.midi) midi → Why state →
      TellsClosing c text old.console new.console d →
      EachIsTold a o l m c t old new (first_of (first_of s w) d)
  each_told osc midi state s w d text is received heard why told =
      let played = t.frames == max_session_frames in
      let last = first_no_later (first_of s w) d in
      let core = first_no_later s w in
      let up : (n : ℕ) → rank (status_of (lacked_memory osc) (midi_failed midi) state played
      (link_failed osc)) ≤ n → rank (first_of (first_of s w) d) ≤ n = λ n within.
      (let same : rank s ≡ rank (status_of (lacked_memory osc) (midi_failed midi) state played
      (link_failed osc)) = ap rank is in omega (arith, last.0, core.0, same, within)) in
      record {
        reads = λ rose. up 1 (no_later (lacked_memory osc) (midi_failed midi) state played
            (link_failed osc) 1 (omega arith)
            (reads_told state played (link_failed osc) why rose));
        midi = λ rose. up 1 (midi_told (lacked_memory osc) midi state played (link_failed osc)
            heard rose);
        writes = λ rose. up 2 (no_later (lacked_memory osc) (midi_failed midi) state played
            (link_failed osc) 2 (omega arith)
            (writes_told state played (link_failed osc) why rose));
        console = λ rose.
            let console = console_told text d told rose in omega (arith, last.1, console);
        torn = λ before now some. up 3 (no_later (lacked_memory osc) (midi_failed midi) state
            played (link_failed osc) 3 (omega arith)
            (torn_told state played (link_failed osc) why before now some));
        played = λ all. up 4 (no_later (lacked_memory osc) (midi_failed midi) state played
            (link_failed osc) 4 (omega arith)
            (subst (λ (b : Bool). rank (audio_status state b (link_failed osc)) ≤ 4)
            (sym (eq-eqb t.frames max_session_frames all))
            (played_told state (link_failed osc))));
        receives = λ rose. up 5 (receives_told osc (midi_failed midi) state played received rose);
      }
