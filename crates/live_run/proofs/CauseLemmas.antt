-- Each status of a session has its cause.
use Rattle.std.proofs.Common.{◌≡◌, ◌≤◌, ◌⊎◌, inl, inr, ◌==◌, ℕ, ◌+◌, Bool, true, false, List, [], length, Option, Some, None, is_some, refl, sym, ap, ◌∙◌, subst, arith}
use Rattle.std.proofs.lemmas.Bool.{eqb-true, eqb-false}
use Rattle.sl_base.specs.Counting.{Rose, RoseBy}
use Rattle.sl_base.specs.Limits.{max_session_frames}
use Rattle.sl_commands.specs.declared.entry.Entry.{Entry}
use Rattle.journal_text.specs.Journals.{journal_text}
use Rattle.sl_ports.specs.declared.keepers.Keeper.{Ghosts as Keeper}
use Rattle.sl_ports.specs.declared.sinks.Sink.{Ghosts as Sink}
use Rattle.live_ports.specs.declared.link.Link.{Ghosts as Link}
use Rattle.live_ports.specs.declared.source.Source.{Ghosts as Source}
use Rattle.loop_saver.specs.Keeping.{failed_in}
use Rattle.audio_ends.specs.declared.state.AudioState.{AudioState}
use Rattle.audio_ends.specs.declared.state.AudioState.TheVariants.{ReadFault as Unread, WriteFault as Unwritten, Torn as TornInput, EndOfInput, Quit, LongInput as AllPlayed, More}
use Rattle.midi_serving.specs.declared.serving.MidiEnd.{MidiEnd}
use Rattle.midi_serving.specs.declared.serving.MidiEnd.TheVariants.{Over as MidiOver, End as MidiEnds, ReadFault as MidiUnread}
use Rattle.midi_serving.specs.Serving.{MidiCause}
use Rattle.live_session.specs.Whole.{HadNoFault, WhyEnded, has_quit}
use Rattle.live_joining.specs.declared.activities.OscOver.{OscOver}
use Rattle.live_joining.specs.declared.activities.OscOver.TheVariants.{Over, LinkFault as Unreceived, Memory as NoRoom, Strange}
use Rattle.live_joining.specs.Causes.{lacked_memory, link_failed, LinkCause}
use Rattle.live_core.specs.declared.status.LiveStatus.{LiveStatus}
use Rattle.live_core.specs.declared.status.LiveStatus.TheVariants.{Done, ReadFault, WriteFault, Torn, LinkFault, Memory, LongInput}
use Rattle.live_core.specs.Statuses.{status_of, audio_status, last_status}
use Rattle.live_core.specs.Ending.{midi_failed}
use Rattle.live_run.specs.declared.outside.Outside.{Outside}
use Rattle.live_run.specs.Statuses.{rank, first_of}
use Rattle.live_run.specs.Writing.{WritesJournal, WritesBy}
use Rattle.live_run.specs.Closing.{TellsClosing}
use Rattle.live_run.specs.Causes.{Told, IsDone, LacksJournal, Cause}
use Rattle.live_run.proofs.FirstLemmas.{IsFirst, one_is, other_is, first_is, last_is_done, done_both}

module _ {P A O L M C : Type 0} (k : Keeper P) (a : Source A) (o : Sink O) (l : Link L)
    (m : Source M) (c : Sink C) (t : Told) (old new : Outside P A O L M C) where
  abbrev Because : LiveStatus → Type 0
  Because s = Cause k a o l m c t old new s

  abbrev SameConsole : Type 0
  SameConsole = c.faults new.console ≡ c.faults old.console

  abbrev NoFault : Type 0
  NoFault = HadNoFault (a.seen old.audio) (a.seen new.audio)
      (record { faults = o.faults old.out; held = o.held old.out })
      (record { faults = o.faults new.out; held = o.held new.out })

  abbrev Why : AudioState → Type 0
  Why state = WhyEnded state (a.seen old.audio) (a.seen new.audio)
      (record { faults = o.faults old.out; held = o.held old.out })
      (record { faults = o.faults new.out; held = o.held new.out }) t.rest t.journal t.frames

  abbrev MidiStayed : Type 0
  MidiStayed = (m.seen new.midi).faults ≡ (m.seen old.midi).faults

  -- what a receive that failed or not did to the link's count
  abbrev Receives : Bool → Type 0
  Receives true = Rose (l.seen old.link).receives (l.seen new.link).receives
  Receives false = (l.seen new.link).receives ≡ (l.seen old.link).receives

  abbrev HasEnd : Type 0
  HasEnd = ((a.seen new.audio).ended ≡ true) ⊎ (has_quit t.journal ≡ true)

  -- behind an end without a fault of audio
  last : (played failed : Bool) → (t.frames == max_session_frames) ≡ played → Receives failed →
      NoFault → MidiStayed → (played ≡ false → HasEnd) →
      (last_status played failed ≡ Done → SameConsole) → Because (last_status played failed)
  last true failed is receives none midi ends same = eqb-true t.frames max_session_frames is
  last false true is receives none midi ends same = receives
  last false false is receives none midi ends same =
      record {
        reads = none.reads;
        writes = none.writes;
        midi = midi;
        receives = receives;
        console = same refl;
        ended = ends refl;
      }

  -- by how the audio ended
  by_audio : (state : AudioState) (played failed : Bool) →
      (t.frames == max_session_frames) ≡ played → t.frames ≤ max_session_frames →
      Receives failed → MidiStayed → Why state →
      (audio_status state played failed ≡ Done → SameConsole) →
      Because (audio_status state played failed)
  by_audio Unread played failed is within receives midi why same = inl why
  by_audio Unwritten played failed is within receives midi why same = inl why.1
  by_audio TornInput played failed is within receives midi why same = (why.1, why.2)
  by_audio EndOfInput played failed is within receives midi why same =
      last played failed is receives why.0 midi (λ none. inl why.1) same
  by_audio Quit played failed is within receives midi why same =
      last played failed is receives why.0 midi (λ none. inr why.1) same
  by_audio AllPlayed played failed is within receives midi why same =
      last played failed is receives why.0 midi
      (λ none. absurd (eqb-false t.frames max_session_frames (is ∙ none) (omega (arith, why.1))))
      same
  by_audio More played failed is within receives midi why same = absurd why

  -- by how MIDI ended
  by_midi : (ended : MidiEnd) (state : AudioState) (played failed : Bool) →
      (t.frames == max_session_frames) ≡ played → t.frames ≤ max_session_frames →
      Receives failed → MidiCause (m.seen old.midi) (m.seen new.midi) ended → Why state →
      (status_of false (midi_failed ended) state played failed ≡ Done → SameConsole) →
      Because (status_of false (midi_failed ended) state played failed)
  by_midi MidiOver state played failed is within receives midi why same =
      by_audio state played failed is within receives midi.1 why same
  by_midi MidiEnds state played failed is within receives midi why same =
      by_audio state played failed is within receives midi.1 why same
  by_midi MidiUnread state played failed is within receives midi why same = inr midi.1

  -- by how OSC ended: why a session has its status, before the journal and the console
  pub core_cause : (osc : OscOver) (midi : MidiEnd) (state : AudioState) →
      t.frames ≤ max_session_frames → LinkCause (l.seen old.link) (l.seen new.link) osc →
      MidiCause (m.seen old.midi) (m.seen new.midi) midi → Why state →
      (status_of (lacked_memory osc) (midi_failed midi) state (t.frames == max_session_frames)
      (link_failed osc) ≡ Done → SameConsole) →
      Because (status_of (lacked_memory osc) (midi_failed midi) state
      (t.frames == max_session_frames) (link_failed osc))
  core_cause Over midi state within link heard why same =
      by_midi midi state (t.frames == max_session_frames) false refl within link heard why same
  core_cause Unreceived midi state within link heard why same =
      by_midi midi state (t.frames == max_session_frames) true refl within link heard why same
  core_cause NoRoom midi state within link heard why same = tt
  core_cause Strange midi state within link heard why same =
      by_midi midi state (t.frames == max_session_frames) false refl within link heard why same

  -- one write more than those of the saves failed
  rose_more : (n x y z : ℕ) → RoseBy n x y → Rose y z → RoseBy (n + 1) x z
  rose_more n x y z some one = omega arith

  -- of the journal
  text_cause : (name : List ℕ) (text : List ℕ) (saved : P) (w : LiveStatus) →
      t.name ≡ Some name →
      RoseBy (failed_in t.outcomes) (k.write_faults old.keeper) (k.write_faults saved) →
      WritesBy k name text saved new.keeper w → (w ≡ Done → Because Done) → Because w
  text_cause name text saved Done asked failed wrote done = done refl
  text_cause name text saved WriteFault asked failed wrote done =
      inr (inr (record {
        asked = subst (λ (x : Option (List ℕ)). is_some x ≡ true) (sym asked) refl;
        rose = rose_more (failed_in t.outcomes) (k.write_faults old.keeper)
            (k.write_faults saved) (k.write_faults new.keeper) failed wrote.1;
      }))
  text_cause name text saved Memory asked failed wrote done = tt
  text_cause name text saved ReadFault asked failed wrote done = absurd wrote
  text_cause name text saved Torn asked failed wrote done = absurd wrote
  text_cause name text saved LinkFault asked failed wrote done = absurd wrote
  text_cause name text saved LongInput asked failed wrote done = absurd wrote

  journal_cause : (name : Option (List ℕ)) (saved : P) (w : LiveStatus) → t.name ≡ name →
      RoseBy (failed_in t.outcomes) (k.write_faults old.keeper) (k.write_faults saved) →
      WritesJournal k name t.journal saved new.keeper w → (w ≡ Done → Because Done) → Because w
  journal_cause None saved w asked failed wrote done =
      subst Because (sym wrote.1) (done wrote.1)
  journal_cause (Some name) saved w asked failed wrote done =
      text_cause name (journal_text t.journal) saved w asked failed wrote.writes done

  -- of the console
  console_cause : (text : List ℕ) (d : LiveStatus) →
      TellsClosing c text old.console new.console d → (d ≡ Done → Because Done) → Because d
  console_cause text Done told done = done refl
  console_cause text WriteFault told done = inr (inl told.1)
  console_cause text Memory told done = tt
  console_cause text ReadFault told done = absurd told
  console_cause text Torn told done = absurd told
  console_cause text LinkFault told done = absurd told
  console_cause text LongInput told done = absurd told

  console_same : (text : List ℕ) (d : LiveStatus) → d ≡ Done →
      TellsClosing c text old.console new.console d → SameConsole
  console_same text d is told =
      (subst (λ (x : LiveStatus). TellsClosing c text old.console new.console x) is told).1

  -- of all three
  pub first_cause : (s w d : LiveStatus) (name : Option (List ℕ)) (saved : P) (text : List ℕ) →
      t.name ≡ name →
      RoseBy (failed_in t.outcomes) (k.write_faults old.keeper) (k.write_faults saved) →
      WritesJournal k name t.journal saved new.keeper w →
      TellsClosing c text old.console new.console d → ((s ≡ Done → SameConsole) → Because s) →
      Because (first_of (first_of s w) d)
  first_cause s w d name saved text asked failed wrote told core =
      by_first (first_is s w) (first_is (first_of s w) d)
    where
      -- where the first of all is done, so is the session
      all_done : first_of (first_of s w) d ≡ Done → Because Done
      all_done is =
          let both = done_both (first_of s w) d is in
          let s_done = (done_both s w both.0).0 in
          subst Because s_done (core (λ none. console_same text d both.1 told))

      by_first : IsFirst s w (first_of s w) →
          IsFirst (first_of s w) d (first_of (first_of s w) d) →
          Because (first_of (first_of s w) d)
      by_first (one_is x_is x_before) (one_is f_is f_before) =
          subst Because (sym (f_is ∙ x_is)) (core (λ s_done.
          console_same text d
          (last_is_done d (let most : rank (first_of s w) ≡ 6 = ap rank (x_is ∙ s_done) in
          omega arith)) told))
      by_first (other_is x_is x_before) (one_is f_is f_before) =
          subst Because (sym (f_is ∙ x_is)) (journal_cause name saved w asked failed wrote
          (λ w_done. all_done (f_is ∙ x_is ∙ w_done)))
      by_first x (other_is f_is f_before) =
          subst Because (sym f_is) (console_cause text d told (λ d_done. all_done (f_is ∙ d_done)))
