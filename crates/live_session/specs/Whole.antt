-- What holds of a whole session, by the frames that were read and the journal.
-- - The journal is stamped and valid, and no entry stands behind the last frame.
-- - Each accepted command of OSC and of MIDI stands in it once, in its sender's order, and each
--   save has one release, in the order of the saves, behind its save.
-- - What OSC accepted comes of the packets that were received, and what MIDI accepted of the bytes
--   that were read.
-- - The frames are those of the bytes of the audio source, and fewer bytes than a frame has are
--   left over. The bytes of the run's output were written, or a first part of them where a write
--   failed. The audio ended for its reason.
-- - The replies that were told are those of the run, each to its return address. What was sent is a
--   merge of them and of the answers to pings, each in its order, but for what is counted as not
--   sent.
-- - The files are those of the saves of the run, one save after another, by their outcomes.
-- - What the loops refused is counted as in the run.
-- So output, replies and saved loops are those of one looper that replays the journal.
-- "A whole session" in docs/rules.md.
use Rattle.std.specs.Prelude.{◌≡◌, ◌≤◌, ◌<◌, ℕ, Bool, true, false, List, [], ◌++◌, length, flat_map, IsTrue, is_some}
use Rattle.std.specs.List.{AllByRecursion, list_any}
use Rattle.sl_base.specs.Limits.{max_session_frames}
use Rattle.sl_base.specs.Counting.{Rose, RoseBy}
use Rattle.sl_base.specs.Sounds.{Sound}
use Rattle.sl_commands.specs.declared.Entry.{Entry}
use Rattle.sl_commands.specs.declared.Reply.{Reply}
use Rattle.sl_commands.specs.Commands.{is_outcome}
use Rattle.sl_commands.specs.Entries.{is_valid, commands_of, are_stamped}
use Rattle.sl_ports.specs.declared.keepers.Keeper.{Ghosts as Keeper}
use Rattle.sl_ports.specs.Texts.{Tells}
use Rattle.wav_pcm.specs.WavText.{frame_size, samples}
use Rattle.looper_rules.specs.Run.{Ran, run}
use Rattle.whole_looper.specs.Loopers.{refused_in}
use Rattle.loop_saver.specs.Keeping.{WroteSaves, failed_in}
use Rattle.midi_bindings.specs.declared.binding.Binding.{Binding}
use Rattle.senders.specs.declared.accepted.Accepted.{Accepted}
use Rattle.senders.specs.declared.account.Account.{Account}
use Rattle.senders.specs.declared.decision.Decision.{Decision}
use Rattle.senders.specs.Commands.{commands_in}
use Rattle.senders.specs.Tallies.{empty_tally}
use Rattle.senders.specs.Hearing.{Hears}
use Rattle.senders.specs.Senders.{bytes_inputs}
use Rattle.live_ports.specs.Links.{Packet, LinkSeen}
use Rattle.live_ports.specs.Sources.{SourceSeen, Consumes}
use Rattle.engine_steps.specs.Engines.{Beginning, first_looper}
use Rattle.live_steps.specs.Passed.{releases_of}
use Rattle.live_steps.specs.InStep.{AreBehindTheirSaves}
use Rattle.audio_ends.specs.declared.state.AudioState.{AudioState}
use Rattle.audio_ends.specs.declared.state.AudioState.TheVariants.{ReadFault, WriteFault, Torn, EndOfInput, Quit, LongInput, More}
use Rattle.audio_ends.specs.Ends.{is_quit}
use Rattle.audio_ends.specs.Fills.{ReadsFrames}
use Rattle.audio_ends.specs.Did.{SinkSeen}
use Rattle.midi_serving.specs.Serving.{HasRead}
use Rattle.reply_sending.specs.Answers.{return_for, AreTold}
use Rattle.reply_sending.specs.Sending.{post, Sending}
use Rattle.live_session.specs.Asking.{HasAsked}
use Rattle.live_session.specs.Osc.{OscAt, heard_in, pongs_in}
use Rattle.settling.specs.Settled.{SettledOf}
use Rattle.live_session.specs.Session.{SessionOf}

-- the run of a journal over frames
abbrev pub run_of : Beginning → List Entry → List Sound → Ran
run_of b journal input = run journal input (first_looper b)

-- the journal is stamped and valid for so many loops, and ends with so many frames
pub record IsJournal (loops frames : ℕ) (journal : List Entry) : Type 0 where
  pub stamped : IsTrue (are_stamped journal)
  pub valid : AllByRecursion (λ (e : Entry). is_valid loops e ≡ true) journal
  pub within : AllByRecursion (λ (e : Entry). e.frame ≤ frames) journal

-- each accepted command stands in it once, in its sender's order
pub record HasCommands (journal : List Entry) (osc midi : List Accepted) : Type 0 where
  pub osc_are : commands_of 0 journal ≡ commands_in osc
  pub midi_are : commands_of 1 journal ≡ commands_in midi

-- each save of the run has one release, in their order and behind its save, with these outcomes
pub record HasReleases (b : Beginning) (input : List Sound) (journal : List Entry)
    (outcomes : List ℕ) : Type 0 where
  pub are : commands_of 2 journal ≡ releases_of (run_of b journal input).saves outcomes
  pub each : length outcomes ≡ length (run_of b journal input).saves
  pub ends : AllByRecursion (λ (o : ℕ). IsTrue (is_outcome o)) outcomes
  pub behind : AreBehindTheirSaves (first_looper b) input journal

-- what OSC accepted comes of the packets that were received and heard; one more was received and
-- not heard only where there was no memory
pub record IsOfPackets (quota loops : ℕ) (old new : LinkSeen) (memory : Bool)
    (heard : List Packet) (account : Account) : Type 0 where
  pub unheard : List Packet
  pub received : Consumes old.left (heard ++ unheard) new.left
  pub few : length unheard ≤ 1
  pub all : memory ≡ false → unheard ≡ []
  pub asked : HasAsked (heard ++ unheard) new.ended old.idles new.idles old.receives new.receives
  pub decided : List Decision
  pub hears : Hears 256 (flat_map (heard_in loops) heard) (empty_tally quota) account.tally decided

-- what MIDI accepted comes of the bytes read
pub record IsOfBytes (quota : ℕ) (bindings : List Binding) (old new : SourceSeen)
    (account : Account) : Type 0 where
  pub bytes : List ℕ
  pub read : Consumes old.left bytes new.left
  pub asked : HasRead bytes old new
  pub decided : List Decision
  pub hears : Hears 256 (bytes_inputs bindings [] bytes) (empty_tally quota) account.tally decided

-- a quit stands in the journal
abbrev pub has_quit : List Entry → Bool
has_quit journal = list_any (λ (e : Entry). is_quit e.command) journal

-- no read and no write of audio failed
pub record HadNoFault (source source' : SourceSeen) (sink sink' : SinkSeen) : Type 0 where
  pub reads : source'.faults ≡ source.faults
  pub writes : sink'.faults ≡ sink.faults

-- why the audio ended so, by the bytes left over, the journal and the number of frames: a quit and
-- the last frame end it only where the source didn't come to its end
abbrev pub WhyEnded : AudioState → SourceSeen → SourceSeen → SinkSeen → SinkSeen → List ℕ →
    List Entry → ℕ → Type 0
WhyEnded ReadFault source source' sink sink' rest journal frames =
    Rose source.faults source'.faults
WhyEnded WriteFault source source' sink sink' rest journal frames =
    (source'.faults ≡ source.faults) × Rose sink.faults sink'.faults
WhyEnded Torn source source' sink sink' rest journal frames =
    HadNoFault source source' sink sink' × (source'.ended ≡ true) × (1 ≤ length rest)
WhyEnded EndOfInput source source' sink sink' rest journal frames =
    HadNoFault source source' sink sink' × (source'.ended ≡ true) × (rest ≡ [])
WhyEnded Quit source source' sink sink' rest journal frames =
    HadNoFault source source' sink sink' × (has_quit journal ≡ true)
    × (source'.ended ≡ source.ended)
WhyEnded LongInput source source' sink sink' rest journal frames =
    HadNoFault source source' sink sink' × (max_session_frames ≤ frames)
    × (source'.ended ≡ source.ended)
WhyEnded More source source' sink sink' rest journal frames = ⊥

-- the bytes of the audio source are these frames and fewer bytes than a frame has, and the bytes
-- of the output were written, or a first part of them where a write failed
pub record IsPlayed (b : Beginning) (channels : ℕ) (source source' : SourceSeen)
    (sink sink' : SinkSeen) (input : List Sound) (journal : List Entry)
    (state : AudioState) : Type 0 where
  pub rest : List ℕ
  pub few : length rest < frame_size channels 16
  pub read : ReadsFrames channels source.left source'.left [] rest input
  pub wrote : Tells sink.faults sink'.faults sink.held sink'.held
      (samples channels 16 (run_of b journal input).output)
  pub why : WhyEnded state source source' sink sink' rest journal (length input)

-- a reply has a return address, by the accepted commands
abbrev pub HasReturn : List Accepted → Reply → Type 0
HasReturn accepted r = IsTrue (is_some (return_for accepted r))

-- the replies of the run were told, each to its return address, and the pings in the packets that
-- were heard answered; what is left out is counted
pub record AreAnswered (b : Beginning) (input : List Sound) (journal : List Entry)
    (heard : List Packet) (old new : LinkSeen) (account : Account) : Type 0 where
  pub tells : List Packet
  pub are_told : AreTold account.tally.accepted (run_of b journal input).replies tells
  pub sending : Sending tells (pongs_in (length b.settings.strips) heard) (post old 0)
      (post new account.unsent)

-- the files of the saves of the run are written, one save after another, by these outcomes; those
-- that tell of a write that failed are at most as many as by which the keeper's count rose
pub record AreSaved {P : Type 0} (k : Keeper P) (b : Beginning) (input : List Sound)
    (journal : List Entry) (outcomes : List ℕ) (old new : P) : Type 0 where
  pub files : WroteSaves k b.settings.rate (run_of b journal input).saves old outcomes new
  pub failed : RoseBy (failed_in outcomes) (k.write_faults old) (k.write_faults new)

-- what stands outside of a session
pub record OutsideOf (P : Type 0) : Type 0 where
  pub keeper : P
  pub audio : SourceSeen
  pub out : SinkSeen
  pub link : LinkSeen
  pub midi : SourceSeen

-- what a session gives back beside it: the journal, both accounts, how many frames are done, and
-- how often a loop refused something
pub record GivenOf : Type 0 where
  pub journal : List Entry
  pub osc : Account
  pub midi : Account
  pub frames : ℕ
  pub refused : ℕ

-- what stands outside of a session before it, and behind it once it is settled
abbrev pub outside_of : {P : Type 0} → SessionOf P → OutsideOf P
outside_of s =
    record {
      keeper = s.saver.keeper;
      audio = s.audio.source;
      out = s.audio.sink;
      link = s.osc.link;
      midi = s.midi.source;
    }

abbrev pub outside_behind : {P : Type 0} → SessionOf P → SettledOf P → OscAt → OutsideOf P
outside_behind t u osc =
    record {
      keeper = u.keeper;
      audio = t.audio.source;
      out = t.audio.sink;
      link = osc.link;
      midi = t.midi.source;
    }

-- what it gives back
abbrev pub given_by : {P : Type 0} → SessionOf P → SettledOf P → OscAt → GivenOf
given_by t u osc =
    record {
      journal = u.engine.journal.entries;
      osc = osc.sender.account;
      midi = t.midi.sender.account;
      frames = u.engine.frames;
      refused = refused_in u.engine.looper;
    }

-- a whole session, from what stood outside to what stands there now
pub record IsWholeSession {P : Type 0} (k : Keeper P) (b : Beginning) (channels : ℕ)
    (bindings : List Binding) (old new : OutsideOf P) (g : GivenOf) (state : AudioState)
    (memory : Bool) : Type 0 where
  pub input : List Sound
  pub outcomes : List ℕ
  pub heard : List Packet
  pub frames : g.frames ≡ length input
  pub refused : g.refused ≡ refused_in (run_of b g.journal input).looper
  pub journal_is_stamped : IsJournal (length b.settings.strips) g.frames g.journal
  pub journal_is_accepted : HasCommands g.journal g.osc.tally.accepted g.midi.tally.accepted
  pub each_save_is_released : HasReleases b input g.journal outcomes
  pub osc_is_of_packets : IsOfPackets b.quota (length b.settings.strips) old.link new.link memory
      heard g.osc
  pub midi_is_of_bytes : IsOfBytes b.quota bindings old.midi new.midi g.midi
  pub output_is_the_run : IsPlayed b channels old.audio new.audio old.out new.out input g.journal
      state
  pub replies_are_sent : AreAnswered b input g.journal heard old.link new.link g.osc
  pub files_are_the_saves : AreSaved k b input g.journal outcomes old.keeper new.keeper
