-- A session whose activities ran, whose ends met and which was settled is whole.
use Rattle.std.proofs.Common.{◌≡◌, ◌≤◌, ◌<◌, ℕ, Bool, true, List, [], ◌++◌, length, Option, Some, None, nat_le, is_some, refl, sym, ap, ◌∙◌, subst, arith, append_assoc, append-nil}
use Rattle.std.specs.Prelude.{option_to_list, IsTrue, IfSome, flat_map}
use Rattle.std.specs.List.{AllByRecursion}
use Rattle.std.proofs.lemmas.Bool.{leb-true}
use Rattle.std.proofs.lemmas.List.Elements.{recursion_from_All}
use Rattle.sl_base.specs.Limits.{max_session_frames}
use Rattle.sl_base.specs.Sounds.{Sound}
use Rattle.sl_commands.specs.declared.Block.{Block}
use Rattle.sl_commands.specs.declared.Command.{Command}
use Rattle.sl_commands.specs.declared.Entry.{Entry}
use Rattle.sl_commands.specs.declared.Reply.{Reply}
use Rattle.sl_commands.specs.Commands.{is_outcome}
use Rattle.sl_ports.specs.declared.keepers.Keeper.{Ghosts as Keeper}
use Rattle.sl_ports.specs.Texts.{Tells}
use Rattle.wav_pcm.specs.WavText.{frame_size, samples}
use Rattle.looper_rules.specs.Saves.{Save}
use Rattle.looper_rules.specs.SaveBlocks.{blocks_for_all, IsMade, MayBeSent}
use Rattle.looper_rules.specs.Run.{Ran}
use Rattle.whole_looper.specs.Loopers.{refused_in}
use Rattle.loop_saver.specs.Savers.{SavingOf}
use Rattle.loop_saver.specs.Keeping.{Keeps}
use Rattle.loop_saver.proofs.KeepLemmas.{keeps_then, are_outcomes}
use Rattle.loop_saver.proofs.WroteLemmas.{saves_wrote, failed_rose}
use Rattle.midi_bindings.specs.declared.binding.Binding.{Binding}
use Rattle.midi_bindings.specs.Lines.{is_binding}
use Rattle.midi_bindings.specs.Played.{MayBePlayed}
use Rattle.midi_serving.specs.Serving.{HearsBytes}
use Rattle.midi_serving.specs.Playing.{ArePlayed}
use Rattle.midi_serving.proofs.PlayingLemmas.{heard_may}
use Rattle.senders.specs.declared.accepted.Accepted.{Accepted}
use Rattle.senders.specs.declared.account.Account.{Account}
use Rattle.senders.specs.Commands.{commands_in, AreGood}
use Rattle.senders.specs.Tallies.{TallyOf, empty_tally}
use Rattle.senders.specs.Hearing.{Hears}
use Rattle.senders.specs.Senders.{bytes_inputs}
use Rattle.live_ports.specs.Sources.{Consumes}
use Rattle.live_ports.specs.Links.{Packet}
use Rattle.engine_steps.specs.Engines.{Beginning, waiting}
use Rattle.live_steps.specs.Passed.{Passed, all_replies, releases_of}
use Rattle.live_steps.specs.InStep.{AreInStep}
use Rattle.live_goes.specs.Going.{More, more_passed, put_held}
use Rattle.live_goes.proofs.GoLemmas.{held_joins}
use Rattle.audio_ends.specs.declared.state.AudioState.{AudioState}
use Rattle.audio_ends.specs.Ends.{passed}
use Rattle.audio_ends.specs.Fills.{ReadsFrames}
use Rattle.live_rings.specs.declared.meeting.MetRings.{MetRings}
use Rattle.live_session.specs.Asking.{HasAsked}
use Rattle.reply_sending.specs.Answers.{return_for, AreTold}
use Rattle.reply_sending.specs.Sending.{post, Sending}
use Rattle.reply_sending.proofs.SendingLemmas.{sending_joined}
use Rattle.reply_sending.proofs.ToldLemmas.{told_joined}
use Rattle.live_session.specs.Osc.{OscAt, heard_in, pongs_in, posted, ToldMore}
use Rattle.settling.specs.Settled.{LeftOf, AreLeft, Settled, SettledOf}
use Rattle.live_session.specs.Session.{SessionOf, HaveRun, AreMet, unsettled_of, told_behind}
use Rattle.live_session.specs.Whole.{IsJournal, HasReleases, IsOfPackets, IsOfBytes, WhyEnded, IsPlayed, HasReturn, AreAnswered, AreSaved, IsWholeSession, run_of, has_quit, outside_of, outside_behind, given_by}
use Rattle.live_session.proofs.AudioLemmas.{tells_of, why_ended, quit_taken}
use Rattle.live_session.proofs.KnownLemmas.{front_of, rest_of, run_made, known_of, all_addressed}
use Rattle.live_session.proofs.ReplyLemmas.{Known, all_weaker}
use Rattle.live_session.proofs.SaveLemmas.{all_append}
use Rattle.live_session.proofs.MetLemmas.{ran_in_step}

-- a reply that has no return address isn't there
none_strange : (accepted : List Accepted) (o : Option Reply) →
    AllByRecursion (HasReturn accepted) (option_to_list o) →
    IfSome o (λ r. return_for accepted r ≡ None) → o ≡ None
none_strange accepted None all none = refl
none_strange accepted (Some r) all none =
    absurd (let has : is_some (return_for accepted r) ≡ true = all.0 in cc)

module _ {P : Type 0} (k : Keeper P) (b : Beginning) (bindings : List Binding) (s t : SessionOf P)
    (state : AudioState) (memory : Bool) (h : HaveRun k b bindings s t state memory)
    (m : MetRings) (met : AreMet t m) where
  abbrev loops : ℕ
  loops = length b.settings.strips

  abbrev p : Passed
  p = passed t.audio.ends.rings

  abbrev accepted : List Accepted
  accepted = t.osc.sender.account.tally.accepted

  abbrev played : List Accepted
  played = t.midi.sender.account.tally.accepted

  step : AreInStep b h.audio.input h.audio.output t.audio.engine p
  step = ran_in_step k b bindings s t state memory h

  good : AreGood 0 loops accepted
  good = subst (λ (n : ℕ). AreGood 0 n accepted) (h.osc.loops ∙ h.made.loops) h.osc_keeps.good

  -- what MIDI accepted may be played
  abbrev fed : HearsBytes h.midi.bytes s.midi.sender t.midi.sender
  fed = h.midi.went.hears

  midi_may : AllByRecursion (MayBePlayed loops) (commands_in played)
  midi_may =
      let heard = fed.heard [] h.made.midi.fed in
      heard_may loops s.midi.sender.bindings
      (subst (λ (bs : List Binding). AllByRecursion (λ binding. IsTrue (is_binding loops binding))
      bs) (sym h.made.midi.bindings_is) h.made.bound.valid) [] h.midi.bytes
      s.midi.sender.ring.capacity s.midi.sender.account.tally t.midi.sender.account.tally heard.0
      heard.1
      (subst (λ (a : TallyOf). ArePlayed loops a.accepted)
      (sym (ap (λ (a : Account). a.tally) h.made.midi.account)) tt)

  -- with what is left, what was taken is what was accepted
  osc_whole : (rest : List Command) → m.osc.sent ≡ m.osc.taken ++ rest →
      commands_in accepted ≡ p.osc ++ rest
  osc_whole rest order =
      sym h.osc_keeps.step.sent ∙ sym met.osc.meets.sent ∙ order
      ∙ ap (λ l. l ++ rest) met.osc.meets.taken

  midi_whole : (rest : List Command) → m.midi.sent ≡ m.midi.taken ++ rest →
      commands_in played ≡ p.midi ++ rest
  midi_whole rest order =
      sym h.midi_keeps.step.sent ∙ sym met.midi.meets.sent ∙ order
      ∙ ap (λ l. l ++ rest) met.midi.meets.taken

  -- the outcomes that the saver put and holds are those of the blocks that it took
  outs_are : t.saver.releases.sent ++ option_to_list t.saver.held ≡ h.saver.did.outs
  outs_are =
      h.saver.did.put
      ∙ ap (λ l. l ++ (option_to_list s.saver.held ++ h.saver.did.outs)) h.made.releases.sent
      ∙ ap (λ o. option_to_list o ++ h.saver.did.outs) h.made.no_outcome

  outs_end : AllByRecursion (λ (o : ℕ). is_outcome o ≡ true) h.saver.did.outs
  outs_end =
      are_outcomes k b.settings.rate h.saver.did.taken s.saver.saving t.saver.saving s.saver.keeper
      t.saver.keeper h.saver.did.outs h.saver.did.kept

  sent_is : (rest : List ℕ) → m.saver.sent ≡ m.saver.taken ++ rest →
      p.saver ++ rest ≡ t.saver.releases.sent
  sent_is rest order =
      ap (λ l. l ++ rest) (sym met.releases.meets.taken) ∙ sym order ∙ met.releases.meets.sent

  taken_end : AllByRecursion (λ (o : ℕ). is_outcome o ≡ true) p.saver
  taken_end =
      let ends = λ (o : ℕ). is_outcome o ≡ true in
      let rest = met.releases.rest.rest in
      front_of ends p.saver rest
      (subst (AllByRecursion ends) (sym (sent_is rest met.releases.rest.ring.order))
      (front_of ends t.saver.releases.sent (option_to_list t.saver.held)
      (subst (AllByRecursion ends) (sym outs_are) outs_end)))

  -- the replies that audio put are those that OSC took, and what is left
  replies_are : (rest : List Reply) → m.replies.sent ≡ m.replies.taken ++ rest →
      p.replies ≡ (h.osc.told ++ option_to_list h.osc.strange) ++ rest
  replies_are rest order =
      sym met.replies.meets.sent ∙ order
      ∙ ap (λ l. l ++ rest)
      (met.replies.meets.taken ∙ h.osc.took
      ∙ ap (λ l. l ++ (h.osc.told ++ option_to_list h.osc.strange)) h.made.replies.taken)

  -- no reply without a return address came
  pub nothing_strange : h.osc.strange ≡ None
  nothing_strange =
      let known = known_of b h.audio.input h.audio.output t.audio.engine p accepted played
      met.osc.rest.rest met.midi.rest.rest step good
      (osc_whole met.osc.rest.rest met.osc.rest.ring.order) midi_may
      (midi_whole met.midi.rest.rest met.midi.rest.ring.order) taken_end in
      let all = all_addressed b h.audio.input h.audio.output t.audio.engine p accepted played
      met.osc.rest.rest met.midi.rest.rest step known in
      let has = HasReturn accepted in
      let put = front_of has p.replies (option_to_list p.held) all in
      let taken = front_of has (h.osc.told ++ option_to_list h.osc.strange) met.replies.rest.rest
      (subst (AllByRecursion has)
      (replies_are met.replies.rest.rest met.replies.rest.ring.order) put) in
      none_strange accepted h.osc.strange
      (rest_of has h.osc.told (option_to_list h.osc.strange) taken) h.osc.unasked

  module _ (rings : LeftOf) (from : List Reply) (u : SettledOf P) (is_left : AreLeft m rings)
      (st : Settled k b.settings.rate (unsettled_of t from) rings u) where
    abbrev journal : List Entry
    journal = u.engine.journal.entries

    abbrev input : List Sound
    input = h.audio.input

    abbrev more : More
    more =
        record {
          osc = rings.osc;
          midi = rings.midi;
          saver = rings.releases ++ (option_to_list t.saver.held ++ st.outcomes);
          replies = st.replies;
          blocks = st.blocks;
        }

    -- all that passed, with what settling moved
    abbrev q : Passed
    q = more_passed more (put_held p)

    last : AreInStep b input h.audio.output u.engine q
    last =
        st.goes.step (put_held p) refl b input h.audio.output
        (held_joins t.audio.engine p b input h.audio.output step)

    abbrev outcomes : List ℕ
    outcomes = h.saver.did.outs ++ st.outcomes

    all_outcomes : q.saver ≡ outcomes
    all_outcomes =
        let held = option_to_list t.saver.held in
        sym (append_assoc p.saver rings.releases (held ++ st.outcomes))
        ∙ ap (λ l. l ++ (held ++ st.outcomes)) (sent_is rings.releases is_left.releases)
        ∙ sym (append_assoc t.saver.releases.sent held st.outcomes)
        ∙ ap (λ l. l ++ st.outcomes) outs_are

    all_end : AllByRecursion (λ (o : ℕ). is_outcome o ≡ true) outcomes
    all_end =
        all_append (λ (o : ℕ). is_outcome o ≡ true) h.saver.did.outs st.outcomes outs_end
        (are_outcomes k b.settings.rate (rings.blocks ++ st.blocks) t.saver.saving u.saving
        t.saver.keeper u.keeper st.outcomes st.keeps)

    -- the run of the journal
    ran_is : run_of b journal input ≡ record {
      output = h.audio.output;
      replies = all_replies q;
      saves = last.answered ++ waiting u.engine;
      looper = u.engine.looper;
    }
    ran_is = last.engine.ran

    saves_are : (run_of b journal input).saves ≡ last.answered
    saves_are =
        ap (λ (r : Ran). r.saves) ran_is ∙ ap (λ w. last.answered ++ w) st.all_answered
        ∙ append-nil last.answered

    blocks_are : blocks_for_all (run_of b journal input).saves ≡ q.blocks
    blocks_are =
        ap (λ (r : Ran). blocks_for_all r.saves) ran_is ∙ last.engine.blocks
        ∙ ap (λ l. q.blocks ++ l) st.none_left ∙ append-nil q.blocks

    -- the blocks that the saver took, and those that it got of settling, are all
    taken_are : h.saver.did.taken ++ (rings.blocks ++ st.blocks) ≡ q.blocks
    taken_are =
        let took : t.saver.blocks.taken ≡ h.saver.did.taken =
        h.saver.did.took ∙ ap (λ l. l ++ h.saver.did.taken) h.made.blocks.taken in
        sym (append_assoc h.saver.did.taken rings.blocks st.blocks)
        ∙ ap (λ l. (l ++ rings.blocks) ++ st.blocks) (sym took)
        ∙ ap (λ l. (l ++ rings.blocks) ++ st.blocks) (sym met.blocks.meets.taken)
        ∙ ap (λ l. l ++ st.blocks) (sym is_left.blocks)
        ∙ ap (λ l. l ++ st.blocks) met.blocks.meets.sent

    all_kept : Keeps k b.settings.rate (blocks_for_all (run_of b journal input).saves) None
        s.saver.keeper outcomes u.saving u.keeper
    all_kept =
        subst (λ (o : Option SavingOf). Keeps k b.settings.rate
        (blocks_for_all (run_of b journal input).saves) o s.saver.keeper outcomes u.saving u.keeper)
        h.made.no_saving
        (subst (λ (bs : List Block). Keeps k b.settings.rate bs s.saver.saving s.saver.keeper
        outcomes u.saving u.keeper) (taken_are ∙ sym blocks_are)
        (keeps_then k b.settings.rate h.saver.did.taken (rings.blocks ++ st.blocks) s.saver.saving
        t.saver.saving u.saving s.saver.keeper t.saver.keeper u.keeper h.saver.did.outs st.outcomes
        h.saver.did.kept st.keeps))

    files_are : AreSaved k b input journal outcomes s.saver.keeper u.keeper
    files_are =
        let saves = (run_of b journal input).saves in
        let made = run_made b journal input h.made.begins in
        let wrote = (saves_wrote k b.settings.rate saves s.saver.keeper u.keeper outcomes u.saving
        (all_weaker IsMade MayBeSent saves (λ (x : Save) is. is.sent) made) all_kept).1 in
        record {
          files = wrote;
          failed = failed_rose k b.settings.rate saves s.saver.keeper u.keeper outcomes wrote;
        }

    osc_all : commands_in accepted ≡ q.osc
    osc_all = osc_whole rings.osc is_left.osc

    midi_all : commands_in played ≡ q.midi
    midi_all = midi_whole rings.midi is_left.midi

    known : Known loops journal accepted q.osc []
    known =
        known_of b input h.audio.output u.engine q accepted played [] [] last good
        (osc_all ∙ sym (append-nil q.osc)) midi_may (midi_all ∙ sym (append-nil q.midi))
        (subst (AllByRecursion (λ (o : ℕ). is_outcome o ≡ true)) (sym all_outcomes) all_end)

    frames_are : u.engine.frames ≡ length input
    frames_are = last.engine.frames

    journal_is : IsJournal loops u.engine.frames journal
    journal_is =
        record {
          stamped = known.stamped;
          valid = known.valid;
          within = recursion_from_All (λ (e : Entry). e.frame ≤ u.engine.frames) journal
              last.engine.before;
        }

    releases_are : HasReleases b input journal outcomes
    releases_are =
        record {
          are = last.saver ∙ ap (λ (l : List Save). releases_of l q.saver) (sym saves_are)
              ∙ ap (releases_of (run_of b journal input).saves) all_outcomes;
          each = ap length (sym all_outcomes) ∙ sym last.each ∙ ap length (sym saves_are);
          ends = all_end;
          behind = last.behind;
        }

    -- the replies that were told: those that OSC told, those left in the ring, the one that was
    -- held and those of settling
    abbrev told : List Reply
    told =
        h.osc.told ++ (rings.replies ++ (option_to_list t.audio.ends.rings.held ++ st.replies))

    put_are : p.replies ≡ h.osc.told ++ rings.replies
    put_are =
        replies_are rings.replies is_left.replies
        ∙ ap (λ (o : Option Reply). (h.osc.told ++ option_to_list o) ++ rings.replies)
        nothing_strange
        ∙ ap (λ (l : List Reply). l ++ rings.replies) (append-nil h.osc.told)

    told_are : told ≡ (run_of b journal input).replies
    told_are =
        let held = option_to_list t.audio.ends.rings.held in
        sym (append_assoc h.osc.told rings.replies (held ++ st.replies))
        ∙ ap (λ (l : List Reply). l ++ (held ++ st.replies)) (sym put_are)
        ∙ sym (append_assoc p.replies held st.replies)
        ∙ sym (append-nil q.replies)
        ∙ sym (ap (λ (r : Ran). r.replies) ran_is)

    -- each has its return address
    all_returned : AllByRecursion (HasReturn accepted) told
    all_returned =
        subst (AllByRecursion (HasReturn accepted))
        (sym (ap (λ (r : Ran). r.replies) ran_is) ∙ sym told_are)
        (all_addressed b input h.audio.output u.engine q accepted played [] [] last known)

    -- those that settling told too
    pub settled_returned : AllByRecursion (HasReturn accepted) (told_behind t rings st.replies)
    settled_returned =
        rest_of (HasReturn accepted) h.osc.told (told_behind t rings st.replies) all_returned

    bytes_are : IsOfBytes b.quota bindings s.midi.source t.midi.source t.midi.sender.account
    bytes_are =
        let heard = fed.heard [] h.made.midi.fed in
        let empty = ap (λ (a : Account). a.tally) h.made.midi.account in
        record {
          bytes = h.midi.bytes;
          read = h.midi.went.read;
          asked = h.midi.asked;
          decided = heard.0;
          hears = subst (λ (n : ℕ). Hears n (bytes_inputs bindings [] h.midi.bytes)
              (empty_tally b.quota) t.midi.sender.account.tally heard.0)
              h.made.midi_ring.put_capacity
              (subst (λ (bs : List Binding). Hears s.midi.sender.ring.capacity
              (bytes_inputs bs [] h.midi.bytes) (empty_tally b.quota) t.midi.sender.account.tally
              heard.0) h.made.midi.bindings_is
              (subst (λ (a : TallyOf). Hears s.midi.sender.ring.capacity
              (bytes_inputs s.midi.sender.bindings [] h.midi.bytes) a t.midi.sender.account.tally
              heard.0) empty heard.1));
        }

    quits : t.audio.ends.rings.quit ≡ true → has_quit journal ≡ true
    quits is =
        quit_taken journal p.osc p.midi rings.osc rings.midi last.osc last.midi
        (sym h.audio.did.may.turn.quit ∙ is)

    all_done : nat_le max_session_frames t.audio.engine.frames ≡ true →
        max_session_frames ≤ length input
    all_done is =
        let done = leb-true max_session_frames t.audio.engine.frames is in
        let count = step.engine.frames in
        omega arith

    plays_are : IsPlayed b s.audio.ends.channels s.audio.source t.audio.source s.audio.sink
        t.audio.sink input journal state
    plays_are =
        let d = h.audio.did in
        record {
          rest = t.audio.ends.rest.items;
          few = subst (λ (n : ℕ). length t.audio.ends.rest.items < frame_size n 16) d.channels
              d.may.ready.few;
          read = subst (λ (kept : List ℕ). ReadsFrames s.audio.ends.channels s.audio.source.left
              t.audio.source.left kept t.audio.ends.rest.items input) h.made.no_rest d.read;
          wrote = subst (λ (out : List Sound). Tells s.audio.sink.faults t.audio.sink.faults
              s.audio.sink.held t.audio.sink.held (samples s.audio.ends.channels 16 out))
              (sym (ap (λ (r : Ran). r.output) ran_is))
              (tells_of s.audio.sink.held t.audio.sink.held s.audio.sink.faults
              t.audio.sink.faults (samples s.audio.ends.channels 16 h.audio.output) h.audio.answer
              d.wrote d.counts);
          why = subst (λ (w : AudioState). WhyEnded w s.audio.source t.audio.source s.audio.sink
              t.audio.sink t.audio.ends.rest.items journal (length input)) (sym h.audio.state_is)
              (why_ended s.audio.source t.audio.source s.audio.sink t.audio.sink journal
              (length input) h.audio.halt h.audio.answer t.audio.ends.rest.items
              t.audio.ends.rings.quit (nat_le max_session_frames t.audio.engine.frames)
              d.halts d.counts quits all_done
              (λ is. h.audio.over (h.audio.state_is ∙ is)));
        }

    module _ (y : OscAt) (no_more : ToldMore (told_behind t rings st.replies) t.osc y) where
      answered : AreAnswered b input journal h.osc.heard s.osc.link y.link y.sender.account
      answered =
          let tells = h.osc.tells ++ no_more.tells in
          let pongs = pongs_in s.osc.sender.loops h.osc.heard in
          record {
            tells = tells;
            are_told = subst (λ (x : TallyOf). AreTold x.accepted (run_of b journal input).replies
                tells) (sym no_more.tally)
                (subst (λ (rs : List Reply). AreTold accepted rs tells) told_are
                (told_joined accepted h.osc.told
                (rings.replies ++ (option_to_list t.audio.ends.rings.held ++ st.replies))
                h.osc.tells no_more.tells h.osc.are_told no_more.are_told));
            sending = subst (λ (n : ℕ). Sending tells (pongs_in n h.osc.heard) (post s.osc.link 0)
                (posted y)) h.made.loops
                (subst (λ (n : ℕ). Sending tells pongs (post s.osc.link n) (posted y))
                (ap (λ (a : Account). a.unsent) h.made.osc)
                (subst (λ (ps : List Packet). Sending tells ps (posted s.osc) (posted y))
                (append-nil pongs)
                (sending_joined h.osc.tells no_more.tells pongs [] (posted s.osc) (posted t.osc)
                (posted y) h.osc.sending no_more.sending)));
          }

      packets_are : IsOfPackets b.quota loops s.osc.link y.link memory h.osc.heard y.sender.account
      packets_are =
          let x = h.osc in
          let capacity = h.made.osc_ring.put_capacity in
          let empty = ap (λ (a : Account). a.tally) h.made.osc in
          record {
            unheard = x.unheard;
            received = subst (Consumes s.osc.link.left (x.heard ++ x.unheard))
                (sym no_more.receiving.left) x.packets.received;
            few = x.few;
            all = x.all;
            asked = (let a = x.asked nothing_strange in
                let ended = no_more.receiving.ended in
                let idles = no_more.receiving.idles in
                let receives = no_more.receiving.receives in
                asked_still (x.heard ++ x.unheard) ended idles receives a);
            decided = x.packets.decided;
            hears = hears_so capacity empty (sym no_more.tally) h.made.loops x.packets.hears;
          }
        where
          asked_still : (ps : List Packet) → y.link.ended ≡ t.osc.link.ended →
              y.link.idles ≡ t.osc.link.idles → y.link.receives ≡ t.osc.link.receives →
              HasAsked ps t.osc.link.ended s.osc.link.idles t.osc.link.idles s.osc.link.receives
              t.osc.link.receives →
              HasAsked ps y.link.ended s.osc.link.idles y.link.idles s.osc.link.receives
              y.link.receives
          asked_still ps ended idles receives a =
              subst (λ (e : Bool). HasAsked ps e s.osc.link.idles y.link.idles s.osc.link.receives
              y.link.receives) (sym ended)
              (subst (λ (n : ℕ). HasAsked ps t.osc.link.ended s.osc.link.idles n
              s.osc.link.receives y.link.receives) (sym idles)
              (subst (HasAsked ps t.osc.link.ended s.osc.link.idles t.osc.link.idles
              s.osc.link.receives) (sym receives) a))

          hears_so : s.osc.sender.ring.capacity ≡ 256 →
              s.osc.sender.account.tally ≡ empty_tally b.quota →
              t.osc.sender.account.tally ≡ y.sender.account.tally → s.osc.sender.loops ≡ loops →
              Hears s.osc.sender.ring.capacity
              (flat_map (heard_in s.osc.sender.loops) h.osc.heard) s.osc.sender.account.tally
              t.osc.sender.account.tally h.osc.packets.decided →
              Hears 256 (flat_map (heard_in loops) h.osc.heard) (empty_tally b.quota)
              y.sender.account.tally h.osc.packets.decided
          hears_so capacity empty tally count hears =
              subst (λ (n : ℕ). Hears n (flat_map (heard_in loops) h.osc.heard)
              (empty_tally b.quota) y.sender.account.tally h.osc.packets.decided) capacity
              (subst (λ (n : ℕ). Hears s.osc.sender.ring.capacity
              (flat_map (heard_in n) h.osc.heard) (empty_tally b.quota) y.sender.account.tally
              h.osc.packets.decided) count
              (subst (λ (x : TallyOf). Hears s.osc.sender.ring.capacity
              (flat_map (heard_in s.osc.sender.loops) h.osc.heard) x y.sender.account.tally
              h.osc.packets.decided) empty
              (subst (λ (x : TallyOf). Hears s.osc.sender.ring.capacity
              (flat_map (heard_in s.osc.sender.loops) h.osc.heard) s.osc.sender.account.tally x
              h.osc.packets.decided) tally hears)))

      pub is_whole : IsWholeSession k b s.audio.ends.channels bindings (outside_of s)
          (outside_behind t u y) (given_by t u y) state memory
      is_whole =
          record {
            input = input;
            outcomes = outcomes;
            heard = h.osc.heard;
            frames = frames_are;
            refused = sym (ap (λ (r : Ran). refused_in r.looper) ran_is);
            journal_is_stamped = journal_is;
            journal_is_accepted = record {
              osc_are = last.osc ∙ sym osc_all
                  ∙ ap (λ (x : TallyOf). commands_in x.accepted) (sym no_more.tally);
              midi_are = last.midi ∙ sym midi_all;
            };
            each_save_is_released = releases_are;
            osc_is_of_packets = packets_are;
            midi_is_of_bytes = bytes_are;
            output_is_the_run = plays_are;
            replies_are_sent = answered;
            files_are_the_saves = files_are;
          }
