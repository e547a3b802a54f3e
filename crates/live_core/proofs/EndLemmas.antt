-- A session that was closed may be settled, and is whole then.
use Rattle.std.proofs.Common.{◌≡◌, ◌≤◌, ◌==◌, ℕ, Bool, true, false, List, [], ◌∷◌, ◌++◌, refl, sym, ap, ◌∙◌, subst}
use Rattle.sl_base.specs.Limits.{max_session_frames}
use Rattle.sl_base.specs.Counting.{Rose}
use Rattle.audio_ends.specs.declared.state.AudioState.{AudioState}
use Rattle.midi_serving.specs.declared.serving.MidiEnd.{MidiEnd}
use Rattle.senders.specs.declared.account.Account.{Account}
use Rattle.sl_commands.specs.declared.Reply.{Reply}
use Rattle.sl_ports.specs.declared.keepers.Keeper.{Ghosts as Keeper}
use Rattle.sl_ports.specs.declared.sinks.Sink.{Ghosts as Sink}
use Rattle.midi_bindings.specs.declared.binding.Binding.{Binding}
use Rattle.live_ports.specs.Links.{LinkSeen, SameReceiving}
use Rattle.live_ports.specs.declared.link.Link.{Ghosts as Link}
use Rattle.live_ports.specs.declared.source.Source.{Ghosts as Source}
use Rattle.senders.specs.declared.accepted.Accepted.{Accepted}
use Rattle.engine_steps.specs.Engines.{Beginning}
use Rattle.midi_serving.specs.Serving.{MidiCause}
use Rattle.reply_sending.specs.Sending.{Sending}
use Rattle.settling.specs.Settled.{MaySettle, Settled, SettledOf, unsettled, settling}
use Rattle.live_session.specs.Osc.{OscAt, ToldMore, posted}
use Rattle.live_session.specs.Session.{SessionOf, unsettled_of, told_behind}
use Rattle.live_session.specs.Whole.{OutsideOf, GivenOf, IsWholeSession, outside_of, outside_behind, given_by}
use Rattle.live_session.proofs.MetLemmas.{may_settle}
use Rattle.live_session.proofs.WholeLemmas.{settled_returned, is_whole}
use Rattle.live_joining.specs.declared.activities.OscOver.{OscOver}
use Rattle.live_joining.specs.declared.activities.OscOver.TheVariants.{Over, LinkFault, Memory, Strange}
use Rattle.live_joining.specs.Causes.{lacked_memory, link_failed, LinkCause}
use Rattle.live_core.specs.declared.closing.Closed.{Closed}
use Rattle.live_core.specs.declared.devices.Devices.{Devices}
use Rattle.live_core.specs.declared.ending.LiveEnd.{LiveEnd}
use Rattle.live_core.specs.Sessions.{session_of, session_back}
use Rattle.live_core.specs.Closing.{HasClosed, closed_of}
use Rattle.live_core.specs.Telling.{packets_for}
use Rattle.live_core.specs.declared.ending.Settlement.{Settlement}
use Rattle.live_core.specs.Telling.{TellsMore}
use Rattle.live_core.specs.Statuses.{status_of}
use Rattle.live_core.specs.Ending.{SettledTo, StaysAsClosed, IsEndOf, midi_failed, HasSettled, HasEnded, outside_at, given_at}
use Rattle.live_core.proofs.TellingLemmas.{all_told}

-- a link that receives no more has the same cause
link_cause : (old mid new : LinkSeen) (ended : OscOver) → LinkCause old mid ended →
    SameReceiving mid new → LinkCause old new ended
link_cause old mid new Over cause same = same.receives ∙ cause
link_cause old mid new LinkFault cause same =
    subst (λ (n : ℕ). Rose old.receives n) (sym same.receives) cause
link_cause old mid new Memory cause same = same.receives ∙ cause
link_cause old mid new Strange cause same = same.receives ∙ cause

-- what was settled and given back
pub has_settled : {A O L M P : Type 0} (l : Link L) (k : Keeper P) (c : Closed A O L M P)
    (s : Settlement A O L M P) (e : LiveEnd P A O L M) → SettledTo l k c s → StaysAsClosed c s →
    IsEndOf s e → e.frames ≤ max_session_frames → HasSettled l k c e
has_settled l k c s e settled stays ends within =
    record {
      left = settled.0;
      told = settled.1;
      engine = s.engine;
      saving = s.saver.saving;
      is_left = settled.2;
      tells = subst (λ (x : _). TellsMore settled.1 (l.seen c.link) (l.seen x) c.osc e.osc)
          (sym ends.link)
          (subst (λ (x : Account). TellsMore settled.1 (l.seen c.link) (l.seen s.link) c.osc x)
          (sym ends.osc) settled.3);
      settled = subst (λ (x : _). Settled k c.saver.rate
          (unsettled c.engine c.reply c.saver.saving c.keeper c.outcome []) settled.0
          (settling s.engine s.saver.saving x settled.1)) (sym ends.keeper) settled.4;
      journal = ends.journal;
      frames = ends.frames;
      within = within;
      refused = ends.refused;
      midi = ends.midi ∙ stays.midi;
      audio = ends.audio ∙ stays.audio;
      out = ends.out ∙ stays.out;
      midi_source = ends.midi_source ∙ stays.midi_source;
      status = subst (λ (x : OscOver). e.status ≡ status_of (lacked_memory x)
          (midi_failed c.midi_ended) c.state (e.frames == max_session_frames) (link_failed x))
          stays.osc_ended
          (subst (λ (x : MidiEnd). e.status ≡ status_of (lacked_memory s.osc_ended)
          (midi_failed x) c.state (e.frames == max_session_frames) (link_failed s.osc_ended))
          stays.midi_ended
          (subst (λ (x : AudioState). e.status ≡ status_of (lacked_memory s.osc_ended)
          (midi_failed s.midi_ended) x (e.frames == max_session_frames)
          (link_failed s.osc_ended)) stays.state ends.status));
    }

module _ {A O L M P : Type 0} (a : Source A) (o : Sink O) (l : Link L) (m : Source M)
    (k : Keeper P) (b : Beginning) (bindings : List Binding) (channels : ℕ)
    (d : Devices P A O L M) (c : Closed A O L M P)
    (h : HasClosed a o l m k b bindings channels d c) where
  abbrev s : SessionOf P
  s = session_of a o l m h.parts.audio h.parts.osc h.parts.midi h.parts.saver

  abbrev t : SessionOf P
  t = session_back a o l m h.back

  pub may_end : MaySettle (unsettled c.engine c.reply c.saver.saving c.keeper c.outcome []) c.rings
  may_end =
      subst (λ (x : Closed A O L M P). MaySettle (unsettled x.engine x.reply x.saver.saving x.keeper
      x.outcome []) c.rings) (sym h.closed.is)
      (may_settle k b bindings s t h.back.three.two.audio.state
      (lacked_memory h.back.three.two.osc.ended) h.ran c.rings h.closed.met [])

  module _ (e : LiveEnd P A O L M) (given : HasSettled l k c e) where
    now : HasSettled l k (closed_of c.rings h.back) e
    now = subst (λ (x : Closed A O L M P). HasSettled l k x e) h.closed.is given

    abbrev u : SettledOf P
    u = settling now.engine now.saving e.devices.keeper now.told

    st : Settled k b.settings.rate (unsettled_of t []) now.left u
    st =
        subst (λ (n : ℕ). Settled k n (unsettled_of t []) now.left u)
        (h.all.saver_ran.rate ∙ h.started.rate) now.settled

    abbrev more : List Reply
    more = told_behind t now.left st.replies

    abbrev accepted : List Accepted
    accepted = t.osc.sender.account.tally.accepted

    abbrev y : OscAt
    y =
        record {
          sender = record t.osc.sender { account = e.osc };
          replies = t.osc.replies;
          link = l.seen e.devices.link;
        }

    told_more : ToldMore more t.osc y
    told_more =
        record {
          receiving = now.tells.receiving;
          tally = now.tells.tally;
          tells = packets_for accepted more;
          are_told = all_told accepted more
              (settled_returned k b bindings s t h.back.three.two.audio.state
              (lacked_memory h.back.three.two.osc.ended) h.ran c.rings h.closed.met now.left []
              u now.is_left st);
          sending = subst (λ (rs : List Reply). Sending (packets_for accepted rs) [] (posted t.osc)
              (posted y)) st.told now.tells.sending;
        }

    new_is : outside_behind t u y ≡ outside_at a o l m e.devices
    new_is =
        λ i. record {
          keeper = e.devices.keeper;
          audio = a.seen (sym now.audio i);
          out = record { faults = o.faults (sym now.out i); held = o.held (sym now.out i) };
          link = l.seen e.devices.link;
          midi = m.seen (sym now.midi_source i);
        }

    given_is : given_by t u y ≡ given_at e
    given_is =
        λ i. record {
          journal = (sym now.journal i).entries;
          osc = e.osc;
          midi = sym now.midi i;
          frames = sym now.frames i;
          refused = sym now.refused i;
        }

    pub has_ended : HasEnded a o l m k b bindings channels d e
    has_ended =
        let state = h.back.three.two.audio.state in
        let memory = lacked_memory h.back.three.two.osc.ended in
        record {
          state = state;
          osc_ended = h.back.three.two.osc.ended;
          midi_ended = h.back.three.midi.ended;
          whole = subst (λ (x : Devices P A O L M). IsWholeSession k b channels bindings
              (outside_at a o l m x) (outside_at a o l m e.devices) (given_at e) state memory)
              (sym h.started.devices)
              (subst (λ (n : ℕ). IsWholeSession k b n bindings
              (outside_of s) (outside_at a o l m e.devices)
              (given_at e) state memory) h.started.channels_are
              (subst (λ (x : OutsideOf P). IsWholeSession k b s.audio.ends.channels bindings
              (outside_of s) x (given_at e) state memory) new_is
              (subst (λ (x : GivenOf). IsWholeSession k b s.audio.ends.channels bindings
              (outside_of s) (outside_behind t u y) x state memory)
              given_is
              (is_whole k b bindings s t state memory h.ran c.rings h.closed.met now.left [] u
              now.is_left st y told_more))));
          within = now.within;
          status = now.status;
          link_cause = subst (λ (x : Devices P A O L M). LinkCause (l.seen x.link)
              (l.seen e.devices.link) h.back.three.two.osc.ended) (sym h.started.devices)
              (link_cause (l.seen h.parts.osc.link) (l.seen h.back.three.two.osc.part.link)
              (l.seen e.devices.link) h.back.three.two.osc.ended
              h.all.three_ran.two_ran.osc_ran.cause now.tells.receiving);
          midi_cause = subst (λ (x : Devices P A O L M). MidiCause (m.seen x.midi)
              (m.seen e.devices.midi) h.back.three.midi.ended) (sym h.started.devices)
              (subst (λ (x : M). MidiCause (m.seen h.parts.midi.source) (m.seen x)
              h.back.three.midi.ended) (sym now.midi_source) h.all.three_ran.midi_ran.cause);
        }
