-- What four activities that ran leave behind: engine and rings in step, ends that may meet, and a
-- session that may be settled.
use Rattle.std.proofs.Common.{◌≡◌, ◌≤◌, ◌+◌, ℕ, Bool, List, [], length, sym, ap, ◌∙◌, subst, arith}
use Rattle.std.specs.Prelude.{option_to_list}
use Rattle.sl_commands.specs.declared.Reply.{Reply}
use Rattle.sl_commands.specs.Blocks.{place_of}
use Rattle.sl_ports.specs.declared.keepers.Keeper.{Ghosts as Keeper}
use Rattle.midi_bindings.specs.declared.binding.Binding.{Binding}
use Rattle.engine_steps.specs.Engines.{EngineOf, Beginning, first_engine}
use Rattle.live_steps.specs.Passed.{none_passed}
use Rattle.live_steps.specs.InStep.{AreInStep}
use Rattle.live_steps.proofs.StepLemmas.{new_in_step}
use Rattle.audio_ends.specs.declared.state.AudioState.{AudioState}
use Rattle.audio_ends.specs.Ends.{passed}
use Rattle.live_rings.specs.declared.meeting.MetRings.{MetRings}
use Rattle.settling.specs.Settled.{LeftOf, MaySettle, passed_rings}
use Rattle.live_session.specs.Session.{SessionOf, HaveRun, SameRings, AreMet, unsettled_of}

module _ {P : Type 0} (k : Keeper P) (b : Beginning) (bindings : List Binding) (s t : SessionOf P)
    (state : AudioState) (memory : Bool) (h : HaveRun k b bindings s t state memory) where
  -- nothing had passed
  none_before : passed s.audio.ends.rings ≡ none_passed
  none_before =
      let m = h.made in
      λ i. record {
        osc = m.osc_ring.taken i;
        midi = m.midi_ring.taken i;
        saver = m.releases.taken i;
        replies = m.replies.sent i;
        held = m.no_reply i;
        blocks = m.blocks.sent i;
      }

  -- engine and rings are in step with the frames read and played
  pub ran_in_step : AreInStep b h.audio.input h.audio.output t.audio.engine
      (passed t.audio.ends.rings)
  ran_in_step =
      h.audio.did.step b [] []
      (subst (λ (e : EngineOf). AreInStep b [] [] e (passed s.audio.ends.rings))
      (sym h.made.engine)
      (subst (AreInStep b [] [] (first_engine b)) (sym none_before)
      (new_in_step b h.made.begins)))

  pub same_rings : SameRings t
  same_rings =
      let m = h.made in
      let r = h.audio.did.rings in
      record {
        osc = h.osc.ring.name ∙ m.osc_ring.name ∙ sym r.osc.ring.name;
        midi = h.midi.went.hears.stays.ring.name ∙ m.midi_ring.name ∙ sym r.midi.ring.name;
        releases = h.saver.did.releases.name ∙ m.releases.name ∙ sym r.saver.ring.name;
        replies = r.replies.ring.name ∙ m.replies.name ∙ sym h.osc.replies.name;
        blocks = r.blocks.ring.name ∙ m.blocks.name ∙ sym h.saver.did.blocks.name;
      }

  -- the quota of the engine
  quota_is : t.audio.engine.journal.quota ≡ b.quota
  quota_is =
      h.audio.did.quota ∙ ap (λ (e : EngineOf). e.journal.quota) h.made.engine

  module _ (m : MetRings) (met : AreMet t m) where
    -- what passed the rings passed the ends
    pub passed_is : passed t.audio.ends.rings ≡ passed_rings m t.audio.ends.rings.held
    passed_is =
        λ i. record {
          osc = sym met.osc.meets.taken i;
          midi = sym met.midi.meets.taken i;
          saver = sym met.releases.meets.taken i;
          replies = sym met.replies.meets.sent i;
          held = t.audio.ends.rings.held;
          blocks = sym met.blocks.meets.sent i;
        }

    abbrev left_of : LeftOf
    left_of =
        record {
          osc = met.osc.rest.rest;
          midi = met.midi.rest.rest;
          releases = met.releases.rest.rest;
          replies = met.replies.rest.rest;
          blocks = met.blocks.rest.rest;
        }

    osc_few : length m.osc.sent ≤ t.audio.engine.journal.quota
    osc_few =
        let few = met.osc.rest.ring.few in
        let limit = met.osc.meets.limit ∙ h.audio.did.rings.osc.ring.limit
        ∙ h.made.osc_ring.take_limit in
        let quota = quota_is in
        omega arith

    midi_few : length m.midi.sent ≤ t.audio.engine.journal.quota
    midi_few =
        let few = met.midi.rest.ring.few in
        let limit = met.midi.meets.limit ∙ h.audio.did.rings.midi.ring.limit
        ∙ h.made.midi_ring.take_limit in
        let quota = quota_is in
        omega arith

    pub may_settle : (told : List Reply) → MaySettle (unsettled_of t told) m
    may_settle told =
        let serve = h.saver.may in
        record {
          rings = left_of;
          left = record {
            osc = met.osc.rest.ring.order;
            midi = met.midi.rest.ring.order;
            releases = met.releases.rest.ring.order;
            replies = met.replies.rest.ring.order;
            blocks = met.blocks.rest.ring.order;
          };
          step = (
            b,
            h.audio.input,
            h.audio.output,
            subst (AreInStep b h.audio.input h.audio.output t.audio.engine) passed_is ran_in_step,
          );
          osc = osc_few;
          midi = midi_few;
          saves = serve.saves;
          come = record {
            place = ap place_of met.blocks.meets.taken ∙ serve.come.place;
          };
          each = ap (λ (l : List ℕ). length l + length (option_to_list t.saver.held))
              met.releases.meets.sent ∙ serve.each;
          outcome = serve.outcome;
        }
