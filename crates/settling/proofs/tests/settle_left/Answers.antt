use Rattle.std.proofs.Common.{◌≡◌, [], length, None, refl, sym, ap, ◌∙◌, subst, arith}
use Rattle.engine_steps.specs.Engines.{EngineOf, Beginning, first_engine}
use Rattle.live_steps.specs.Passed.{Passed, none_passed}
use Rattle.live_steps.specs.InStep.{AreInStep}
use Rattle.live_rings.specs.declared.rings.Rings.{Rings}
use Rattle.live_rings.specs.declared.meeting.MetRings.{MetRings}
use Rattle.live_rings.specs.Meeting.{HaveMet}
use Rattle.loop_saver.specs.Savers.{SaverOf}
use Rattle.loop_saver.specs.Keeping.{HasCome}
use Rattle.settling.specs.Settled.{passed_rings}
use Rattle.settling.proofs.tests.settle_left.Goals as goal

-- nothing passed rings of which nothing was taken
none_in : (r : Rings) (m : MetRings) → HaveMet r m → r.osc.taker.taken ≡ [] →
    r.midi.taker.taken ≡ [] → r.saver.taker.taken ≡ [] → r.replies.putter.sent ≡ [] →
    r.blocks.putter.sent ≡ [] → none_passed ≡ passed_rings m None
none_in r m met osc midi saver replies blocks =
    λ i. record {
      osc = sym (met.osc.meets.taken ∙ osc) i;
      midi = sym (met.midi.meets.taken ∙ midi) i;
      saver = sym (met.saver.meets.taken ∙ saver) i;
      replies = sym (met.replies.meets.sent ∙ replies) i;
      held = None;
      blocks = sym (met.blocks.meets.sent ∙ blocks) i;
    }

pub settle-requires : goal.settle-requires
settle-requires g c =
    let r : Rings = c.args.rings in
    let m : MetRings = c.meet_rings-met.result in
    let met : HaveMet r m = c.meet_rings-met.ensures in
    let e : EngineOf = c.args.engine.now in
    let b : Beginning = c.requires.begins.0 in
    let is : e ≡ first_engine b = c.requires.begins.3 in
    let quota : e.journal.quota ≡ 512 =
    ap (λ (x : EngineOf). x.journal.quota) is ∙ c.requires.begins.2 in
    let none = none_in r m met c.requires.osc.0 c.requires.midi.0 c.requires.saver.0
    c.requires.replies c.requires.blocks.1 in
    let osc_few = met.osc.rest.ring.few in
    let osc_limit : m.osc.limit ≡ 512 = met.osc.meets.limit ∙ c.requires.osc.1 in
    let midi_few = met.midi.rest.ring.few in
    let midi_limit : m.midi.limit ≡ 512 = met.midi.meets.limit ∙ c.requires.midi.1 in
    record {
      may = record {
        rings = record {
          osc = met.osc.rest.rest;
          midi = met.midi.rest.rest;
          releases = met.saver.rest.rest;
          replies = met.replies.rest.rest;
          blocks = met.blocks.rest.rest;
        };
        left = record {
          osc = met.osc.rest.ring.order;
          midi = met.midi.rest.ring.order;
          releases = met.saver.rest.ring.order;
          replies = met.replies.rest.ring.order;
          blocks = met.blocks.rest.ring.order;
        };
        step = (
          b,
          [],
          [],
          subst (λ (p : Passed). AreInStep b [] [] e p) none
              (subst (λ (x : EngineOf). AreInStep b [] [] x none_passed) (sym is)
              (c.engine_and_rings_begin_in_step.ensures b c.requires.begins.1)),
        );
        osc = omega arith;
        midi = omega arith;
        saves = 0;
        come = subst (λ s. HasCome s m.blocks.taken 0)
            (sym (ap (λ (x : SaverOf). x.saving) c.new-saver.ensures))
            (subst (λ l. HasCome None l 0) (sym (met.blocks.meets.taken ∙ c.requires.blocks.0))
            (record { place = refl }));
        each = (let none_sent = ap length (met.saver.meets.sent ∙ c.requires.saver.1) in
            omega arith);
        outcome = λ o is. absurd (Prim.cc);
      };
    }
