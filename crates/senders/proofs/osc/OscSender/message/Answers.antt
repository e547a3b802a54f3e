use Rattle.std.proofs.Common.{length, ◌≡◌, ◌≤◌, ◌∙◌, sym, ap, subst, refl, false, [], ◌∷◌, ◌++◌, List, Ok, Err, arith}
use Rattle.osc_paths.specs.declared.request.Request.{Request}
use Rattle.osc_paths.specs.Requests.{IsRequest}
use Rattle.osc_paths.specs.declared.request.Request.TheVariants.{Play, Ping as PingOf}
use Rattle.senders.specs.declared.decision.Decision.{Decision}
use Rattle.senders.specs.declared.decision.Decision.TheVariants as decisions
use Rattle.senders.specs.Hearing.{Input, plays, pings, wrong, heard_as, message_input, Hears}
use Rattle.senders.specs.Senders.{OscSenderOf}
use Rattle.senders.proofs.HearingLemmas.{no_full, hears_one, hears_as, hears_good_one}
use Rattle.senders.proofs.RequestLemmas.{message_is, good_request}
use Rattle.senders.proofs.osc.OscSender.message.Goals as goal

pub invariant_of-self : goal.invariant_of-self
invariant_of-self g c =
    record {
      step = c.play.ensures.step;
      good = hears_good_one 0 c.self.inside.loops c.self.inside.ring.capacity c.in-Ok-Play.command
          c.in-Ok-Play.answer c.self.inside.account.tally c.play.new.tally (c.play.result ∷ [])
          c.play.ensures.heard
          (good_request c.self.inside.loops c.args.from c.args.message.now c.in-Ok-Play.command
          c.in-Ok-Play.answer (subst (IsRequest c.self.inside.loops c.args.from
          c.args.message.now) c.in-Ok-Play.field-0-is c.in-Ok-Play.ensures.found))
          c.self.invariant.good;
    }

pub returns-in-Ok-Play-clause-heard : goal.returns-in-Ok-Play-clause-heard
returns-in-Ok-Play-clause-heard g c =
    let same = message_is c.self.inside.loops c.args.from c.args.message.now c.command_of.result
    (plays c.in-Ok-Play.command c.in-Ok-Play.answer) c.command_of.ensures.value (ap heard_as
    c.in-Ok-Play.is ∙ ap (λ (r : Request). heard_as (Ok r)) c.in-Ok-Play.field-0-is) in
    subst (λ (s : OscSenderOf). Hears s.ring.capacity (message_input s.loops c.args.from
    c.args.message.now ∷ []) s.account.tally c.play.new.tally (c.play.result ∷ [])) c.self.view_is
    (hears_as _ _ _ _ _ _ same c.play.ensures.heard)

pub returns-in-Ok-Ping-clause-heard : goal.returns-in-Ok-Ping-clause-heard
returns-in-Ok-Ping-clause-heard g c =
    let same = message_is c.self.inside.loops c.args.from c.args.message.now c.command_of.result
    (pings c.in-Ok-Ping.to) c.command_of.ensures.value (ap heard_as c.in-Ok-Ping.is ∙ ap (λ (r :
    Request). heard_as (Ok r)) c.in-Ok-Ping.field-0-is) in
    let t = c.self.inside.account.tally in
    subst (λ (s : OscSenderOf). Hears s.ring.capacity (message_input s.loops c.args.from
    c.args.message.now ∷ []) s.account.tally s.account.tally (decisions.Ping c.in-Ok-Ping.to ∷
    [])) c.self.view_is
    (hears_as c.self.inside.ring.capacity (pings c.in-Ok-Ping.to ∷ []) _ t t (decisions.Ping
    c.in-Ok-Ping.to ∷ []) same
    (hears_one c.self.inside.ring.capacity false (pings c.in-Ok-Ping.to) t t (decisions.Ping
    c.in-Ok-Ping.to) refl refl (no_full c.self.inside.ring.capacity (length
    c.self.inside.account.tally.accepted))))

pub returns-in-Err-clause-heard : goal.returns-in-Err-clause-heard
returns-in-Err-clause-heard g c =
    let same = message_is c.self.inside.loops c.args.from c.args.message.now c.command_of.result
    (wrong c.in-Err.fault) c.command_of.ensures.value (ap heard_as c.in-Err.is) in
    let t = c.self.inside.account.tally in
    subst (λ (s : OscSenderOf). Hears s.ring.capacity (message_input s.loops c.args.from
    c.args.message.now ∷ []) s.account.tally c.refuse_path.new.self (decisions.Path
    c.in-Err.fault ∷ [])) c.self.view_is
    (hears_as c.self.inside.ring.capacity (wrong c.in-Err.fault ∷ []) _ t c.refuse_path.new.self
    (decisions.Path c.in-Err.fault ∷ []) same
    (hears_one c.self.inside.ring.capacity false (wrong c.in-Err.fault) t c.refuse_path.new.self
    (decisions.Path c.in-Err.fault) refl c.refuse_path.ensures (no_full
    c.self.inside.ring.capacity (length c.self.inside.account.tally.accepted))))
