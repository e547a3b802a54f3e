use Rattle.std.proofs.Common.{◌∙◌, refl, sym, subst, take, List, [], ◌∷◌, inl, inr, arith}
use Rattle.std.proofs.Math.Bool.{or-true}
use Rattle.senders.specs.declared.decision.Decision.{Decision}
use Rattle.senders.specs.Senders.{OscSenderOf}
use Rattle.live_ports.specs.Links.{packet}
use Rattle.reply_sending.specs.Posting.{PostedPongs}
use Rattle.osc_serving.specs.Turns.{Receives}
use Rattle.osc_serving.proofs.WentLemmas.{went_packet, went_received}
use Rattle.osc_serving.proofs.receiving.receive.Goals as goal

pub returns-in-Ok : goal.returns-in-Ok
returns-in-Ok g c =
    let l' = g.L.Link.seen c.recv.new.self in
    let l'' = g.L.Link.seen c.send_pongs.new.link in
    let did = c.in-Got.ensures.did in
    let p = packet c.in-Got.from (take c.in-Got.count c.recv.new.buf) in
    let posted = subst (λ (ds : List Decision). PostedPongs ds l' l'' c.packet.new.self
    c.send_pongs.new.sender) c.as_slice.ensures c.send_pongs.ensures in
    record {
      packets = p ∷ [];
      went = went_packet (g.L.Link.seen c.args.link.now) l' l'' c.args.sender.now c.packet.new.self
          c.send_pongs.new.sender p c.in-Ok.decisions did.gives did.out did.sends did.receives.later
          did.idles.later
          c.in-Ok.ensures.stays c.in-Ok.ensures.heard posted;
      few = omega arith;
      has_received = inl (omega arith);
      receives = posted.receiving.receives ∙ did.receives.stayed refl;
    }

pub returns-in-Err : goal.returns-in-Err
returns-in-Err g c =
    let l = g.L.Link.seen c.args.link.now in
    let l' = g.L.Link.seen c.recv.new.self in
    let did = c.in-Got.ensures.did in
    let p = packet c.in-Got.from (take c.in-Got.count c.recv.new.buf) in
    let s = c.args.sender.now in (
      p,
      subst (λ (s' : OscSenderOf). Receives [] (p ∷ []) l l' s s') (sym c.in-Err.ensures.unchanged)
          (went_received (p ∷ []) l l' s did.gives did.out did.sends did.receives.later
          did.idles.later),
      did.receives.stayed refl,
    )

pub returns-in-Idle : goal.returns-in-Idle
returns-in-Idle g c =
    let did = c.in-Idle.ensures.did in
    record {
      packets = [];
      went = went_received [] (g.L.Link.seen c.args.link.now) (g.L.Link.seen c.recv.new.self)
          c.args.sender.now did.gives did.out did.sends did.receives.later did.idles.later;
      few = omega arith;
      has_received = inr (inr (inl (did.idles.rose refl)));
      receives = did.receives.stayed refl;
    }

pub returns-in-End : goal.returns-in-End
returns-in-End g c =
    let l = g.L.Link.seen c.args.link.now in
    let did = c.in-End.ensures.did in (
      went_received [] l (g.L.Link.seen c.recv.new.self) c.args.sender.now did.gives did.out
          did.sends did.receives.later did.idles.later,
      did.receives.stayed refl,
      did.ended ∙ or-true l.ended,
    )

pub returns-in-Failed : goal.returns-in-Failed
returns-in-Failed g c =
    let did = c.in-Failed.ensures.did in (
      went_received [] (g.L.Link.seen c.args.link.now) (g.L.Link.seen c.recv.new.self)
          c.args.sender.now did.gives did.out did.sends did.receives.later did.idles.later,
      did.receives.rose refl,
    )
