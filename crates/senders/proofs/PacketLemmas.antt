-- What a packet is heard as.
use Rattle.std.proofs.Common.{◌≡◌, ◌≢◌, ◌≤◌, ◌<◌, ℕ, ◌+◌, Bool, true, false, List, [], ◌∷◌, ◌++◌, length, map, take, drop, get_or, Result, Ok, Err, inl, inr, refl, sym, ap, ap₂, ◌∙◌, subst, arith}
use Rattle.std.proofs.Math.Seq.{take-add, drop-cons}
use Rattle.std.proofs.lemmas.List.{map-append}
use Rattle.sl_base.specs.declared.addr.Addr.{Addr}
use Rattle.osc_reader.specs.declared.fault.PacketFault.{PacketFault}
use Rattle.osc_reader.specs.declared.fault.PacketKind.TheVariants as kinds
use Rattle.osc_reader.specs.declared.message.Message.{Message}
use Rattle.osc_reader.specs.Reading.{packet_at}
use Rattle.osc_reader.specs.Places.{Fails}
use Rattle.senders.specs.declared.decision.Decision.{Decision}
use Rattle.senders.specs.Tallies.{TallyOf}
use Rattle.senders.specs.Hearing.{Input, faulty, message_input, inputs_in, packet_inputs, Hears}
use Rattle.senders.specs.Senders.{OscSenderOf, StaysSender}
use Rattle.senders.proofs.HearingLemmas.{hears_joined, hears_as}

pub packet_found : (loops : ℕ) (from : Addr) (bytes : List ℕ) (messages : List Message) →
    packet_at bytes ≡ Ok messages →
    packet_inputs loops from bytes ≡ map (message_input loops from) messages
packet_found loops from bytes messages e = ap (inputs_in loops from) e

-- one more message is heard
pub hears_next : (capacity loops : ℕ) (from : Addr) (messages : List Message) (place : ℕ)
    (message : Message) (t t' t'' : TallyOf) (ds ds' : List Decision) (d : Decision) →
    take (place + 1) messages ≡ take place messages ++ message ∷ [] →
    Hears capacity (map (message_input loops from) (take place messages)) t t' ds →
    Hears capacity (message_input loops from message ∷ []) t' t'' (d ∷ []) →
    ds' ≡ ds ++ d ∷ [] →
    Hears capacity (map (message_input loops from) (take (place + 1) messages)) t t'' ds'
hears_next capacity loops from messages place message t t' t'' ds ds' d next so_far one pushed =
    subst (λ (es : List Decision). Hears capacity (map (message_input loops from) (take (place + 1)
    messages)) t t'' es) (sym pushed)
    (hears_as capacity _ _ t t'' (ds ++ d ∷ [])
    (ap (map (message_input loops from)) next
    ∙ map-append (message_input loops from) (take place messages) (message ∷ []))
    (hears_joined capacity _ _ t t' t'' ds (d ∷ []) so_far one))

pub take_next : {X : Type 0} (xs : List X) (i : ℕ) (x : X) → i < length xs →
    x ≡ get_or xs i x → take (i + 1) xs ≡ take i xs ++ x ∷ []
take_next xs i x inside is =
    take-add i 1 xs
    ∙ ap (λ l. take i xs ++ take 1 l) (drop-cons xs i x inside)
    ∙ ap (λ y. take i xs ++ y ∷ []) (sym is)

pub stays_joined : (a b c : OscSenderOf) → StaysSender a b → StaysSender b c → StaysSender a c
stays_joined a b c x y =
    record {
      unsent = y.unsent ∙ x.unsent;
      loops = y.loops ∙ x.loops;
      ring = record {
        name = y.ring.name ∙ x.ring.name;
        kind = y.ring.kind ∙ x.ring.kind;
        capacity = y.ring.capacity ∙ x.ring.capacity;
        limit = y.ring.limit ∙ x.ring.limit;
        bound = y.ring.bound ∙ x.ring.bound;
      };
    }
