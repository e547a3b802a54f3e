-- Bytes that are heard, one after another.
use Rattle.std.proofs.Common.{◌≡◌, ◌<◌, ℕ, ◌+◌, List, [], ◌∷◌, ◌++◌, length, take, get_or, refl, sym, ap, ◌∙◌, subst, append_assoc, append-nil}
use Rattle.std.proofs.Math.Seq.{take-add, drop-cons}
use Rattle.midi_bindings.specs.declared.binding.Binding.{Binding}
use Rattle.midi_reader.specs.Feeding.{HasBeenFed}
use Rattle.senders.specs.declared.decision.Decision.{Decision}
use Rattle.senders.specs.Tallies.{TallyOf}
use Rattle.senders.specs.Hearing.{Hears}
use Rattle.senders.specs.Senders.{MidiSenderOf, StaysMidiSender, byte_inputs, bytes_inputs}
use Rattle.senders.proofs.HearingLemmas.{hears_joined, hears_as}
use Rattle.midi_serving.specs.Serving.{HearsBytes}

hears_none : (capacity : ℕ) (t : TallyOf) → Hears capacity [] t t []
hears_none capacity t =
    record { heard = []; inputs_are = refl; decided_is = refl; tally_is = refl; fulls = tt }

stays_joined : (a b c : MidiSenderOf) → StaysMidiSender a b → StaysMidiSender b c →
    StaysMidiSender a c
stays_joined a b c x y =
    record {
      unsent = y.unsent ∙ x.unsent;
      bindings = y.bindings ∙ x.bindings;
      ring = record {
        name = y.ring.name ∙ x.ring.name;
        kind = y.ring.kind ∙ x.ring.kind;
        capacity = y.ring.capacity ∙ x.ring.capacity;
        limit = y.ring.limit ∙ x.ring.limit;
        bound = y.ring.bound ∙ x.ring.bound;
      };
    }

stays : (a : MidiSenderOf) → StaysMidiSender a a
stays a =
    record {
      unsent = refl;
      bindings = refl;
      ring = record { name = refl; kind = refl; capacity = refl; limit = refl; bound = refl };
    }

bytes_inputs-append : (bs : List Binding) (fed xs ys : List ℕ) →
    bytes_inputs bs fed (xs ++ ys) ≡ bytes_inputs bs fed xs ++ bytes_inputs bs (fed ++ xs) ys
bytes_inputs-append bs fed [] ys = ap (λ f. bytes_inputs bs f ys) (sym (append-nil fed))
bytes_inputs-append bs fed (x ∷ xs) ys =
    ap (λ l. byte_inputs bs fed x ++ l) (bytes_inputs-append bs (fed ++ x ∷ []) xs ys)
    ∙ ap (λ f. byte_inputs bs fed x ++ (bytes_inputs bs (fed ++ x ∷ []) xs ++ bytes_inputs bs f ys))
    (append_assoc fed (x ∷ []) xs)
    ∙ sym (append_assoc (byte_inputs bs fed x) (bytes_inputs bs (fed ++ x ∷ []) xs)
    (bytes_inputs bs (fed ++ (x ∷ xs)) ys))

-- no byte is heard
pub heard_none : (s : MidiSenderOf) → HearsBytes [] s s
heard_none s =
    record {
      stays = stays s;
      fed = λ before has. subst (HasBeenFed s.reader) (sym (append-nil before)) has;
      heard = λ before has. ([], hears_none s.ring.capacity s.account.tally);
    }

-- bytes are heard behind others
pub heard_joined : (xs ys : List ℕ) (a b c : MidiSenderOf) → HearsBytes xs a b →
    HearsBytes ys b c → HearsBytes (xs ++ ys) a c
heard_joined xs ys a b c x y =
    record {
      stays = stays_joined a b c x.stays y.stays;
      fed = λ before has. subst (HasBeenFed c.reader) (append_assoc before xs ys)
          (y.fed (before ++ xs) (x.fed before has));
      heard = λ before has.
          (let first = x.heard before has in
          let next = y.heard (before ++ xs) (x.fed before has) in (
            first.0 ++ next.0,
            hears_as a.ring.capacity _ _ a.account.tally c.account.tally (first.0 ++ next.0)
                (bytes_inputs-append a.bindings before xs ys)
                (hears_joined a.ring.capacity (bytes_inputs a.bindings before xs)
                (bytes_inputs a.bindings (before ++ xs) ys) a.account.tally b.account.tally
                c.account.tally first.0 next.0 first.1
                (subst (λ k. Hears k (bytes_inputs a.bindings (before ++ xs) ys) b.account.tally
                c.account.tally next.0) x.stays.ring.capacity
                (subst (λ k. Hears b.ring.capacity (bytes_inputs k (before ++ xs) ys)
                b.account.tally
                c.account.tally next.0) x.stays.bindings next.1))),
          ));
    }

-- one byte is heard
pub heard_one : (byte : ℕ) (a b : MidiSenderOf) (d : List Decision) → StaysMidiSender a b →
    ((fed : List ℕ) → HasBeenFed a.reader fed → HasBeenFed b.reader (fed ++ byte ∷ [])) →
    ((fed : List ℕ) → HasBeenFed a.reader fed →
    Hears a.ring.capacity (byte_inputs a.bindings fed byte) a.account.tally b.account.tally d) →
    HearsBytes (byte ∷ []) a b
heard_one byte a b d stays fed heard =
    record {
      stays = stays;
      fed = fed;
      heard = λ before has. (
        d,
        hears_as a.ring.capacity _ _ a.account.tally b.account.tally d
            (append-nil (byte_inputs a.bindings before byte)) (heard before has),
      );
    }

-- one more of the list
pub take_more : (xs : List ℕ) (i d : ℕ) → i < length xs →
    take (i + 1) xs ≡ take i xs ++ get_or xs i d ∷ []
take_more xs i d inside =
    take-add i 1 xs ∙ ap (λ l. take i xs ++ take 1 l) (drop-cons xs i d inside)
