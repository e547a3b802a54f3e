-- What a source and a link in memory give, as what they tell.
use Rattle.std.proofs.Common.{arith, min, ℕ, ◌≡◌, ◌+◌, ◌∷◌, ◌++◌, [], Bool, true, false, List, length, take, drop, map, Some, refl, slice_get, sym, subst, ap, ◌∙◌}
use Rattle.std.proofs.lemmas.List.{take-append-drop, drop-drop, take_min}
use Rattle.std.proofs.Math.Seq.{take-append_seam}
use Rattle.sl_base.specs.Counting.{Counts}
use Rattle.sl_base.specs.declared.addr.Addr.{Addr}
use Rattle.live_ports.specs.declared.source.SourceAnswer.TheVariants.{Got}
use Rattle.live_ports.specs.declared.link.LinkAnswer.TheVariants.{Got as GotPacket}
use Rattle.live_ports.specs.Calls.{Tally}
use Rattle.live_ports.specs.Sources.{DidRead}
use Rattle.live_ports.specs.Links.{Packet, packet, cut, DidReceive}
use Rattle.live_ports.specs.MemoryEnds.{source_seen, LinkState, link_seen}

-- a count that no call raised
pub stays_count : (count : ℕ) → Counts count count false
stays_count count =
    record { later = omega arith; rose = λ e. absurd (cc); stayed = λ _. refl }

-- bytes that were copied to the front of a buffer are its first
pub front_of : (copied rest : List ℕ) (n : ℕ) → length copied ≡ n → take n (copied ++ rest) ≡ copied
front_of copied rest n e =
    subst (λ k. take k (copied ++ rest) ≡ copied) e (take-append_seam copied rest)

-- a source that gave the next bytes
pub got_bytes : (bytes : List ℕ) (next n : ℕ) (calls : Tally) (ended : Bool)
    (copied rest : List ℕ) →
    ended ≡ false → length copied ≡ n → copied ≡ take n (drop next bytes) →
    DidRead (source_seen (record { left = drop next bytes; calls = calls; ended = ended }))
    (source_seen (record { left = drop (next + n) bytes; calls = calls; ended = ended }))
    (copied ++ rest) (Got n)
got_bytes bytes next n calls true copied rest e size copy = absurd (cc)
got_bytes bytes next n calls false copied rest e size copy =
    record {
      faults = stays_count calls.faults;
      idles = stays_count calls.idles;
      ended = refl;
      stays = λ e. absurd (cc);
      gives = sym (ap (λ xs. xs ++ drop (next + n) bytes) (front_of copied rest n size ∙ copy)
          ∙ ap (λ xs. take n (drop next bytes) ++ xs) (sym (drop-drop n next bytes))
          ∙ take-append-drop n (drop next bytes));
      ends = tt;
    }

-- a link that gave its first packet, as far as it is received
pub got_packet : (l : LinkState) (p : Packet) (ps : List Packet) (from : Addr) (n : ℕ)
    (bytes copied rest : List ℕ) → l.ended ≡ false → l.left ≡ p ∷ ps → from ≡ p.addr →
    bytes ≡ p.bytes → n ≡ min 8192 (length bytes) → length copied ≡ n → copied ≡ take n bytes →
    DidReceive (link_seen l) (link_seen (record l { left = ps })) (copied ++ rest)
    (GotPacket n from)
got_packet l p ps from n bytes copied rest e left sender all few size copy =
    let received : take n (copied ++ rest) ≡ take 8192 p.bytes =
    front_of copied rest n size ∙ (copy ∙ (ap (λ k. take k bytes) few
    ∙ (take_min 8192 bytes ∙ ap (take 8192) all))) in
    record {
      receives = stays_count l.receives.faults;
      idles = stays_count l.receives.idles;
      ended = rw e refl;
      stays = λ is. absurd (let no : true ≡ false = sym is ∙ e in cc);
      gives = rw left (sym (ap (λ a. packet a (take n (copied ++ rest)) ∷ map cut ps) sender
          ∙ ap (λ xs. packet p.addr xs ∷ map cut ps) received));
      ends = tt;
      out = refl;
      sends = refl;
    }

-- a list with a first item is that and what is behind it
pub first_is : {A : Type 0} (xs : List A) (x : A) → Some x ≡ slice_get xs 0 → xs ≡ x ∷ drop 1 xs
first_is [] x e = absurd (cc)
first_is (y ∷ ys) x e = let same : y ≡ x = cc in ap (λ z. z ∷ ys) same
