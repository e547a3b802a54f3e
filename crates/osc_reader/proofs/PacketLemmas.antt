-- Packets that are read are in the grammar, and packets of the grammar are read.
use Rattle.std.proofs.Common.{◌≡◌, ◌≢◌, ℕ, zero, suc, ◌-◌, ◌%◌, ◌≤◌, ◌<◌, true, false, cond, ltb, List, [], ◌∷◌, ◌++◌, length, take, drop, Result, Ok, Err, refl, sym, ap, ◌∙◌, append_assoc, arith, inl, inr}
use Rattle.std.specs.Prelude.{IfOk}
use Rattle.std.proofs.lemmas.Slice.Eq.{bytes_eq-Decides}
use Rattle.std.proofs.lemmas.Bool.{ltb-false, le-ltb}
use Rattle.std.proofs.lemmas.Bool.Decides.{nat_tests}
use Rattle.std.proofs.lemmas.List.{take_at, drop_at, take-append-drop, length-append, length-take}
use Rattle.std.specs.List.{AllByRecursion, flat_map}
use Rattle.osc_reader.specs.declared.fault.PacketKind.TheVariants as kinds
use Rattle.osc_reader.specs.declared.fault.PacketFault.{PacketFault}
use Rattle.osc_reader.specs.declared.message.Message.{Message}
use Rattle.osc_reader.specs.Strings.{IsString}
use Rattle.osc_reader.specs.Grammar.{Element, element_bytes, element_messages, IsElement, bundle_head, IsBundle, IsSingle, Says, IsPacket, max_depth, max_packet, BeginsWith}
use Rattle.osc_reader.specs.Places.{fault_at, ◌>>=◌, Gives}
use Rattle.osc_reader.specs.Reading.{is_bundle, is_element_size, element_at, elements_behind, bundle_at, single_at, part_at, is_packet_size, packet_at}
use Rattle.osc_reader.proofs.FieldLemmas.{bind_ok, guard_not, guard_yes, ok_is, number_again}
use Rattle.osc_reader.proofs.BundleLemmas.{Reader, element_takes, elements_next, elements_end, no_elements, with_first, some_bytes, bundle-elements}
use Rattle.osc_reader.proofs.MessageLemmas.{single_takes, single_again}

-- a relation of packets and what they say
abbrev Relation : Type 1
Relation = List ℕ → List Message → Type 0

-- what is read is so, and what is so is read
abbrev Takes : Relation → Reader → Type 0
Takes Is read = (end : ℕ) (bytes : List ℕ) (messages : List Message) →
    read end bytes ≡ Ok messages → Is bytes messages

abbrev Again : Relation → Reader → Type 0
Again Is read = (end : ℕ) (bytes : List ℕ) (messages : List Message) → Is bytes messages →
    read end bytes ≡ Ok messages

-- the elements of a bundle
record TakesElements (Is : Relation) (bytes : List ℕ) (messages : List Message) : Type 0 where
  elements : List Element
  each : AllByRecursion (IsElement Is) elements
  says : messages ≡ flat_map element_messages elements
  spelled : bytes ≡ flat_map element_bytes elements

-- the first element of some bytes, where all are read
first_element : (read : Reader) (end : ℕ) (bytes : List ℕ) (messages : List Message) → bytes ≢ [] →
    elements_behind read end 0 bytes ≡ Ok messages → (x : List ℕ × List ℕ)
    × (element_at end bytes ≡ Ok x)
first_element read end bytes messages some same =
    elim (element_at end bytes) as (λ r. element_at end bytes ≡ r → (x : List ℕ × List ℕ)
    × (r ≡ Ok x)) [
      | Ok x ↦ λ is. (x, refl)
      | Err fault ↦ λ is. let e = elements_end read end bytes fault some is in absurd (cc)
    ] refl

elements_take : (Is : Relation) (read : Reader) (sound : Takes Is read) (end n : ℕ) (bytes : List ℕ)
    (messages : List Message) → length bytes ≤ n → elements_behind read end 0 bytes ≡ Ok messages →
    TakesElements Is bytes messages
elements_take Is read sound end n [] messages within same =
    record {
      elements = [];
      each = tt;
      says =
          sym (ok_is [] messages (sym (no_elements read end) ∙ same));
      spelled = refl;
    }
elements_take Is read sound end zero (byte ∷ bytes) messages within same = absurd (omega arith)
elements_take Is read sound end (suc n) (byte ∷ bytes) messages within same =
    let all : List ℕ = byte ∷ bytes in
    let some : all ≢ [] = some_bytes all (omega arith) in
    let first = first_element read end all messages some same in
    let part : List ℕ = first.0.0 in
    let rest : List ℕ = first.0.1 in
    let took = element_takes end all first.0 first.1 in
    let parted : (read (end - length rest) part >>= λ one.
    with_first one (elements_behind read end 0 rest)) ≡ Ok messages =
    sym (elements_next read end all part rest some first.1) ∙ same in
    let one = bind_ok (read (end - length rest) part)
    (λ one. with_first one (elements_behind read end 0 rest)) messages parted in
    let others = bind_ok (elements_behind read end 0 rest) (λ more. Ok (one.0 ++ more)) messages
    one.2 in
    let less : length rest ≤ n =
    omega (
      arith,
      within,
      ap length took.parts,
      length-append took.size (part ++ rest),
      length-append part rest,
      took.sized.size,
    ) in
    let more = elements_take Is read sound end n rest others.0 less others.1 in
    let e : Element = record { size = took.size; packet = part; messages = one.0 } in
    let is : IsElement Is e =
    record {
      sized = took.sized;
      whole = took.whole;
      some = took.some;
      packet =
          sound (end - length rest) part one.0 one.1;
    } in
    record {
      elements = e ∷ more.elements;
      each = (is, more.each);
      says = sym (ok_is (one.0 ++ others.0) messages others.2)
          ∙ ap (λ (m : List Message). one.0 ++ m) more.says;
      spelled = took.parts ∙ ap (λ (b : List ℕ). took.size ++ (part ++ b)) more.spelled
          ∙ sym (append_assoc took.size part (flat_map element_bytes more.elements));
    }

-- an element is read, whatever follows it
good_again : (size : ℕ) → size % 4 ≡ 0 → 0 < size → is_element_size size ≡ true
good_again size whole some = grind (arith, nat_tests)

element_again : (Is : Relation) (end : ℕ) (e : Element) (rest : List ℕ) → IsElement Is e →
    element_at end (e.size ++ (e.packet ++ rest)) ≡ Ok (e.packet, rest)
unfolding element_at
element_again Is end e rest is =
    let long : ltb (length (e.packet ++ rest)) (length e.packet) ≡ false =
    le-ltb _ _ (omega (arith, length-append e.packet rest)) in
    rw (
      number_again end (length e.packet) e.size (e.packet ++ rest) is.sized,
      good_again (length e.packet) is.whole is.some,
      long,
      take_at e.packet rest (length e.packet)
          refl,
      drop_at e.packet rest (length e.packet) refl,
    ) refl

elements_again : (Is : Relation) (read : Reader) (complete : Again Is read) (end : ℕ)
    (elements : List Element) → AllByRecursion (IsElement Is) elements
    → elements_behind read end 0 (flat_map element_bytes elements) ≡ Ok
    (flat_map element_messages elements)
elements_again Is read complete end [] each = no_elements read end
elements_again Is read complete end (e ∷ elements) each =
    let rest : List ℕ = flat_map element_bytes elements in
    let all : List ℕ = e.size ++ (e.packet ++ rest) in
    let some : all ≢ [] =
    some_bytes all (omega
    (arith, length-append e.size (e.packet ++ rest), each.0.sized.size)) in
    let grouped : flat_map element_bytes (e ∷ elements) ≡ all = append_assoc e.size e.packet rest in
    ap (elements_behind read end 0) grouped
    ∙ elements_next read end all e.packet rest some (element_again Is end e rest each.0)
    ∙ rw (
      complete (end - length rest) e.packet e.messages each.0.packet,
      elements_again Is read complete end elements each.1,
    ) refl

-- a bundle behind its head
bundle_takes : (Is : Relation) (read : Reader) (sound : Takes Is read) (end : ℕ) (bytes : List ℕ)
    (messages : List Message)
    → is_bundle bytes ≡ true → bundle_at read end (drop 8 bytes) ≡ Ok messages →
    IsBundle Is bytes messages
unfolding bundle_at
bundle_takes Is read sound end bytes messages headed same =
    let behind : List ℕ = drop 8 bytes in
    let head : bundle_head ≡ take 8 bytes =
    (bytes_eq-Decides bundle_head (take 8 bytes)).0 headed in
    let there = guard_not (ltb (length behind) 8) (fault_at kinds.Short end behind) messages
    (elements_behind read end 0 (drop 8 behind)) same in
    let long : 8 ≤ length behind = ltb-false _ _ there.0 in
    let took = elements_take Is read sound end (length (drop 8 behind)) (drop 8 behind) messages
    (omega arith) there.1 in
    record {
      tag = take 8 behind;
      elements = took.elements;
      tag_size = omega (arith, length-take 8 behind);
      each = took.each;
      says = took.says;
      spelled = sym (take-append-drop 8 bytes) ∙ ap (λ (b : List ℕ). b ++ behind)
          (sym head) ∙ ap (λ (b : List ℕ). bundle_head ++ b)
          (sym (take-append-drop 8 behind) ∙ ap (λ (b : List ℕ). take 8 behind ++ b) took.spelled);
    }

bundle_again : (Is : Relation) (read : Reader) (complete : Again Is read) (end : ℕ) (bytes : List ℕ)
    (messages : List Message)
    → IsBundle Is bytes messages → (is_bundle bytes ≡ true)
    × (bundle_at read end (drop 8 bytes) ≡ Ok messages)
bundle_again Is read complete end bytes messages is =
    let elements : List ℕ = flat_map element_bytes is.elements in
    let behind : List ℕ = is.tag ++ elements in
    let head : take 8 bytes ≡ bundle_head =
    ap (take 8) is.spelled ∙ take_at bundle_head behind 8 refl in
    let after : drop 8 bytes ≡ behind =
    ap (drop 8) is.spelled ∙ drop_at bundle_head behind 8 refl in
    let long : 8 ≤ length behind = omega (arith, length-append is.tag elements, is.tag_size) in
    let read_all : bundle_at read end behind ≡ Ok (flat_map element_messages is.elements) =
    bundle-elements read end behind long
    ∙ ap (elements_behind read end 0) (drop_at is.tag elements 8 is.tag_size)
    ∙ elements_again Is read complete end is.elements is.each in (
      (bytes_eq-Decides bundle_head (take 8 bytes)).1 (sym head),
      ap (bundle_at read end) after
          ∙ read_all ∙ ap (λ (m : List Message). Ok m) (sym is.says),
    )

-- a message is no bundle
not_a_bundle : (text front rest : List ℕ) → IsString text front → BeginsWith 47 text →
    is_bundle (front ++ rest) ≡ false
not_a_bundle [] front rest is begun = absurd begun
not_a_bundle (first ∷ text) front rest is begun = rw (is.spelled, begun) refl

single_is_no_bundle : (bytes : List ℕ) (messages : List Message) → IsSingle bytes messages →
    is_bundle bytes ≡ false
single_is_no_bundle bytes messages is = ap is_bundle is.is.spelled
    ∙ not_a_bundle is.message.address is.is.address _ is.is.addressed is.is.begins

-- parts
part_takes : (depth : ℕ) → Takes (Says depth) (part_at depth)
unfolding part_at
part_takes zero end bytes messages same =
    let single = guard_not (is_bundle bytes) _ messages (single_at end bytes) same in
    single_takes end bytes messages single.1
part_takes (suc depth) end bytes messages same =
    elim (is_bundle bytes) as (λ b. is_bundle bytes ≡ b →
    cond b (bundle_at (part_at depth) end (drop 8 bytes)) (single_at end bytes) ≡ Ok messages →
    Says (suc depth) bytes messages) [
      | true ↦ λ headed read.
          inr (bundle_takes (Says depth) (part_at depth) (part_takes depth) end bytes
          messages headed
          read)
      | false ↦ λ single read. inl (single_takes end bytes messages read)
    ] refl same

part_again : (depth : ℕ) → Again (Says depth) (part_at depth)
unfolding part_at
part_again zero end bytes messages is =
    rw (single_is_no_bundle bytes messages is) (single_again end bytes messages is)
part_again (suc depth) end bytes messages (inl is) =
    rw (single_is_no_bundle bytes messages is) (single_again end bytes messages is)
part_again (suc depth) end bytes messages (inr is) =
    let read = bundle_again (Says depth) (part_at depth) (part_again depth) end bytes messages is in
    rw (read.0) (read.1)

-- a whole packet
size_is_good : (size : ℕ) → is_packet_size size ≡ true → (4 ≤ size) × (size ≤ max_packet)
    × (size % 4 ≡ 0)
size_is_good size good = grind (arith, nat_tests)

good_size : (size : ℕ) → 4 ≤ size → size ≤ max_packet → size % 4 ≡ 0 → is_packet_size size ≡ true
good_size size least greatest whole = grind (arith, nat_tests)

pub packet_takes : (bytes : List ℕ) (messages : List Message) → packet_at bytes ≡ Ok messages →
    IsPacket bytes messages
unfolding packet_at
packet_takes bytes messages same =
    let judged = guard_yes (is_packet_size (length bytes)) _ messages
    (part_at max_depth (length bytes) bytes) same in
    let good = size_is_good (length bytes) judged.0 in
    record {
      least = good.0;
      greatest = good.1;
      whole = good.2;
      says =
          part_takes max_depth (length bytes) bytes messages judged.1;
    }

pub packet_again : (bytes : List ℕ) (messages : List Message) → IsPacket bytes messages →
    packet_at bytes ≡ Ok messages
unfolding packet_at
packet_again bytes messages is = rw (good_size (length bytes) is.least is.greatest is.whole)
    (part_again max_depth (length bytes) bytes messages is.says)

-- what a function gave is found
pub packet_found : (bytes : List ℕ) (result : Result (List Message) PacketFault) →
    Gives (λ messages. messages) result (packet_at bytes) →
    IfOk result (λ messages. IsPacket bytes messages)
packet_found bytes (Ok messages) given = packet_takes bytes messages given
packet_found bytes (Err fault) given = tt
