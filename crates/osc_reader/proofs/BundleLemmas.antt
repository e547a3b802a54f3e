-- Parts and elements, one step at a time.
use Rattle.std.proofs.Common.{◌≡◌, ◌≢◌, ℕ, zero, suc, ◌+◌, ◌-◌, ◌%◌, ◌≤◌, ◌<◌, true, false, cond, ltb, List, [], ◌∷◌, ◌++◌, length, take, drop, Result, Ok, Err, refl, sym, ap, subst, ◌∙◌, append_assoc, arith, inl, inr}
use Rattle.std.proofs.lemmas.Bool.{ltb-false, le-ltb, lt-ltb}
use Rattle.std.proofs.lemmas.List.{append-nil, length-append, take-append-drop, length-take, drop_at}
use Rattle.std.proofs.Math.Seq.{drop-nil}
use Rattle.std.proofs.lemmas.Bool.Decides.{nat_tests}
use Rattle.osc_reader.specs.declared.fault.PacketKind.TheVariants as kinds
use Rattle.osc_reader.specs.declared.fault.PacketFault.{PacketFault}
use Rattle.osc_reader.specs.declared.message.Message.{Message}
use Rattle.osc_reader.specs.Grammar.{IsNumber}
use Rattle.osc_reader.specs.Places.{fault_at, Fails, ◌>>=◌}
use Rattle.osc_reader.specs.Reading.{is_bundle, is_element_size, number_at, part_of_size, element_at, elements_behind, bundle_at, single_at, part_at}
use Rattle.osc_reader.specs.Adding.{with_front}
use Rattle.osc_reader.proofs.FieldLemmas.{bind_ok, guard_not, guard_yes, ok_is, number_takes}

-- what reads a part, by the offset of its end
abbrev pub Reader : Type 0
Reader = ℕ → List ℕ → Result (List Message) PacketFault

-- an element is its size and its part, and the rest is left
pub record TakesElement (bytes part rest : List ℕ) : Type 0 where
  pub size : List ℕ
  pub sized : IsNumber (length part) size
  pub parts : bytes ≡ size ++ (part ++ rest)
  pub whole : length part % 4 ≡ 0
  pub some : 0 < length part

-- an element's size that is judged good is so
good_size : (size : ℕ) → is_element_size size ≡ true → (size % 4 ≡ 0) × (0 < size)
good_size size good = grind (arith, nat_tests)

pub element_takes : (end : ℕ) (bytes : List ℕ) (x : List ℕ × List ℕ) → element_at end bytes ≡ Ok x →
    TakesElement bytes x.0 x.1
unfolding element_at
element_takes end bytes x same =
    let number = bind_ok (number_at end bytes) (λ size. part_of_size end bytes size.0 size.1) x
    same in
    let size : ℕ = number.0.0 in
    let behind : List ℕ = number.0.1 in
    let read = number_takes end bytes number.0 number.1 in
    let judged = guard_yes (is_element_size size) _ x
    (cond (ltb (length behind) size) (Err (fault_at kinds.Short end bytes))
    (Ok (take size behind, drop size behind))) number.2 in
    let there = guard_not (ltb (length behind) size) _ x (Ok (take size behind, drop size behind))
    judged.1 in
    let long : size ≤ length behind = ltb-false _ _ there.0 in
    let part_size : length (take size behind) ≡ size = omega (arith, length-take size behind) in
    let good = good_size size judged.0 in
    subst (λ (y : List ℕ × List ℕ). TakesElement bytes y.0 y.1)
    (ok_is (take size behind, drop size behind) x there.1)
    (record {
      size = read.front;
      sized = record { size = read.is.size; value = read.is.value ∙ sym part_size };
      parts = read.parts
          ∙ ap (λ (b : List ℕ). read.front ++ b) (sym (take-append-drop size behind));
      whole = rw part_size good.0;
      some = rw part_size good.1;
    })

-- what is left behind an element
pub element_leaves : (bytes part rest : List ℕ) → TakesElement bytes part rest →
    rest ≡ drop (4 + length part) bytes
element_leaves bytes part rest took =
    let front : List ℕ = took.size ++ part in
    let size : length front ≡ 4 + length part =
    omega (arith, length-append took.size part, took.sized.size) in
    let grouped : bytes ≡ front ++ rest = took.parts ∙ sym (append_assoc took.size part rest) in
    sym (ap (drop (4 + length part)) grouped ∙ drop_at front rest (4 + length part) size)

-- bytes that belong to the element before are passed over
pub elements_skip : (read : Reader) (end passed : ℕ) (bytes : List ℕ) →
    elements_behind read end passed bytes ≡ elements_behind read end 0 (drop passed bytes)
unfolding elements_behind
elements_skip read end passed [] = rw (drop-nil {A = ℕ} passed) refl
elements_skip read end zero (byte ∷ bytes) = refl
elements_skip read end (suc passed) (byte ∷ bytes) = elements_skip read end passed bytes

-- an element is read, and then the others
abbrev pub with_first : List Message → Result (List Message) PacketFault →
    Result (List Message) PacketFault
with_first first others = others >>= λ messages. Ok (first ++ messages)

pub elements_next : (read : Reader) (end : ℕ) (bytes part rest : List ℕ) → bytes ≢ [] →
    element_at end bytes ≡ Ok (part, rest)
    → elements_behind read end 0 bytes ≡ (read (end - length rest) part >>= λ first.
    with_first first (elements_behind read end 0 rest))
unfolding elements_behind
elements_next read end [] part rest some element = absurd (some refl)
elements_next read end (byte ∷ bytes) part rest some element =
    let leaves : rest ≡ drop (4 + length part) (byte ∷ bytes) = element_leaves (byte ∷ bytes) part
    rest (element_takes end (byte ∷ bytes) (part, rest) element) in
    let more : 4 + length part ≡ suc (3 + length part) = omega arith in
    let behind : elements_behind read end (3 + length part) bytes ≡ elements_behind read end 0
    rest =
    elements_skip read end (3 + length part) bytes ∙ ap (elements_behind read end 0)
    (sym (leaves ∙ ap (λ (n : ℕ). drop n (byte ∷ bytes)) more)) in
    rw (element, behind) refl

-- the fault of an element is that of the elements
pub elements_end : (read : Reader) (end : ℕ) (bytes : List ℕ) (fault : PacketFault) → bytes ≢ [] →
    element_at end bytes ≡ Err fault → elements_behind read end 0 bytes ≡ Err fault
unfolding elements_behind
elements_end read end [] fault some element = absurd (some refl)
elements_end read end (byte ∷ bytes) fault some element = rw element refl

pub no_elements : (read : Reader) (end : ℕ) → elements_behind read end 0 [] ≡ Ok []
unfolding elements_behind
no_elements read end = refl

-- a part that is no bundle
pub part-single : (depth end : ℕ) (bytes : List ℕ) → is_bundle bytes ≡ false →
    part_at depth end bytes ≡ single_at end bytes
unfolding part_at
part-single zero end bytes single = rw single refl
part-single (suc depth) end bytes single = rw single refl

-- a bundle too deep
pub part-deep : (depth end : ℕ) (bytes : List ℕ) → is_bundle bytes ≡ true → depth ≡ 0 →
    part_at depth end bytes ≡ Err (fault_at kinds.Depth end bytes)
unfolding part_at
part-deep zero end bytes bundle deep = rw bundle refl
part-deep (suc depth) end bytes bundle deep = absurd cc

-- a bundle
pub part-bundle : (depth end : ℕ) (bytes : List ℕ) → is_bundle bytes ≡ true → depth ≢ 0 →
    part_at depth end bytes ≡ bundle_at (part_at (depth - 1)) end (drop 8 bytes)
unfolding part_at
part-bundle zero end bytes bundle some = absurd (some refl)
part-bundle (suc depth) end bytes bundle some = let less : suc depth - 1 ≡ depth = omega arith in
    rw (bundle, less) refl

-- a bundle with no time tag
pub bundle-short : (read : Reader) (end : ℕ) (bytes : List ℕ) → length bytes < 8 →
    bundle_at read end bytes ≡ Err (fault_at kinds.Short end bytes)
unfolding bundle_at
bundle-short read end bytes short = rw (lt-ltb (length bytes) 8 short) refl

-- the elements of a bundle
pub bundle-elements : (read : Reader) (end : ℕ) (bytes : List ℕ) → 8 ≤ length bytes →
    bundle_at read end bytes ≡ elements_behind read end 0 (drop 8 bytes)
unfolding bundle_at
bundle-elements read end bytes long = rw (le-ltb (length bytes) 8 long) refl

-- adding, one element after another
joined : (old first : List Message) (others : Result (List Message) PacketFault) →
    with_front old (with_first first others) ≡ with_front (old ++ first) others
joined old first (Ok messages) =
    ap (λ (all : List Message). Ok all) (sym (append_assoc old first messages))
joined old first (Err fault) = refl

goes_on : (old new : List Message) (read others : Result (List Message) PacketFault) →
    with_front old read ≡ Ok new
    → with_front old (read >>= λ first. with_first first others) ≡ with_front new others
goes_on old new (Ok first) others added =
    let same : old ++ first ≡ new = ok_is (old ++ first) new added in
    joined old first others ∙ ap (λ (all : List Message). with_front all others) same
goes_on old new (Err fault) others added = absurd cc

pub adds_on : (read : Reader) (end : ℕ) (bytes part rest : List ℕ) (old new : List Message)
    (total : Result (List Message) PacketFault)
    → bytes ≢ [] → element_at end bytes ≡ Ok (part, rest) →
    with_front old (read (end - length rest) part) ≡ Ok new
    → with_front old (elements_behind read end 0 bytes) ≡ total →
    with_front new (elements_behind read end 0 rest) ≡ total
adds_on read end bytes part rest old new total some element added so_far =
    let others : Result (List Message) PacketFault = elements_behind read end 0 rest in
    let step : with_front old (read (end - length rest) part >>= λ first. with_first first others)
    ≡ with_front new others = goes_on old new (read (end - length rest) part) others added in
    sym step ∙ sym (ap (with_front old) (elements_next read end bytes part rest some element))
    ∙ so_far

-- a fault of an element or of what stands in it ends it all
stops : (old : List Message) (fault : PacketFault) (others : Result (List Message) PacketFault)
    (total : Result (List Message) PacketFault) → others ≡ Err fault →
    with_front old others ≡ total → total ≡ Err fault
stops old fault others total same so_far = rw same at (sym so_far)

pub adds_end : (read : Reader) (end : ℕ) (bytes part rest : List ℕ) (old : List Message)
    (fault : PacketFault) (total : Result (List Message) PacketFault)
    → bytes ≢ [] → element_at end bytes ≡ Ok (part, rest) →
    Fails fault (read (end - length rest) part)
    → with_front old (elements_behind read end 0 bytes) ≡ total → Fails fault total
adds_end read end bytes part rest old fault total some element (inl memory) so_far = inl memory
adds_end read end bytes part rest old fault total some element (inr faulty) so_far =
    let whole : elements_behind read end 0 bytes ≡ Err fault =
    elements_next read end bytes part rest some element ∙ rw faulty refl in
    inr (stops old fault (elements_behind read end 0 bytes) total whole so_far)

pub adds_end_at_size : (read : Reader) (end : ℕ) (bytes : List ℕ) (old : List Message)
    (fault : PacketFault) (total : Result (List Message) PacketFault)
    → bytes ≢ [] → Fails fault (element_at end bytes) →
    with_front old (elements_behind read end 0 bytes) ≡ total → Fails fault total
adds_end_at_size read end bytes old fault total some (inl memory) so_far = inl memory
adds_end_at_size read end bytes old fault total some (inr faulty) so_far =
    inr (stops old fault (elements_behind read end 0 bytes) total
    (elements_end read end bytes fault some faulty) so_far)

-- nothing is left
pub added : (read : Reader) (end : ℕ) (bytes : List ℕ) (old : List Message)
    (total : Result (List Message) PacketFault)
    → bytes ≡ [] → with_front old (elements_behind read end 0 bytes) ≡ total → total ≡ Ok old
added read end bytes old total none so_far =
    let all : elements_behind read end 0 bytes ≡ Ok [] =
    ap (elements_behind read end 0) none ∙ no_elements read end in
    sym so_far ∙ ap (with_front old) all
    ∙ ap (λ (messages : List Message). Ok messages) (append-nil old)

-- the total with nothing in front of it
pub from_nothing : (old : List Message) (fault : PacketFault)
    (read : Result (List Message) PacketFault) → Fails fault (with_front old read) →
    Fails fault read
from_nothing old fault (Ok messages) (inl memory) = inl memory
from_nothing old fault (Ok messages) (inr faulty) = absurd cc
from_nothing old fault (Err other) (inl memory) = inl memory
from_nothing old fault (Err other) (inr faulty) = inr faulty

pub some_bytes : (bytes : List ℕ) → 0 < length bytes → bytes ≢ []
some_bytes [] some none = omega arith
some_bytes (byte ∷ bytes) some none = cc
