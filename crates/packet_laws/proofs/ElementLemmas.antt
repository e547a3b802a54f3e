-- The elements of a bundle have no fault before the first.
use Rattle.std.proofs.Common.{◌≡◌, ◌≢◌, ⊎_elim, ◌⊎◌, inl, inr, ℕ, zero, suc, ◌+◌, ◌-◌, ◌%◌, ◌≤◌, ◌<◌, Bool, true, false, ltb, List, [], ◌∷◌, ◌++◌, length, take, drop, Result, Ok, Err, refl, sym, ap, ◌∙◌, subst, arith, append_assoc, length-append, length-take, length-drop, take-append-drop, if◌then◌else◌, le_refl}
use Rattle.std.proofs.lemmas.Bool.{cases_lt, le-ltb}
use Rattle.std.proofs.lemmas.Bool.Decides.{nat_tests}
use Rattle.std.proofs.lemmas.List.{take_at, drop_at, take-take, take-append-le}
use Rattle.std.proofs.Math.Seq.{take-append_seam}
use Rattle.osc_reader.specs.declared.PacketKind.TheVariants as kinds
use Rattle.osc_reader.specs.declared.PacketFault.{PacketFault}
use Rattle.osc_reader.specs.declared.Message.{Message}
use Rattle.osc_reader.specs.Grammar.{IsNumber}
use Rattle.osc_reader.specs.Places.{fault_at}
use Rattle.osc_reader.specs.Reading.{number_at, is_element_size, part_of_size, element_at, elements_behind, bundle_at}
use Rattle.osc_reader.proofs.FieldLemmas.{number_again}
use Rattle.osc_reader.proofs.BundleLemmas.{Reader, TakesElement, element_takes, elements_next, elements_end, no_elements, with_first, some_bytes, bundle-short, bundle-elements}
use Rattle.packet_laws.proofs.GoodLemmas.{bind_err, cut, Good}
use Rattle.packet_laws.proofs.FieldLemmas.{bad_front, same_err, number_field}

-- an element is read so, whatever follows
good_size : (size : ℕ) → size % 4 ≡ 0 → 0 < size → is_element_size size ≡ true
good_size size whole some = grind (arith, nat_tests)

element_is : (end : ℕ) (size part rest : List ℕ) → IsNumber (length part) size →
    length part % 4 ≡ 0 → 0 < length part →
    element_at end (size ++ (part ++ rest)) ≡ Ok (part, rest)
unfolding element_at
element_is end size part rest sized whole some =
    let long : ltb (length (part ++ rest)) (length part) ≡ false =
    le-ltb _ _ (omega (arith, length-append part rest)) in
    rw (
      number_again end (length part) size (part ++ rest) sized,
      good_size (length part) whole some,
      long,
      take_at part rest (length part) refl,
      drop_at part rest (length part) refl,
    ) refl

-- the part of an element, by whether its size is judged good
abbrev sized_by : ℕ → List ℕ → ℕ → List ℕ → Bool → Result (List ℕ × List ℕ) PacketFault
sized_by end bytes size behind b =
    if b then
    (if ltb (length behind) size then Err (fault_at kinds.Short end bytes) else
    Ok (take size behind, drop size behind)) else Err (fault_at kinds.Size end bytes)

element_front : (end : ℕ) (bytes : List ℕ) (f : PacketFault) → element_at end bytes ≡ Err f →
    f.at ≡ end - length bytes
unfolding element_at
element_front end bytes f is =
    ⊎_elim ((number_field end).fault bytes f)
    (λ (h : (n : ℕ × List ℕ) × (number_at end bytes ≡ Ok n)
    × (part_of_size end bytes n.0 n.1 ≡ Err f)).
    by_size h.0.0 h.0.1 (is_element_size h.0.0) h.2)
    (bind_err (number_at end bytes) (λ n. part_of_size end bytes n.0 n.1) f is)
  where
    by_size : (size : ℕ) (behind : List ℕ) (b : Bool) → sized_by end bytes size behind b ≡ Err f →
        f.at ≡ end - length bytes
    by_size size behind true is =
        bad_front (ltb (length behind) size) (Ok (take size behind, drop size behind)) kinds.Short
        end bytes f (λ none. absurd (cc)) is
    by_size size behind false is =
        let same : fault_at kinds.Size end bytes ≡ f = cc in
        ap (λ (g : PacketFault). g.at) (sym same)

-- lists that begin the same do so in their first parts, of one length
fronts_same : (a b c d : List ℕ) (n : ℕ) → length a ≡ length c →
    take n (a ++ b) ≡ take n (c ++ d) → take n a ≡ take n c
fronts_same a b c d n long same = ⊎_elim past inside (cases_lt (length a) n)
  where
    inside : n ≤ length a → take n a ≡ take n c
    inside within =
        let other : n ≤ length c = omega arith in
        sym (take-append-le n a b within) ∙ same ∙ take-append-le n c d other

    past : length a < n → take n a ≡ take n c
    past far =
        let within : length a ≤ n = omega arith in
        let first : a ≡ c =
        sym (take-append_seam a b) ∙ sym (take-take (length a) n (a ++ b) within)
        ∙ ap (take (length a)) same ∙ take-take (length a) n (c ++ d) within
        ∙ ap (λ k. take k (c ++ d)) long ∙ take-append_seam c d in
        ap (take n) first

-- the elements of a bundle
module _ (read : Reader) (each : (end : ℕ) → Good end (read end)) (end : ℕ) where
  abbrev elements : List ℕ → Result (List Message) PacketFault
  elements bytes = elements_behind read end 0 bytes

  with_first_fault : (first : List Message) (others : Result (List Message) PacketFault)
      (f : PacketFault) → with_first first others ≡ Err f → others ≡ Err f
  with_first_fault first (Ok messages) f is = absurd (cc)
  with_first_fault first (Err g) f is = is

  -- the fault of elements stands in the first or behind it
  record BehindFirst (part rest : List ℕ) (f : PacketFault) : Type 0 where
    pub says : List Message
    pub good : read (end - length rest) part ≡ Ok says
    pub faulty : elements rest ≡ Err f

  abbrev InOrBehind : List ℕ → List ℕ → PacketFault → Type 0
  InOrBehind part rest f = (read (end - length rest) part ≡ Err f) ⊎ BehindFirst part rest f

  in_or_behind : (bytes part rest : List ℕ) (f : PacketFault) → bytes ≢ [] →
      element_at end bytes ≡ Ok (part, rest) → elements bytes ≡ Err f → InOrBehind part rest f
  in_or_behind bytes part rest f some is faulty =
      ⊎_elim inl
      (λ (h : (first : List Message) × (read (end - length rest) part ≡ Ok first)
      × (with_first first (elements rest) ≡ Err f)).
      inr (record {
        says = h.0;
        good = h.1;
        faulty = with_first_fault h.0 (elements rest) f h.2;
      }))
      (bind_err (read (end - length rest) part) (λ first. with_first first (elements rest)) f
      (sym (elements_next read end bytes part rest some is) ∙ faulty))

  -- or at its size
  record Taken (bytes : List ℕ) (f : PacketFault) : Type 0 where
    pub part : List ℕ
    pub rest : List ℕ
    pub took : TakesElement bytes part rest
    pub size : length bytes ≡ 4 + length part + length rest
    pub there : InOrBehind part rest f

  taken : (bytes part rest : List ℕ) (f : PacketFault) → bytes ≢ [] →
      element_at end bytes ≡ Ok (part, rest) → elements bytes ≡ Err f → Taken bytes f
  taken bytes part rest f some is faulty =
      let took = element_takes end bytes (part, rest) is in
      let all = ap length took.parts ∙ length-append took.size (part ++ rest) in
      let both = length-append part rest in
      let sized = took.sized.size in
      record {
        part = part;
        rest = rest;
        took = took;
        size = omega arith;
        there = in_or_behind bytes part rest f some is faulty;
      }

  where_fault : (bytes : List ℕ) (f : PacketFault) → elements bytes ≡ Err f →
      (f.at ≡ end - length bytes) ⊎ Taken bytes f
  where_fault [] f is = absurd (let none = no_elements read end in cc)
  where_fault (byte ∷ bytes) f is =
      by_element (element_at end (byte ∷ bytes)) refl (some_bytes (byte ∷ bytes) (omega arith))
    where
      by_element : (r : Result (List ℕ × List ℕ) PacketFault) →
          element_at end (byte ∷ bytes) ≡ r → (byte ∷ bytes) ≢ [] →
          (f.at ≡ end - length (byte ∷ bytes)) ⊎ Taken (byte ∷ bytes) f
      by_element (Ok x) read_so some = inr (taken (byte ∷ bytes) x.0 x.1 f some read_so is)
      by_element (Err g) read_so some =
          let same = same_err g f
          (sym (elements_end read end (byte ∷ bytes) g some read_so) ∙ is) in
          inl (element_front end (byte ∷ bytes) f (read_so ∙ ap (λ h. Err h) same))

  elements_low : (n : ℕ) (bytes : List ℕ) (f : PacketFault) → length bytes ≤ n →
      elements bytes ≡ Err f → end - length bytes ≤ f.at
  elements_low zero bytes f within is =
      ⊎_elim (λ (h : f.at ≡ end - length bytes). omega arith)
      (λ (t : Taken bytes f). absurd (let size = t.size in let none : ⊥ = omega arith in none))
      (where_fault bytes f is)
  elements_low (suc n) bytes f within is =
      ⊎_elim (λ (h : f.at ≡ end - length bytes). omega arith)
      (λ (t : Taken bytes f).
      let size = t.size in
      ⊎_elim
      (λ (h : read (end - length t.rest) t.part ≡ Err f).
      let low = (each (end - length t.rest)).low t.part f h in
      omega arith)
      (λ (h : BehindFirst t.part t.rest f).
      let low = elements_low n t.rest f (omega arith) h.faulty in
      omega arith)
      t.there)
      (where_fault bytes f is)

  elements_high : (n : ℕ) (bytes : List ℕ) (f : PacketFault) → length bytes ≤ n →
      elements bytes ≡ Err f → f.at ≤ end
  elements_high zero bytes f within is =
      ⊎_elim (λ (h : f.at ≡ end - length bytes). omega arith)
      (λ (t : Taken bytes f). absurd (let size = t.size in let none : ⊥ = omega arith in none))
      (where_fault bytes f is)
  elements_high (suc n) bytes f within is =
      ⊎_elim (λ (h : f.at ≡ end - length bytes). omega arith)
      (λ (t : Taken bytes f).
      let size = t.size in
      ⊎_elim
      (λ (h : read (end - length t.rest) t.part ≡ Err f).
      let high = (each (end - length t.rest)).high t.part f h in
      omega arith)
      (λ (h : BehindFirst t.part t.rest f). elements_high n t.rest f (omega arith) h.faulty)
      t.there)
      (where_fault bytes f is)

  -- other bytes that begin with the first element's size, and go on with as many
  in_first : (bytes others : List ℕ) (p : ℕ) (f other : PacketFault) (t : Taken bytes f) →
      length bytes ≤ end → length others ≡ length bytes → take p others ≡ take p bytes →
      f.at + length bytes ≤ end + p → read (end - length t.rest) t.part ≡ Err f →
      elements others ≡ Err other → f.at ≤ other.at
  in_first bytes others p f other t within long same far faulty is_other =
      let sizes = t.size in
      let sized = t.took.sized.size in
      let low = (each (end - length t.rest)).low t.part f faulty in
      let high = (each (end - length t.rest)).high t.part f faulty in
      let c = cut t.took.size (t.part ++ t.rest) others p (omega arith)
      (long ∙ ap length t.took.parts) (same ∙ ap (take p) t.took.parts) in
      let lp = length t.part in
      let part = take lp c.behind in
      let rest = drop lp c.behind in
      let all = c.long ∙ length-append t.part t.rest in
      let part_long : length part ≡ lp = omega (arith, length-take lp c.behind) in
      let rest_long : length rest ≡ length t.rest = omega (arith, length-drop lp c.behind) in
      let parts : c.behind ≡ part ++ rest = sym (take-append-drop lp c.behind) in
      let number : IsNumber (length part) t.took.size =
      subst (λ n. IsNumber n t.took.size) (sym part_long) t.took.sized in
      let whole : length part % 4 ≡ 0 = ap (λ n. n % 4) part_long ∙ t.took.whole in
      let some : 0 < length part = (let had = t.took.some in omega arith) in
      let is_element : element_at end others ≡ Ok (part, rest) =
      ap (element_at end) (c.whole ∙ ap (λ (b : List ℕ). t.took.size ++ b) parts)
      ∙ element_is end t.took.size part rest number whole some in
      ⊎_elim
      (λ (h : read (end - length rest) part ≡ Err other).
      (each (end - length t.rest)).first t.part part (p - length t.took.size) f other (omega arith)
      part_long
      (fronts_same part rest t.part t.rest (p - length t.took.size) part_long
      (ap (take (p - length t.took.size)) (sym parts) ∙ c.same))
      (omega arith) faulty (ap (λ n. read (end - n) part) (sym rest_long) ∙ h))
      (λ (h : BehindFirst part rest other).
      let behind = elements_low (length rest) rest other (le_refl (length rest)) h.faulty in
      omega arith)
      (in_or_behind others part rest other (some_bytes others (omega arith)) is_element is_other)

  behind_first : (bytes others : List ℕ) (p : ℕ) (f other : PacketFault) (t : Taken bytes f) →
      length bytes ≤ end → length others ≡ length bytes → take p others ≡ take p bytes →
      f.at + length bytes ≤ end + p → BehindFirst t.part t.rest f → elements others ≡ Err other →
      ((behind : List ℕ) (n : ℕ) → length behind ≡ length t.rest → take n behind ≡ take n t.rest →
      f.at + length t.rest ≤ end + n → elements behind ≡ Err other → f.at ≤ other.at) →
      f.at ≤ other.at
  behind_first bytes others p f other t within long same far b is_other goes_on =
      let sizes = t.size in
      let sized = t.took.sized.size in
      let front = t.took.size ++ t.part in
      let front_long = length-append t.took.size t.part in
      let low = elements_low (length t.rest) t.rest f (le_refl (length t.rest)) b.faulty in
      let parts : bytes ≡ front ++ t.rest =
      t.took.parts ∙ sym (append_assoc t.took.size t.part t.rest) in
      let c = cut front t.rest others p (omega arith) (long ∙ ap length parts)
      (same ∙ ap (take p) parts) in
      let is_element : element_at end others ≡ Ok (t.part, c.behind) =
      ap (element_at end) (c.whole ∙ append_assoc t.took.size t.part c.behind)
      ∙ element_is end t.took.size t.part c.behind t.took.sized t.took.whole t.took.some in
      ⊎_elim
      (λ (h : read (end - length c.behind) t.part ≡ Err other).
      absurd (let read_so = sym (ap (λ n. read (end - n) t.part) c.long ∙ b.good) ∙ h in cc))
      (λ (h : BehindFirst t.part c.behind other).
      goes_on c.behind (p - length front) c.long c.same (omega arith) h.faulty)
      (in_or_behind others t.part c.behind other (some_bytes others (omega arith)) is_element
      is_other)

  elements_first : (n : ℕ) (bytes others : List ℕ) (p : ℕ) (f other : PacketFault) →
      length bytes ≤ n → length bytes ≤ end → length others ≡ length bytes →
      take p others ≡ take p bytes → f.at + length bytes ≤ end + p → elements bytes ≡ Err f →
      elements others ≡ Err other → f.at ≤ other.at
  elements_first zero bytes others p f other most within long same far is is_other =
      let low = elements_low (length others) others other (le_refl (length others)) is_other in
      ⊎_elim (λ (h : f.at ≡ end - length bytes). omega arith)
      (λ (t : Taken bytes f). absurd (let size = t.size in let none : ⊥ = omega arith in none))
      (where_fault bytes f is)
  elements_first (suc n) bytes others p f other most within long same far is is_other =
      let low = elements_low (length others) others other (le_refl (length others)) is_other in
      ⊎_elim (λ (h : f.at ≡ end - length bytes). omega arith)
      (λ (t : Taken bytes f).
      let size = t.size in
      ⊎_elim
      (λ (h : read (end - length t.rest) t.part ≡ Err f).
      in_first bytes others p f other t within long same far h is_other)
      (λ (h : BehindFirst t.part t.rest f).
      behind_first bytes others p f other t within long same far h is_other
      (λ behind m behind_long agree near later.
      elements_first n t.rest behind m f other (omega arith) (omega arith) behind_long agree near
      h.faulty later))
      t.there)
      (where_fault bytes f is)

  -- what stands behind the head of a bundle
  bundle_low : (bytes : List ℕ) (f : PacketFault) → bundle_at read end bytes ≡ Err f →
      end - length bytes ≤ f.at
  bundle_low bytes f is = ⊎_elim short long (cases_lt (length bytes) 8)
    where
      short : length bytes < 8 → end - length bytes ≤ f.at
      short h =
          let same = same_err _ f (sym (bundle-short read end bytes h) ∙ is) in
          let place = ap (λ (g : PacketFault). g.at) same in
          omega arith

      long : 8 ≤ length bytes → end - length bytes ≤ f.at
      long h =
          let low = elements_low (length (drop 8 bytes)) (drop 8 bytes) f (le_refl _)
          (sym (bundle-elements read end bytes h) ∙ is) in
          let size = length-drop 8 bytes in
          omega arith

  bundle_high : (bytes : List ℕ) (f : PacketFault) → bundle_at read end bytes ≡ Err f →
      f.at ≤ end
  bundle_high bytes f is = ⊎_elim short long (cases_lt (length bytes) 8)
    where
      short : length bytes < 8 → f.at ≤ end
      short h =
          let same = same_err _ f (sym (bundle-short read end bytes h) ∙ is) in
          let place = ap (λ (g : PacketFault). g.at) same in
          omega arith

      long : 8 ≤ length bytes → f.at ≤ end
      long h = elements_high (length (drop 8 bytes)) (drop 8 bytes) f (le_refl _)
          (sym (bundle-elements read end bytes h) ∙ is)

  bundle_first : (bytes others : List ℕ) (p : ℕ) (f other : PacketFault) → length bytes ≤ end →
      length others ≡ length bytes → take p others ≡ take p bytes →
      f.at + length bytes ≤ end + p → bundle_at read end bytes ≡ Err f →
      bundle_at read end others ≡ Err other → f.at ≤ other.at
  bundle_first bytes others p f other within long same far is is_other =
      ⊎_elim short whole (cases_lt (length bytes) 8)
    where
      short : length bytes < 8 → f.at ≤ other.at
      short h =
          let is_f = same_err _ f (sym (bundle-short read end bytes h) ∙ is) in
          let place = ap (λ (g : PacketFault). g.at) is_f in
          let low = bundle_low others other is_other in
          omega arith

      whole : 8 ≤ length bytes → f.at ≤ other.at
      whole h =
          let faulty = sym (bundle-elements read end bytes h) ∙ is in
          let size = length-drop 8 bytes in
          let low = elements_low (length (drop 8 bytes)) (drop 8 bytes) f (le_refl _) faulty in
          let tag = take 8 bytes in
          let tag_size : length tag ≡ 8 = omega (arith, length-take 8 bytes) in
          let parts = sym (take-append-drop 8 bytes) in
          let c = cut tag (drop 8 bytes) others p (omega arith) (long ∙ ap length parts)
          (same ∙ ap (take p) parts) in
          let behind : drop 8 others ≡ c.behind =
          ap (drop 8) c.whole ∙ drop_at tag c.behind 8 tag_size in
          let later = sym (ap elements behind)
          ∙ sym (bundle-elements read end others (omega arith)) ∙ is_other in
          elements_first (length (drop 8 bytes)) (drop 8 bytes) c.behind (p - length tag) f other
          (le_refl _) (omega arith) c.long c.same (omega arith) faulty later

  pub bundle_good : Good end (bundle_at read end)
  bundle_good = record { low = bundle_low; high = bundle_high; first = bundle_first }
