-- A reading whose faults stand in its part, and none before the first, whatever stands from there
-- on. Such readings go on one behind another.
use Rattle.std.proofs.Common.{◌≡◌, ◌⊎◌, inl, inr, ⊎_elim, ℕ, ◌+◌, ◌-◌, ◌≤◌, ◌<◌, List, ◌++◌, length, take, drop, Result, Ok, Err, refl, sym, ap, ◌∙◌, subst, arith, length-append, take-append-drop}
use Rattle.std.proofs.lemmas.List.{take-take}
use Rattle.std.proofs.Math.Seq.{take-append_seam, drop-append_seam, take-append-add}
use Rattle.osc_reader.specs.declared.PacketFault.{PacketFault}
use Rattle.osc_reader.specs.Places.{◌>>=◌}

-- the fault of two steps is that of the first or of the second
pub bind_err : {A B : Type 0} (read : Result A PacketFault) (next : A → Result B PacketFault)
    (fault : PacketFault) → (read >>= next) ≡ Err fault →
    (read ≡ Err fault) ⊎ ((x : A) × (read ≡ Ok x) × (next x ≡ Err fault))
bind_err (Ok x) next fault is = inr (x, refl, is)
bind_err (Err other) next fault is = inl (let same : other ≡ fault = cc in ap (λ f. Err f) same)

-- bytes that begin with a front and are as long as front and rest
pub record Cut (front rest others : List ℕ) (n : ℕ) : Type 0 where
  pub behind : List ℕ
  pub whole : others ≡ front ++ behind
  pub long : length behind ≡ length rest
  pub same : take n behind ≡ take n rest

rest_same : (front xs ys : List ℕ) (n : ℕ) →
    take (length front + n) (front ++ xs) ≡ take (length front + n) (front ++ ys) →
    take n xs ≡ take n ys
rest_same front xs ys n h =
    let both : front ++ take n xs ≡ front ++ take n ys =
    sym (take-append-add front xs n) ∙ h ∙ take-append-add front ys n in
    sym (drop-append_seam front (take n xs)) ∙ ap (drop (length front)) both
    ∙ drop-append_seam front (take n ys)

pub cut : (front rest others : List ℕ) (p : ℕ) → length front ≤ p →
    length others ≡ length (front ++ rest) → take p others ≡ take p (front ++ rest) →
    Cut front rest others (p - length front)
cut front rest others p far long same =
    let k = length front in
    let front_same : take k others ≡ front =
    sym (take-take k p others far) ∙ ap (take k) same ∙ take-take k p (front ++ rest) far
    ∙ take-append_seam front rest in
    let whole : others ≡ front ++ drop k others =
    sym (take-append-drop k others) ∙ ap (λ xs. xs ++ drop k others) front_same in
    let parts = length-append front rest in
    let left = ap length whole ∙ length-append front (drop k others) in
    let place : p ≡ k + (p - k) = omega arith in
    record {
      behind = drop k others;
      whole = whole;
      long = omega arith;
      same = rest_same front (drop k others) rest (p - k)
          (subst (λ n. take n (front ++ drop k others) ≡ take n (front ++ rest)) place
          (ap (take p) (sym whole) ∙ same));
    }

module _ (end : ℕ) where
  -- the faults of a reading stand at its bytes or behind, up to the part's end, and none before the
  -- first
  pub record Good {B : Type 0} (read : List ℕ → Result B PacketFault) : Type 0 where
    pub low : (bytes : List ℕ) (fault : PacketFault) → read bytes ≡ Err fault →
        end - length bytes ≤ fault.at
    pub high : (bytes : List ℕ) (fault : PacketFault) → read bytes ≡ Err fault → fault.at ≤ end
    pub first : (bytes others : List ℕ) (p : ℕ) (fault other : PacketFault) → length bytes ≤ end →
        length others ≡ length bytes → take p others ≡ take p bytes →
        fault.at + length bytes ≤ end + p → read bytes ≡ Err fault → read others ≡ Err other →
        fault.at ≤ other.at

  -- what a field takes, which is read so whatever follows
  pub record Front {X : Type 0} (field : List ℕ → Result (X × List ℕ) PacketFault)
      (x : X × List ℕ) (bytes : List ℕ) : Type 0 where
    pub front : List ℕ
    pub some : 0 < length front
    pub whole : bytes ≡ front ++ x.1
    pub again : (rest : List ℕ) → length rest ≡ length x.1 → field (front ++ rest) ≡ Ok (x.0, rest)

  -- a field: its fault stands at its front
  pub record Field {X : Type 0} (field : List ℕ → Result (X × List ℕ) PacketFault) : Type 0 where
    pub fault : (bytes : List ℕ) (f : PacketFault) → field bytes ≡ Err f →
        f.at ≡ end - length bytes
    pub parts : (bytes : List ℕ) (x : X × List ℕ) → field bytes ≡ Ok x → Front field x bytes

  -- a reading with faults at its front alone
  pub at_front : {B : Type 0} (read : List ℕ → Result B PacketFault) →
      ((bytes : List ℕ) (fault : PacketFault) → read bytes ≡ Err fault →
      fault.at ≡ end - length bytes) → Good read
  at_front read front =
      record {
        low = λ bytes fault is. let here = front bytes fault is in omega arith;
        high = λ bytes fault is. let here = front bytes fault is in omega arith;
        first = λ bytes others p fault other within long same far is is_other.
            let here = front bytes fault is in
            let there = front others other is_other in
            omega arith;
      }

  -- the same reading in other words
  pub same_good : {B : Type 0} (read other : List ℕ → Result B PacketFault) →
      ((bytes : List ℕ) → read bytes ≡ other bytes) → Good other → Good read
  same_good read other same good =
      record {
        low = λ bytes fault is. good.low bytes fault (sym (same bytes) ∙ is);
        high = λ bytes fault is. good.high bytes fault (sym (same bytes) ∙ is);
        first = λ bytes others p fault later within long agree far is is_later.
            good.first bytes others p fault later within long agree far (sym (same bytes) ∙ is)
            (sym (same others) ∙ is_later);
      }

  -- a field, and what is read behind it
  module _ {X B : Type 0} (field : List ℕ → Result (X × List ℕ) PacketFault)
      (next : X → List ℕ → Result B PacketFault) (is_field : Field field)
      (goes_on : (x : X) → Good (next x)) where
    abbrev then_read : List ℕ → Result B PacketFault
    then_read bytes = field bytes >>= λ x. next x.0 x.1

    then_low : (bytes : List ℕ) (fault : PacketFault) → then_read bytes ≡ Err fault →
        end - length bytes ≤ fault.at
    then_low bytes fault is =
        ⊎_elim
        (λ (h : field bytes ≡ Err fault). let here = is_field.fault bytes fault h in omega arith)
        (λ (h : (x : X × List ℕ) × (field bytes ≡ Ok x) × (next x.0 x.1 ≡ Err fault)).
        let front = is_field.parts bytes h.0 h.1 in
        let size = ap length front.whole ∙ length-append front.front h.0.1 in
        let behind = (goes_on h.0.0).low h.0.1 fault h.2 in
        omega arith)
        (bind_err (field bytes) (λ x. next x.0 x.1) fault is)

    then_high : (bytes : List ℕ) (fault : PacketFault) → then_read bytes ≡ Err fault →
        fault.at ≤ end
    then_high bytes fault is =
        ⊎_elim
        (λ (h : field bytes ≡ Err fault). let here = is_field.fault bytes fault h in omega arith)
        (λ (h : (x : X × List ℕ) × (field bytes ≡ Ok x) × (next x.0 x.1 ≡ Err fault)).
        (goes_on h.0.0).high h.0.1 fault h.2)
        (bind_err (field bytes) (λ x. next x.0 x.1) fault is)

    behind_first : (bytes others : List ℕ) (p : ℕ) (fault other : PacketFault)
        (x : X × List ℕ) → length bytes ≤ end → length others ≡ length bytes →
        take p others ≡ take p bytes → fault.at + length bytes ≤ end + p →
        field bytes ≡ Ok x → next x.0 x.1 ≡ Err fault → then_read others ≡ Err other →
        fault.at ≤ other.at
    behind_first bytes others p fault other x within long same far is faulty is_other =
        let front = is_field.parts bytes x is in
        let k = length front.front in
        let size = ap length front.whole ∙ length-append front.front x.1 in
        let behind = (goes_on x.0).low x.1 fault faulty in
        let c = cut front.front x.1 others p (omega arith) (long ∙ ap length front.whole)
        (same ∙ ap (take p) front.whole) in
        let read : field others ≡ Ok (x.0, c.behind) =
        ap field c.whole ∙ front.again c.behind c.long in
        let later : next x.0 c.behind ≡ Err other =
        sym (ap (λ r. r >>= λ y. next y.0 y.1) read) ∙ is_other in
        (goes_on x.0).first x.1 c.behind (p - k) fault other (omega arith) c.long c.same
        (omega arith) faulty later

    pub then_good : Good then_read
    then_good =
        record {
          low = then_low;
          high = then_high;
          first = λ bytes others p fault other within long same far is is_other.
              ⊎_elim
              (λ (h : field bytes ≡ Err fault).
              let here = is_field.fault bytes fault h in
              let there = then_low others other is_other in
              omega arith)
              (λ (h : (x : X × List ℕ) × (field bytes ≡ Ok x) × (next x.0 x.1 ≡ Err fault)).
              behind_first bytes others p fault other h.0 within long same far h.1 h.2 is_other)
              (bind_err (field bytes) (λ x. next x.0 x.1) fault is);
        }
