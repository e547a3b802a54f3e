-- Fields that are read are in the grammar, and fields of the grammar are read, whatever follows
-- them.
use Rattle.std.proofs.Common.{◌≡◌, ℕ, suc, ◌+◌, ◌-◌, ◌%◌, ◌≤◌, Bool, true, false, cond, ltb, ◌&&◌, List, [], ◌∷◌, ◌++◌, length, take, drop, replicate, Result, Ok, Err, refl, sym, ap, subst, ◌∙◌, append_assoc, arith}
use Rattle.std.proofs.lemmas.Slice.Eq.{bytes_eq-Decides}
use Rattle.std.proofs.lemmas.Bool.{ltb-false, le-ltb}
use Rattle.std.proofs.lemmas.List.{take_at, drop_at, take-append-drop, length-append, length-take, length-replicate}
use Rattle.std.proofs.lemmas.List.Folds.{length-prefix_len}
use Rattle.std.specs.Int.{w32, from_be_bytes}
use Rattle.std.specs.List.{list_all, prefix_len}
use Rattle.osc_reader.specs.declared.fault.PacketFault.{PacketFault}
use Rattle.osc_reader.specs.Strings.{is_not_zero, has_no_zero, zeros_behind, string_of, IsString}
use Rattle.osc_reader.specs.Grammar.{IsNumber}
use Rattle.osc_reader.specs.Places.{◌>>=◌}
use Rattle.osc_reader.specs.Reading.{begins_with_zeros, number_at, text_of_size, string_at}
use Rattle.osc_reader.proofs.ReadingLemmas.{all-before}

-- the front of the bytes is so, and the rest is left
pub record Takes (Is : List ℕ → Type 0) (bytes rest : List ℕ) : Type 0 where
  pub front : List ℕ
  pub is : Is front
  pub parts : bytes ≡ front ++ rest

-- the value of a step that had no fault
pub bind_ok : {A B : Type 0} (read : Result A PacketFault) (next : A → Result B PacketFault)
    (y : B) → (read >>= next) ≡ Ok y → (x : A) × (read ≡ Ok x) × (next x ≡ Ok y)
bind_ok (Ok x) next y same = (x, refl, same)
bind_ok (Err fault) next y same = absurd cc

-- a test that had to hold
pub guard_ok : {A : Type 0} (b : Bool) (fault : PacketFault) (x y : A) →
    cond b (Ok x) (Err fault) ≡ Ok y → (b ≡ true) × (x ≡ y)
guard_ok true fault x y same = (refl, cc)
guard_ok false fault x y same = absurd cc

-- a test that had to fail
pub guard_not : {A : Type 0} (b : Bool) (fault : PacketFault) (y : A)
    (next : Result A PacketFault) → cond b (Err fault) next ≡ Ok y → (b ≡ false) × (next ≡ Ok y)
guard_not true fault y next same = absurd cc
guard_not false fault y next same = (refl, same)

-- a test that had to hold, before another step
pub guard_yes : {A : Type 0} (b : Bool) (fault : PacketFault) (y : A)
    (next : Result A PacketFault) → cond b next (Err fault) ≡ Ok y → (b ≡ true) × (next ≡ Ok y)
guard_yes true fault y next same = (refl, same)
guard_yes false fault y next same = absurd cc

abbrev done : {A : Type 0} → A → Result A PacketFault
done x = Ok x

pub ok_is : {A : Type 0} (x y : A) → done x ≡ done y → x ≡ y
ok_is x y same = cc

-- zeros at the front are seen, and what is seen is there
pub zeros_are_seen : (count : ℕ) (rest : List ℕ) →
    begins_with_zeros count (replicate count 0 ++ rest) ≡ true
zeros_are_seen count rest =
    let zeros : List ℕ = replicate count 0 in
    let front : take count (zeros ++ rest) ≡ zeros =
    take_at zeros rest count (length-replicate count _) in
    rw front ((bytes_eq-Decides zeros zeros).1 refl)

pub zeros_are_there : (count : ℕ) (bytes : List ℕ) → begins_with_zeros count bytes ≡ true →
    bytes ≡ replicate count 0 ++ drop count bytes
zeros_are_there count bytes seen =
    let zeros : List ℕ = replicate count 0 in
    let front : zeros ≡ take count bytes = (bytes_eq-Decides zeros (take count bytes)).0 seen in
    sym (take-append-drop count bytes) ∙ ap (λ (x : List ℕ). x ++ drop count bytes) (sym front)

-- a number
pub number_takes : (end : ℕ) (bytes : List ℕ) (x : ℕ × List ℕ) → number_at end bytes ≡ Ok x →
    Takes (IsNumber x.0) bytes x.1
number_takes end bytes x same =
    let tested = guard_not (ltb (length bytes) 4) _ x
    (Ok (from_be_bytes w32 (take 4 bytes), drop 4 bytes)) same in
    let long : 4 ≤ length bytes = ltb-false _ _ tested.0 in
    let size : length (take 4 bytes) ≡ 4 = omega (arith, length-take 4 bytes) in
    subst (λ (y : ℕ × List ℕ). Takes (IsNumber y.0) bytes y.1) (ok_is _ x tested.1)
    (record {
      front = take 4 bytes;
      is = record { size = size; value = refl };
      parts =
          sym (take-append-drop 4 bytes);
    })

pub number_again : (end : ℕ) (number : ℕ) (front rest : List ℕ) → IsNumber number front →
    number_at end (front ++ rest) ≡ Ok (number, rest)
number_again end number front rest is =
    let long : ltb (length (front ++ rest)) 4 ≡ false =
    le-ltb _ _ (omega (arith, length-append front rest, is.size)) in
    rw (long, take_at front rest 4 is.size, drop_at front rest 4 is.size, is.value) refl

-- a string
pub string_takes : (end : ℕ) (bytes : List ℕ) (x : List ℕ × List ℕ) → string_at end bytes ≡ Ok x →
    Takes (IsString x.0) bytes x.1
string_takes end bytes x same =
    let size : ℕ = prefix_len is_not_zero bytes in
    let zeros : ℕ = zeros_behind size in
    let behind : List ℕ = drop size bytes in
    let tested = guard_ok (begins_with_zeros zeros behind) _ (take size bytes, drop zeros behind) x
    same in
    let there : behind ≡ replicate zeros 0 ++ drop zeros behind =
    zeros_are_there zeros behind tested.0 in
    let text_size : length (take size bytes) ≡ size = length-prefix_len is_not_zero bytes in
    let whole : bytes ≡ (take size bytes ++ replicate zeros 0) ++ drop zeros behind =
    sym (take-append-drop size bytes) ∙ ap (λ (b : List ℕ). take size bytes ++ b) there
    ∙ sym (append_assoc (take size bytes) (replicate zeros 0) (drop zeros behind)) in
    let spelled : take size bytes ++ replicate zeros 0 ≡ string_of (take size bytes) =
    ap (λ (n : ℕ). take size bytes ++ replicate (zeros_behind n) 0) (sym text_size) in
    subst (λ (y : List ℕ × List ℕ). Takes (IsString y.0) bytes y.1) tested.1
    (record {
      front = take size bytes ++ replicate zeros 0;
      is =
          record { plain = all-before is_not_zero bytes; spelled = spelled };
      parts = whole;
    })

-- a text ends before the first zero
text_ends : (text more : List ℕ) → has_no_zero text ≡ true →
    prefix_len is_not_zero (text ++ (0 ∷ more)) ≡ length text
text_ends [] more plain = refl
text_ends (byte ∷ text) more plain =
    elim (is_not_zero byte) as (λ b. (b && list_all is_not_zero text) ≡ true →
    cond b (1 + prefix_len is_not_zero (text ++ (0 ∷ more))) 0 ≡ suc (length text)) [
      | true ↦ λ rest. rw (text_ends text more rest) (omega arith)
      | false ↦ λ rest. absurd cc
    ] plain

pub string_again : (end : ℕ) (text front rest : List ℕ) → IsString text front →
    string_at end (front ++ rest) ≡ Ok (text, rest)
string_again end text front rest is =
    let zeros : ℕ = zeros_behind (length text) in
    let some : zeros ≡ suc (3 - length text % 4) = omega arith in
    let grouped : front ++ rest ≡ text ++ (replicate zeros 0 ++ rest) =
    ap (λ (f : List ℕ). f ++ rest) is.spelled ∙ append_assoc text (replicate zeros 0) rest in
    let ends : prefix_len is_not_zero (text ++ (replicate zeros 0 ++ rest)) ≡ length text =
    rw some (text_ends text (replicate (3 - length text % 4) 0 ++ rest) is.plain) in
    let read : text_of_size end (front ++ rest) (length text) ≡ Ok (text, rest) =
    rw (
      grouped,
      drop_at text (replicate zeros 0 ++ rest) (length text) refl,
      zeros_are_seen zeros rest,
      take_at text (replicate zeros 0 ++ rest) (length text) refl,
      drop_at (replicate zeros 0) rest zeros (length-replicate zeros _),
    ) refl in
    ap (text_of_size end (front ++ rest)) (ap (prefix_len is_not_zero) grouped ∙ ends) ∙ read
