-- The fields of a message, each with its faults at its front.
use Rattle.std.proofs.Common.{◌≡◌, ⊎_elim, ℕ, ◌+◌, ◌-◌, ◌≤◌, ◌<◌, Bool, true, false, cond, ltb, List, [], ◌∷◌, ◌++◌, length, take, drop, replicate, Result, Ok, Err, refl, sym, ap, ◌∙◌, subst, arith, append_assoc, length-append, take-append-drop, if◌then◌else◌, ◌==◌}
use Rattle.std.proofs.lemmas.Bool.{ltb-false, le-ltb}
use Rattle.std.proofs.lemmas.List.{drop_at, length-take, length-replicate, drop-drop}
use Rattle.std.specs.Int.{w32, from_be_bytes, cast_signed}
use Rattle.osc_reader.specs.declared.PacketKind.{PacketKind}
use Rattle.osc_reader.specs.declared.PacketKind.TheVariants as kinds
use Rattle.osc_reader.specs.declared.PacketFault.{PacketFault}
use Rattle.osc_reader.specs.declared.Arg.{Arg}
use Rattle.osc_reader.specs.declared.Arg.TheVariants.{Int, Text as TextOf, Foreign}
use Rattle.osc_reader.specs.Strings.{zeros_behind}
use Rattle.osc_reader.specs.Grammar.{zeros_behind_blob}
use Rattle.osc_reader.specs.Places.{fault_at, ◌>>=◌}
use Rattle.osc_reader.specs.Reading.{begins_with_zeros, begins_with, number_at, string_at, address_at, are_tags, tags_at, int_at, text_at, float_at, content_at, blob_at, arg_at}
use Rattle.osc_reader.proofs.FieldLemmas.{bind_ok, guard_ok, guard_not, zeros_are_seen, zeros_are_there, number_takes, number_again, string_takes, string_again}
use Rattle.packet_laws.proofs.GoodLemmas.{bind_err, Front, Field}

-- a test, and a fault at the front where it fails
pub good_front : {A : Type 0} (b : Bool) (x : A) (kind : PacketKind) (end : ℕ) (left : List ℕ)
    (f : PacketFault) → (if b then Ok x else Err (fault_at kind end left)) ≡ Err f →
    f.at ≡ end - length left
good_front true x kind end left f is = absurd (cc)
good_front false x kind end left f is =
    let same : fault_at kind end left ≡ f = cc in ap (λ (g : PacketFault). g.at) (sym same)

pub bad_front : {A : Type 0} (b : Bool) (next : Result A PacketFault) (kind : PacketKind) (end : ℕ)
    (left : List ℕ) (f : PacketFault) → (next ≡ Err f → f.at ≡ end - length left) →
    (if b then Err (fault_at kind end left) else next) ≡ Err f → f.at ≡ end - length left
bad_front true next kind end left f other is =
    let same : fault_at kind end left ≡ f = cc in ap (λ (g : PacketFault). g.at) (sym same)
bad_front false next kind end left f other is = other is

pub same_err : {A : Type 0} (g f : PacketFault) →
    (let r : Result A PacketFault = Err g in r) ≡ Err f → g ≡ f
same_err g f is = cc

module _ (end : ℕ) where
  pub number_field : Field end (number_at end)
  number_field =
      record {
        fault = λ bytes f is. bad_front (ltb (length bytes) 4)
            (Ok (from_be_bytes w32 (take 4 bytes), drop 4 bytes)) kinds.Short end bytes f
            (λ none. absurd (cc)) is;
        parts = λ bytes x is.
            let took = number_takes end bytes x is in
            record {
              front = took.front;
              some = (let size = took.is.size in omega arith);
              whole = took.parts;
              again = λ rest long. number_again end x.0 took.front rest took.is;
            };
      }

  pub string_field : Field end (string_at end)
  string_field =
      record {
        fault = λ bytes f is. good_front _ _ kinds.Text end bytes f is;
        parts = λ bytes x is.
            let took = string_takes end bytes x is in
            record {
              front = took.front;
              some =
                  (let size = ap length took.is.spelled
                  ∙ length-append x.0 (replicate (zeros_behind (length x.0)) 0) in
                  let zeros = length-replicate {A = ℕ} (zeros_behind (length x.0)) 0 in
                  omega arith);
              whole = took.parts;
              again = λ rest long. string_again end x.0 took.front rest took.is;
            };
      }

  -- a field whose value is judged, with a fault at its front
  module _ {X Y : Type 0} (field : List ℕ → Result (X × List ℕ) PacketFault) (good : X → Bool)
      (value : X → Y) (kind : PacketKind) where
    abbrev judged : List ℕ → Result (Y × List ℕ) PacketFault
    judged bytes = field bytes >>= λ x.
        if good x.0 then Ok (value x.0, x.1) else Err (fault_at kind end bytes)

    judged_fault : Field end field → (bytes : List ℕ) (f : PacketFault) → judged bytes ≡ Err f →
        f.at ≡ end - length bytes
    judged_fault is_field bytes f is =
        ⊎_elim (is_field.fault bytes f)
        (λ (h : (x : X × List ℕ) × (field bytes ≡ Ok x)
        × ((if good x.0 then Ok (value x.0, x.1) else Err (fault_at kind end bytes)) ≡ Err f)).
        good_front (good h.0.0) (value h.0.0, h.0.1) kind end bytes f h.2)
        (bind_err (field bytes)
        (λ x. if good x.0 then Ok (value x.0, x.1) else Err (fault_at kind end bytes)) f is)

    judged_again : (bytes : List ℕ) (x : X) (rest : List ℕ) → field bytes ≡ Ok (x, rest) →
        good x ≡ true → judged bytes ≡ Ok (value x, rest)
    judged_again bytes x rest read passes = rw (read, passes) refl

    pub judged_field : Field end field → Field end judged
    judged_field is_field =
        record {
          fault = judged_fault is_field;
          parts = λ bytes y is.
              let read = bind_ok (field bytes)
              (λ x. if good x.0 then Ok (value x.0, x.1) else Err (fault_at kind end bytes)) y is in
              let x = read.0 in
              let tested = guard_ok (good x.0) _ (value x.0, x.1) y read.2 in
              let front = is_field.parts bytes x read.1 in
              let left : x.1 ≡ y.1 = ap (λ (z : Y × List ℕ). z.1) tested.1 in
              record {
                front = front.front;
                some = front.some;
                whole = front.whole ∙ ap (λ rest. front.front ++ rest) left;
                again = λ rest long.
                    judged_again (front.front ++ rest) x.0 rest
                    (front.again rest (long ∙ ap length (sym left))) tested.0
                    ∙ ap (λ (z : Y × List ℕ). Ok (z.0, rest)) tested.1;
              };
        }

  -- the same where no byte is left at first
  pub some_field : {Y : Type 0} (read other : List ℕ → Result (Y × List ℕ) PacketFault) →
      ((f : PacketFault) → read [] ≡ Err f → f.at ≡ end) → ((y : Y × List ℕ) → read [] ≡ Ok y → ⊥) →
      ((byte : ℕ) (bytes : List ℕ) → read (byte ∷ bytes) ≡ other (byte ∷ bytes)) →
      Field end other → Field end read
  some_field {Y = Y} read other none never same field =
      record { fault = fault; parts = parts }
    where
      fault : (bytes : List ℕ) (f : PacketFault) → read bytes ≡ Err f → f.at ≡ end - length bytes
      fault [] f is = let here = none f is in omega arith
      fault (byte ∷ bytes) f is = field.fault (byte ∷ bytes) f (sym (same byte bytes) ∙ is)

      same_front : (front rest : List ℕ) → 0 < length front →
          read (front ++ rest) ≡ other (front ++ rest)
      same_front [] rest some = absurd (omega arith)
      same_front (byte ∷ front) rest some = same byte (front ++ rest)

      parts : (bytes : List ℕ) (y : Y × List ℕ) → read bytes ≡ Ok y → Front end read y bytes
      parts [] y is = absurd (never y is)
      parts (byte ∷ bytes) y is =
          let front = field.parts (byte ∷ bytes) y (sym (same byte bytes) ∙ is) in
          record {
            front = front.front;
            some = front.some;
            whole = front.whole;
            again = λ rest long.
                same_front front.front rest front.some ∙ front.again rest long;
          }

  pub address_field : Field end (address_at end)
  unfolding address_at
  address_field =
      judged_field (string_at end) (begins_with 47) (λ text. text) kinds.Text string_field

  pub tags_field : Field end (tags_at end)
  unfolding tags_at
  tags_field =
      some_field (tags_at end)
      (judged (string_at end) are_tags (λ text. drop 1 text) kinds.Tags)
      (λ f is. ap (λ (g : PacketFault). g.at)
      (sym (same_err (fault_at kinds.Tags end []) f is)) ∙ omega arith)
      (λ y is. absurd (cc)) (λ byte bytes. refl)
      (judged_field (string_at end) are_tags (λ text. drop 1 text) kinds.Tags string_field)

  -- the argument of each tag
  int_field : Field end (int_at end)
  unfolding int_at
  int_field = judged_field (number_at end) (λ n. true) (λ n. Int (cast_signed w32 n)) kinds.Short
      number_field

  float_field : Field end (float_at end)
  unfolding float_at
  float_field = judged_field (number_at end) (λ n. true) (λ n. Foreign) kinds.Short number_field

  text_field : Field end (text_at end)
  unfolding text_at
  text_field =
      some_field (text_at end)
      (judged (string_at end) (λ text. true) (λ text. TextOf text) kinds.Text)
      (λ f is. ap (λ (g : PacketFault). g.at)
      (sym (same_err (fault_at kinds.Short end []) f is)) ∙ omega arith)
      (λ y is. absurd (cc)) (λ byte bytes. refl)
      (judged_field (string_at end) (λ text. true) (λ text. TextOf text) kinds.Text string_field)

  -- a blob: its faults stand at its size
  content_front : (bytes : List ℕ) (size : ℕ) (behind : List ℕ) (f : PacketFault) →
      content_at end bytes size behind ≡ Err f → f.at ≡ end - length bytes
  content_front bytes size behind f is =
      let zeros = zeros_behind_blob size in
      bad_front (ltb (length behind) (size + zeros)) _ kinds.Short end bytes f
      (good_front (begins_with_zeros zeros (drop size behind))
      (Foreign, drop (size + zeros) behind) kinds.Text end bytes f) is

  -- a blob's content and its zeros
  record Content (size : ℕ) (behind rest : List ℕ) : Type 0 where
    pub content : List ℕ
    pub long : length content ≡ size
    pub whole : behind ≡ content ++ (replicate (zeros_behind_blob size) 0 ++ rest)

  content_is : (bytes : List ℕ) (size : ℕ) (behind : List ℕ) (x : Arg × List ℕ) →
      content_at end bytes size behind ≡ Ok x → Content size behind x.1 × (x.0 ≡ Foreign)
  content_is bytes size behind x is =
      let zeros = zeros_behind_blob size in
      let left = drop (size + zeros) behind in
      let there = guard_not (ltb (length behind) (size + zeros)) _ x
      (cond (begins_with_zeros zeros (drop size behind)) (Ok (Foreign, left))
      (Err (fault_at kinds.Text end bytes))) is in
      let padded = guard_ok (begins_with_zeros zeros (drop size behind)) _ (Foreign, left) x
      there.1 in
      let long : size + zeros ≤ length behind = ltb-false _ _ there.0 in
      let same : left ≡ x.1 = ap (λ (y : Arg × List ℕ). y.1) padded.1 in (
        record {
          content = take size behind;
          long = omega (arith, length-take size behind);
          whole = sym (take-append-drop size behind)
              ∙ ap (λ (b : List ℕ). take size behind ++ b)
              (zeros_are_there zeros (drop size behind) padded.0
              ∙ ap (λ (b : List ℕ). replicate zeros 0 ++ b)
              (drop-drop zeros size behind ∙ same));
        },
        ap (λ (y : Arg × List ℕ). y.0) (sym padded.1),
      )

  content_again : (bytes content rest : List ℕ) →
      let size = length content in
      content_at end bytes size (content ++ (replicate (zeros_behind_blob size) 0 ++ rest))
      ≡ Ok (Foreign, rest)
  content_again bytes content rest =
      let size = length content in
      let zeros = zeros_behind_blob size in
      let pad : List ℕ = replicate zeros 0 in
      let behind = content ++ (pad ++ rest) in
      let pad_size : length pad ≡ zeros = length-replicate zeros _ in
      let long : ltb (length behind) (size + zeros) ≡ false =
      le-ltb _ _ (omega (arith, length-append content (pad ++ rest), length-append pad rest)) in
      let after : drop size behind ≡ pad ++ rest = drop_at content (pad ++ rest) size refl in
      let left : drop (size + zeros) behind ≡ rest = sym (drop-drop zeros size behind)
      ∙ ap (drop zeros) after ∙ drop_at pad rest zeros pad_size in
      rw (long, after, zeros_are_seen zeros rest, left) refl

  blob_parts : (bytes : List ℕ) (x : Arg × List ℕ) → blob_at end bytes ≡ Ok x →
      Front end (blob_at end) x bytes
  unfolding blob_at
  blob_parts bytes x is =
      let read = bind_ok (number_at end bytes) (λ n. content_at end bytes n.0 n.1) x is in
      let size : ℕ = read.0.0 in
      let took = number_takes end bytes read.0 read.1 in
      let held = content_is bytes size read.0.1 x read.2 in
      let content = held.0.content in
      let pad : List ℕ = replicate (zeros_behind_blob size) 0 in
      let front = took.front ++ (content ++ pad) in
      let grouped : (rest : List ℕ) → front ++ rest ≡ took.front ++ (content ++ (pad ++ rest)) =
      λ rest. append_assoc took.front (content ++ pad) rest
      ∙ ap (λ (b : List ℕ). took.front ++ b) (append_assoc content pad rest) in
      record {
        front = front;
        some =
            (let size = took.is.size in let both = length-append took.front (content ++ pad) in
            omega arith);
        whole = took.parts ∙ ap (λ (b : List ℕ). took.front ++ b) held.0.whole ∙ sym (grouped x.1);
        again = λ rest long.
            ap (λ (r : Result (ℕ × List ℕ) PacketFault).
            r >>= λ n. content_at end (front ++ rest) n.0 n.1)
            (ap (number_at end) (grouped rest)
            ∙ number_again end size took.front (content ++ (pad ++ rest)) took.is)
            ∙ subst (λ n. content_at end (front ++ rest) n
            (content ++ (replicate (zeros_behind_blob n) 0 ++ rest)) ≡ Ok (Foreign, rest))
            held.0.long (content_again (front ++ rest) content rest)
            ∙ ap (λ (a : Arg). Ok (a, rest)) (sym held.1);
      }

  blob_fault : (bytes : List ℕ) (f : PacketFault) → blob_at end bytes ≡ Err f →
      f.at ≡ end - length bytes
  unfolding blob_at
  blob_fault bytes f is =
      ⊎_elim (number_field.fault bytes f)
      (λ (h : (n : ℕ × List ℕ) × (number_at end bytes ≡ Ok n)
      × (content_at end bytes n.0 n.1 ≡ Err f)). content_front bytes h.0.0 h.0.1 f h.2)
      (bind_err (number_at end bytes) (λ n. content_at end bytes n.0 n.1) f is)

  blob_field : Field end (blob_at end)
  blob_field = record { fault = blob_fault; parts = blob_parts }

  -- an argument under a tag
  either_field : {X : Type 0} (b : Bool) (one other : List ℕ → Result (X × List ℕ) PacketFault) →
      Field end one → Field end other → Field end (λ bytes. if b then one bytes else other bytes)
  either_field true one other f g = f
  either_field false one other f g = g

  pub arg_field : (tag : ℕ) → Field end (arg_at tag end)
  arg_field tag =
      either_field (tag == 105) _ _ int_field (either_field (tag == 115) _ _ text_field
      (either_field (tag == 102) _ _ float_field blob_field))
