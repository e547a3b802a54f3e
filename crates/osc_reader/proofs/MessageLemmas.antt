-- Messages that are read are in the grammar, and messages of the grammar are read.
use Rattle.std.proofs.Common.{◌≡◌, ◌≢◌, ℕ, ◌+◌, ◌≤◌, Bool, true, false, cond, eqb, ltb, ◌&&◌, ◌||◌, List, [], ◌∷◌, ◌++◌, length, map, take, drop, replicate, Result, Ok, Err, refl, sym, ap, subst, ◌∙◌, append_assoc, arith, inl, inr}
use Rattle.std.proofs.lemmas.Bool.{ltb-false, le-ltb, eqb-true}
use Rattle.std.proofs.lemmas.Bool.Decides.{nat_tests}
use Rattle.std.proofs.lemmas.List.{drop_at, take-append-drop, length-append, length-take, length-replicate, append-nil, drop-drop}
use Rattle.std.specs.Int.{w32, from_be_bytes, cast_signed}
use Rattle.std.specs.List.{list_all, AllByRecursion, flat_map}
use Rattle.osc_reader.specs.declared.fault.PacketKind.TheVariants as kinds
use Rattle.osc_reader.specs.declared.fault.PacketFault.{PacketFault}
use Rattle.osc_reader.specs.declared.message.Arg.{Arg}
use Rattle.osc_reader.specs.declared.message.Arg.TheVariants.{Int, Text as TextOf, Foreign}
use Rattle.osc_reader.specs.declared.message.Message.{Message}
use Rattle.osc_reader.specs.Strings.{zeros_behind, string_of, IsString}
use Rattle.osc_reader.specs.Grammar.{IsBlob, zeros_behind_blob, IsArgument, Spelled, IsSpelled, value_of, tag_of, bytes_of, BeginsWith, IsMessage, IsSingle}
use Rattle.osc_reader.specs.Places.{fault_at, ◌>>=◌}
use Rattle.osc_reader.specs.Reading.{begins_with_zeros, begins_with, is_nothing, number_at, string_at, address_at, is_tag, are_tags, tags_at, int_at, text_at, float_at, content_at, blob_at, arg_at, args_at, message_at, single_at}
use Rattle.osc_reader.proofs.FieldLemmas.{Takes, bind_ok, guard_ok, guard_not, ok_is, zeros_are_seen, zeros_are_there, number_takes, number_again, string_takes, string_again}

-- what begins with a byte
begins : (byte : ℕ) (text : List ℕ) → begins_with byte text ≡ true → BeginsWith byte text
begins byte [] seen = absurd cc
begins byte (first ∷ rest) seen = eqb-true _ _ seen

is_begun : (byte : ℕ) (text : List ℕ) → BeginsWith byte text → begins_with byte text ≡ true
is_begun byte [] begun = absurd begun
is_begun byte (first ∷ rest) begun = grind (arith, nat_tests)

-- the address
address_takes : (end : ℕ) (bytes : List ℕ) (x : List ℕ × List ℕ) → address_at end bytes ≡ Ok x →
    Takes (IsString x.0) bytes x.1 × BeginsWith 47 x.0
unfolding address_at
address_takes end bytes x same =
    let text = bind_ok (string_at end bytes)
    (λ text. cond (begins_with 47 text.0) (Ok text) (Err (fault_at kinds.Text end bytes))) x
    same in
    let tested = guard_ok (begins_with 47 text.0.0) _ text.0 x text.2 in
    subst (λ (y : List ℕ × List ℕ). Takes (IsString y.0) bytes y.1 × BeginsWith 47 y.0) tested.1
    (string_takes end bytes text.0 text.1, begins 47 text.0.0 tested.0)

address_again : (end : ℕ) (text front rest : List ℕ) → IsString text front → BeginsWith 47 text →
    address_at end (front ++ rest) ≡ Ok (text, rest)
unfolding address_at
address_again end text front rest is begun =
    rw (string_again end text front rest is, is_begun 47 text begun) refl

-- the tags
tags_parts : (text : List ℕ) → are_tags text ≡ true → (text ≡ 44 ∷ drop 1 text)
    × (list_all is_tag (drop 1 text) ≡ true)
tags_parts [] seen = absurd cc
tags_parts (first ∷ rest) seen =
    elim (eqb first 44) as (λ b. eqb first 44 ≡ b → (b && list_all is_tag rest) ≡ true →
    (first ∷ rest ≡ 44 ∷ rest) × (list_all is_tag rest ≡ true)) [
      | true ↦ λ comma good. (ap (λ (n : ℕ). n ∷ rest) (eqb-true _ _ comma), good)
      | false ↦ λ comma good. absurd cc
    ] refl seen

tags_of_text : (end : ℕ) (bytes : List ℕ) (x : List ℕ × List ℕ) →
    (string_at end bytes >>= λ text. cond (are_tags text.0) (Ok (drop 1 text.0, text.1))
    (Err (fault_at kinds.Tags end bytes))) ≡ Ok x
    → Takes (IsString (44 ∷ x.0)) bytes x.1 × (list_all is_tag x.0 ≡ true)
tags_of_text end bytes x same =
    let text = bind_ok (string_at end bytes)
    (λ text. cond (are_tags text.0) (Ok (drop 1 text.0, text.1))
    (Err (fault_at kinds.Tags end bytes))) x same in
    let tested = guard_ok (are_tags text.0.0) _ (drop 1 text.0.0, text.0.1) x text.2 in
    let parts = tags_parts text.0.0 tested.0 in
    let took : Takes (IsString (44 ∷ drop 1 text.0.0)) bytes text.0.1 =
    subst (λ (t : List ℕ). Takes (IsString t) bytes text.0.1) parts.0
    (string_takes end bytes text.0 text.1) in
    subst (λ (y : List ℕ × List ℕ). Takes (IsString (44 ∷ y.0)) bytes y.1
    × (list_all is_tag y.0 ≡ true)) tested.1 (took, parts.1)

tags_takes : (end : ℕ) (bytes : List ℕ) (x : List ℕ × List ℕ) → tags_at end bytes ≡ Ok x →
    Takes (IsString (44 ∷ x.0)) bytes x.1 × (list_all is_tag x.0 ≡ true)
unfolding tags_at
tags_takes end [] x same = absurd cc
tags_takes end (first ∷ rest) x same = tags_of_text end (first ∷ rest) x same

tags_at-some : (end : ℕ) (bytes : List ℕ) → bytes ≢ [] →
    tags_at end bytes ≡ (string_at end bytes >>= λ text.
    cond (are_tags text.0) (Ok (drop 1 text.0, text.1)) (Err (fault_at kinds.Tags end bytes)))
unfolding tags_at
tags_at-some end [] some = absurd (some refl)
tags_at-some end (first ∷ rest) some = refl

some_of_string : (text front rest : List ℕ) → IsString text front → front ++ rest ≢ []
some_of_string text front rest is none =
    let size : length (front ++ rest) ≡ 0 = ap length none in
    let spelled : length front ≡ length (string_of text) = ap length is.spelled in
    omega (
      arith,
      length-append front rest,
      length-append text (replicate (zeros_behind (length text)) 0),
      length-replicate {A = ℕ} (zeros_behind (length text)) 0,
    )

tags_again : (end : ℕ) (tags front rest : List ℕ) → IsString (44 ∷ tags) front →
    list_all is_tag tags ≡ true → tags_at end (front ++ rest) ≡ Ok (tags, rest)
tags_again end tags front rest is good =
    tags_at-some end (front ++ rest) (some_of_string (44 ∷ tags) front rest is)
    ∙ rw (string_again end (44 ∷ tags) front rest is, good) refl

-- the argument of each tag
int_takes : (end : ℕ) (bytes : List ℕ) (x : Arg × List ℕ) → int_at end bytes ≡ Ok x →
    Takes (IsArgument x.0 105) bytes x.1
unfolding int_at
int_takes end bytes x same =
    let number = bind_ok (number_at end bytes)
    (λ number. Ok (Int (cast_signed w32 number.0), number.1)) x same in
    let took = number_takes end bytes number.0 number.1 in
    subst (λ (y : Arg × List ℕ). Takes (IsArgument y.0 105) bytes y.1) (ok_is _ x number.2)
    (record {
      front = took.front;
      is =
          (refl, took.is.size, ap (cast_signed w32) (sym took.is.value));
      parts = took.parts;
    })

float_takes : (end : ℕ) (bytes : List ℕ) (x : Arg × List ℕ) → float_at end bytes ≡ Ok x →
    Takes (IsArgument x.0 102) bytes x.1
unfolding float_at
float_takes end bytes x same =
    let number = bind_ok (number_at end bytes) (λ number. Ok (Foreign, number.1)) x same in
    let took = number_takes end bytes number.0 number.1 in
    subst (λ (y : Arg × List ℕ). Takes (IsArgument y.0 102) bytes y.1) (ok_is _ x number.2)
    (record { front = took.front; is = inl (refl, took.is.size); parts = took.parts })

text_of_string : (end : ℕ) (bytes : List ℕ) (x : Arg × List ℕ) →
    (string_at end bytes >>= λ text. Ok (TextOf text.0, text.1)) ≡ Ok x →
    Takes (IsArgument x.0 115) bytes x.1
text_of_string end bytes x same =
    let text = bind_ok (string_at end bytes) (λ text. Ok (TextOf text.0, text.1)) x same in
    let took = string_takes end bytes text.0 text.1 in
    subst (λ (y : Arg × List ℕ). Takes (IsArgument y.0 115) bytes y.1) (ok_is _ x text.2)
    (record { front = took.front; is = (refl, took.is); parts = took.parts })

text_takes : (end : ℕ) (bytes : List ℕ) (x : Arg × List ℕ) → text_at end bytes ≡ Ok x →
    Takes (IsArgument x.0 115) bytes x.1
unfolding text_at
text_takes end [] x same = absurd cc
text_takes end (first ∷ rest) x same = text_of_string end (first ∷ rest) x same

text_at-some : (end : ℕ) (bytes : List ℕ) → bytes ≢ [] →
    text_at end bytes ≡ (string_at end bytes >>= λ text. Ok (TextOf text.0, text.1))
unfolding text_at
text_at-some end [] some = absurd (some refl)
text_at-some end (first ∷ rest) some = refl

blob_takes : (end : ℕ) (bytes : List ℕ) (x : Arg × List ℕ) → blob_at end bytes ≡ Ok x →
    Takes (IsArgument x.0 98) bytes x.1
unfolding blob_at
blob_takes end bytes x same =
    let number = bind_ok (number_at end bytes) (λ size. content_at end bytes size.0 size.1) x
    same in
    let size : ℕ = number.0.0 in
    let behind : List ℕ = number.0.1 in
    let zeros : ℕ = zeros_behind_blob size in
    let took = number_takes end bytes number.0 number.1 in
    let there = guard_not (ltb (length behind) (size + zeros)) _ x
    (cond (begins_with_zeros zeros (drop size behind))
    (Ok (Foreign, drop (size + zeros) behind)) (Err (fault_at kinds.Text end bytes)))
    number.2 in
    let padded = guard_ok (begins_with_zeros zeros (drop size behind)) _
    (Foreign, drop (size + zeros) behind) x there.1 in
    let long : size + zeros ≤ length behind = ltb-false _ _ there.0 in
    let content : List ℕ = take size behind in
    let content_size : length content ≡ size = omega (arith, length-take size behind) in
    let left : drop zeros (drop size behind) ≡ drop (size + zeros) behind =
    drop-drop zeros size behind in
    let behind_is : behind ≡ (content ++ replicate zeros 0) ++ drop (size + zeros) behind =
    sym (take-append-drop size behind)
    ∙ ap (λ (b : List ℕ). content ++ b)
    (zeros_are_there zeros (drop size behind) padded.0
    ∙ ap (λ (b : List ℕ). replicate zeros 0 ++ b) left)
    ∙ sym (append_assoc content (replicate zeros 0) (drop (size + zeros) behind)) in
    let blob : IsBlob (took.front ++ (content ++ replicate zeros 0)) = record {
      size = took.front;
      content = content;
      sized = record { size = took.is.size; value = took.is.value ∙ sym content_size };
      spelled = ap (λ (n : ℕ). took.front ++ (content ++ replicate (zeros_behind_blob n) 0))
          (sym content_size);
    } in
    subst (λ (y : Arg × List ℕ). Takes (IsArgument y.0 98) bytes y.1) padded.1
    (record {
      front = took.front ++ (content ++ replicate zeros 0);
      is = inr (refl, blob);
      parts =
          took.parts ∙ ap (λ (b : List ℕ). took.front ++ b) behind_is
          ∙ sym (append_assoc took.front (content ++ replicate zeros 0)
          (drop (size + zeros) behind));
    })

pub blob_again : (end : ℕ) (front rest : List ℕ) → IsBlob front →
    blob_at end (front ++ rest) ≡ Ok (Foreign, rest)
unfolding blob_at
blob_again end front rest is =
    let size : ℕ = length is.content in
    let zeros : ℕ = zeros_behind_blob size in
    let pad : List ℕ = replicate zeros 0 in
    let behind : List ℕ = is.content ++ (pad ++ rest) in
    let grouped : front ++ rest ≡ is.size ++ behind =
    ap (λ (f : List ℕ). f ++ rest) is.spelled ∙ append_assoc is.size (is.content ++ pad) rest
    ∙ ap (λ (b : List ℕ). is.size ++ b) (append_assoc is.content pad rest) in
    let pad_size : length pad ≡ zeros = length-replicate zeros _ in
    let long : ltb (length behind) (size + zeros) ≡ false =
    le-ltb _ _ (omega (
      arith,
      length-append is.content (pad ++ rest),
      length-append pad rest,
    )) in
    let after : drop size behind ≡ pad ++ rest = drop_at is.content (pad ++ rest) size refl in
    let left : drop (size + zeros) behind ≡ rest = sym (drop-drop zeros size behind)
    ∙ ap (drop zeros) after ∙ drop_at pad rest zeros pad_size in
    let content : content_at end (front ++ rest) size behind ≡ Ok (Foreign, rest) =
    rw (long, after, zeros_are_seen zeros rest, left) refl in
    ap (λ (read : Result (ℕ × List ℕ) PacketFault). read >>= λ n. content_at end (front ++ rest) n.0
    n.1) (ap (number_at end) grouped ∙ number_again end size is.size behind is.sized) ∙ content

-- an argument under a good tag
arg_takes : (tag end : ℕ) (bytes : List ℕ) (x : Arg × List ℕ) → is_tag tag ≡ true →
    arg_at tag end bytes ≡ Ok x → Takes (IsArgument x.0 tag) bytes x.1
arg_takes tag end bytes x good same =
    elim (eqb tag 105) as
    (λ b. eqb tag 105 ≡ b → (b || eqb tag 115 || eqb tag 102 || eqb tag 98) ≡ true
    → cond b (int_at end bytes)
    (cond (eqb tag 115) (text_at end bytes)
    (cond (eqb tag 102) (float_at end bytes) (blob_at end bytes))) ≡ Ok x →
    Takes (IsArgument x.0 tag) bytes x.1) [
      | true ↦ λ is one read. subst (λ (n : ℕ). Takes (IsArgument x.0 n) bytes x.1)
          (sym (eqb-true _ _ is)) (int_takes end bytes x read)
      | false ↦ λ not_int others read.
          elim (eqb tag 115) as (λ b. eqb tag 115 ≡ b → (b || eqb tag 102 || eqb tag 98) ≡ true
          → cond b (text_at end bytes) (cond (eqb tag 102) (float_at end bytes) (blob_at end bytes))
          ≡ Ok x → Takes (IsArgument x.0 tag) bytes x.1) [
            | true ↦ λ is one read. subst (λ (n : ℕ). Takes (IsArgument x.0 n) bytes x.1)
                (sym (eqb-true _ _ is)) (text_takes end bytes x read)
            | false ↦ λ not_text others read.
                elim (eqb tag 102) as (λ b. eqb tag 102 ≡ b → (b || eqb tag 98) ≡ true
                → cond b (float_at end bytes) (blob_at end bytes) ≡ Ok x →
                Takes (IsArgument x.0 tag) bytes x.1) [
                  | true ↦ λ is one read. subst (λ (n : ℕ). Takes (IsArgument x.0 n) bytes x.1)
                      (sym (eqb-true _ _ is)) (float_takes end bytes x read)
                  | false ↦ λ not_float is read.
                      subst (λ (n : ℕ). Takes (IsArgument x.0 n) bytes x.1) (sym (eqb-true _ _ is))
                      (blob_takes end bytes x read)
                ] refl others read
          ] refl others read
    ] refl good same

arg_again : (arg : Arg) (tag end : ℕ) (front rest : List ℕ) → IsArgument arg tag front →
    arg_at tag end (front ++ rest) ≡ Ok (arg, rest)
unfolding int_at float_at
arg_again (Int number) tag end front rest is =
    let read = number_again end (from_be_bytes w32 front) front rest
    (record { size = is.1; value = refl }) in
    rw (is.0, read, is.2) refl
arg_again (TextOf text) tag end front rest is =
    let read = text_at-some end (front ++ rest) (some_of_string text front rest is.1) in
    rw (is.0, read, string_again end text front rest is.1) refl
arg_again Foreign tag end front rest (inl is) =
    let read = number_again end (from_be_bytes w32 front) front rest
    (record { size = is.1; value = refl }) in
    rw (is.0, read) refl
arg_again Foreign tag end front rest (inr is) = rw (is.0) (blob_again end front rest is.1)

-- the tag of an argument is good
tag_is_good : (arg : Arg) (tag : ℕ) (bytes : List ℕ) → IsArgument arg tag bytes → is_tag tag ≡ true
tag_is_good (Int number) tag bytes is = rw (is.0) refl
tag_is_good (TextOf text) tag bytes is = rw (is.0) refl
tag_is_good Foreign tag bytes (inl is) = rw (is.0) refl
tag_is_good Foreign tag bytes (inr is) = rw (is.0) refl

tags_are_good : (arguments : List Spelled) → AllByRecursion IsSpelled arguments →
    list_all is_tag (map tag_of arguments) ≡ true
tags_are_good [] each = refl
tags_are_good (a ∷ arguments) each =
    rw (tag_is_good a.value a.tag a.bytes each.0, tags_are_good arguments each.1) refl

-- all arguments
pub record TakesArguments (args : List Arg) (tags bytes rest : List ℕ) : Type 0 where
  pub arguments : List Spelled
  pub each : AllByRecursion IsSpelled arguments
  pub values : args ≡ map value_of arguments
  pub tagged : tags ≡ map tag_of arguments
  pub parts : bytes ≡ flat_map bytes_of arguments ++ rest

-- both tests hold
both_hold : (a b : Bool) → (a && b) ≡ true → (a ≡ true) × (b ≡ true)
both_hold true b same = (refl, same)
both_hold false b same = absurd cc

args_take : (tags : List ℕ) (end : ℕ) (bytes : List ℕ) (x : List Arg × List ℕ) →
    list_all is_tag tags ≡ true → args_at tags end bytes ≡ Ok x → TakesArguments x.0 tags bytes x.1
unfolding args_at
args_take [] end bytes x good same =
    subst (λ (y : List Arg × List ℕ). TakesArguments y.0 [] bytes y.1) (ok_is ([], bytes) x same)
    (record { arguments = []; each = tt; values = refl; tagged = refl; parts = refl })
args_take (tag ∷ tags) end bytes x good same =
    let first = bind_ok (arg_at tag end bytes) (λ first. args_at tags end first.1 >>= λ others.
    Ok (first.0 ∷ others.0, others.1)) x same in
    let others = bind_ok (args_at tags end first.0.1)
    (λ others. Ok (first.0.0 ∷ others.0, others.1)) x first.2 in
    let judged = both_hold (is_tag tag) (list_all is_tag tags) good in
    let one = arg_takes tag end bytes first.0 judged.0 first.1 in
    let more = args_take tags end first.0.1 others.0 judged.1 others.1 in
    let a : Spelled = record { value = first.0.0; tag = tag; bytes = one.front } in
    let parts : bytes ≡ flat_map bytes_of (a ∷ more.arguments) ++ others.0.1 =
    one.parts ∙ ap (λ (b : List ℕ). one.front ++ b) more.parts
    ∙ sym (append_assoc one.front (flat_map bytes_of more.arguments) others.0.1) in
    subst (λ (y : List Arg × List ℕ). TakesArguments y.0 (tag ∷ tags) bytes y.1)
    (ok_is _ x others.2)
    (record {
      arguments = a ∷ more.arguments;
      each = (one.is, more.each);
      values = ap (λ (args : List Arg). first.0.0 ∷ args) more.values;
      tagged = ap (λ (all : List ℕ). tag ∷ all) more.tagged;
      parts = parts;
    })

args_again : (arguments : List Spelled) (end : ℕ) (rest : List ℕ) →
    AllByRecursion IsSpelled arguments →
    args_at (map tag_of arguments) end (flat_map bytes_of arguments ++ rest) ≡ Ok
    (map value_of arguments, rest)
unfolding args_at
args_again [] end rest each = refl
args_again (a ∷ arguments) end rest each =
    let grouped : flat_map bytes_of (a ∷ arguments) ++ rest ≡ a.bytes
    ++ (flat_map bytes_of arguments ++ rest) =
    append_assoc a.bytes (flat_map bytes_of arguments) rest in
    ap (args_at (a.tag ∷ map tag_of arguments) end) grouped
    ∙ rw (
      arg_again a.value a.tag end a.bytes (flat_map bytes_of arguments ++ rest) each.0,
      args_again arguments end rest each.1,
    ) refl

-- nothing is left
nothing : (bytes : List ℕ) → is_nothing bytes ≡ true → bytes ≡ []
nothing [] seen = refl
nothing (byte ∷ bytes) seen = absurd cc

pub message_takes : (end : ℕ) (bytes : List ℕ) (message : Message) →
    message_at end bytes ≡ Ok message → IsMessage bytes message
unfolding message_at
message_takes end bytes message same =
    let address = bind_ok (address_at end bytes)
    (λ address. tags_at end address.1 >>= λ tags. args_at tags.0 end tags.1 >>= λ args.
    cond (is_nothing args.1) (Ok (record { address = address.0; args = args.0 }))
    (Err (fault_at kinds.Extra end args.1))) message same in
    let tags = bind_ok (tags_at end address.0.1)
    (λ tags. args_at tags.0 end tags.1 >>= λ args.
    cond (is_nothing args.1) (Ok (record { address = address.0.0; args = args.0 }))
    (Err (fault_at kinds.Extra end args.1))) message address.2 in
    let args = bind_ok (args_at tags.0.0 end tags.0.1)
    (λ args. cond (is_nothing args.1) (Ok (record { address = address.0.0; args = args.0 }))
    (Err (fault_at kinds.Extra end args.1))) message tags.2 in
    let ended = guard_ok (is_nothing args.0.1) _ (record { address = address.0.0; args = args.0.0 })
    message args.2 in
    let addressed = address_takes end bytes address.0 address.1 in
    let tagged = tags_takes end address.0.1 tags.0 tags.1 in
    let said = args_take tags.0.0 end tags.0.1 args.0 tagged.1 args.1 in
    let last : tags.0.1 ≡ flat_map bytes_of said.arguments =
    said.parts ∙ ap (λ (b : List ℕ). flat_map bytes_of said.arguments ++ b)
    (nothing args.0.1 ended.0) ∙ append-nil (flat_map bytes_of said.arguments) in
    let whole : bytes ≡ addressed.0.front ++ (tagged.0.front ++ flat_map bytes_of said.arguments) =
    addressed.0.parts ∙ ap (λ (b : List ℕ). addressed.0.front ++ b)
    (tagged.0.parts ∙ ap (λ (b : List ℕ). tagged.0.front ++ b) last) in
    subst (λ (m : Message). IsMessage bytes m) ended.1
    (record {
      address = addressed.0.front;
      tags = tagged.0.front;
      arguments = said.arguments;
      begins = addressed.1;
      addressed = addressed.0.is;
      tagged = subst (λ (all : List ℕ). IsString (44 ∷ all) tagged.0.front) said.tagged tagged.0.is;
      each = said.each;
      says = said.values;
      spelled = whole;
    })

pub message_again : (end : ℕ) (bytes : List ℕ) (message : Message) → IsMessage bytes message →
    message_at end bytes ≡ Ok message
unfolding message_at
message_again end bytes message is =
    let said : List ℕ = flat_map bytes_of is.arguments in
    let address = address_again end message.address is.address (is.tags ++ said) is.addressed
    is.begins in
    let tags = tags_again end (map tag_of is.arguments) is.tags said is.tagged
    (tags_are_good is.arguments is.each) in
    let args : args_at (map tag_of is.arguments) end said ≡ Ok (map value_of is.arguments, []) =
    ap (args_at (map tag_of is.arguments) end) (sym (append-nil said))
    ∙ args_again is.arguments end [] is.each in
    ap (message_at end) is.spelled ∙ rw (address, tags, args, is.says) refl

pub single_takes : (end : ℕ) (bytes : List ℕ) (messages : List Message) →
    single_at end bytes ≡ Ok messages → IsSingle bytes messages
unfolding single_at
single_takes end bytes messages same =
    let one = bind_ok (message_at end bytes) (λ message. Ok (message ∷ [])) messages same in
    record {
      message = one.0;
      says = sym (ok_is _ messages one.2);
      is =
          message_takes end bytes one.0 one.1;
    }

pub single_again : (end : ℕ) (bytes : List ℕ) (messages : List Message) → IsSingle bytes messages →
    single_at end bytes ≡ Ok messages
unfolding single_at
single_again end bytes messages is = rw (message_again end bytes is.message is.is, is.says) refl
