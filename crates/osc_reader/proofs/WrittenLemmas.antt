-- What is written is in the grammar.
use Rattle.std.proofs.Common.{◌≡◌, ℕ, ◌+◌, ◌-◌, ◌%◌, ◌^◌, ◌≤◌, ◌<◌, true, IsTrue, List, [], ◌∷◌, ◌++◌, length, map, replicate, refl, sym, ap, ◌∙◌, arith, inl, Fits}
use Rattle.std.proofs.lemmas.List.{length-append, length-replicate}
use Rattle.std.proofs.lemmas.Int.{to_z-of_z}
use Rattle.std.proofs.Math.Facts.{Fits-of_z}
use Rattle.std.proofs.lemmas.Nat.{from_be_bytes-to_be_bytes_4}
use Rattle.std.specs.Int.{w32, from_be_bytes, to_be_bytes, cast_signed, cast_unsigned}
use Rattle.std.specs.List.{list_all, AllByRecursion, flat_map}
use Rattle.osc_reader.specs.declared.message.Arg.{Arg}
use Rattle.osc_reader.specs.declared.write.OutArg.{OutArg}
use Rattle.osc_reader.specs.declared.write.OutArg.TheVariants.{Int, Text}
use Rattle.osc_reader.specs.Strings.{is_not_zero, has_no_zero, zeros_behind, string_of}
use Rattle.osc_reader.specs.Grammar.{IsArgument, Spelled, IsSpelled, value_of, tag_of, bytes_of, BeginsWith, IsMessage, IsPacket}
use Rattle.osc_reader.specs.Putting.{max_message}
use Rattle.osc_reader.specs.Written.{out_tag, out_bytes, message_bytes, IsWritable, read_arg, read_message}

-- an argument as it is spelled
abbrev spelled_of : OutArg → Spelled
spelled_of arg = record { value = read_arg arg; tag = out_tag arg; bytes = out_bytes arg }

number_again : (number : ℕ) → number < 2 ^ 32 → from_be_bytes w32 (to_be_bytes w32 number) ≡ number
number_again number fits = from_be_bytes-to_be_bytes_4 number fits

is_argument : (arg : OutArg) → IsWritable arg →
    IsArgument (read_arg arg) (out_tag arg) (out_bytes arg)
is_argument (Int number) fits =
    let fits_bits : Fits w32 (cast_unsigned w32 number) = Fits-of_z {w = w32} {z = number} fits in
    let below : cast_unsigned w32 number < 2 ^ 32 = omega arith in (
      refl,
      refl,
      sym (ap (cast_signed w32) (number_again (cast_unsigned w32 number) below)
          ∙ to_z-of_z w32 number fits),
    )
is_argument (Text text) plain = (refl, record { plain = plain; spelled = refl })

-- lists of arguments

each_is : (args : List OutArg) → AllByRecursion IsWritable args →
    AllByRecursion IsSpelled (map spelled_of args)
each_is [] fits = tt
each_is (arg ∷ args) fits = (is_argument arg fits.0, each_is args fits.1)

tags_are : (args : List OutArg) → map out_tag args ≡ map tag_of (map spelled_of args)
tags_are [] = refl
tags_are (arg ∷ args) = ap (λ (tags : List ℕ). out_tag arg ∷ tags) (tags_are args)

values_are : (args : List OutArg) → map read_arg args ≡ map value_of (map spelled_of args)
values_are [] = refl
values_are (arg ∷ args) = ap (λ (values : List Arg). read_arg arg ∷ values) (values_are args)

bytes_are : (args : List OutArg) → flat_map out_bytes args ≡ flat_map bytes_of (map spelled_of args)
bytes_are [] = refl
bytes_are (arg ∷ args) = ap (λ (bytes : List ℕ). out_bytes arg ++ bytes) (bytes_are args)

-- a tag is no zero
tags_are_plain : (args : List OutArg) → list_all is_not_zero (map out_tag args) ≡ true
tags_are_plain [] = refl
tags_are_plain (Int number ∷ args) = tags_are_plain args
tags_are_plain (Text text ∷ args) = tags_are_plain args

-- whole fours of bytes
length-string_of : (text : List ℕ) → length (string_of text) ≡ length text + (4 - length text % 4)
length-string_of text = length-append text (replicate (zeros_behind (length text)) 0)
    ∙ ap (λ (n : ℕ). length text + n) (length-replicate (zeros_behind (length text)) 0)

string_in_fours : (text : List ℕ) → length (string_of text) % 4 ≡ 0
string_in_fours text = omega (arith, length-string_of text)

arg_in_fours : (arg : OutArg) → length (out_bytes arg) % 4 ≡ 0
arg_in_fours (Int number) = refl
arg_in_fours (Text text) = string_in_fours text.bytes

args_in_fours : (args : List OutArg) → length (flat_map out_bytes args) % 4 ≡ 0
args_in_fours [] = refl
args_in_fours (arg ∷ args) =
    omega (
      arith,
      length-append (out_bytes arg) (flat_map out_bytes args),
      arg_in_fours arg,
      args_in_fours args,
    )

is_written : (address : List ℕ) (args : List OutArg) → BeginsWith 47 address →
    IsTrue (has_no_zero address) → AllByRecursion IsWritable args →
    IsMessage (message_bytes address args) (read_message address args)
is_written address args begins plain fits = record {
  address = string_of address;
  tags = string_of (44 ∷ map out_tag args);
  arguments = map spelled_of args;
  begins = begins;
  addressed = record { plain = plain; spelled = refl };
  tagged = record {
    plain = rw (← tags_are args) (tags_are_plain args);
    spelled =
        ap (λ (tags : List ℕ). string_of (44 ∷ tags)) (tags_are args);
  };
  each = each_is args fits;
  says = values_are args;
  spelled = ap (λ (bytes : List ℕ). string_of address
      ++ (string_of (44 ∷ map out_tag args) ++ bytes)) (bytes_are args);
}

pub written_is_a_packet : (address : List ℕ) (args : List OutArg) → BeginsWith 47 address →
    IsTrue (has_no_zero address) → AllByRecursion IsWritable args
    → length (message_bytes address args) ≤ max_message →
    IsPacket (message_bytes address args) (read_message address args ∷ [])
written_is_a_packet address args begins plain fits within =
    let tags : List ℕ = string_of (44 ∷ map out_tag args) in
    let rest : List ℕ = flat_map out_bytes args in
    let size : length (message_bytes address args) ≡ length (string_of address)
    + (length tags + length rest) =
    omega (arith, length-append (string_of address) (tags ++ rest), length-append tags rest) in
    record {
      least = omega (arith, size, length-string_of address);
      greatest = omega (arith, within);
      whole = omega (
        arith,
        size,
        string_in_fours address,
        string_in_fours (44 ∷ map out_tag args),
        args_in_fours args,
      );
      says = inl (record {
        message = read_message address args;
        says = refl;
        is =
            is_written address args begins plain fits;
      });
    }
