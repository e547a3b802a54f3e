-- A message is written with the tags i and s alone, and has one spelling. What is written has texts
-- with no zero byte.
-- "OSC packets" in docs/formats.md.
use Rattle.std.specs.Prelude.{ℕ, List, ◌∷◌, ◌++◌, map, flat_map, IsTrue, FitsSigned}
use Rattle.std.specs.Int.{w32, to_be_bytes, cast_unsigned}
use Rattle.osc_reader.specs.declared.message.Arg.{Arg}
use Rattle.osc_reader.specs.declared.message.Arg.TheVariants.{Int as IntOf, Text as TextOf}
use Rattle.osc_reader.specs.declared.message.Message.{Message}
use Rattle.osc_reader.specs.declared.write.OutArg.{OutArg}
use Rattle.osc_reader.specs.declared.write.OutArg.TheVariants.{Int, Text}
use Rattle.osc_reader.specs.Strings.{has_no_zero, string_of}

-- the tag of an argument: i or s
abbrev pub out_tag : OutArg → ℕ
out_tag (Int number) = 105
out_tag (Text text) = 115

-- the bytes of an argument
abbrev pub out_bytes : OutArg → List ℕ
out_bytes (Int number) = to_be_bytes w32 (cast_unsigned w32 number)
out_bytes (Text text) = string_of text.bytes

-- the bytes of a message
abbrev pub message_bytes : List ℕ → List OutArg → List ℕ
message_bytes address args =
    string_of address ++ (string_of (44 ∷ map out_tag args) ++ flat_map out_bytes args)

-- a text with no zero byte
abbrev pub IsPlain : OutArg → Type 0
IsPlain (Int number) = Unit {0}
IsPlain (Text text) = IsTrue (has_no_zero text.bytes)

-- the same, and a number of 32 bits
abbrev pub IsWritable : OutArg → Type 0
IsWritable (Int number) = FitsSigned w32 number
IsWritable (Text text) = IsTrue (has_no_zero text.bytes)

-- an argument as it is read
abbrev pub read_arg : OutArg → Arg
read_arg (Int number) = IntOf number
read_arg (Text text) = TextOf text.bytes

-- a message as it is read
abbrev pub read_message : List ℕ → List OutArg → Message
read_message address args = record { address = address; args = map read_arg args }
