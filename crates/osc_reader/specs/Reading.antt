-- Reading a packet from left to right, with the first fault that is met.
-- A string's own fault comes before what the string says. The tags are judged before the arguments.
-- An element's size is judged before what stands in it, and the depth before anything else of a
-- bundle.
-- Each reading takes the offset of the end of its part and the bytes from its field on. What it
-- gives stands beside the bytes that are left.
-- "OSC packets" in docs/formats.md.
use Rattle.std.specs.Prelude.{ℕ, zero, suc, ◌+◌, ◌-◌, ◌%◌, Bool, true, false, ◌&&◌, ◌||◌, ◌==◌, nat_lt, nat_le, if◌then◌else◌, List, [], ◌∷◌, ◌++◌, length, take, drop, replicate, Result, Ok, Err}
use Rattle.std.specs.Str.{bytes_eq}
use Rattle.std.specs.Int.{w32, from_be_bytes, cast_signed}
use Rattle.std.specs.List.{list_all, prefix_len}
use Rattle.osc_reader.specs.declared.fault.PacketKind.TheVariants as kinds
use Rattle.osc_reader.specs.declared.fault.PacketFault.{PacketFault}
use Rattle.osc_reader.specs.declared.message.Arg.{Arg}
use Rattle.osc_reader.specs.declared.message.Arg.TheVariants.{Int, Text as TextOf, Foreign}
use Rattle.osc_reader.specs.declared.message.Message.{Message}
use Rattle.osc_reader.specs.Strings.{is_not_zero, zeros_behind}
use Rattle.osc_reader.specs.Grammar.{zeros_behind_blob, bundle_head, max_packet, max_depth}
use Rattle.osc_reader.specs.Places.{fault_at, ◌>>=◌}

-- so many zeros stand at the front
abbrev pub begins_with_zeros : ℕ → List ℕ → Bool
begins_with_zeros count bytes = bytes_eq (replicate count 0) (take count bytes)

-- this byte stands at the front
abbrev pub begins_with : ℕ → List ℕ → Bool
begins_with byte [] = false
begins_with byte (first ∷ rest) = first == byte

-- nothing is there
abbrev pub is_nothing : List ℕ → Bool
is_nothing [] = true
is_nothing (first ∷ rest) = false

-- a number of four bytes
abbrev pub number_at : ℕ → List ℕ → Result (ℕ × List ℕ) PacketFault
number_at end bytes =
    if nat_lt (length bytes) 4 then Err (fault_at kinds.Short end bytes)
    else Ok (from_be_bytes w32 (take 4 bytes), drop 4 bytes)

-- a text of so many bytes, and zeros behind it
abbrev pub text_of_size : ℕ → List ℕ → ℕ → Result (List ℕ × List ℕ) PacketFault
text_of_size end bytes size =
    if begins_with_zeros (zeros_behind size) (drop size bytes) then
    Ok (take size bytes, drop (zeros_behind size) (drop size bytes))
    else Err (fault_at kinds.Text end bytes)

-- a string: its text ends before the first zero
abbrev pub string_at : ℕ → List ℕ → Result (List ℕ × List ℕ) PacketFault
string_at end bytes = text_of_size end bytes (prefix_len is_not_zero bytes)

-- the address of a message
unfoldable pub address_at : ℕ → List ℕ → Result (List ℕ × List ℕ) PacketFault
address_at end bytes = do
  text ← string_at end bytes
  if begins_with 47 text.0 then Ok text else Err (fault_at kinds.Text end bytes)

-- a tag that arguments may have: i, s, f or b
abbrev pub is_tag : ℕ → Bool
is_tag byte = byte == 105 || byte == 115 || byte == 102 || byte == 98

-- a ',' and tags behind it
abbrev pub are_tags : List ℕ → Bool
are_tags [] = false
are_tags (first ∷ rest) = first == 44 && list_all is_tag rest

-- the tags of a message, without their ','
unfoldable pub tags_at : ℕ → List ℕ → Result (List ℕ × List ℕ) PacketFault
tags_at end [] = Err (fault_at kinds.Tags end [])
tags_at end (first ∷ rest) = do
  text ← string_at end (first ∷ rest)
  if are_tags text.0 then Ok (drop 1 text.0, text.1) else
      Err (fault_at kinds.Tags end (first ∷ rest))

-- the argument of a tag i
unfoldable pub int_at : ℕ → List ℕ → Result (Arg × List ℕ) PacketFault
int_at end bytes = do
  number ← number_at end bytes
  Ok (Int (cast_signed w32 number.0), number.1)

-- the argument of a tag s
unfoldable pub text_at : ℕ → List ℕ → Result (Arg × List ℕ) PacketFault
text_at end [] = Err (fault_at kinds.Short end [])
text_at end (first ∷ rest) = do
  text ← string_at end (first ∷ rest)
  Ok (TextOf text.0, text.1)

-- the argument of a tag f
unfoldable pub float_at : ℕ → List ℕ → Result (Arg × List ℕ) PacketFault
float_at end bytes = do
  number ← number_at end bytes
  Ok (Foreign, number.1)

-- what stands behind a blob's size; its faults stand at the size
abbrev pub content_at : ℕ → List ℕ → ℕ → List ℕ → Result (Arg × List ℕ) PacketFault
content_at end bytes size behind =
    if nat_lt (length behind) (size + zeros_behind_blob size) then
    Err (fault_at kinds.Short end bytes)
    else if begins_with_zeros (zeros_behind_blob size) (drop size behind) then
    Ok (Foreign, drop (size + zeros_behind_blob size) behind)
    else Err (fault_at kinds.Text end bytes)

-- the argument of a tag b
unfoldable pub blob_at : ℕ → List ℕ → Result (Arg × List ℕ) PacketFault
blob_at end bytes = do
  size ← number_at end bytes
  content_at end bytes size.0 size.1

-- the argument of a tag
abbrev pub arg_at : ℕ → ℕ → List ℕ → Result (Arg × List ℕ) PacketFault
arg_at tag end bytes =
    if tag == 105 then int_at end bytes
    else if tag == 115 then text_at end bytes
    else if tag == 102 then float_at end bytes
    else blob_at end bytes

-- the arguments of all tags, in order
unfoldable pub args_at : List ℕ → ℕ → List ℕ → Result (List Arg × List ℕ) PacketFault
args_at [] end bytes = Ok ([], bytes)
args_at (tag ∷ tags) end bytes = do
  first ← arg_at tag end bytes
  others ← args_at tags end first.1
  Ok (first.0 ∷ others.0, others.1)

-- a whole part as one message
unfoldable pub message_at : ℕ → List ℕ → Result Message PacketFault
message_at end bytes = do
  address ← address_at end bytes
  tags ← tags_at end address.1
  args ← args_at tags.0 end tags.1
  if is_nothing args.1 then Ok (record { address = address.0; args = args.0 }) else
      Err (fault_at kinds.Extra end args.1)

-- the size of an element: a multiple of 4, and not 0
abbrev pub is_element_size : ℕ → Bool
is_element_size size = size % 4 == 0 && nat_lt 0 size

-- the part behind an element's size; the faults stand at the size
abbrev pub part_of_size : ℕ → List ℕ → ℕ → List ℕ → Result (List ℕ × List ℕ) PacketFault
part_of_size end bytes size behind =
    if is_element_size size then
    (if nat_lt (length behind) size then Err (fault_at kinds.Short end bytes) else
    Ok (take size behind, drop size behind))
    else Err (fault_at kinds.Size end bytes)

-- a size, and the part of that size
unfoldable pub element_at : ℕ → List ℕ → Result (List ℕ × List ℕ) PacketFault
element_at end bytes = do
  size ← number_at end bytes
  part_of_size end bytes size.0 size.1

-- the elements of a bundle, behind so many bytes that belong to the element before; `read` reads
-- what stands in each
unfoldable pub elements_behind : (ℕ → List ℕ → Result (List Message) PacketFault) → ℕ → ℕ → List ℕ →
    Result (List Message) PacketFault
elements_behind read end passed [] = Ok []
elements_behind read end (suc passed) (byte ∷ bytes) = elements_behind read end passed bytes
elements_behind read end zero (byte ∷ bytes) = do
  element ← element_at end (byte ∷ bytes)
  first ← read (end - length element.1) element.0
  others ← elements_behind read end (3 + length element.0) bytes
  Ok (first ++ others)

-- what stands behind the head of a bundle: the time tag, and then the elements
unfoldable pub bundle_at : (ℕ → List ℕ → Result (List Message) PacketFault) → ℕ → List ℕ →
    Result (List Message) PacketFault
bundle_at read end bytes =
    if nat_lt (length bytes) 8 then Err (fault_at kinds.Short end bytes) else
    elements_behind read end 0 (drop 8 bytes)

-- the part begins as a bundle does
abbrev pub is_bundle : List ℕ → Bool
is_bundle bytes = bytes_eq bundle_head (take 8 bytes)

-- a whole part as its one message
unfoldable pub single_at : ℕ → List ℕ → Result (List Message) PacketFault
single_at end bytes = do
  message ← message_at end bytes
  Ok (message ∷ [])

-- a whole part that may have so many bundles in one another
unfoldable pub part_at : ℕ → ℕ → List ℕ → Result (List Message) PacketFault
part_at zero end bytes = if is_bundle bytes then Err (fault_at kinds.Depth end bytes) else
    single_at end bytes
part_at (suc depth) end bytes = if is_bundle bytes then
    bundle_at (part_at depth) end (drop 8 bytes) else single_at end bytes

-- as many bytes as a packet may have
abbrev pub is_packet_size : ℕ → Bool
is_packet_size size = nat_le 4 size && nat_le size max_packet && size % 4 == 0

-- a whole packet, or its first fault
unfoldable pub packet_at : List ℕ → Result (List Message) PacketFault
packet_at bytes =
    if is_packet_size (length bytes) then part_at max_depth (length bytes) bytes
    else Err (record { kind = kinds.Size; at = 0 })
