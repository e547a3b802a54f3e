-- A message is an address that begins with '/', a string of tags behind a ',', and one argument for
-- each tag. i is a whole number of 32 bits in two's complement, s a string; f has 4 bytes and b a
-- blob, and both are read over. A bundle is its head, a time tag of 8 bytes, and elements: each a
-- size, and a packet of that size. What it says is what its elements say, in order. At most 8
-- bundles stand in one another.
-- A packet is a message or a bundle, of 4 to 8192 bytes, a multiple of 4.
-- Sizes have 4 bytes, the highest first. "OSC packets" in docs/formats.md.
use Rattle.std.specs.Prelude.{◌≡◌, ◌≤◌, ◌<◌, ◌⊎◌, ℕ, zero, suc, ◌-◌, ◌%◌, List, [], ◌∷◌, ◌++◌, length, map, replicate, flat_map, codes}
use Rattle.std.specs.Int.{w32, from_be_bytes, cast_signed}
use Rattle.std.specs.List.{AllByRecursion}
use Rattle.osc_reader.specs.declared.message.Arg.{Arg}
use Rattle.osc_reader.specs.declared.message.Arg.TheVariants.{Int, Text as TextOf, Foreign}
use Rattle.osc_reader.specs.declared.message.Message.{Message}
use Rattle.osc_reader.specs.Strings.{IsString}

-- the greatest number of bytes in a packet
abbrev pub max_packet : ℕ
max_packet = 8192

-- how many bundles stand in one another at most
abbrev pub max_depth : ℕ
max_depth = 8

-- the four bytes of a number
pub record IsNumber (number : ℕ) (bytes : List ℕ) : Type 0 where
  pub size : length bytes ≡ 4
  pub value : from_be_bytes w32 bytes ≡ number

-- how many zeros stand behind a blob of this length: 0 to 3
abbrev pub zeros_behind_blob : ℕ → ℕ
zeros_behind_blob length = (4 - length % 4) % 4

-- a size, so many bytes, and zeros up to a multiple of 4
pub record IsBlob (bytes : List ℕ) : Type 0 where
  pub size : List ℕ
  pub content : List ℕ
  pub sized : IsNumber (length content) size
  pub spelled : bytes ≡ size ++ (content ++ replicate (zeros_behind_blob (length content)) 0)

-- an argument stands under its tag, i, s, f or b, and is spelled so
abbrev pub IsArgument : Arg → ℕ → List ℕ → Type 0
IsArgument (Int number) tag bytes = (tag ≡ 105) × (length bytes ≡ 4)
    × (number ≡ cast_signed w32 (from_be_bytes w32 bytes))
IsArgument (TextOf text) tag bytes = (tag ≡ 115) × IsString text bytes
IsArgument Foreign tag bytes = ((tag ≡ 102) × (length bytes ≡ 4)) ⊎ ((tag ≡ 98) × IsBlob bytes)

-- an argument with its tag and its bytes
pub record Spelled : Type 0 where
  pub value : Arg
  pub tag : ℕ
  pub bytes : List ℕ

-- it is spelled so
abbrev pub IsSpelled : Spelled → Type 0
IsSpelled a = IsArgument a.value a.tag a.bytes

-- the value, the tag and the bytes of each
abbrev pub value_of : Spelled → Arg
value_of a = a.value

abbrev pub tag_of : Spelled → ℕ
tag_of a = a.tag

abbrev pub bytes_of : Spelled → List ℕ
bytes_of a = a.bytes

-- the bytes begin with this one
abbrev pub BeginsWith : ℕ → List ℕ → Type 0
BeginsWith byte [] = ⊥
BeginsWith byte (first ∷ rest) = first ≡ byte

-- the bytes are this message
pub record IsMessage (bytes : List ℕ) (message : Message) : Type 0 where
  pub address : List ℕ
  pub tags : List ℕ
  pub arguments : List Spelled
  pub begins : BeginsWith 47 message.address
  pub addressed : IsString message.address address
  pub tagged : IsString (44 ∷ map tag_of arguments) tags
  pub each : AllByRecursion IsSpelled arguments
  pub says : message.args ≡ map value_of arguments
  pub spelled : bytes ≡ address ++ (tags ++ flat_map bytes_of arguments)

-- an element of a bundle: its size, the packet, and what that says
pub record Element : Type 0 where
  pub size : List ℕ
  pub packet : List ℕ
  pub messages : List Message

-- the bytes of an element, and what it says
abbrev pub element_bytes : Element → List ℕ
element_bytes e = e.size ++ e.packet

abbrev pub element_messages : Element → List Message
element_messages e = e.messages

-- the size is that of the packet, a multiple of 4 and not 0, and the packet is one
pub record IsElement (IsPacket : List ℕ → List Message → Type 0) (e : Element) : Type 0 where
  pub sized : IsNumber (length e.packet) e.size
  pub whole : length e.packet % 4 ≡ 0
  pub some : 0 < length e.packet
  pub packet : IsPacket e.packet e.messages

-- the first 8 bytes of a bundle
abbrev pub bundle_head : List ℕ
bundle_head = codes "#bundle" ++ 0 ∷ []

-- the bytes are a bundle that says these messages, by what its packets are
pub record IsBundle (IsPacket : List ℕ → List Message → Type 0) (bytes : List ℕ)
    (messages : List Message) : Type 0 where
  pub tag : List ℕ
  pub elements : List Element
  pub tag_size : length tag ≡ 8
  pub each : AllByRecursion (IsElement IsPacket) elements
  pub says : messages ≡ flat_map element_messages elements
  pub spelled : bytes ≡ bundle_head ++ (tag ++ flat_map element_bytes elements)

-- the bytes are one message, and these are all that they say
pub record IsSingle (bytes : List ℕ) (messages : List Message) : Type 0 where
  pub message : Message
  pub says : messages ≡ message ∷ []
  pub is : IsMessage bytes message

-- the bytes say these messages, with at most so many bundles in one another
abbrev pub Says : ℕ → List ℕ → List Message → Type 0
Says zero bytes messages = IsSingle bytes messages
Says (suc depth) bytes messages = IsSingle bytes messages ⊎ IsBundle (Says depth) bytes messages

-- the bytes are a packet that says these messages
pub record IsPacket (bytes : List ℕ) (messages : List Message) : Type 0 where
  pub least : 4 ≤ length bytes
  pub greatest : length bytes ≤ max_packet
  pub whole : length bytes % 4 ≡ 0
  pub says : Says max_depth bytes messages
