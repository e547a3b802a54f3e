-- A fault stands in its packet: no reading of a part tells a place behind the part's end.
use Rattle.std.proofs.Common.{◌≡◌, ℕ, zero, suc, ◌+◌, ◌-◌, ◌≤◌, Bool, true, false, if◌then◌else◌, List, [], ◌∷◌, ◌++◌, length, drop, take, Result, Ok, Err, IfErr, nat_lt, ◌==◌, refl, subst, zero-le, arith}
use Rattle.osc_reader.specs.declared.fault.PacketKind.{PacketKind}
use Rattle.osc_reader.specs.declared.fault.PacketKind.TheVariants as kinds
use Rattle.osc_reader.specs.declared.fault.PacketFault.{PacketFault}
use Rattle.std.specs.List.{prefix_len}
use Rattle.std.specs.Int.{w32, from_be_bytes}
use Rattle.osc_reader.specs.Strings.{is_not_zero, zeros_behind}
use Rattle.osc_reader.specs.declared.message.Arg.{Arg}
use Rattle.osc_reader.specs.declared.message.Arg.TheVariants.{Foreign}
use Rattle.osc_reader.specs.declared.message.Message.{Message}
use Rattle.osc_reader.specs.Grammar.{zeros_behind_blob, max_depth}
use Rattle.osc_reader.specs.Places.{fault_at, ◌>>=◌}
use Rattle.osc_reader.specs.Reading.{number_at, text_of_size, string_at, address_at, tags_at, int_at, text_at, float_at, content_at, blob_at, arg_at, args_at, message_at, part_of_size, element_at, elements_behind, bundle_at, single_at, part_at, packet_at, is_packet_size, begins_with, begins_with_zeros, are_tags, is_nothing, is_element_size, is_bundle}

-- no fault of this reading stands behind a place
abbrev Within : {A : Type 0} → ℕ → Result A PacketFault → Type 0
Within end read = IfErr read (λ (fault : PacketFault). fault.at ≤ end)

module _ (end : ℕ) where
  fault_in : (kind : PacketKind) (left : List ℕ) → (fault_at kind end left).at ≤ end
  fault_in kind left = omega arith

  -- a reading, or a fault at the front
  good_in : {A : Type 0} (b : Bool) (good : Result A PacketFault) (kind : PacketKind)
      (left : List ℕ) → Within end good →
      Within end (if b then good else Err (fault_at kind end left))
  good_in true good kind left g = g
  good_in false good kind left g = fault_in kind left

  bad_in : {A : Type 0} (b : Bool) (good : Result A PacketFault) (kind : PacketKind)
      (left : List ℕ) → Within end good →
      Within end (if b then Err (fault_at kind end left) else good)
  bad_in true good kind left g = fault_in kind left
  bad_in false good kind left g = g

  -- one reading behind another
  then_in : {A B : Type 0} (read : Result A PacketFault) (next : A → Result B PacketFault) →
      Within end read → ((a : A) → Within end (next a)) → Within end (read >>= next)
  then_in (Ok a) next first others = others a
  then_in (Err fault) next first others = first

  -- a reading, or a fault
  test_in : {A : Type 0} (b : Bool) (good bad : Result A PacketFault) → Within end good →
      Within end bad → Within end (if b then good else bad)
  test_in true good bad g h = g
  test_in false good bad g h = h

  number_in : (bytes : List ℕ) → Within end (number_at end bytes)
  number_in bytes = bad_in (nat_lt (length bytes) 4)
      (Ok (from_be_bytes w32 (take 4 bytes), drop 4 bytes)) kinds.Short bytes tt

  text_size_in : (bytes : List ℕ) (size : ℕ) → Within end (text_of_size end bytes size)
  text_size_in bytes size =
      good_in (begins_with_zeros (zeros_behind size) (drop size bytes))
      (Ok (take size bytes, drop (zeros_behind size) (drop size bytes))) kinds.Text bytes tt

  string_in : (bytes : List ℕ) → Within end (string_at end bytes)
  string_in bytes = text_size_in bytes (prefix_len is_not_zero bytes)

  address_in : (bytes : List ℕ) → Within end (address_at end bytes)
  unfolding address_at
  address_in bytes = then_in (string_at end bytes) _ (string_in bytes)
      (λ text. good_in (begins_with 47 text.0) (Ok text) kinds.Text bytes tt)

  tags_in : (bytes : List ℕ) → Within end (tags_at end bytes)
  unfolding tags_at
  tags_in [] = fault_in kinds.Tags []
  tags_in (first ∷ rest) = then_in (string_at end (first ∷ rest)) _ (string_in (first ∷ rest))
      (λ text. good_in (are_tags text.0) (Ok (drop 1 text.0, text.1)) kinds.Tags (first ∷ rest) tt)

  int_in : (bytes : List ℕ) → Within end (int_at end bytes)
  unfolding int_at
  int_in bytes = then_in (number_at end bytes) _ (number_in bytes) (λ number. tt)

  text_in : (bytes : List ℕ) → Within end (text_at end bytes)
  unfolding text_at
  text_in [] = fault_in kinds.Short []
  text_in (first ∷ rest) = then_in (string_at end (first ∷ rest)) _ (string_in (first ∷ rest))
      (λ text. tt)

  float_in : (bytes : List ℕ) → Within end (float_at end bytes)
  unfolding float_at
  float_in bytes = then_in (number_at end bytes) _ (number_in bytes) (λ number. tt)

  content_in : (bytes : List ℕ) (size : ℕ) (behind : List ℕ) →
      Within end (content_at end bytes size behind)
  content_in bytes size behind =
      let good : Result (Arg × List ℕ) PacketFault =
      Ok (Foreign, drop (size + zeros_behind_blob size) behind) in
      let fits = begins_with_zeros (zeros_behind_blob size) (drop size behind) in
      bad_in (nat_lt (length behind) (size + zeros_behind_blob size))
      (if fits then good else Err (fault_at kinds.Text end bytes)) kinds.Short bytes
      (good_in fits good kinds.Text bytes tt)

  blob_in : (bytes : List ℕ) → Within end (blob_at end bytes)
  unfolding blob_at
  blob_in bytes = then_in (number_at end bytes) _ (number_in bytes)
      (λ size. content_in bytes size.0 size.1)

  arg_in : (tag : ℕ) (bytes : List ℕ) → Within end (arg_at tag end bytes)
  arg_in tag bytes =
      test_in (tag == 105) _ _ (int_in bytes) (test_in (tag == 115) _ _ (text_in bytes)
      (test_in (tag == 102) _ _ (float_in bytes) (blob_in bytes)))

  args_in : (tags bytes : List ℕ) → Within end (args_at tags end bytes)
  unfolding args_at
  args_in [] bytes = tt
  args_in (tag ∷ tags) bytes =
      then_in (arg_at tag end bytes) _ (arg_in tag bytes)
      (λ first. then_in (args_at tags end first.1) _ (args_in tags first.1) (λ others. tt))

  message_in : (bytes : List ℕ) → Within end (message_at end bytes)
  unfolding message_at
  message_in bytes =
      then_in (address_at end bytes) _ (address_in bytes)
      (λ address. then_in (tags_at end address.1) _ (tags_in address.1)
      (λ tags. then_in (args_at tags.0 end tags.1) _ (args_in tags.0 tags.1)
      (λ args. good_in (is_nothing args.1) (Ok (record { address = address.0; args = args.0 }))
      kinds.Extra args.1 tt)))

  single_in : (bytes : List ℕ) → Within end (single_at end bytes)
  unfolding single_at
  single_in bytes = then_in (message_at end bytes) _ (message_in bytes) (λ message. tt)

  part_size_in : (bytes : List ℕ) (size : ℕ) (behind : List ℕ) →
      Within end (part_of_size end bytes size behind)
  part_size_in bytes size behind =
      let good : Result (List ℕ × List ℕ) PacketFault = Ok (take size behind, drop size behind) in
      let short = nat_lt (length behind) size in
      good_in (is_element_size size) (if short then Err (fault_at kinds.Short end bytes) else good)
      kinds.Size bytes (bad_in short good kinds.Short bytes tt)

  element_in : (bytes : List ℕ) → Within end (element_at end bytes)
  unfolding element_at
  element_in bytes = then_in (number_at end bytes) _ (number_in bytes)
      (λ size. part_size_in bytes size.0 size.1)

-- a place that isn't behind one isn't behind a later one
within_later : {A : Type 0} (first last : ℕ) (read : Result A PacketFault) → first ≤ last →
    Within first read → Within last read
within_later first last (Ok a) later h = tt
within_later first last (Err fault) later h = omega (arith, later, h)

-- the elements of a bundle
elements_in : (read : ℕ → List ℕ → Result (List Message) PacketFault) →
    ((end : ℕ) (bytes : List ℕ) → Within end (read end bytes)) →
    (end passed : ℕ) (bytes : List ℕ) → Within end (elements_behind read end passed bytes)
unfolding elements_behind
elements_in read each end passed [] = tt
elements_in read each end (suc passed) (byte ∷ bytes) = elements_in read each end passed bytes
elements_in read each end zero (byte ∷ bytes) =
    then_in end (element_at end (byte ∷ bytes)) _ (element_in end (byte ∷ bytes))
    (λ element. then_in end (read (end - length element.1) element.0) _
    (within_later (end - length element.1) end _ (omega arith)
    (each (end - length element.1) element.0))
    (λ first. then_in end (elements_behind read end (3 + length element.0) bytes) _
    (elements_in read each end (3 + length element.0) bytes) (λ others. tt)))

bundle_in : (read : ℕ → List ℕ → Result (List Message) PacketFault) →
    ((end : ℕ) (bytes : List ℕ) → Within end (read end bytes)) →
    (end : ℕ) (bytes : List ℕ) → Within end (bundle_at read end bytes)
unfolding bundle_at
bundle_in read each end bytes =
    bad_in end (nat_lt (length bytes) 8) _ kinds.Short bytes
    (elements_in read each end 0 (drop 8 bytes))

-- a part, however deep
part_in : (depth end : ℕ) (bytes : List ℕ) → Within end (part_at depth end bytes)
unfolding part_at
part_in zero end bytes = bad_in end (is_bundle bytes) _ kinds.Depth bytes (single_in end bytes)
part_in (suc depth) end bytes =
    test_in end (is_bundle bytes) _ _
    (bundle_in (part_at depth) (part_in depth) end (drop 8 bytes)) (single_in end bytes)

pub packet_in : (bytes : List ℕ) (fault : PacketFault) → packet_at bytes ≡ Err fault →
    fault.at ≤ length bytes
unfolding packet_at
packet_in bytes fault is = subst (Within (length bytes)) is
    (test_in (length bytes) (is_packet_size (length bytes)) _ _
    (part_in max_depth (length bytes) bytes) zero-le)
