-- The sizes and bytes of the WAV text.
use Rattle.std.proofs.Common.{replicate, sym, ap, ◌∙◌, [], ◌∷◌, ◌≡◌, ℕ, suc, ◌+◌, ◌*◌, ◌/◌, ◌%◌, ◌^◌, ◌≤◌, ◌<◌, ◌-◌, List, ◌++◌, length, take, drop, get_or, inl, inr, arith, refl, length-append}
use Rattle.std.proofs.lemmas.Int.{ints}
use Rattle.std.proofs.lemmas.Grind.{flat_map-append}
use Rattle.std.proofs.lemmas.List.{append_assoc, append-nil, drop-drop, drop_all, drop_at, length-drop, length-replicate, length-take-le, take_all, take_at, take_more}
use Rattle.std.specs.Prelude.{ℤ, pos, negsuc}
use Rattle.std.specs.Int.{w16, w64, cast_unsigned}
use borrow.Rule.Slice.PartMut.{put_mid}
use Rattle.byteorder.specs.Endian.{low_bytes}
use Rattle.sl_base.specs.Arithmetic.{IsSample}
use Rattle.sl_base.specs.Sounds.{Sound}
use Rattle.wav_pcm.specs.WavText.{IsFormat, frame_size, twos_complement, sample_bytes, frame_bytes, padding, samples, samples_size, text_size, wav_header, wav_text}

-- a frame has 6 bytes at most
pub frame_size_within : (channels bits : ℕ) → IsFormat channels bits → frame_size channels bits ≤ 6
frame_size_within channels bits format =
    elim format.one_or_two [
      | inl one ↦ elim format.short_or_long
          [ inl short ↦ rw (one, short) (omega arith) | inr long ↦ rw (one, long) (omega arith) ]
      | inr two ↦ elim format.short_or_long
          [ inl short ↦ rw (two, short) (omega arith) | inr long ↦ rw (two, long) (omega arith) ]
    ]

-- the bits of a sample of 16 bits
pub cast_unsigned-w16 : (z : ℤ) → cast_unsigned w16 z ≡ twos_complement 16 z
cast_unsigned-w16 (pos n) = refl
cast_unsigned-w16 (negsuc n) = refl

-- a sample has as many bytes as the bits say
pub length-sample_bytes : (channels bits : ℕ) (sample : ℤ) → IsFormat channels bits →
    length (sample_bytes bits sample) ≡ bits / 8
length-sample_bytes channels bits sample format =
    elim format.short_or_long [ inl short ↦ rw short refl | inr long ↦ rw long refl ]

-- a frame has the bytes of its samples
pub length-frame_bytes : (channels bits : ℕ) (frame : Sound) → IsFormat channels bits →
    length (frame_bytes channels bits frame) ≡ frame_size channels bits
length-frame_bytes channels bits frame format =
    elim format.one_or_two [
      | inl one ↦ elim format.short_or_long
          [ inl short ↦ rw (one, short) refl | inr long ↦ rw (one, long) refl ]
      | inr two ↦ elim format.short_or_long
          [ inl short ↦ rw (two, short) refl | inr long ↦ rw (two, long) refl ]
    ]

-- two parts written behind one another
pub pair_written : (size room : ℕ) (left right out first second post : List ℕ) →
    length left ≡ size → length right ≡ size
    → first ≡ left ++ drop size out
    → length (drop size first) ≤ room
    → second ≡ right ++ drop size (take room (drop size first))
    → post ≡ []
    → take size first ++ (second ++ post) ≡ (left ++ right) ++ drop (2 * size) out
pair_written size room left right out first second post left_size right_size first_is within
    second_is post_is =
    let front : take size first ≡ left =
    ap (take size) first_is ∙ take_at left (drop size out) size left_size in
    let back : drop size first ≡ drop size out =
    ap (drop size) first_is ∙ drop_at left (drop size out) size left_size in
    let whole : take room (drop size first) ≡ drop size out = take_all room (drop size first) within
    ∙ back in
    let rest : drop size (take room (drop size first)) ≡ drop (size + size) out =
    ap (drop size) whole ∙ drop-drop size size out in
    let twice : 2 * size ≡ size + size = omega arith in
    rw (front, second_is, rest, post_is, append-nil, twice, append_assoc) refl

-- the samples of a front and of one frame more
pub samples-more : (channels bits place : ℕ) (frames : List Sound) (frame : Sound)
    (out rest post : List ℕ) → place < length frames
    → place * frame_size channels bits ≤ length out
    → IsFormat channels bits
    → frame ≡ get_or frames place frame
    → take (place * frame_size channels bits) out ≡ samples channels bits (take place frames)
    → take ((place + 1) * frame_size channels bits)
    (take (place * frame_size channels bits) out
    ++ ((frame_bytes channels bits frame ++ rest) ++ post)) ≡ samples channels bits
    (take (place + 1) frames)
samples-more channels bits place frames frame out rest post before room format at front =
    let bytes : List ℕ = frame_bytes channels bits frame in
    let written : List ℕ = take (place * frame_size channels bits) out in
    let size : length bytes ≡ frame_size channels bits =
    length-frame_bytes channels bits frame format in
    let written_size : length written ≡ place * frame_size channels bits =
    length-take-le (place * frame_size channels bits) out room in
    let both_size : length (written ++ bytes) ≡ (place + 1) * frame_size channels bits =
    omega (arith, length-append written bytes) in
    let grouped : written ++ ((bytes ++ rest) ++ post) ≡ (written ++ bytes) ++ (rest ++ post) =
    ap (λ (r : List ℕ). written ++ r) (append_assoc bytes rest post)
    ∙ sym (append_assoc written bytes (rest ++ post)) in
    let more : take (place + 1) frames ≡ take place frames ++ frame ∷ [] =
    take_more frames place frame before
    ∙ ap (λ (f : Sound). take place frames ++ f ∷ []) (sym at) in
    rw (
      grouped,
      take_at (written ++ bytes) (rest ++ post) ((place + 1) * frame_size channels bits)
          both_size,
      front,
      more,
      flat_map-append,
      append-nil,
    ) refl

-- all samples have as many bytes as their number and format say
pub length-samples : (channels bits : ℕ) (frames : List Sound) → IsFormat channels bits →
    length (samples channels bits frames) ≡ samples_size (length frames) channels bits
length-samples channels bits [] format = omega arith
length-samples channels bits (frame ∷ frames) format =
    let first = length-frame_bytes channels bits frame format in
    let rest = length-samples channels bits frames format in
    omega (
      arith,
      first,
      rest,
      length-append (frame_bytes channels bits frame) (samples channels bits frames),
    )

-- the header, the samples behind it, and zeros over what is left
text_written-parts : (header bytes out : List ℕ) (size : ℕ) (zeros : List ℕ) → length header ≡ 44 →
    length bytes ≡ size
    → length out ≡ 44 + size + size % 2
    → zeros ≡ replicate
    (length (take (length (put_mid 44 (44 + size - 44) (header ++ drop 44 out) bytes)
    - (44 + size)) (drop (44 + size)
    (put_mid 44 (44 + size - 44) (header ++ drop 44 out) bytes)))) 0
    → put_mid (44 + size)
    (length (put_mid 44 (44 + size - 44) (header ++ drop 44 out) bytes) - (44 + size))
    (put_mid 44 (44 + size - 44) (header ++ drop 44 out) bytes) zeros ≡ header
    ++ (bytes ++ padding size)
text_written-parts header bytes out size zeros header_size bytes_size room zeros_are =
    let rest : List ℕ = drop (44 + size - 44) (drop 44 (header ++ drop 44 out)) in
    let sampled : put_mid 44 (44 + size - 44) (header ++ drop 44 out) bytes ≡ (header ++ bytes)
    ++ rest =
    ap (λ (front : List ℕ). front ++ (bytes ++ rest)) (take_at header (drop 44 out) 44 header_size)
    ∙ sym (append_assoc header bytes rest) in
    let front_size : length (header ++ bytes) ≡ 44 + size =
    omega (arith, length-append header bytes) in
    let rest_size : length rest ≡ size % 2 =
    omega (
      arith,
      length-drop (44 + size - 44) (drop 44 (header ++ drop 44 out)),
      length-drop 44
          (header ++ drop 44 out),
      length-append header (drop 44 out),
      length-drop 44 out,
    ) in
    let whole_size : length ((header ++ bytes) ++ rest) - (44 + size) ≡ length rest =
    omega (arith, length-append (header ++ bytes) rest) in
    let left = rw (
      sampled,
      drop_at (header ++ bytes) rest (44 + size) front_size,
      whole_size,
      take_all (length rest) rest (omega arith),
      rest_size,
    ) at zeros_are in
    rw (
      sampled,
      take_at (header ++ bytes) rest (44 + size) front_size,
      drop_at (header ++ bytes) rest (44 + size) front_size,
      whole_size,
      drop_all (length rest) rest (omega arith),
      left,
      append-nil,
      append_assoc,
    ) refl

-- the whole text, from what each write left
pub text_written : (header bytes out headed sampled zeros : List ℕ) (size given : ℕ) →
    headed ≡ header → sampled ≡ bytes → given ≡ size
    → length header ≡ 44 → length bytes ≡ size
    → length out ≡ 44 + size + size % 2
    → zeros ≡ replicate
    (length (take (length (put_mid 44 (44 + given - 44) (headed ++ drop 44 out) sampled)
    - (44 + given)) (drop (44 + given)
    (put_mid 44 (44 + given - 44) (headed ++ drop 44 out) sampled)))) 0
    → put_mid (44 + given)
    (length (put_mid 44 (44 + given - 44) (headed ++ drop 44 out) sampled) - (44 + given))
    (put_mid 44 (44 + given - 44) (headed ++ drop 44 out) sampled) zeros ≡ header
    ++ (bytes ++ padding size)
text_written header bytes out headed sampled zeros size given headed_is sampled_is given_is
    header_size bytes_size room zeros_are =
    let zeros_there = rw (headed_is, sampled_is, given_is) at zeros_are in
    rw (headed_is, sampled_is, given_is)
    (text_written-parts header bytes out size zeros header_size bytes_size room zeros_there)

-- the bytes of the whole text
pub length-wav_text : (frames : List Sound) (channels bits rate : ℕ) → IsFormat channels bits →
    length (wav_text frames channels bits rate) ≡ text_size (length frames) channels bits
length-wav_text frames channels bits rate format =
    let size : ℕ = samples_size (length frames) channels bits in
    let bytes : List ℕ = samples channels bits frames in
    let header : List ℕ = wav_header size channels bits rate in
    length-append header (bytes ++ padding size)
    ∙ ap (λ (n : ℕ). 44 + n) (length-append bytes (padding size))
    ∙ ap (λ (n : ℕ). 44 + (n + length (padding size))) (length-samples channels bits frames format)
    ∙ ap (λ (n : ℕ). 44 + (size + n)) (length-replicate (size % 2) 0)
    ∙ omega arith
