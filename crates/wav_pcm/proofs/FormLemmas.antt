-- The form of a file is found exactly where the file is one.
use Rattle.std.proofs.Common.{◌≡◌, ◌≤◌, ◌<◌, ℕ, ◌+◌, ◌-◌, ◌*◌, ◌/◌, ◌%◌, ◌==◌, nat_lt, List, [], ◌∷◌, ◌++◌, length, take, drop, Option, Some, None, Bool, true, false, true≢false, refl, sym, ap, ◌∙◌, subst, arith, codes, if◌then◌else◌, inl, inr, ◌⊎◌, length-append, ◌&&◌, ◌||◌, nat_le}
use Rattle.std.specs.Prelude.{Result, Ok, Err, IfOk, IfErr}
use Rattle.std.proofs.lemmas.Bool.{ltb-false, eq-eqb, eqb-true, le-leb, leb-true}
use Rattle.std.proofs.lemmas.List.{append_assoc, drop_at, take-append-drop, drop-drop, length-drop, length-take-le}
use Rattle.std.proofs.lemmas.Slice.Eq.{bytes_eq-Decides}
use Rattle.std.proofs.Math.Nat.{mul-mod_left, mul-div_left, mod-eq-sub-div-mul, div-mul-le_self}
use Rattle.std.specs.Str.{bytes_eq}
use Rattle.byteorder.specs.Endian.{little_number}
use Rattle.byteorder.specs.Numbers.{little_from-append, little_from-take}
use Rattle.sl_base.specs.Sounds.{Sound}
use Rattle.sl_base.specs.Limits.{max_rate}
use Rattle.wav_pcm.specs.declared.fault.WavFault.{WavFault}
use Rattle.wav_pcm.specs.declared.fault.WavFault.TheVariants.{NotRiff, Unsupported, TornFrame}
use Rattle.wav_pcm.specs.declared.form.WavForm.{WavForm}
use Rattle.wav_pcm.specs.Forms.{seen_form, form_spelling}
use Rattle.wav_pcm.specs.WavText.{IsFormat, frame_size}
use Rattle.wav_pcm.specs.Samples.{frames_in}
use Rattle.wav_pcm.specs.Reading.{Spelling, FormOf, Walk, is_riff, walk_of, is_spelling, is_supported, is_pcm, spelling_of, open_size, samples_there, form_at, form_behind, form_by, form_of}
use Rattle.wav_pcm.specs.Files.{chunks_bytes, first_format, riff_of, AreThere, IsWav}
use Rattle.wav_pcm.proofs.ChunkLemmas.{walk_found, walked-chunks, length-chunks, not_below}

-- the frames of a form that was found in these bytes
abbrev pub frames_of : FormOf → List ℕ → List Sound
frames_of form bytes =
    frames_in form.spelling.channels form.spelling.bits form.count (drop form.start bytes)

-- both are true
both : (a b : Bool) → (a && b) ≡ true → (a ≡ true) × (b ≡ true)
both true true is = (refl, refl)
both true false is = absurd (true≢false (sym is))
both false b is = absurd (true≢false (sym is))

-- the first twelve bytes with any size are those of RIFF WAVE
pub riff_is : (size rest : List ℕ) → length size ≡ 4 → is_riff (riff_of size ++ rest) ≡ true
riff_is (a ∷ b ∷ c ∷ d ∷ []) rest is =
    rw (le-leb 12 (length (riff_of (a ∷ b ∷ c ∷ d ∷ []) ++ rest)) (omega arith)) refl
riff_is [] rest is = absurd (omega (arith, is))
riff_is (a ∷ []) rest is = absurd (omega (arith, is))
riff_is (a ∷ b ∷ []) rest is = absurd (omega (arith, is))
riff_is (a ∷ b ∷ c ∷ []) rest is = absurd (omega (arith, is))
riff_is (a ∷ b ∷ c ∷ d ∷ e ∷ more) rest is = absurd (omega (arith, is))

pub riff_long : (size : List ℕ) → length size ≡ 4 → length (riff_of size) ≡ 12
riff_long size is = omega (arith, is, length-append size (codes "WAVE"))

-- bytes that begin so are these twelve and the rest
riff_found : (bytes : List ℕ) → is_riff bytes ≡ true → (size : List ℕ) × (length size ≡ 4)
    × (bytes ≡ riff_of size ++ drop 12 bytes)
riff_found bytes is =
    let all = both (nat_le 12 (length bytes) && bytes_eq (take 4 bytes) (codes "RIFF"))
    (bytes_eq (take 4 (drop 8 bytes)) (codes "WAVE")) is in
    let front = both (nat_le 12 (length bytes)) (bytes_eq (take 4 bytes) (codes "RIFF")) all.0 in
    let long : 12 ≤ length bytes = leb-true 12 (length bytes) front.0 in
    let name : take 4 bytes ≡ codes "RIFF" =
    (bytes_eq-Decides (take 4 bytes) (codes "RIFF")).0 front.1 in
    let form : take 4 (drop 8 bytes) ≡ codes "WAVE" =
    (bytes_eq-Decides (take 4 (drop 8 bytes)) (codes "WAVE")).0 all.1 in
    let size : List ℕ = take 4 (drop 4 bytes) in
    let size_long : length size ≡ 4 =
    length-take-le 4 (drop 4 bytes) (omega (arith, long, length-drop 4 bytes)) in
    let eight : drop 8 bytes ≡ codes "WAVE" ++ drop 12 bytes =
    sym (take-append-drop 4 (drop 8 bytes)) ∙ ap (λ (l : List ℕ). l ++ drop 4 (drop 8 bytes)) form
    ∙ ap (λ (l : List ℕ). codes "WAVE" ++ l) (drop-drop 4 8 bytes) in
    let four : drop 4 bytes ≡ size ++ (codes "WAVE" ++ drop 12 bytes) =
    sym (take-append-drop 4 (drop 4 bytes))
    ∙ ap (λ (l : List ℕ). size ++ l) (drop-drop 4 4 bytes ∙ eight) in
    let all_bytes : bytes ≡ codes "RIFF" ++ (size ++ (codes "WAVE" ++ drop 12 bytes)) =
    sym (take-append-drop 4 bytes) ∙ ap (λ (l : List ℕ). l ++ drop 4 bytes) name
    ∙ ap (λ (l : List ℕ). codes "RIFF" ++ l) four in (
      size,
      size_long,
      all_bytes ∙ ap (λ (l : List ℕ). codes "RIFF" ++ l)
          (sym (append_assoc size (codes "WAVE") (drop 12 bytes))),
    )

-- a spelling that is read has frames of some bytes
some_bytes : (s : Spelling) → is_spelling s ≡ true → 1 ≤ frame_size s.channels s.bits
some_bytes s is =
    let all = both ((s.channels == 1 || s.channels == 2) && (s.bits == 16 || s.bits == 24)
    && nat_le 1 s.rate) (nat_le s.rate max_rate) is in
    let front = both ((s.channels == 1 || s.channels == 2) && (s.bits == 16 || s.bits == 24))
    (nat_le 1 s.rate) all.0 in
    let tests = both (s.channels == 1 || s.channels == 2) (s.bits == 16 || s.bits == 24) front.0 in
    go (s.channels == 1) refl (s.channels == 2) refl (s.bits == 16) refl (s.bits == 24) refl tests.0
    tests.1
  where
    sized : (channels bits : ℕ) → s.channels ≡ channels → s.bits ≡ bits →
        1 ≤ channels * (bits / 8) → 1 ≤ frame_size s.channels s.bits
    sized channels bits c b fits =
        subst (λ (y : ℕ × ℕ). 1 ≤ y.0 * (y.1 / 8)) (λ i. (sym c i, sym b i)) fits

    go : (one : Bool) → (s.channels == 1) ≡ one → (two : Bool) → (s.channels == 2) ≡ two
        → (short : Bool) → (s.bits == 16) ≡ short → (long : Bool) → (s.bits == 24) ≡ long
        → (one || two) ≡ true → (short || long) ≡ true → 1 ≤ frame_size s.channels s.bits
    go true a two b true c long d x y =
        sized 1 16 (eqb-true s.channels 1 a) (eqb-true s.bits 16 c) (omega arith)
    go true a two b false c true d x y =
        sized 1 24 (eqb-true s.channels 1 a) (eqb-true s.bits 24 d) (omega arith)
    go false a true b true c long d x y =
        sized 2 16 (eqb-true s.channels 2 b) (eqb-true s.bits 16 c) (omega arith)
    go false a true b false c true d x y =
        sized 2 24 (eqb-true s.channels 2 b) (eqb-true s.bits 24 d) (omega arith)
    go false a false b short c long d x y = absurd (true≢false (sym x))
    go true a two b false c false d x y = absurd (true≢false (sym y))
    go false a true b false c false d x y = absurd (true≢false (sym y))

-- the bytes of samples that are there
there_is : (size left many : ℕ) → AreThere size left many → samples_there size left ≡ Some many
there_is size left many (inl is) = rw (eq-eqb size open_size is.0) (ap Some (sym is.1))
there_is size left many (inr is) =
    go (size == open_size) refl
  where
    go : (is_open : Bool) → (size == open_size) ≡ is_open →
        (if is_open then Some left else if nat_lt left size then None else Some size) ≡ Some many
    go true e = absurd (is.0 (eqb-true size open_size e))
    go false e = rw (not_below left size is.1) (ap Some (sym is.2))

there_found : (size left many : ℕ) → samples_there size left ≡ Some many → AreThere size left many
there_found size left many is = go (size == open_size) refl (nat_lt left size) refl is
  where
    go : (is_open : Bool) → (size == open_size) ≡ is_open → (short : Bool) →
        nat_lt left size ≡ short
        → (if is_open then Some left else if short then None else Some size) ≡ Some many →
        AreThere size left many
    go true o short s e = let same : left ≡ many = Prim.cc in
        inl (eqb-true size open_size o, sym same)
    go false o true s e = absurd (Prim.cc)
    go false o false s e =
        let all : size ≡ many = Prim.cc in
        inr (
          (λ same. true≢false (sym (eq-eqb size open_size same) ∙ o)),
          ltb-false left size s,
          sym all,
        )

-- a format that is read has a spelling that is
supported_spelling : (format : List ℕ) → is_supported format ≡ true →
    is_spelling (spelling_of format) ≡ true
supported_spelling format is =
    let size : Bool = length format == 16 || length format == 18 || length format == 40 in
    let align : Bool = little_number 2 (drop 12 format) == frame_size (spelling_of format).channels
    (spelling_of format).bits in
    let all = both (size && is_pcm format && is_spelling (spelling_of format)) align is in
    (both (size && is_pcm format) (is_spelling (spelling_of format)) all.0).1

-- the form of a file that is one, by its parts
by_parts :
    (whole many count : ℕ) (format size left : List ℕ) → is_supported format ≡ true →
    length size ≡ 4
    → AreThere (little_number 4 size) (length left) many
    → many ≡ count * frame_size (spelling_of format).channels (spelling_of format).bits
    → form_by whole (Some format) (Some (size ++ left)) ≡ Ok
    (record { spelling = spelling_of format; start = whole - length left; count = count })
by_parts whole many count format size left supported size_long there whole_frames =
    let s : Spelling = spelling_of format in
    let f : ℕ = frame_size s.channels s.bits in
    let some : 1 ≤ f = some_bytes s (supported_spelling format supported) in
    let number : little_number 4 (size ++ left) ≡ little_number 4 size =
    little_from-append 4 size left (omega (arith, size_long)) in
    let behind : drop 4 (size ++ left) ≡ left = drop_at size left 4 size_long in
    let is_there : samples_there (little_number 4 (size ++ left)) (length (drop 4 (size ++ left)))
    ≡ Some many =
    ap (λ (n : ℕ). samples_there n (length (drop 4 (size ++ left)))) number
    ∙ ap (λ (l : List ℕ). samples_there (little_number 4 size) (length l)) behind
    ∙ there_is (little_number 4 size) (length left) many there in
    let rest : many % f ≡ 0 = ap (λ (n : ℕ). n % f) whole_frames ∙ mul-mod_left count f in
    let counted : many / f ≡ count = ap (λ (n : ℕ). n / f) whole_frames ∙ mul-div_left count some in
    let here : ℕ = whole - length left in
    ap (λ (is : Bool). if is then form_behind whole s (Some (size ++ left)) else Err Unsupported)
    supported
    ∙ ap (λ (t : Option ℕ). form_at s (whole - length (drop 4 (size ++ left))) t) is_there
    ∙ ap (λ (l : List ℕ). form_at s (whole - length l) (Some many)) behind
    ∙ ap (λ (is : Bool). if is then Ok (record { spelling = s; start = here; count = many / f })
    else Err TornFrame) (eq-eqb (many % f) 0 rest)
    ∙ ap (λ (n : ℕ). Ok (record { spelling = s; start = here; count = n })) counted

-- a spelling that is read is a format
spelling_is_format : (s : Spelling) → is_spelling s ≡ true → IsFormat s.channels s.bits
spelling_is_format s is =
    let all = both ((s.channels == 1 || s.channels == 2) && (s.bits == 16 || s.bits == 24)
    && nat_le 1 s.rate) (nat_le s.rate max_rate) is in
    let front = both ((s.channels == 1 || s.channels == 2) && (s.bits == 16 || s.bits == 24))
    (nat_le 1 s.rate) all.0 in
    let tests = both (s.channels == 1 || s.channels == 2) (s.bits == 16 || s.bits == 24) front.0 in
    record {
      one_or_two = either s.channels 1 2 tests.0;
      short_or_long = either s.bits 16 24 tests.1;
    }
  where
    either : (n a b : ℕ) → (n == a || n == b) ≡ true → (n ≡ a) ⊎ (n ≡ b)
    either n a b e = go (n == a) refl (n == b) refl e
      where
        go : (x : Bool) → (n == a) ≡ x → (y : Bool) → (n == b) ≡ y → (x || y) ≡ true → (n ≡ a)
            ⊎ (n ≡ b)
        go true p y q e = inl (eqb-true n a p)
        go false p true q e = inr (eqb-true n b q)
        go false p false q e = absurd (true≢false (sym e))

-- the format of a file that is one, and that its samples are there
pub record IsSized (whole : ℕ) (spelling : Spelling) (start count : ℕ) : Type 0 where
  pub format : IsFormat spelling.channels spelling.bits
  pub within : start + count * frame_size spelling.channels spelling.bits ≤ whole

wav_is_sized : (bytes : List ℕ) (spelling : Spelling) (frames : List Sound)
    (w : IsWav bytes spelling frames)
    → IsSized (length bytes) spelling (length bytes - length w.left) w.count
wav_is_sized bytes spelling frames w =
    let supported = supported_spelling w.format w.supported in
    let format = spelling_is_format (spelling_of w.format) supported in
    let least : length w.left ≤ length bytes =
    omega (
      arith,
      ap length w.spelled,
      length-append (riff_of w.riff_size)
          (chunks_bytes w.chunks ++ (codes "data" ++ (w.size ++ w.left))),
      length-append (chunks_bytes w.chunks) (codes "data" ++ (w.size ++ w.left)),
      length-append (codes "data") (w.size ++ w.left),
      length-append w.size w.left,
    ) in
    let few : w.many ≤ length w.left =
    few_are (little_number 4 w.size) (length w.left) w.many w.are_there in
    record {
      format = subst (λ (s : Spelling). IsFormat s.channels s.bits) (sym w.spelling_is) format;
      within = omega (arith, w.whole, least, few);
    }
  where
    few_are : (size left many : ℕ) → AreThere size left many → many ≤ left
    few_are size left many (inl is) = omega (arith, is.1)
    few_are size left many (inr is) = omega (arith, is.1, is.2)

-- what stands behind a front begins at its length
drop_front : (bytes front left : List ℕ) → bytes ≡ front ++ left →
    drop (length bytes - length left) bytes ≡ left
drop_front bytes front left is =
    let start : length front ≡ length bytes - length left =
    omega (arith, ap length is, length-append front left) in
    ap (drop (length bytes - length left)) is
    ∙ drop_at front left (length bytes - length left) start

-- a file that is one has its form
pub record HasForm (bytes : List ℕ) (spelling : Spelling) (frames : List Sound) : Type 0 where
  pub form : FormOf
  pub form_is : form_of bytes ≡ Ok form
  pub spelling_is : form.spelling ≡ spelling
  pub frames_are : frames ≡ frames_of form bytes
  pub sized : IsSized (length bytes) form.spelling form.start form.count

pub wav_has_form : (bytes : List ℕ) (spelling : Spelling) (frames : List Sound) →
    IsWav bytes spelling frames → HasForm bytes spelling frames
wav_has_form bytes spelling frames w =
    let part : List ℕ = w.size ++ w.left in
    let rest : List ℕ = chunks_bytes w.chunks ++ (codes "data" ++ part) in
    let form : FormOf =
    record { spelling = spelling; start = length bytes - length w.left; count = w.count } in
    let is_front : is_riff bytes ≡ true =
    ap is_riff w.spelled ∙ riff_is w.riff_size rest w.riff_size_is in
    let behind : drop 12 bytes ≡ rest = ap (drop 12) w.spelled
    ∙ drop_at (riff_of w.riff_size) rest 12 (riff_long w.riff_size w.riff_size_is) in
    let few : length w.chunks < length rest =
    omega (
      arith,
      length-chunks w.chunks w.are_chunks,
      length-append (chunks_bytes w.chunks) (codes "data" ++ part),
    ) in
    let walk_is : walk_of (drop 12 bytes) ≡ record {
      format = first_format w.chunks;
      data_part =
          Some part;
    } =
    ap walk_of behind ∙ walked-chunks w.chunks part (length rest) w.are_chunks
    (omega (arith, w.size_is, length-append w.size w.left)) few in
    let frames_whole = subst (λ (s : Spelling). w.many ≡ w.count * frame_size s.channels s.bits)
    w.spelling_is w.whole in
    let found : form_of bytes ≡ Ok
    (record {
      spelling = spelling_of w.format;
      start = length bytes - length w.left;
      count =
          w.count;
    }) =
    ap (λ (is : Bool). if is then form_by (length bytes) (walk_of (drop 12 bytes)).format
    (walk_of (drop 12 bytes)).data_part else Err NotRiff) is_front
    ∙ ap (λ (k : Walk). form_by (length bytes) k.format k.data_part) walk_is
    ∙ ap (λ (f : Option (List ℕ)). form_by (length bytes) f (Some part)) w.format_is
    ∙ by_parts (length bytes) w.many w.count w.format w.size w.left w.supported w.size_is
    w.are_there frames_whole in
    let grouped : bytes
    ≡ (riff_of w.riff_size ++ (chunks_bytes w.chunks ++ (codes "data" ++ w.size))) ++ w.left =
    w.spelled
    ∙ sym (append_assoc (riff_of w.riff_size) (chunks_bytes w.chunks ++ (codes "data" ++ w.size))
    w.left
    ∙ ap (λ (l : List ℕ). riff_of w.riff_size ++ l)
    (append_assoc (chunks_bytes w.chunks) (codes "data" ++ w.size) w.left
    ∙ ap (λ (l : List ℕ). chunks_bytes w.chunks ++ l)
    (append_assoc (codes "data") w.size w.left))) in
    let at = drop_front bytes (riff_of w.riff_size
    ++ (chunks_bytes w.chunks ++ (codes "data" ++ w.size))) w.left grouped in
    record {
      form = form;
      form_is = found ∙ ap
          (λ (s : Spelling).
          Ok (record { spelling = s; start = length bytes - length w.left; count = w.count }))
          (sym w.spelling_is);
      spelling_is = refl;
      frames_are = w.frames_are
          ∙ ap (λ (l : List ℕ). frames_in spelling.channels spelling.bits w.count l) (sym at);
      sized = wav_is_sized bytes spelling frames w;
    }

-- the form of a spelling, over so many bytes of samples behind the size
abbrev pub form_over : List ℕ → Spelling → List ℕ → ℕ → FormOf
form_over bytes s part many =
    record {
      spelling = s;
      start = length bytes - length (drop 4 part);
      count =
          many / frame_size s.channels s.bits;
    }

-- the file that the parts of a form were found of
assembled :
    (bytes format part : List ℕ) (many : ℕ) → is_riff bytes ≡ true →
    (walk_of (drop 12 bytes)).format ≡ Some format
    → (walk_of (drop 12 bytes)).data_part ≡ Some part → is_supported format ≡ true
    → samples_there (little_number 4 part) (length (drop 4 part)) ≡ Some many
    → many % frame_size (spelling_of format).channels (spelling_of format).bits ≡ 0
    → IsWav bytes (spelling_of format)
    (frames_of (form_over bytes (spelling_of format) part many) bytes)
assembled bytes format part many riff format_is part_is supported there rest =
    let s : Spelling = spelling_of format in
    let f : ℕ = frame_size s.channels s.bits in
    let front = riff_found bytes riff in
    let found = walk_found (length (drop 12 bytes)) (drop 12 bytes) part part_is in
    let size : List ℕ = take 4 part in
    let left : List ℕ = drop 4 part in
    let parted : size ++ left ≡ part = take-append-drop 4 part in
    let chunks_are : bytes ≡ riff_of front.0
    ++ (chunks_bytes found.chunks ++ (codes "data" ++ part)) =
    front.2 ∙ ap (λ (l : List ℕ). riff_of front.0 ++ l) found.spelled in
    let spelled : bytes ≡ riff_of front.0
    ++ (chunks_bytes found.chunks ++ (codes "data" ++ (size ++ left))) =
    chunks_are ∙ ap (λ (l : List ℕ). riff_of front.0
    ++ (chunks_bytes found.chunks ++ (codes "data" ++ l))) (sym parted) in
    let grouped : bytes ≡ (riff_of front.0 ++ (chunks_bytes found.chunks ++ (codes "data" ++ size)))
    ++ left =
    spelled
    ∙ sym (append_assoc (riff_of front.0) (chunks_bytes found.chunks ++ (codes "data" ++ size)) left
    ∙ ap (λ (l : List ℕ). riff_of front.0 ++ l)
    (append_assoc (chunks_bytes found.chunks) (codes "data" ++ size) left
    ∙ ap (λ (l : List ℕ). chunks_bytes found.chunks ++ l)
    (append_assoc (codes "data") size left))) in
    let at : drop (length bytes - length left) bytes ≡ left =
    drop_front bytes (riff_of front.0 ++ (chunks_bytes found.chunks ++ (codes "data" ++ size))) left
    grouped in
    let number : little_number 4 size ≡ little_number 4 part =
    little_from-take 0 4 4 part (omega arith) in
    let mod_is : many % f ≡ many - many / f * f = mod-eq-sub-div-mul many f in
    let most : many / f * f ≤ many = div-mul-le_self many f in
    record {
      riff_size = front.0;
      riff_size_is = front.1;
      chunks = found.chunks;
      are_chunks = found.are_chunks;
      size = size;
      size_is = length-take-le 4 part found.long;
      left = left;
      spelled = spelled;
      format = format;
      format_is = found.first ∙ format_is;
      supported = supported;
      spelling_is = refl;
      many = many;
      are_there = subst (λ (n : ℕ). AreThere n (length left) many) (sym number)
          (there_found (little_number 4 part) (length left) many there);
      count = many / f;
      whole = omega (arith, mod_is, most, rest);
      frames_are = ap (λ (l : List ℕ). frames_in s.channels s.bits (many / f) l) at;
    }

-- the same of a form that was found, test by test
exact_is_wav :
    (bytes format part : List ℕ) (many : ℕ) (form : FormOf) → is_riff bytes ≡ true →
    (walk_of (drop 12 bytes)).format ≡ Some format
    → (walk_of (drop 12 bytes)).data_part ≡ Some part → is_supported format ≡ true
    → samples_there (little_number 4 part) (length (drop 4 part)) ≡ Some many
    → form_at (spelling_of format) (length bytes - length (drop 4 part)) (Some many) ≡ Ok form
    → IsWav bytes form.spelling (frames_of form bytes)
exact_is_wav bytes format part many form riff format_is part_is supported there is =
    go (many % f == 0) refl is
  where
    f : ℕ
    f = frame_size (spelling_of format).channels (spelling_of format).bits

    go : (exact : Bool) → (many % f == 0) ≡ exact
        → (if exact then Ok (form_over bytes (spelling_of format) part many) else Err TornFrame)
        ≡ Ok form
        → IsWav bytes form.spelling (frames_of form bytes)
    go false x e = absurd (Prim.cc)
    go true x e =
        let form_is : form_over bytes (spelling_of format) part many ≡ form = Prim.cc in
        subst (λ (k : FormOf). IsWav bytes k.spelling (frames_of k bytes)) form_is
        (assembled bytes format part many riff format_is part_is supported there
        (eqb-true (many % f) 0 x))

part_is_wav :
    (bytes format : List ℕ) (part : Option (List ℕ)) (form : FormOf) → is_riff bytes ≡ true →
    (walk_of (drop 12 bytes)).format ≡ Some format
    → (walk_of (drop 12 bytes)).data_part ≡ part → is_supported format ≡ true
    → form_behind (length bytes) (spelling_of format) part ≡ Ok form →
    IsWav bytes form.spelling (frames_of form bytes)
part_is_wav bytes format None form riff format_is part_is supported is = absurd (Prim.cc)
part_is_wav bytes format (Some part) form riff format_is part_is supported is =
    go (samples_there (little_number 4 part) (length (drop 4 part))) refl is
  where
    go : (t : Option ℕ) → samples_there (little_number 4 part) (length (drop 4 part)) ≡ t
        → form_at (spelling_of format) (length bytes - length (drop 4 part)) t ≡ Ok form →
        IsWav bytes form.spelling (frames_of form bytes)
    go None te e = absurd (Prim.cc)
    go (Some many) te e =
        exact_is_wav bytes format part many form riff format_is part_is supported te e

format_is_wav :
    (bytes : List ℕ) (format : Option (List ℕ)) (form : FormOf) → is_riff bytes ≡ true →
    (walk_of (drop 12 bytes)).format ≡ format
    → form_by (length bytes) format (walk_of (drop 12 bytes)).data_part ≡ Ok form →
    IsWav bytes form.spelling (frames_of form bytes)
format_is_wav bytes None form riff format_is is = absurd (Prim.cc)
format_is_wav bytes (Some format) form riff format_is is = go (is_supported format) refl is
  where
    go : (supported : Bool) → is_supported format ≡ supported
        → (if supported then form_behind (length bytes) (spelling_of format)
        (walk_of (drop 12 bytes)).data_part else Err Unsupported) ≡ Ok form
        → IsWav bytes form.spelling (frames_of form bytes)
    go false s e = absurd (Prim.cc)
    go true s e = part_is_wav bytes format (walk_of (drop 12 bytes)).data_part form riff format_is
        refl s e

-- the file that a form was found of
pub form_is_wav : (bytes : List ℕ) (form : FormOf) → form_of bytes ≡ Ok form →
    IsWav bytes form.spelling (frames_of form bytes)
form_is_wav bytes form is = go (is_riff bytes) refl is
  where
    go : (riff : Bool) → is_riff bytes ≡ riff
        → (if riff then form_by (length bytes) (walk_of (drop 12 bytes)).format
        (walk_of (drop 12 bytes)).data_part else Err NotRiff) ≡ Ok form
        → IsWav bytes form.spelling (frames_of form bytes)
    go false r e = absurd (Prim.cc)
    go true r e = format_is_wav bytes (walk_of (drop 12 bytes)).format form r refl e

-- no file is what has a fault
pub fault_is_no_wav :
    (bytes : List ℕ) (fault : WavFault) → form_of bytes ≡ Err fault →
    (spelling : Spelling) (frames : List Sound) → ¬ IsWav bytes spelling frames
fault_is_no_wav bytes fault is spelling frames w =
    let has = wav_has_form bytes spelling frames w in
    let both_are : Ok has.form ≡ Err fault = sym has.form_is ∙ is in
    Prim.cc

-- what the code tells of a form, and of a fault
pub seen_is_wav :
    (bytes : List ℕ) (r : Result WavForm WavFault) → seen_form r ≡ form_of bytes
    → IfOk r (λ form. IsWav bytes (form_spelling form)
    (frames_in form.channels form.bits form.count (drop form.start bytes)))
seen_is_wav bytes (Ok form) is = form_is_wav bytes _ (sym is)
seen_is_wav bytes (Err fault) is = tt

pub seen_is_no_wav :
    (bytes : List ℕ) (r : Result WavForm WavFault) → seen_form r ≡ form_of bytes
    → IfErr r (λ _. (spelling : Spelling) (frames : List Sound) → ¬ IsWav bytes spelling frames)
seen_is_no_wav bytes (Ok form) is = tt
seen_is_no_wav bytes (Err fault) is = fault_is_no_wav bytes fault (sym is)

-- a form that was found has a format, and its samples are there
form_is_sized : (bytes : List ℕ) (form : FormOf) → form_of bytes ≡ Ok form →
    IsSized (length bytes) form.spelling form.start form.count
form_is_sized bytes form is =
    let has = wav_has_form bytes form.spelling (frames_of form bytes) (form_is_wav bytes form is) in
    let both_are : Ok has.form ≡ Ok form = sym has.form_is ∙ is in
    let same : has.form ≡ form = Prim.cc in
    subst (λ (k : FormOf). IsSized (length bytes) k.spelling k.start k.count) same has.sized

pub seen_within :
    (bytes : List ℕ) (r : Result WavForm WavFault) → seen_form r ≡ form_of bytes
    → IfOk r (λ form. form.start + form.count * frame_size form.channels form.bits ≤ length bytes)
seen_within bytes (Ok form) is = (form_is_sized bytes _ (sym is)).within
seen_within bytes (Err fault) is = tt

pub seen_format :
    (bytes : List ℕ) (r : Result WavForm WavFault) → seen_form r ≡ form_of bytes →
    IfOk r (λ form. IsFormat form.channels form.bits)
seen_format bytes (Ok form) is = (form_is_sized bytes _ (sym is)).format
seen_format bytes (Err fault) is = tt
