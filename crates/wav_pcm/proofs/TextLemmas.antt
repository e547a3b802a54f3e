-- A text that is written is a WAV file that is read.
use Rattle.std.proofs.Common.{◌≡◌, ◌≤◌, ◌<◌, ℕ, ◌+◌, ◌*◌, ◌%◌, ◌==◌, ◌&&◌, ◌||◌, List, [], ◌∷◌, ◌++◌, length, drop, map, Some, Bool, true, false, true≢false, refl, sym, ap, ◌∙◌, subst, arith, codes, if◌then◌else◌, ◌⊎◌, inl, inr, length-append}
use Rattle.std.specs.Prelude.{Ok, Err}
use Rattle.std.specs.List.{AllByRecursion}
use Rattle.std.proofs.lemmas.Bool.{eq-eqb, le-leb}
use Rattle.std.proofs.lemmas.Slice.Eq.{bytes_eq-Decides}
use Rattle.std.proofs.Math.Nat.{mul-le-mul}
use Rattle.byteorder.specs.Endian.{little_number, little_bytes}
use Rattle.byteorder.specs.Numbers.{little_number-reads_back}
use Rattle.sl_base.specs.Limits.{max_rate, max_file_frames}
use Rattle.sl_base.specs.Sounds.{IsFrame, Sound}
use Rattle.wav_pcm.specs.declared.fault.WavFault.TheVariants.{NotRiff, Unsupported}
use Rattle.wav_pcm.specs.WavText.{IsFormat, frame_size, samples, samples_size, padding, wav_text}
use Rattle.wav_pcm.specs.Kept.{kept}
use Rattle.wav_pcm.specs.Reading.{Spelling, FormOf, Walk, is_riff, walk_of, is_spelling, is_supported, spelling_of, form_behind, form_by, form_of}
use Rattle.wav_pcm.specs.Files.{Chunk, IsChunk, chunks_bytes, first_format, riff_of, AreThere, IsWav}
use Rattle.wav_pcm.proofs.WavTextLemmas.{frame_size_within, length-samples}
use Rattle.wav_pcm.proofs.ChunkLemmas.{walked-chunks}
use Rattle.wav_pcm.proofs.FormLemmas.{riff_is, riff_long, wav_has_form, frames_of}
use Rattle.wav_pcm.proofs.FrameLemmas.{frames_in-samples}
use Rattle.std.proofs.lemmas.List.{drop_at}

-- the body of the format chunk
abbrev body_of : ℕ → ℕ → ℕ → List ℕ
body_of channels bits rate =
    little_bytes 2 1 ++ (little_bytes 2 channels ++ (little_bytes 4 rate
    ++ (little_bytes 4 (rate * frame_size channels bits)
    ++ (little_bytes 2 (frame_size channels bits) ++ little_bytes 2 bits))))

-- the format chunk
abbrev format_of : ℕ → ℕ → ℕ → Chunk
format_of channels bits rate =
    record {
      name = codes "fmt ";
      size = little_bytes 4 16;
      body = body_of channels bits rate;
      pad =
          [];
    }

format_is_chunk : (channels bits rate : ℕ) → IsChunk (format_of channels bits rate)
format_is_chunk channels bits rate =
    record {
      name_is = refl;
      not_data =
          λ same. true≢false (sym ((bytes_eq-Decides (codes "fmt ") (codes "data")).1 same));
      size_is = refl;
      body_is = refl;
      pad_is = refl;
    }

-- the numbers of a format are small
small : (channels bits : ℕ) → IsFormat channels bits → (channels < 65536) × (bits < 65536)
small channels bits format = (first format.one_or_two, second format.short_or_long)
  where
    first : (channels ≡ 1) ⊎ (channels ≡ 2) → channels < 65536
    first (inl e) = omega (arith, e)
    first (inr e) = omega (arith, e)

    second : (bits ≡ 16) ⊎ (bits ≡ 24) → bits < 65536
    second (inl e) = omega (arith, e)
    second (inr e) = omega (arith, e)

-- the spelling of a format that was written
spelling_of-body : (channels bits rate : ℕ) → IsFormat channels bits → rate ≤ max_rate
    → spelling_of (body_of channels bits rate) ≡ record {
      rate = rate;
      channels = channels;
      bits =
          bits;
    }
spelling_of-body channels bits rate format within =
    let few = small channels bits format in
    let size : List ℕ = little_bytes 2 (frame_size channels bits) ++ little_bytes 2 bits in
    let after_rate : List ℕ = little_bytes 4 (rate * frame_size channels bits) ++ size in
    let rate_is : little_number 4 (drop 4 (body_of channels bits rate)) ≡ rate =
    little_number-reads_back 4 rate after_rate (omega (arith, within)) in
    let channels_is : little_number 2 (drop 2 (body_of channels bits rate)) ≡ channels =
    little_number-reads_back 2 channels (little_bytes 4 rate ++ after_rate)
    (omega (arith, few.0)) in
    let bits_is : little_number 2 (drop 14 (body_of channels bits rate)) ≡ bits =
    little_number-reads_back 2 bits [] (omega (arith, few.1)) in
    ap (λ (r : ℕ). record {
      rate = r;
      channels =
          little_number 2 (drop 2 (body_of channels bits rate));
      bits =
          little_number 2 (drop 14 (body_of channels bits rate));
    }) rate_is
    ∙ ap (λ (c : ℕ). record {
      rate = rate;
      channels = c;
      bits =
          little_number 2 (drop 14 (body_of channels bits rate));
    }) channels_is
    ∙ ap (λ (b : ℕ). record { rate = rate; channels = channels; bits = b }) bits_is

-- whether a format that was written is one that is read: by its spelling alone
is_supported-body : (channels bits rate : ℕ) → IsFormat channels bits → rate ≤ max_rate
    → is_supported (body_of channels bits rate) ≡ is_spelling
    (record { rate = rate; channels = channels; bits = bits })
is_supported-body channels bits rate format within =
    let s : Spelling = record { rate = rate; channels = channels; bits = bits } in
    let f : ℕ = frame_size channels bits in
    let most : f ≤ 6 = frame_size_within channels bits format in
    let align : little_number 2 (drop 12 (body_of channels bits rate)) ≡ f =
    little_number-reads_back 2 f (little_bytes 2 bits) (omega (arith, most)) in
    ap (λ (t : Spelling). is_spelling t
    && (little_number 2 (drop 12 (body_of channels bits rate)) == frame_size t.channels t.bits))
    (spelling_of-body channels bits rate format within)
    ∙ ap (λ (n : ℕ). is_spelling s && (n == f)) align
    ∙ ap (λ (same : Bool). is_spelling s && same) (eq-eqb f f refl)
    ∙ and_true (is_spelling s)
  where
    and_true : (b : Bool) → (b && true) ≡ b
    and_true true = refl
    and_true false = refl

-- a spelling in a format at a rate
spelled : (channels bits rate : ℕ) → IsFormat channels bits → 1 ≤ rate → rate ≤ max_rate
    → is_spelling (record { rate = rate; channels = channels; bits = bits }) ≡ true
spelled channels bits rate format least within =
    rw (le-leb 1 rate least, le-leb rate max_rate within)
    (go format.one_or_two format.short_or_long)
  where
    go : (channels ≡ 1) ⊎ (channels ≡ 2) → (bits ≡ 16) ⊎ (bits ≡ 24)
        → (((channels == 1 || channels == 2) && (bits == 16 || bits == 24)) && true && true) ≡ true
    go (inl c) (inl b) = rw (c, b) refl
    go (inl c) (inr b) = rw (c, b) refl
    go (inr c) (inl b) = rw (c, b) refl
    go (inr c) (inr b) = rw (c, b) refl

-- the samples of a file are fewer bytes than the size that means all that is left
size_within : (count channels bits : ℕ) → IsFormat channels bits → count ≤ max_file_frames →
    samples_size count channels bits ≤ 805306368
size_within count channels bits format few =
    let one = frame_size_within channels bits format in
    let all : samples_size count channels bits ≤ max_file_frames * 6 = mul-le-mul few one in
    omega (arith, all)

-- what is written is read again, as far as its form keeps it
pub text_is_wav :
    (frames : List Sound) (channels bits rate : ℕ) → IsFormat channels bits →
    AllByRecursion IsFrame frames
    → length frames ≤ max_file_frames → 1 ≤ rate → rate ≤ max_rate
    → IsWav (wav_text frames channels bits rate)
    (record { rate = rate; channels = channels; bits = bits }) (map (kept channels bits) frames)
text_is_wav frames channels bits rate format within few least most =
    let size : ℕ = samples_size (length frames) channels bits in
    let left : List ℕ = samples channels bits frames ++ padding size in
    let short : size ≤ 805306368 = size_within (length frames) channels bits format few in
    let number : little_number 4 (little_bytes 4 size) ≡ size =
    little_number-reads_back 4 size [] (omega (arith, short)) in
    let there : AreThere size (length left) size =
    inr (
      (λ same. absurd (omega (arith, short, same))),
      omega (
        arith,
        length-append (samples channels bits frames) (padding size),
        length-samples channels bits frames format,
      ),
      refl,
    ) in
    record {
      riff_size = little_bytes 4 (36 + size + size % 2);
      riff_size_is = refl;
      chunks = format_of channels bits rate ∷ [];
      are_chunks = (format_is_chunk channels bits rate, tt);
      size = little_bytes 4 size;
      size_is = refl;
      left = left;
      spelled = refl;
      format = body_of channels bits rate;
      format_is = refl;
      supported = is_supported-body channels bits rate format most
          ∙ spelled channels bits rate format least most;
      spelling_is = sym (spelling_of-body channels bits rate format most);
      many = size;
      are_there = subst (λ (n : ℕ). AreThere n (length left) size) (sym number) there;
      count = length frames;
      whole = refl;
      frames_are = sym (frames_in-samples channels bits frames (padding size) format within);
    }

-- a file has one reading
pub one_wav :
    (bytes : List ℕ) (spelling other : Spelling) (frames others : List Sound) →
    IsWav bytes spelling frames → IsWav bytes other others
    → (spelling ≡ other) × (frames ≡ others)
one_wav bytes spelling other frames others first second =
    let a = wav_has_form bytes spelling frames first in
    let b = wav_has_form bytes other others second in
    let both_are : Ok a.form ≡ Ok b.form = sym a.form_is ∙ b.form_is in
    let same : a.form ≡ b.form = Prim.cc in (
      sym a.spelling_is ∙ ap (λ (f : FormOf). f.spelling) same ∙ b.spelling_is,
      a.frames_are ∙ ap (λ (f : FormOf). frames_of f bytes) same ∙ sym b.frames_are,
    )

-- at rate 0 what is written isn't supported
pub rate_0 :
    (frames : List Sound) (channels bits : ℕ) → IsFormat channels bits →
    form_of (wav_text frames channels bits 0) ≡ Err Unsupported
rate_0 frames channels bits format =
    let size : ℕ = samples_size (length frames) channels bits in
    let riff_size : List ℕ = little_bytes 4 (36 + size + size % 2) in
    let part : List ℕ = little_bytes 4 size ++ (samples channels bits frames ++ padding size) in
    let cs : List Chunk = format_of channels bits 0 ∷ [] in
    let rest : List ℕ = chunks_bytes cs ++ (codes "data" ++ part) in
    let bytes : List ℕ = wav_text frames channels bits 0 in
    let parted : bytes ≡ riff_of riff_size ++ rest = refl in
    let front : is_riff bytes ≡ true = ap is_riff parted ∙ riff_is riff_size rest refl in
    let behind : drop 12 bytes ≡ rest =
    ap (drop 12) parted ∙ drop_at (riff_of riff_size) rest 12 (riff_long riff_size refl) in
    let walk_is : walk_of (drop 12 bytes) ≡ record {
      format = first_format cs;
      data_part =
          Some part;
    } =
    ap walk_of behind ∙ walked-chunks cs part (length rest) (format_is_chunk channels bits 0, tt)
    (omega arith) (omega arith) in
    let unspelled : is_spelling (record { rate = 0; channels = channels; bits = bits }) ≡ false =
    none ((channels == 1 || channels == 2) && (bits == 16 || bits == 24)) in
    ap (λ (is : Bool). if is then form_by (length bytes) (walk_of (drop 12 bytes)).format
    (walk_of (drop 12 bytes)).data_part else Err NotRiff) front
    ∙ ap (λ (k : Walk). form_by (length bytes) k.format k.data_part) walk_is
    ∙ ap (λ (is : Bool). if is then
    form_behind (length bytes) (spelling_of (body_of channels bits 0)) (Some part) else
    Err Unsupported)
    (is_supported-body channels bits 0 format (omega arith) ∙ unspelled)
  where
    none : (b : Bool) → ((b && false) && true) ≡ false
    none true = refl
    none false = refl
