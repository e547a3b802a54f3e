-- Frames read from samples.
use Rattle.std.proofs.Common.{◌≡◌, ◌≢◌, ◌≤◌, ◌<◌, ℕ, suc, ◌+◌, ◌-◌, ◌*◌, ◌/◌, ◌^◌, ◌==◌, List, [], ◌∷◌, ◌++◌, length, take, drop, map, set, Bool, true, false, refl, sym, ap, ◌∙◌, subst, ◌⊎◌, arith, inl, inr, if◌then◌else◌}
use Rattle.std.specs.Prelude.{ℤ, pos, negsuc, ◌-ℤ◌}
use Rattle.std.specs.List.{AllByRecursion}
use Rattle.std.specs.Int.{w16, cast_signed}
use Rattle.std.proofs.lemmas.Bool.{eqb-true, lt-ltb}
use Rattle.std.proofs.lemmas.Int.{ints}
use Rattle.std.proofs.lemmas.List.{append_assoc, drop-drop, drop_at, take_more_set}
use Rattle.byteorder.specs.Endian.{twos_complement}
use Rattle.byteorder.specs.Numbers.{little_from-append, little_number-reads_back}
use Rattle.sl_base.specs.Arithmetic.{IsSample, widened}
use Rattle.sl_base.specs.Sounds.{IsFrame, Sound, both}
use Rattle.wav_pcm.specs.WavText.{IsFormat, frame_size, sample_bytes, frame_bytes, samples, twos_complement as bits_of}
use Rattle.wav_pcm.specs.Kept.{kept, kept_sample}
use Rattle.wav_pcm.specs.Samples.{sample_at, frame_at, frames_in}
use Rattle.wav_pcm.proofs.WavTextLemmas.{length-frame_bytes, length-sample_bytes}
use Rattle.wav_pcm.proofs.SampleLemmas.{sample_of-bytes}
use Rattle.wav_pcm.proofs.ChunkLemmas.{not_below}

-- numbers that differ are told apart
pub other_than : (n m : ℕ) → n ≢ m → (n == m) ≡ false
other_than n m differ = go (n == m) refl
  where
    go : (is : Bool) → (n == m) ≡ is → (n == m) ≡ false
    go false e = e
    go true e = absurd (differ (eqb-true n m e))

-- a frame of two channels, side by side
pub frame_of_two :
    (channels bits : ℕ) (bytes behind : List ℕ) (left right : ℤ) (frame : Sound) → channels ≢ 1 →
    left ≡ sample_at bits bytes
    → behind ≡ drop (bits / 8) bytes → right ≡ sample_at bits behind →
    frame ≡ record { left = left; right = right }
    → frame ≡ frame_at channels bits bytes
frame_of_two channels bits bytes behind left right frame two left_is behind_is right_is frame_is =
    frame_is
    ∙ ap (λ (l : ℤ). record { left = l; right = right }) left_is
    ∙ ap (λ (r : ℤ). record { left = sample_at bits bytes; right = r })
    (right_is ∙ ap (sample_at bits) behind_is)
    ∙ sym (ap (λ (one : Bool). if one then both (sample_at bits bytes) else
    record { left = sample_at bits bytes; right = sample_at bits (drop (bits / 8) bytes) })
    (other_than channels 1 two))

-- one frame more is read over those that stood there
pub frames_in-more_set :
    (channels bits count place : ℕ) (bytes : List ℕ) (frames whole : List Sound) (frame : Sound) →
    place < length frames
    → length frames ≡ count →
    frame ≡ frame_at channels bits (drop (place * frame_size channels bits) bytes)
    → take place frames ++ frames_in channels bits (count - place)
    (drop (place * frame_size channels bits) bytes) ≡ whole
    → take (place + 1) (set frames place frame) ++ frames_in channels bits (count - (place + 1))
    (drop ((place + 1) * frame_size channels bits) bytes) ≡ whole
frames_in-more_set channels bits count place bytes frames whole frame there long frame_is so_far =
    let size : ℕ = frame_size channels bits in
    let at : List ℕ = drop (place * size) bytes in
    let left : count - place ≡ suc (count - (place + 1)) = omega (arith, there, long) in
    let next : drop size at ≡ drop ((place + 1) * size) bytes =
    drop-drop size (place * size) bytes ∙ ap (λ (n : ℕ). drop n bytes) (grind arith) in
    let rest : frames_in channels bits (count - place) at ≡ frame
    ∷ frames_in channels bits (count - (place + 1)) (drop ((place + 1) * size) bytes) =
    ap (λ (n : ℕ). frames_in channels bits n at) left
    ∙ ap (λ (f : Sound). f ∷ frames_in channels bits (count - (place + 1)) (drop size at))
    (sym frame_is)
    ∙ ap (λ (l : List ℕ). frame ∷ frames_in channels bits (count - (place + 1)) l) next in
    ap (λ (l : List Sound). l ++ frames_in channels bits (count - (place + 1))
    (drop ((place + 1) * size) bytes)) (take_more_set frames place frame there)
    ∙ append_assoc (take place frames) (frame ∷ [])
    (frames_in channels bits (count - (place + 1)) (drop ((place + 1) * size) bytes))
    ∙ ap (λ (l : List Sound). take place frames ++ l) (sym rest)
    ∙ so_far

-- a sample of 24 bits that was written is read
signed_24 : (sample : ℤ) → IsSample sample → twos_complement 3 (bits_of 24 sample) ≡ sample
signed_24 (pos n) within =
    let fits : n < 8388608 = omega (arith, ints, within.1) in
    ap (λ (low : Bool). if low then pos n else pos n -ℤ pos 16777216) (lt-ltb n 8388608 fits)
signed_24 (negsuc n) within =
    let fits : n < 8388608 = omega (arith, ints, within.0) in
    let high : 8388608 ≤ 16777216 - suc n = omega (arith, fits) in
    let back : pos (16777216 - suc n) -ℤ pos 16777216 ≡ negsuc n = omega (arith, ints, fits) in
    ap (λ (low : Bool). if low then pos (16777216 - suc n) else
    pos (16777216 - suc n) -ℤ pos 16777216) (not_below (16777216 - suc n) 8388608 high)
    ∙ back

-- its bits are a number of three bytes
bits_of_24 : (sample : ℤ) → IsSample sample → bits_of 24 sample < 2 ^ 24
bits_of_24 (pos n) within = omega (arith, ints, within.1)
bits_of_24 (negsuc n) within = omega arith

-- a sample that was written is read as far as its bits keep it
sample_at-bytes :
    (bits : ℕ) (sample : ℤ) (rest : List ℕ) → (bits ≡ 16) ⊎ (bits ≡ 24) → IsSample sample
    → sample_at bits (sample_bytes bits sample ++ rest) ≡ kept_sample bits sample
sample_at-bytes bits sample rest (inl short) within =
    subst (λ (b : ℕ). sample_at b (sample_bytes b sample ++ rest) ≡ kept_sample b sample)
    (sym short)
    (ap (λ (n : ℕ). widened (cast_signed w16 n))
    (little_from-append 2 (sample_bytes 16 sample) rest (omega arith))
    ∙ ap widened (sample_of-bytes sample within))
sample_at-bytes bits sample rest (inr long) within =
    subst (λ (b : ℕ). sample_at b (sample_bytes b sample ++ rest) ≡ kept_sample b sample) (sym long)
    (ap (twos_complement 3)
    (little_number-reads_back 3 (bits_of 24 sample) rest (bits_of_24 sample within))
    ∙ signed_24 sample within)

-- a frame that was written is read as far as its form keeps it
frame_at-bytes :
    (channels bits : ℕ) (frame : Sound) (rest : List ℕ) → IsFormat channels bits → IsFrame frame
    → frame_at channels bits (frame_bytes channels bits frame ++ rest) ≡ kept channels bits frame
frame_at-bytes channels bits frame rest format within = go (channels == 1)
  where
    left : List ℕ
    left = sample_bytes bits frame.left

    right : List ℕ
    right = sample_bytes bits frame.right

    go : (one : Bool)
        → (if one then both (sample_at bits ((if one then left else left ++ right) ++ rest))
        else record {
          left = sample_at bits ((if one then left else left ++ right) ++ rest);
          right =
              sample_at bits (drop (bits / 8) ((if one then left else left ++ right) ++ rest));
        })
        ≡ (if one then both (kept_sample bits frame.left) else
        record { left = kept_sample bits frame.left; right = kept_sample bits frame.right })
    go true = ap both (sample_at-bytes bits frame.left rest format.short_or_long within.0)
    go false =
        let grouped : (left ++ right) ++ rest ≡ left ++ (right ++ rest) =
        append_assoc left right rest in
        let first = ap (sample_at bits) grouped
        ∙ sample_at-bytes bits frame.left (right ++ rest) format.short_or_long within.0 in
        let second =
        ap (λ (l : List ℕ). sample_at bits (drop (bits / 8) l)) grouped
        ∙ ap (sample_at bits)
        (drop_at left (right ++ rest) (bits / 8)
        (length-sample_bytes channels bits frame.left format))
        ∙ sample_at-bytes bits frame.right rest format.short_or_long within.1 in
        ap (λ (l : ℤ). record {
          left = l;
          right =
              sample_at bits (drop (bits / 8) ((left ++ right) ++ rest));
        }) first
        ∙ ap (λ (r : ℤ). record { left = kept_sample bits frame.left; right = r }) second

-- frames that were written are read as far as their form keeps them
pub frames_in-samples :
    (channels bits : ℕ) (frames : List Sound) (rest : List ℕ) → IsFormat channels bits →
    AllByRecursion IsFrame frames
    → frames_in channels bits (length frames) (samples channels bits frames ++ rest) ≡ map
    (kept channels bits) frames
frames_in-samples channels bits [] rest format within = refl
frames_in-samples channels bits (frame ∷ frames) rest format within =
    let bytes : List ℕ = frame_bytes channels bits frame in
    let behind : List ℕ = samples channels bits frames ++ rest in
    let grouped : samples channels bits (frame ∷ frames) ++ rest ≡ bytes ++ behind =
    append_assoc bytes (samples channels bits frames) rest in
    ap (λ (l : List ℕ). frame_at channels bits l
    ∷ frames_in channels bits (length frames) (drop (frame_size channels bits) l)) grouped
    ∙ ap (λ (f : Sound). f
    ∷ frames_in channels bits (length frames) (drop (frame_size channels bits) (bytes ++ behind)))
    (frame_at-bytes channels bits frame behind format within.0)
    ∙ ap (λ (l : List ℕ). kept channels bits frame ∷ frames_in channels bits (length frames) l)
    (drop_at bytes behind (frame_size channels bits)
    (length-frame_bytes channels bits frame format))
    ∙ ap (λ (l : List Sound). kept channels bits frame ∷ l)
    (frames_in-samples channels bits frames rest format within.1)
