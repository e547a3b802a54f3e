-- Frames that are read a span after another are those of the whole input.
use Rattle.std.proofs.Common.{◌≡◌, ℕ, zero, suc, ◌+◌, ◌-◌, ◌*◌, ◌≤◌, ◌&&◌, true, List, ◌∷◌, ◌++◌, length, take, drop, refl, sym, ap, ap₂, ◌∙◌, arith}
use Rattle.std.specs.Prelude.{◌==◌, ◌||◌, nat_le}
use Rattle.std.proofs.lemmas.Bool.{and_parts, leb-true}
use Rattle.std.proofs.lemmas.List.{length-take-le, length-drop, drop-drop}
use Rattle.std.proofs.Math.Seq.{take-add}
use Rattle.std.proofs.Math.Nat.{mul-le-mul_left}
use Rattle.sl_base.specs.Limits.{max_rate}
use Rattle.sl_base.specs.Sounds.{Sound}
use Rattle.wav_pcm.specs.WavText.{frame_size}
use Rattle.wav_pcm.specs.Samples.{frame_at, frames_in}
use Rattle.wav_pcm.specs.Reading.{Spelling, is_spelling, spelling_of, is_pcm}
use Rattle.wav_pcm.specs.Files.{IsWav}
use Rattle.wav_pcm.specs.Inputs.{span_of}

-- how many frames are read
pub length-frames_in : (channels bits count : ℕ) (bytes : List ℕ) →
    length (frames_in channels bits count bytes) ≡ count
length-frames_in channels bits zero bytes = refl
length-frames_in channels bits (suc n) bytes =
    ap suc (length-frames_in channels bits n (drop (frame_size channels bits) bytes))

-- so many frames of more
front_of_frames : (channels bits n count : ℕ) (bytes : List ℕ) → n ≤ count →
    frames_in channels bits n bytes ≡ take n (frames_in channels bits count bytes)
front_of_frames channels bits zero count bytes within = refl
front_of_frames channels bits (suc n) zero bytes within = absurd (omega arith)
front_of_frames channels bits (suc n) (suc count) bytes within =
    ap (λ fs. frame_at channels bits bytes ∷ fs)
    (front_of_frames channels bits n count (drop (frame_size channels bits) bytes) (omega arith))

-- the frames from a place on
frames_from : (channels bits from count : ℕ) (bytes : List ℕ) → from ≤ count →
    drop from (frames_in channels bits count bytes) ≡ frames_in channels bits (count - from)
    (drop (from * frame_size channels bits) bytes)
frames_from channels bits zero count bytes within =
    let all : count ≡ count - 0 = omega arith in
    let none : 0 ≡ 0 * frame_size channels bits = omega arith in
    ap₂ (λ (n m : ℕ). frames_in channels bits n (drop m bytes)) all none
frames_from channels bits (suc from) zero bytes within = absurd (omega arith)
frames_from channels bits (suc from) (suc count) bytes within =
    let size = frame_size channels bits in
    let less : count - from ≡ suc count - suc from = omega arith in
    frames_from channels bits from count (drop size bytes) (omega arith)
    ∙ ap₂ (λ (n : ℕ) (b : List ℕ). frames_in channels bits n b) less
    (drop-drop (from * size) size bytes ∙ ap (λ n. drop n bytes)
    (let same : size + from * size ≡ suc from * size = omega arith in same))

-- a span of them
pub span_read :
    (channels bits start count from n : ℕ) (bytes : List ℕ) → from + n ≤ count →
    frames_in channels bits n (drop (start + from * frame_size channels bits) bytes) ≡ span_of from
    n (frames_in channels bits count (drop start bytes))
span_read channels bits start count from n bytes within =
    let size = frame_size channels bits in
    ap (frames_in channels bits n) (sym (drop-drop (from * size) start bytes))
    ∙ front_of_frames channels bits n (count - from) (drop (from * size) (drop start bytes))
    (omega arith)
    ∙ ap (take n) (sym (frames_from channels bits from count (drop start bytes) (omega arith)))

-- the rate of a file that is read
pub form_rate : (bytes : List ℕ) (spelling : Spelling) (frames : List Sound) →
    IsWav bytes spelling frames → (1 ≤ spelling.rate) × (spelling.rate ≤ max_rate)
form_rate bytes spelling frames w =
    let s = spelling_of w.format in
    let spelled : is_spelling s ≡ true =
    (and_parts _ (is_spelling s)
    (and_parts (((length w.format == 16 || length w.format == 18 || length w.format == 40)
    && is_pcm w.format) && is_spelling s) _ w.supported).0).1 in
    let top = and_parts _ (nat_le s.rate max_rate) spelled in
    let low = and_parts _ (nat_le 1 s.rate) top.0 in
    let same : spelling.rate ≡ s.rate = ap (λ (t : Spelling). t.rate) w.spelling_is in
    let least : 1 ≤ s.rate = leb-true 1 s.rate low.1 in
    let most : s.rate ≤ max_rate = leb-true s.rate max_rate top.1 in
    (omega arith, omega arith)

-- a span and the one behind it
pub span_more : (from a b : ℕ) (xs : List Sound) →
    span_of from (a + b) xs ≡ span_of from a xs ++ span_of (from + a) b xs
span_more from a b xs = take-add a b (drop from xs)
    ∙ ap (λ ys. take a (drop from xs) ++ take b ys) (drop-drop a from xs)

-- the samples of a place lie within those of all
pub within_all : (start count size from len : ℕ) → start + count * size ≤ len → from ≤ count →
    start + from * size ≤ len
within_all start count size from len all before = let less : size * from ≤ size * count =
    mul-le-mul_left size before in omega arith
