-- Samples that are cut in two are read and written one cut after the other.
use Rattle.std.proofs.Common.{◌≡◌, ◌≤◌, ℕ, zero, suc, ◌+◌, ◌*◌, ◌/◌, List, [], ◌∷◌, ◌++◌, length, drop, refl, sym, ap, ap₂, ◌∙◌, subst, ◌⊎◌, arith, inl, inr}
use Rattle.std.specs.Prelude.{ℤ}
use Rattle.std.specs.Int.{w16, cast_signed}
use Rattle.std.proofs.lemmas.List.{length-drop}
use Rattle.byteorder.specs.Endian.{twos_complement}
use Rattle.byteorder.specs.Numbers.{little_from-append}
use Rattle.sl_base.specs.Arithmetic.{widened}
use Rattle.sl_base.specs.Sounds.{Sound, both}
use Rattle.wav_pcm.specs.WavText.{IsFormat, frame_size, samples_size}
use Rattle.wav_pcm.specs.Samples.{sample_at, frame_at, frames_in}

-- what is cut off within the first of two lists
drop-append_first : (n : ℕ) (xs ys : List ℕ) → n ≤ length xs → drop n (xs ++ ys) ≡ drop n xs ++ ys
drop-append_first zero xs ys within = refl
drop-append_first (suc n) [] ys within = absurd (omega arith)
drop-append_first (suc n) (x ∷ xs) ys within = drop-append_first n xs ys (omega arith)

-- a sample stands in its own bytes
sample_at-append : (bits : ℕ) (bytes rest : List ℕ) → (bits ≡ 16) ⊎ (bits ≡ 24) →
    bits / 8 ≤ length bytes → sample_at bits (bytes ++ rest) ≡ sample_at bits bytes
sample_at-append bits bytes rest (inl short) room =
    subst (λ (b : ℕ). b / 8 ≤ length bytes → sample_at b (bytes ++ rest) ≡ sample_at b bytes)
    (sym short)
    (λ fits. ap (λ (n : ℕ). widened (cast_signed w16 n)) (little_from-append 2 bytes rest fits))
    room
sample_at-append bits bytes rest (inr long) room =
    subst (λ (b : ℕ). b / 8 ≤ length bytes → sample_at b (bytes ++ rest) ≡ sample_at b bytes)
    (sym long)
    (λ fits. ap (twos_complement 3) (little_from-append 3 bytes rest fits))
    room

-- so does a frame
frame_at-append : (channels bits : ℕ) (bytes rest : List ℕ) → IsFormat channels bits →
    frame_size channels bits ≤ length bytes →
    frame_at channels bits (bytes ++ rest) ≡ frame_at channels bits bytes
frame_at-append channels bits bytes rest format room = go format.one_or_two
  where
    go : (channels ≡ 1) ⊎ (channels ≡ 2) →
        frame_at channels bits (bytes ++ rest) ≡ frame_at channels bits bytes
    go (inl one) =
        let fits : bits / 8 ≤ length bytes = (let size = ap (λ c. c * (bits / 8)) one in
        omega (arith, room)) in
        subst (λ c. frame_at c bits (bytes ++ rest) ≡ frame_at c bits bytes) (sym one)
        (ap both (sample_at-append bits bytes rest format.short_or_long fits))
    go (inr two) =
        let both_fit : bits / 8 + bits / 8 ≤ length bytes =
        (let size = ap (λ c. c * (bits / 8)) two in omega (arith, room)) in
        let fits : bits / 8 ≤ length bytes = omega (arith, both_fit) in
        let behind : drop (bits / 8) (bytes ++ rest) ≡ drop (bits / 8) bytes ++ rest =
        drop-append_first (bits / 8) bytes rest fits in
        let left = sample_at-append bits bytes rest format.short_or_long fits in
        let right = ap (sample_at bits) behind
        ∙ sample_at-append bits (drop (bits / 8) bytes) rest format.short_or_long
        (let long = length-drop (bits / 8) bytes in omega (arith, both_fit, long)) in
        subst (λ c. frame_at c bits (bytes ++ rest) ≡ frame_at c bits bytes) (sym two)
        (ap₂ (λ (l r : ℤ). record { left = l; right = r }) left right)

-- frames are read cut by cut
pub frames_in-append : (channels bits count more : ℕ) (front rest : List ℕ) →
    IsFormat channels bits → length front ≡ samples_size count channels bits →
    frames_in channels bits (count + more) (front ++ rest)
    ≡ frames_in channels bits count front ++ frames_in channels bits more rest
frames_in-append channels bits zero more [] rest format long =
    let none : 0 + more ≡ more = omega arith in ap (λ n. frames_in channels bits n rest) none
frames_in-append channels bits zero more (b ∷ front) rest format long = absurd (omega arith)
frames_in-append channels bits (suc n) more front rest format long =
    let size = frame_size channels bits in
    let room : size ≤ length front = omega (arith, long) in
    let first = frame_at-append channels bits front rest format room in
    let cut = drop-append_first size front rest room in
    let left : length (drop size front) ≡ samples_size n channels bits =
    (let less = length-drop size front in omega (arith, long, less)) in
    let next : suc n + more ≡ suc (n + more) = omega arith in
    ap (λ k. frames_in channels bits k (front ++ rest)) next
    ∙ ap₂ (λ (f : Sound) (b : List ℕ). f ∷ frames_in channels bits (n + more) b) first cut
    ∙ ap (λ (fs : List Sound). frame_at channels bits front ∷ fs)
    (frames_in-append channels bits n more (drop size front) rest format left)
