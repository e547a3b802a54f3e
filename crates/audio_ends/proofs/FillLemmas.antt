-- Bytes read one part behind another.
use Rattle.std.proofs.Common.{◌≡◌, ℕ, ◌+◌, ◌-◌, ◌≤◌, ◌<◌, ◌*◌, ◌/◌, ◌%◌, zero, suc, Bool, true, false, ◌||◌, List, [], ◌∷◌, ◌++◌, length, take, drop, Option, Some, None, refl, sym, ap, ◌∙◌, subst, arith, append_assoc, append-nil}
use Rattle.std.proofs.Math.Seq.{take-append-add, take-add}
use Rattle.std.proofs.lemmas.Nat.{div-add-mod'}
use Rattle.sl_base.specs.Sounds.{Sound}
use Rattle.wav_pcm.specs.WavText.{frame_size}
use Rattle.wav_pcm.specs.Samples.{frames_in}
use Rattle.std.proofs.Common.{length-take, length-drop, length-append}
use Rattle.std.proofs.lemmas.List.{take-append-le}
use borrow.Rule.Slice.PartMut.{put_mid, post_of}
use Rattle.live_ports.specs.Sources.{SourceSeen, DidRead, Consumes}
use Rattle.audio_ends.specs.Fills.{HasRead, CameBehind, ReadsFrames}

pub or-false : (b : Bool) → (b || false) ≡ b
or-false true = refl
or-false false = refl

-- bytes that came, and bytes behind them
pub consumes_then : (a b c : Option (List ℕ)) (xs ys : List ℕ) → Consumes a xs b →
    Consumes b ys c → Consumes a (xs ++ ys) c
consumes_then None b c xs ys p q = tt
consumes_then (Some u) None c xs ys p q = absurd p
consumes_then (Some u) (Some v) None xs ys p q = absurd q
consumes_then (Some u) (Some v) (Some w) xs ys p q =
    p ∙ ap (λ l. xs ++ l) q ∙ sym (append_assoc xs ys w)

-- and none behind them
pub consumes_none : (a b : Option (List ℕ)) (xs : List ℕ) (c : Option (List ℕ)) →
    Consumes a xs b → Consumes b [] c → Consumes a xs c
consumes_none a b xs c p q =
    subst (λ zs. Consumes a zs c) (append-nil xs) (consumes_then a b c xs [] p q)

length_taken : {X : Type 0} (k : ℕ) (xs : List X) → k ≤ length xs → length (take k xs) ≡ k
length_taken k xs le = simp length-take (omega arith)

-- what was put behind the first ones
pub put_part : {X : Type 0} (k n q : ℕ) (xs ys : List X) → k ≤ length xs → n ≤ length ys →
    take (k + n) (put_mid k q xs ys) ≡ take k xs ++ take n ys
put_part k n q xs ys in_xs in_ys =
    let long : length (take k xs) ≡ k = length_taken k xs in_xs
    in let behind = ys ++ post_of k q xs
    in let split : take (length (take k xs) + n) (take k xs ++ behind) ≡ take k xs ++ take n
    behind =
    take-append-add (take k xs) behind n
    in subst (λ m. take (m + n) (take k xs ++ behind) ≡ take k xs ++ take n behind) long split
    ∙ ap (λ zs. take k xs ++ zs) (take-append-le n ys (post_of k q xs) in_ys)

-- and nothing of it
pub put_none : {X : Type 0} (k q : ℕ) (xs ys : List X) → k ≤ length xs →
    take k (put_mid k q xs ys) ≡ take k xs
put_none k q xs ys in_xs =
    let long : length (take k xs) ≡ k = length_taken k xs in_xs
    in subst (λ m. take m (take k xs ++ (ys ++ post_of k q xs)) ≡ take k xs) long
    (take_seam (take k xs) (ys ++ post_of k q xs))
  where
    take_seam : {Y : Type 0} (us vs : List Y) → take (length us) (us ++ vs) ≡ us
    take_seam [] vs = refl
    take_seam (u ∷ us) vs = ap (λ l. u ∷ l) (take_seam us vs)

-- a list stays as long
pub length_put : {X : Type 0} (k : ℕ) (xs ys : List X) → k ≤ length xs →
    length ys ≡ length xs - k → length (put_mid k (length xs - k) xs ys) ≡ length xs
length_put k xs ys in_xs same =
    let a = length-append (take k xs) (ys ++ post_of k (length xs - k) xs)
    in let b = length-append ys (post_of k (length xs - k) xs)
    in let c = length_taken k xs in_xs
    in let d : length (post_of k (length xs - k) xs) ≡ 0 =
    length-drop (length xs - k) (drop k xs) ∙ (let e = length-drop k xs in omega (arith, e, in_xs))
    in omega (arith, a, b, c, d, same)

consumes_itself : (a : Option (List ℕ)) → Consumes a [] a
consumes_itself None = tt
consumes_itself (Some xs) = refl

-- nothing came, more came, and nothing more came
pub read_none : (left : Option (List ℕ)) (kept : ℕ) (bytes : List ℕ) →
    HasRead left left kept kept bytes bytes
read_none left kept bytes =
    record { got = []; consumes = consumes_itself left; bytes = sym (append-nil (take kept bytes)) }

pub read_more : (left mid rest : Option (List ℕ)) (kept done n : ℕ) (old now new part : List ℕ) →
    HasRead left mid kept done old now → Consumes mid part rest →
    take (done + n) new ≡ take done now ++ part → HasRead left rest kept (done + n) old new
read_more left mid rest kept done n old now new part h more is =
    record {
      got = h.got ++ part;
      consumes = consumes_then left mid rest h.got part h.consumes more;
      bytes = is ∙ ap (λ bs. bs ++ part) h.bytes ∙ append_assoc (take kept old) h.got part;
    }

pub read_same : (left mid rest : Option (List ℕ)) (kept done : ℕ) (old now new : List ℕ) →
    HasRead left mid kept done old now → Consumes mid [] rest →
    take done new ≡ take done now → HasRead left rest kept done old new
read_same left mid rest kept done old now new h more is =
    record {
      got = h.got;
      consumes = consumes_none left mid h.got rest h.consumes more;
      bytes = is ∙ h.bytes;
    }

-- the first ones of two lists are the first list
take_whole : {X : Type 0} (n : ℕ) (xs ys : List X) → length xs ≡ n → take n (xs ++ ys) ≡ xs
take_whole zero [] ys is = refl
take_whole zero (x ∷ xs) ys is = absurd (omega arith)
take_whole (suc n) [] ys is = absurd (omega arith)
take_whole (suc n) (x ∷ xs) ys is = ap (λ zs. x ∷ zs) (take_whole n xs ys (omega arith))

front_kept : {X : Type 0} (front behind : List X) (kept : ℕ) → kept ≡ length front →
    take kept (front ++ behind) ≡ front
front_kept front behind kept is = take_whole kept front behind (sym is)

-- what was put in front, and came behind it
pub came_behind : (left rest : Option (List ℕ)) (kept front behind begun now : List ℕ)
    (count many : ℕ) → begun ≡ front ++ behind → front ≡ kept → many ≡ length kept →
    HasRead left rest many count begun now → CameBehind left rest kept (take count now)
came_behind left rest kept front behind begun now count many is same long h =
    record {
      got = h.got;
      consumes = h.consumes;
      bytes = h.bytes ∙ ap (λ bs. bs ++ h.got)
          (ap (take many) (is ∙ ap (λ f. f ++ behind) same) ∙ front_kept kept behind many long);
    }

-- the frames of what came, and what is kept behind them
pub frames_read : (channels size count : ℕ) (left rest : Option (List ℕ))
    (kept now kept_now : List ℕ) (sounds : List Sound) →
    CameBehind left rest kept (take count now) → size ≡ frame_size channels 16 → 0 < size →
    count ≤ length now → length sounds ≡ count / size →
    sounds ≡ frames_in channels 16 (count / size) (take (count / size * size) now) →
    kept_now ≡ take (count - count / size * size) (drop (count / size * size) now) →
    ReadsFrames channels left rest kept kept_now sounds
frames_read channels size count left rest kept now kept_now sounds h is some within long read
    keeps =
    let n = count / size
    in let r = count % size
    in let all : n * size + r ≡ count = div-add-mod' count size
    in let left_over : count - n * size ≡ r = omega arith
    in let split : take count now ≡ take (n * size) now ++ take r (drop (n * size) now) =
    ap (λ k. take k now) (sym all) ∙ take-add (n * size) r now
    in record {
      got = h.got;
      whole = take (n * size) now;
      consumes = h.consumes;
      cut = sym h.bytes ∙ split
          ∙ ap (λ bs. take (n * size) now ++ bs)
          (sym (keeps ∙ ap (λ k. take k (drop (n * size) now)) left_over));
      size = length_taken (n * size) now (omega arith)
          ∙ ap (λ k. n * k) is ∙ ap (λ k. k * frame_size channels 16) (sym long);
      are = read ∙ ap (λ k. frames_in channels 16 k (take (n * size) now)) (sym long);
    }
