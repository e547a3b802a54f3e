-- Steps and walks over whole chunks.
use Rattle.std.proofs.Common.{◌≡◌, ◌≢◌, ◌≤◌, ◌<◌, ℕ, zero, suc, ◌+◌, ◌-◌, ◌%◌, nat_lt, List, [], ◌∷◌, ◌++◌, length, take, drop, Option, Some, Bool, true, false, true≢false, refl, sym, ap, ◌∙◌, arith, codes, if◌then◌else◌, length-append}
use Rattle.std.proofs.lemmas.Bool.{ltb-false, ltb-true}
use Rattle.std.proofs.lemmas.List.{append_assoc, take_at, drop_at, take-append-drop, drop-drop, length-drop, length-take-le}
use Rattle.std.proofs.lemmas.Slice.Eq.{bytes_eq-Decides}
use Rattle.std.specs.List.{AllByRecursion}
use Rattle.std.specs.Str.{bytes_eq}
use Rattle.byteorder.specs.Endian.{little_number}
use Rattle.byteorder.specs.Numbers.{little_from-append, little_from-take}
use Rattle.wav_pcm.specs.Reading.{Walk, Step, stops, starts, passes, step_over, step_of, chunk_size, walked, walk_by, behind}
use Rattle.wav_pcm.specs.Files.{Chunk, IsChunk, chunk_bytes, chunks_bytes, first_format}

-- a test of a number that isn't below another
pub not_below : (a b : ℕ) → b ≤ a → nat_lt a b ≡ false
not_below a b least = go (nat_lt a b) refl
  where
    go : (is : Bool) → nat_lt a b ≡ is → nat_lt a b ≡ false
    go false e = e
    go true e = let below = ltb-true a b e in absurd (omega (arith, below, least))

-- names that differ are told apart
pub not_named : (name other : List ℕ) → name ≢ other → bytes_eq name other ≡ false
not_named name other differ = go (bytes_eq name other) refl
  where
    go : (is : Bool) → bytes_eq name other ≡ is → bytes_eq name other ≡ false
    go false e = e
    go true e = absurd (differ ((bytes_eq-Decides name other).0 e))

-- the step at `data`
pub step_of-data : (part : List ℕ) → 4 ≤ length part → step_of (codes "data" ++ part) ≡ starts part
step_of-data part long =
    ap (λ (few : Bool). if few then stops else starts part)
    (not_below (length (codes "data" ++ part)) 8 (omega (arith, long)))

-- the step over a chunk of this size, by its parts
step_over-parts :
    (at name body rest : List ℕ) (size : ℕ) → 8 ≤ length at → take 4 at ≡ name → name ≢ codes "data"
    → size ≤ length (drop 8 at) → take size (drop 8 at) ≡ body →
    drop (8 + (size + size % 2)) at ≡ rest
    → step_over size at ≡ passes name body rest
step_over-parts at name body rest size long name_is other there body_is rest_is =
    let few = not_below (length at) 8 long in
    let differs = not_named (take 4 at) (codes "data") (λ same. other (sym name_is ∙ same)) in
    let whole = not_below (length (drop 8 at)) size there in
    rw (few, differs, whole, name_is, body_is, rest_is) refl

-- the step over a chunk
pub step_of-chunk : (c : Chunk) (rest : List ℕ) → IsChunk c →
    step_of (chunk_bytes c ++ rest) ≡ passes c.name c.body rest
step_of-chunk c rest is =
    let at : List ℕ = chunk_bytes c ++ rest in
    let behind_name : List ℕ = c.size ++ (c.body ++ (c.pad ++ rest)) in
    let spelled : at ≡ c.name ++ behind_name =
    append_assoc c.name (c.size ++ (c.body ++ c.pad)) rest
    ∙ ap (λ (l : List ℕ). c.name ++ l) (append_assoc c.size (c.body ++ c.pad) rest
    ∙ ap (λ (l : List ℕ). c.size ++ l) (append_assoc c.body c.pad rest)) in
    let name_is : take 4 at ≡ c.name =
    ap (take 4) spelled ∙ take_at c.name behind_name 4 is.name_is in
    let four : drop 4 at ≡ behind_name =
    ap (drop 4) spelled ∙ drop_at c.name behind_name 4 is.name_is in
    let size_is : chunk_size at ≡ length c.body =
    ap (little_number 4) four ∙ little_from-append 4 c.size (c.body ++ (c.pad ++ rest))
    (omega (arith, is.size_is)) ∙ sym is.body_is in
    let eight : drop 8 at ≡ c.body ++ (c.pad ++ rest) =
    sym (drop-drop 4 4 at) ∙ ap (drop 4) four
    ∙ drop_at c.size (c.body ++ (c.pad ++ rest)) 4 is.size_is in
    let eight_long : length (drop 8 at) ≡ length c.body + (length c.pad + length rest) =
    ap length eight ∙ length-append c.body (c.pad ++ rest)
    ∙ ap (λ (n : ℕ). length c.body + n) (length-append c.pad rest) in
    let long : length at ≡ 4 + (4 + (length c.body + (length c.pad + length rest))) =
    ap length spelled ∙ length-append c.name behind_name
    ∙ omega (
      arith,
      is.name_is,
      is.size_is,
      length-append c.size (c.body ++ (c.pad ++ rest)),
      length-append c.body (c.pad ++ rest),
      length-append c.pad rest,
    ) in
    let body_is : take (length c.body) (drop 8 at) ≡ c.body =
    ap (take (length c.body)) eight ∙ take_at c.body (c.pad ++ rest) (length c.body) refl in
    let padded : drop (length c.body + length c.body % 2) (drop 8 at) ≡ rest =
    ap (drop (length c.body + length c.body % 2)) (eight ∙ sym (append_assoc c.body c.pad rest))
    ∙ drop_at (c.body ++ c.pad) rest (length c.body + length c.body % 2)
    (omega (arith, length-append c.body c.pad, is.pad_is)) in
    let rest_is : drop (8 + (length c.body + length c.body % 2)) at ≡ rest =
    sym (drop-drop (length c.body + length c.body % 2) 8 at) ∙ padded in
    ap (λ (size : ℕ). step_over size at) size_is
    ∙ step_over-parts at c.name c.body rest (length c.body) (omega (arith, long)) name_is
    is.not_data (omega (arith, eight_long)) body_is rest_is

-- a walk with a chunk before it
pub behind-first :
    (c : Chunk) (cs : List Chunk) (part : Option (List ℕ))
    → behind c.name c.body (record { format = first_format cs; data_part = part })
    ≡ record { format = first_format (c ∷ cs); data_part = part }
behind-first c cs part = go (bytes_eq c.name (codes "fmt "))
  where
    go : (is : Bool)
        → let left : Walk = if is then record { format = Some c.body; data_part = part } else
        record { format = first_format cs; data_part = part } in
        let right : Walk =
        record { format = (if is then Some c.body else first_format cs); data_part = part } in
        left ≡ right
    go true = refl
    go false = refl

-- the walk over chunks up to `data`
pub walked-chunks :
    (cs : List Chunk) (part : List ℕ) (n : ℕ) → AllByRecursion IsChunk cs → 4 ≤ length part →
    length cs < n
    → walked n (chunks_bytes cs ++ (codes "data" ++ part))
    ≡ record { format = first_format cs; data_part = Some part }
walked-chunks cs part zero are long few = absurd (omega (arith, few))
walked-chunks [] part (suc n) are long few =
    ap (λ (s : Step). walk_by s (walked n)) (step_of-data part long)
walked-chunks (c ∷ cs) part (suc n) are long few =
    let rest : List ℕ = chunks_bytes cs ++ (codes "data" ++ part) in
    let spelled : chunks_bytes (c ∷ cs) ++ (codes "data" ++ part) ≡ chunk_bytes c ++ rest =
    append_assoc (chunk_bytes c) (chunks_bytes cs) (codes "data" ++ part) in
    let step : step_of (chunks_bytes (c ∷ cs) ++ (codes "data" ++ part)) ≡ passes c.name c.body
    rest = ap step_of spelled ∙ step_of-chunk c rest are.0 in
    ap (λ (s : Step). walk_by s (walked n)) step
    ∙ ap (λ (w : Walk). behind c.name c.body w)
    (walked-chunks cs part n are.1 long (omega (arith, few)))
    ∙ behind-first c cs (Some part)

-- there are no more chunks than bytes
pub length-chunks : (cs : List Chunk) → AllByRecursion IsChunk cs →
    length cs ≤ length (chunks_bytes cs)
length-chunks [] are = omega arith
length-chunks (c ∷ cs) are =
    let name = are.0.name_is in
    let more = length-chunks cs are.1 in
    omega (
      arith,
      name,
      more,
      length-append (chunk_bytes c) (chunks_bytes cs),
      length-append c.name (c.size ++ (c.body ++ c.pad)),
    )

-- what a step that is at `data` is taken from
step_over-starts :
    (size : ℕ) (at part : List ℕ) → step_over size at ≡ starts part → (at ≡ codes "data" ++ part)
    × (4 ≤ length part)
step_over-starts size at part is = go (nat_lt (length at) 8) refl
    (bytes_eq (take 4 at) (codes "data")) refl (nat_lt (length (drop 8 at)) size) is
  where
    go :
        (few : Bool) → nat_lt (length at) 8 ≡ few → (named : Bool) →
        bytes_eq (take 4 at) (codes "data") ≡ named → (short : Bool)
        → (if few then stops else if named then starts (drop 4 at) else if short then stops else
        passes (take 4 at) (take size (drop 8 at)) (drop (8 + (size + size % 2)) at)) ≡ starts
        part
        → (at ≡ codes "data" ++ part) × (4 ≤ length part)
    go true few named n short e = absurd (Prim.cc)
    go false few true named short e =
        let part_is : drop 4 at ≡ part = Prim.cc in
        let name_is : take 4 at ≡ codes "data" =
        (bytes_eq-Decides (take 4 at) (codes "data")).0 named in
        let long : 8 ≤ length at = ltb-false (length at) 8 few in (
          sym (take-append-drop 4 at) ∙ ap (λ (l : List ℕ). l ++ drop 4 at) name_is
              ∙ ap (λ (l : List ℕ). codes "data" ++ l) part_is,
          omega (arith, long, length-drop 4 at, ap length part_is),
        )
    go false few false named true e = absurd (Prim.cc)
    go false few false named false e = absurd (Prim.cc)

-- what a step that passes a chunk is taken from, but for a pad that may be missing
record Passed (size : ℕ) (at name body rest : List ℕ) : Type 0 where
  pub long : 8 ≤ length at
  pub name_is : take 4 at ≡ name
  pub not_data : name ≢ codes "data"
  pub there : size ≤ length (drop 8 at)
  pub body_is : take size (drop 8 at) ≡ body
  pub rest_is : drop (8 + (size + size % 2)) at ≡ rest

step_over-passes :
    (size : ℕ) (at name body rest : List ℕ) → step_over size at ≡ passes name body rest →
    Passed size at name body rest
step_over-passes size at name body rest is =
    go (nat_lt (length at) 8) refl (bytes_eq (take 4 at) (codes "data")) refl
    (nat_lt (length (drop 8 at)) size) refl is
  where
    go :
        (few : Bool) → nat_lt (length at) 8 ≡ few → (named : Bool) →
        bytes_eq (take 4 at) (codes "data") ≡ named
        → (short : Bool) → nat_lt (length (drop 8 at)) size ≡ short
        → (if few then stops else if named then starts (drop 4 at) else if short then stops else
        passes (take 4 at) (take size (drop 8 at)) (drop (8 + (size + size % 2)) at)) ≡ passes
        name body rest
        → Passed size at name body rest
    go true few named n short s e = absurd (Prim.cc)
    go false few true named short s e = absurd (Prim.cc)
    go false few false named true s e = absurd (Prim.cc)
    go false few false named false s e =
        let name_is : take 4 at ≡ name = Prim.cc in
        let body_is : take size (drop 8 at) ≡ body = Prim.cc in
        let rest_is : drop (8 + (size + size % 2)) at ≡ rest = Prim.cc in
        record {
          long = ltb-false (length at) 8 few;
          name_is = name_is;
          not_data = λ same. true≢false
              (sym ((bytes_eq-Decides (take 4 at) (codes "data")).1 (name_is ∙ same)) ∙ named);
          there = ltb-false (length (drop 8 at)) size s;
          body_is = body_is;
          rest_is = rest_is;
        }

-- the chunk that was passed, where something stands behind it
record IsPassed (at name body rest : List ℕ) : Type 0 where
  pub chunk : Chunk
  pub is_chunk : IsChunk chunk
  pub name_is : chunk.name ≡ name
  pub body_is : chunk.body ≡ body
  pub spelled : at ≡ chunk_bytes chunk ++ rest

passed : (at name body rest : List ℕ) → Passed (chunk_size at) at name body rest → 1 ≤ length rest →
    IsPassed at name body rest
passed at name body rest p more =
    let size : ℕ = chunk_size at in
    let field : List ℕ = take 4 (drop 4 at) in
    let pad : List ℕ = take (size % 2) (drop size (drop 8 at)) in
    let c : Chunk = record { name = name; size = field; body = body; pad = pad } in
    let whole : length (drop (size + size % 2) (drop 8 at)) ≡ length rest =
    ap length (drop-drop (size + size % 2) 8 at ∙ p.rest_is) in
    let counted : length (drop (size + size % 2) (drop 8 at)) ≡ length (drop 8 at)
    - (size + size % 2) = length-drop (size + size % 2) (drop 8 at) in
    let left : length (drop size (drop 8 at)) ≡ length (drop 8 at) - size =
    length-drop size (drop 8 at) in
    let name_long : length name ≡ 4 =
    ap length (sym p.name_is) ∙ length-take-le 4 at (omega (arith, p.long)) in
    let field_long : length field ≡ 4 =
    length-take-le 4 (drop 4 at) (omega (arith, p.long, length-drop 4 at)) in
    let body_long : length body ≡ size =
    ap length (sym p.body_is) ∙ length-take-le size (drop 8 at) p.there in
    let pad_long : length pad ≡ size % 2 = length-take-le (size % 2) (drop size (drop 8 at))
    (omega (arith, whole, counted, left, more)) in
    let is_chunk : IsChunk c =
    record {
      name_is = name_long;
      not_data = p.not_data;
      size_is = field_long;
      body_is = body_long ∙ sym (little_from-take 0 4 4 (drop 4 at) (omega arith));
      pad_is = pad_long ∙ ap (λ (n : ℕ). n % 2) (sym body_long);
    } in
    let behind_body : drop size (drop 8 at) ≡ pad ++ rest =
    sym (take-append-drop (size % 2) (drop size (drop 8 at)))
    ∙ ap (λ (l : List ℕ). pad ++ l)
    (drop-drop (size % 2) size (drop 8 at) ∙ drop-drop (size + size % 2) 8 at ∙ p.rest_is) in
    let eight : drop 8 at ≡ body ++ (pad ++ rest) =
    sym (take-append-drop size (drop 8 at)) ∙ ap (λ (l : List ℕ). l ++ drop size (drop 8 at))
    p.body_is ∙ ap (λ (l : List ℕ). body ++ l) behind_body in
    let four : drop 4 at ≡ field ++ (body ++ (pad ++ rest)) =
    sym (take-append-drop 4 (drop 4 at))
    ∙ ap (λ (l : List ℕ). field ++ l) (drop-drop 4 4 at ∙ eight) in
    let all : at ≡ name ++ (field ++ (body ++ (pad ++ rest))) =
    sym (take-append-drop 4 at) ∙ ap (λ (l : List ℕ). l ++ drop 4 at) p.name_is
    ∙ ap (λ (l : List ℕ). name ++ l) four in
    let grouped : name ++ (field ++ (body ++ (pad ++ rest))) ≡ chunk_bytes c ++ rest =
    sym (append_assoc name (field ++ (body ++ pad)) rest
    ∙ ap (λ (l : List ℕ). name ++ l) (append_assoc field (body ++ pad) rest
    ∙ ap (λ (l : List ℕ). field ++ l) (append_assoc body pad rest))) in
    record {
      chunk = c;
      is_chunk = is_chunk;
      name_is = refl;
      body_is = refl;
      spelled =
          all ∙ grouped;
    }

-- what a walk that came to `data` went over
pub record Found (at part : List ℕ) (format : Option (List ℕ)) : Type 0 where
  pub chunks : List Chunk
  pub are_chunks : AllByRecursion IsChunk chunks
  pub spelled : at ≡ chunks_bytes chunks ++ (codes "data" ++ part)
  pub long : 4 ≤ length part
  pub first : first_format chunks ≡ format

-- a format before others is the first, of what was found behind it too
found-behind : (name body : List ℕ) (walk : Walk) →
    (behind name body walk).data_part ≡ walk.data_part
found-behind name body walk = go (bytes_eq name (codes "fmt "))
  where
    go : (is : Bool) → (if is then record { format = Some body; data_part = walk.data_part } else
        walk).data_part ≡ walk.data_part
    go true = refl
    go false = refl

first-behind :
    (name body : List ℕ) (c : Chunk) (cs : List Chunk) (walk : Walk) → c.name ≡ name →
    c.body ≡ body → first_format cs ≡ walk.format
    → first_format (c ∷ cs) ≡ (behind name body walk).format
first-behind name body c cs walk name_is body_is first =
    ap (λ (l : List ℕ). if bytes_eq l (codes "fmt ") then Some c.body else first_format cs) name_is
    ∙ go (bytes_eq name (codes "fmt "))
  where
    go : (is : Bool) →
        (if is then Some c.body else first_format cs) ≡ (if is then
        record { format = Some body; data_part = walk.data_part } else walk).format
    go true = ap Some body_is
    go false = first

pub walk_found : (n : ℕ) (at part : List ℕ) → (walked n at).data_part ≡ Some part →
    Found at part (walked n at).format
walk_found zero at part is = absurd (Prim.cc)
walk_found (suc n) at part is = go (λ rest. walk_found n rest part) (step_of at) refl is
  where
    go :
        ((rest : List ℕ) → (walked n rest).data_part ≡ Some part →
        Found rest part (walked n rest).format)
        → (s : Step) → step_of at ≡ s → (walk_by s (walked n)).data_part ≡ Some part →
        Found at part (walk_by s (walked n)).format
    go found stops step_is e = absurd (Prim.cc)
    go found (starts there) step_is e =
        let same : there ≡ part = Prim.cc in
        let facts = step_over-starts (chunk_size at) at there step_is in
        record {
          chunks = [];
          are_chunks = tt;
          spelled = facts.0 ∙ ap (λ (l : List ℕ). codes "data" ++ l) same;
          long = omega (arith, facts.1, ap length same);
          first = refl;
        }
    go found (passes name body rest) step_is e =
        let inner = found rest (sym (found-behind name body (walked n rest)) ∙ e) in
        let more : 1 ≤ length rest =
        omega (
          arith,
          ap length inner.spelled,
          length-append (chunks_bytes inner.chunks) (codes "data" ++ part),
        ) in
        let c = passed at name body rest
        (step_over-passes (chunk_size at) at name body rest step_is) more in
        record {
          chunks = c.chunk ∷ inner.chunks;
          are_chunks = (c.is_chunk, inner.are_chunks);
          spelled = c.spelled ∙ ap (λ (l : List ℕ). chunk_bytes c.chunk ++ l) inner.spelled
              ∙ sym (append_assoc (chunk_bytes c.chunk) (chunks_bytes inner.chunks)
              (codes "data" ++ part));
          long = inner.long;
          first = first-behind name body c.chunk inner.chunks (walked n rest) c.name_is c.body_is
              inner.first;
        }
