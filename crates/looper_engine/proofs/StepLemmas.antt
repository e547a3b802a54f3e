-- The parts of a list are its frames in pieces of 256, and the blocks of a save are the parts of
-- its lists.
use Rattle.std.proofs.Common.{◌≡◌, ◌⊎◌, inl, inr, ℕ, zero, suc, ◌+◌, ◌-◌, ◌*◌, ◌/◌, ◌≤◌, ◌<◌, Bool, true, false, List, [], ◌∷◌, ◌++◌, length, take, drop, map, min, refl, sym, ap, ap₂, ◌∙◌, subst, arith, append_assoc, append-nil, length-append, cond, eq-eqb, nat_lt, Option, Some, None, zero-add}
use Rattle.std.specs.Prelude.{◌==◌, slice_get, slice_index_or}
use Rattle.std.proofs.lemmas.Bool.{ne_eqb, cond-true, cond-false, ltb-true, ltb-false, cases_lt}
use Rattle.std.proofs.lemmas.List.{take_min, length-drop}
use Rattle.sl_base.specs.Sounds.{Sound}
use Rattle.sl_commands.specs.declared.Target.{Target}
use Rattle.sl_commands.specs.declared.Block.{Block}
use Rattle.sl_commands.specs.declared.Block.TheVariants.{Head, Part, End}
use Rattle.sl_commands.specs.Settings.{LooperSettings}
use Rattle.sl_commands.specs.Blocks.{parts_behind, parts_of, parts_of_lists, first_index, blocks_of}
use Rattle.run_laws.proofs.Saves.BlockCounts.{length-parts_of}
use Rattle.looper_engine.specs.declared.step.Step.{Step}
use Rattle.looper_engine.specs.declared.step.Step.TheVariants.{End as EndStep}
use Rattle.looper_engine.specs.Steps.{part_count, parts_in, block_count, part_step, step_behind, step_at, frames_at, block_of}

-- a part that is full, and one that isn't
full : (b : Bool) (bs cs ds : List Block) → b ≡ true → bs ≡ ds → cond b bs cs ≡ ds
full b bs cs ds is same = cond-true b bs cs is ∙ same

open_still : (b : Bool) (bs cs ds : List Block) → b ≡ false → cs ≡ ds → cond b bs cs ≡ ds
open_still b bs cs ds is same = cond-false b bs cs is ∙ same

-- a part begins with what is held
parts_from : (save index n : ℕ) (h : Sound) (hs xs : List Sound) → suc n + length (h ∷ hs) ≡ 256 →
    parts_behind save index (h ∷ hs) xs ≡ Part save index ((h ∷ hs) ++ take (suc n) xs)
    ∷ parts_of save index (drop (suc n) xs)
parts_from save index n h hs [] is = ap (λ fs. Part save index fs ∷ []) (sym (append-nil (h ∷ hs)))
parts_from save index zero h hs (x ∷ xs) is =
    let last : length (h ∷ hs) + 1 ≡ 256 = omega arith
    in full (length (h ∷ hs) + 1 == 256) _ _ _ (eq-eqb (length (h ∷ hs) + 1) 256 last) refl
parts_from save index (suc j) h hs (x ∷ xs) is =
    let more : length (h ∷ hs) + 1 ≡ 256 → ⊥ = λ e. omega arith
    in let grown = length-append (h ∷ hs) (x ∷ [])
    in let rest = parts_from save index j h (hs ++ x ∷ []) xs (omega arith)
    in open_still (length (h ∷ hs) + 1 == 256) _ _ _ (ne_eqb (length (h ∷ hs) + 1) 256 more)
    (rest ∙ ap (λ fs. Part save index fs ∷ parts_of save index (drop (suc j) xs))
    (append_assoc (h ∷ hs) (x ∷ []) (take (suc j) xs)))

parts_are : (save index : ℕ) (x : Sound) (xs : List Sound) →
    parts_of save index (x ∷ xs) ≡ Part save index (take 256 (x ∷ xs))
    ∷ parts_of save index (drop 256 (x ∷ xs))
parts_are save index x xs = parts_from save index 254 x [] xs refl

-- nothing lies behind nothing
drop-nothing : {X : Type 0} (n : ℕ) → drop n [] ≡ (let none : List X = [] in none)
drop-nothing zero = refl
drop-nothing (suc n) = refl

-- what lies behind a place, in two steps
drop-twice : {X : Type 0} (m n : ℕ) (xs : List X) → drop m (drop n xs) ≡ drop (n + m) xs
drop-twice m zero xs = ap (λ k. drop k xs) (sym (zero-add m))
drop-twice m (suc n) [] = drop-nothing m ∙ sym (drop-nothing (suc n + m))
drop-twice m (suc n) (x ∷ xs) =
    let same : suc n + m ≡ suc (n + m) = omega arith
    in drop-twice m n xs ∙ ap (λ k. drop k (x ∷ xs)) (sym same)

-- the part of a number has the frames from its place on
part_at : (save index part : ℕ) (list : List Sound) → part < part_count (length list) →
    slice_get (parts_of save index list) part ≡ Some
    (Part save index (frames_at list (part * 256) (min 256 (length list - part * 256))))
part_at save index zero [] less = absurd (omega arith)
part_at save index zero (x ∷ xs) less =
    let list = x ∷ xs
    in let all : length list - 0 ≡ length list = omega arith
    in ap (λ bs. slice_get bs 0) (parts_are save index x xs)
    ∙ ap (λ fs. Some (Part save index fs))
    (sym (take_min 256 list) ∙ ap (λ n. take (min 256 n) list) (sym all))
part_at save index (suc part) [] less = absurd (omega arith)
part_at save index (suc part) (x ∷ xs) less =
    let list = x ∷ xs
    in let rest = drop 256 list
    in let long : length rest ≡ length list - 256 = length-drop 256 list
    in let less' : part < part_count (length rest) = rw long (omega arith)
    in let place : 256 + part * 256 ≡ suc part * 256 = omega arith
    in let count : length rest - part * 256 ≡ length list - suc part * 256 = omega arith
    in ap (λ bs. slice_get bs (suc part)) (parts_are save index x xs)
    ∙ part_at save index part rest less'
    ∙ ap₂ (λ fs n. Some (Part save index (take (min 256 n) fs)))
    (drop-twice (part * 256) 256 list ∙ ap (λ n. drop n list) place) count

-- how many parts lists have
length-parts_of_lists : (save index : ℕ) (lists : List (List Sound)) →
    length (parts_of_lists save index lists) ≡ parts_in (map length lists)
length-parts_of_lists save index [] = refl
length-parts_of_lists save index (list ∷ lists) =
    length-append (parts_of save index list) (parts_of_lists save (index + 1) lists)
    ∙ ap₂ (λ m n. m + n) (length-parts_of save index list)
    (length-parts_of_lists save (index + 1) lists)

pub length-blocks_of : (save : ℕ) (name : List ℕ) (target : Target) (settings : LooperSettings)
    (lists : List (List Sound)) →
    length (blocks_of save name target settings lists) ≡ block_count (map length lists)
length-blocks_of save name target settings lists =
    let parts = parts_of_lists save (first_index target) lists
    in let both = length-append parts (End save ∷ [])
    in let is = length-parts_of_lists save (first_index target) lists
    in omega arith

-- an element of the first of two lists, and one of the second
slice_get-first : {X : Type 0} (xs ys : List X) (k : ℕ) → k < length xs →
    slice_get (xs ++ ys) k ≡ slice_get xs k
slice_get-first [] ys k less = absurd (omega arith)
slice_get-first (x ∷ xs) ys zero less = refl
slice_get-first (x ∷ xs) ys (suc k) less = slice_get-first xs ys k (omega arith)

slice_get-second : {X : Type 0} (xs ys : List X) (k : ℕ) → length xs ≤ k →
    slice_get (xs ++ ys) k ≡ slice_get ys (k - length xs)
slice_get-second [] ys k past = let same : k ≡ k - 0 = omega arith in ap (slice_get ys) same
slice_get-second (x ∷ xs) ys zero past = absurd (omega arith)
slice_get-second (x ∷ xs) ys (suc k) past =
    let same : k - length xs ≡ suc k - length (x ∷ xs) = omega arith
    in slice_get-second xs ys k (omega arith) ∙ ap (slice_get ys) same

-- the list behind others
list-behind : (before lists : List (List Sound)) (list : List Sound) →
    slice_index_or (before ++ list ∷ lists) (length before) [] ≡ list
list-behind [] lists list = refl
list-behind (other ∷ before) lists list = list-behind before lists list

-- the part of a number of lists that stand behind others
behind_by :
    (first : Bool) (save part : ℕ) (name : List ℕ) (target : Target) (settings : LooperSettings)
    (before : List (List Sound)) (list : List Sound) (lists : List (List Sound)) →
    nat_lt part (part_count (length list)) ≡ first → part < parts_in (map length (list ∷ lists)) →
    ((part : ℕ) → part < parts_in (map length lists) →
    slice_get (parts_of_lists save (first_index target + length (before ++ list ∷ [])) lists) part
    ≡ Some (block_of (step_behind (length (before ++ list ∷ [])) (map length lists) part) save name
    target settings ((before ++ list ∷ []) ++ lists))) →
    slice_get (parts_of_lists save (first_index target + length before) (list ∷ lists)) part
    ≡ Some (block_of (step_behind (length before) (map length (list ∷ lists)) part) save name target
    settings (before ++ list ∷ lists))
behind_by true save part name target settings before list lists is less rest =
    let index = first_index target + length before
    in let here : part < part_count (length list) = ltb-true part (part_count (length list)) is
    in let within : part < length (parts_of save index list) =
    rw (length-parts_of save index list) here
    in slice_get-first (parts_of save index list) (parts_of_lists save (index + 1) lists) part
    within
    ∙ part_at save index part list here
    ∙ ap (λ fs. Some (Part save index
    (frames_at fs (part * 256) (min 256 (length list - part * 256)))))
    (sym (list-behind before lists list))
    ∙ ap (λ step. Some (block_of step save name target settings (before ++ list ∷ lists)))
    (sym (cond-true _ (part_step (length before) (length list) part)
    (step_behind (length before + 1) (map length lists) (part - part_count (length list))) is))
behind_by false save part name target settings before list lists is less rest =
    let index = first_index target + length before
    in let count = part_count (length list)
    in let past : count ≤ part = ltb-false part count is
    in let long : length (parts_of save index list) ≡ count = length-parts_of save index list
    in let grown : length (before ++ list ∷ []) ≡ length before + 1 =
    length-append before (list ∷ [])
    in let at : first_index target + length (before ++ list ∷ []) ≡ index + 1 = omega arith
    in let whole : (before ++ list ∷ []) ++ lists ≡ before ++ list ∷ lists =
    append_assoc before (list ∷ []) lists
    in let fewer : part - count < parts_in (map length lists) = omega arith
    in let later = rest (part - count) fewer
    in slice_get-second (parts_of save index list) (parts_of_lists save (index + 1) lists) part
    (rw long past)
    ∙ ap (λ n. slice_get (parts_of_lists save (index + 1) lists) (part - n)) long
    ∙ ap (λ n. slice_get (parts_of_lists save n lists) (part - count)) (sym at)
    ∙ later
    ∙ ap₂ (λ n all. Some (block_of (step_behind n (map length lists) (part - count)) save name
    target settings all)) grown whole
    ∙ ap (λ step. Some (block_of step save name target settings (before ++ list ∷ lists)))
    (sym (cond-false _ (part_step (length before) (length list) part)
    (step_behind (length before + 1) (map length lists) (part - count)) is))

behind : (save part : ℕ) (name : List ℕ) (target : Target) (settings : LooperSettings)
    (before lists : List (List Sound)) → part < parts_in (map length lists) →
    slice_get (parts_of_lists save (first_index target + length before) lists) part
    ≡ Some (block_of (step_behind (length before) (map length lists) part) save name target settings
    (before ++ lists))
behind save part name target settings before [] less = absurd (omega arith)
behind save part name target settings before (list ∷ lists) less =
    behind_by (nat_lt part (part_count (length list))) save part name target settings before list
    lists refl less
    (λ part less. behind save part name target settings (before ++ list ∷ []) lists less)

-- behind all parts comes the end
end_by : (first : Bool) (base part length : ℕ) (lengths : List ℕ) →
    nat_lt part (part_count length) ≡ first → part_count length ≤ part →
    step_behind (base + 1) lengths (part - part_count length) ≡ EndStep →
    step_behind base (length ∷ lengths) part ≡ EndStep
end_by true base part length lengths is past rest = let less =
    ltb-true part (part_count length) is in absurd (omega arith)
end_by false base part length lengths is past rest = cond-false _ (part_step base length part)
    (step_behind (base + 1) lengths (part - part_count length)) is ∙ rest

end_behind : (base : ℕ) (lengths : List ℕ) (part : ℕ) → parts_in lengths ≤ part →
    step_behind base lengths part ≡ EndStep
end_behind base [] part past = refl
end_behind base (length ∷ lengths) part past =
    end_by (nat_lt part (part_count length)) base part length lengths refl (omega arith)
    (end_behind (base + 1) lengths (part - part_count length) (omega arith))

-- the block of a number
block_by : (part : ℕ) (save : ℕ) (name : List ℕ) (target : Target) (settings : LooperSettings)
    (lists : List (List Sound)) →
    (part < parts_in (map length lists)) ⊎ (parts_in (map length lists) ≤ part) →
    part < parts_in (map length lists) + 1 →
    slice_get (parts_of_lists save (first_index target) lists ++ End save ∷ []) part
    ≡ Some (block_of (step_behind 0 (map length lists) part) save name target settings lists)
block_by part save name target settings lists (inl less) within =
    let parts = parts_of_lists save (first_index target) lists
    in let here : part < length parts =
    rw (length-parts_of_lists save (first_index target) lists) less
    in let at : first_index target ≡ first_index target + 0 = omega arith
    in slice_get-first parts (End save ∷ []) part here
    ∙ ap (λ n. slice_get (parts_of_lists save n lists) part) at
    ∙ behind save part name target settings [] lists less
block_by part save name target settings lists (inr past) within =
    let parts = parts_of_lists save (first_index target) lists
    in let long = length-parts_of_lists save (first_index target) lists
    in let last : part - length parts ≡ 0 = omega arith
    in slice_get-second parts (End save ∷ []) part (omega arith)
    ∙ ap (slice_get (End save ∷ [])) last
    ∙ ap (λ step. Some (block_of step save name target settings lists))
    (sym (end_behind 0 (map length lists) part past))

pub block_at : (save : ℕ) (name : List ℕ) (target : Target) (settings : LooperSettings)
    (lists : List (List Sound)) (block : ℕ) → block < block_count (map length lists) →
    slice_get (blocks_of save name target settings lists) block ≡ Some
    (block_of (step_at (map length lists) block) save name target settings lists)
block_at save name target settings lists zero less = refl
block_at save name target settings lists (suc part) less =
    block_by part save name target settings lists (cases_lt part (parts_in (map length lists)))
    (omega arith)
