-- Where saves end in their blocks.
use Rattle.std.proofs.Common.{◌≡◌, ◌≤◌, ◌<◌, ℕ, zero, suc, ◌+◌, ◌==◌, cond, not, Bool, true, false, ◌&&◌, List, [], ◌∷◌, ◌++◌, length, map, take, drop, refl, sym, ap, ap₂, ◌∙◌, subst, append_assoc, append-nil, length-append, arith}
use Rattle.sl_base.specs.Sounds.{Sound}
use Rattle.sl_commands.specs.declared.Block.{Block}
use Rattle.sl_commands.specs.declared.Block.TheVariants.{Head, Part, End}
use Rattle.sl_commands.specs.Blocks.{parts_behind, parts_of, parts_of_lists, first_index, part_length, blocks_of}
use Rattle.looper_rules.specs.Saves.{Save}
use Rattle.looper_rules.specs.SaveBlocks.{blocks_of_save, blocks_for_all, is_end, ends_in}

-- of two lists
pub ends-append : (xs ys : List Block) → ends_in (xs ++ ys) ≡ ends_in xs + ends_in ys
ends-append [] ys = omega arith
ends-append (x ∷ xs) ys = let more = ends-append xs ys in omega arith

-- by cases
ends-cond : (b : Bool) (xs ys : List Block) (n : ℕ) → ends_in xs ≡ n → ends_in ys ≡ n →
    ends_in (cond b xs ys) ≡ n
ends-cond true xs ys n p q = p
ends-cond false xs ys n p q = q

-- none ends in its parts
parts-ends : (number index : ℕ) (held xs : List Sound) →
    ends_in (parts_behind number index held xs) ≡ 0
parts-ends number index [] [] = refl
parts-ends number index (h ∷ hs) [] = refl
parts-ends number index [] (x ∷ xs) =
    ends-cond (length {A = Sound} [] + 1 == part_length)
    (Part number index ([] ++ x ∷ []) ∷ parts_behind number index [] xs)
    (parts_behind number index ([] ++ x ∷ []) xs) 0
    (ap (λ k. 0 + k) (parts-ends number index [] xs)) (parts-ends number index ([] ++ x ∷ []) xs)
parts-ends number index (h ∷ hs) (x ∷ xs) =
    ends-cond (length (h ∷ hs) + 1 == part_length)
    (Part number index ((h ∷ hs) ++ x ∷ []) ∷ parts_behind number index [] xs)
    (parts_behind number index ((h ∷ hs) ++ x ∷ []) xs) 0
    (ap (λ k. 0 + k) (parts-ends number index [] xs))
    (parts-ends number index ((h ∷ hs) ++ x ∷ []) xs)

-- nor in those of all its lists
lists-ends : (number index : ℕ) (lists : List (List Sound)) →
    ends_in (parts_of_lists number index lists) ≡ 0
lists-ends number index [] = refl
lists-ends number index (l ∷ ls) =
    let one = parts-ends number index [] l in
    let rest = lists-ends number (index + 1) ls in
    ends-append (parts_of number index l) (parts_of_lists number (index + 1) ls)
    ∙ omega (arith, one, rest)

-- one save ends in its blocks, at the last of them
pub save-ends : (s : Save) → ends_in (blocks_of_save s) ≡ 1
save-ends s =
    let parts = parts_of_lists s.number (first_index s.target) s.lists in
    let none = lists-ends s.number (first_index s.target) s.lists in
    let both = ends-append parts (End s.number ∷ []) in
    omega (arith, none, both)

-- as many end in the blocks of all as there are
pub all-ends : (saves : List Save) → ends_in (blocks_for_all saves) ≡ length saves
all-ends [] = refl
all-ends (s ∷ saves) =
    let one = save-ends s in
    let rest = all-ends saves in
    ends-append (blocks_of_save s) (blocks_for_all saves) ∙ omega (arith, one, rest)

-- the first ones of two lists
pub take-front : {A : Type 0} (n : ℕ) (xs ys : List A) → n ≤ length xs →
    take n (xs ++ ys) ≡ take n xs
take-front zero xs ys few = refl
take-front (suc n) [] ys few = absurd (omega arith)
take-front (suc n) (x ∷ xs) ys few = ap (λ l. x ∷ l) (take-front n xs ys (omega arith))

-- none ends among the first ones where none ends at all
front-ends : (n : ℕ) (xs : List Block) → ends_in xs ≡ 0 → ends_in (take n xs) ≡ 0
front-ends zero xs none = refl
front-ends (suc n) [] none = refl
front-ends (suc n) (x ∷ xs) none =
    let rest = front-ends n xs (omega arith) in omega (arith, rest)

-- nor among those before the last one
short-ends : (n : ℕ) (h : Block) (xs : List Block) (e : Block) → is_end h ≡ false → ends_in xs ≡ 0 →
    n < length (h ∷ (xs ++ e ∷ [])) → ends_in (take n (h ∷ (xs ++ e ∷ []))) ≡ 0
short-ends zero h xs e not_end none few = refl
short-ends (suc n) h xs e not_end none few =
    let long = length-append xs (e ∷ []) in
    let front : take n (xs ++ e ∷ []) ≡ take n xs = take-front n xs (e ∷ []) (omega arith) in
    let rest = ap ends_in front ∙ front-ends n xs none in
    ap (λ (b : Bool). cond b 1 0 + ends_in (take n (xs ++ e ∷ []))) not_end ∙ ap (λ k. 0 + k) rest

-- a save has not ended before its last block
pub before_last-ends : (n : ℕ) (s : Save) → n < length (blocks_of_save s) →
    ends_in (take n (blocks_of_save s)) ≡ 0
before_last-ends n s few =
    short-ends n (Head s.number s.name s.target s.settings)
    (parts_of_lists s.number (first_index s.target) s.lists) (End s.number) refl
    (lists-ends s.number (first_index s.target) s.lists) few
