-- The parts of lists, as their frames come part by part.
use Rattle.std.proofs.Common.{◌≡◌, ◌≢◌, ℕ, zero, suc, ◌+◌, ◌%◌, ◌≤◌, ◌<◌, Bool, true, false, cond, List, [], ◌∷◌, ◌++◌, length, replicate, slice_get, refl, sym, ap, ◌∙◌, subst, arith, append_assoc, append-nil, length-append}
use Rattle.std.specs.Prelude.{IfSome, ⊤, ◌==◌, nat_le}
use Rattle.std.specs.List.{list_all}
use Rattle.std.proofs.lemmas.Bool.{eqb-true, eqb-false, and_parts, and_from, le-leb}
use Rattle.sl_base.specs.Limits.{max_list_frames}
use Rattle.sl_base.specs.Sounds.{Sound}
use Rattle.sl_commands.specs.declared.Block.{Block}
use Rattle.sl_commands.specs.declared.Block.TheVariants.{Part}
use Rattle.sl_commands.specs.Blocks.{parts_behind, parts_of, parts_of_lists}

-- whole parts take nothing from what comes behind them
not_whole : (n : ℕ) → suc n % 256 ≡ 0 → suc n < 256 → ⊥
not_whole n whole below = omega arith

whole_behind : (held rest : ℕ) → (held + suc rest) % 256 ≡ 0 → held + 1 ≡ 256 → (0 + rest) % 256 ≡ 0
whole_behind held rest whole full = omega arith

parts_behind-append : (save index : ℕ) (held xs more : List Sound) →
    (length held + length xs) % 256 ≡ 0 → length held < 256 →
    parts_behind save index held (xs ++ more) ≡ parts_behind save index held xs
    ++ parts_of save index more
parts_behind-append save index [] [] more whole below = refl
parts_behind-append save index (h ∷ hs) [] more whole below =
    absurd (not_whole (length hs) (let same : length (h ∷ hs) + 0 ≡ suc (length hs) = omega arith in
    subst (λ n. n % 256 ≡ 0) same whole) below)
parts_behind-append save index held (x ∷ xs) more whole below =
    by_full (length held + 1 == 256) refl (parts_behind-append save index [] xs more)
    (parts_behind-append save index (held ++ x ∷ []) xs more)
  where
    all : List Block
    all = parts_of save index more

    by_full : (b : Bool) → (length held + 1 == 256) ≡ b →
        ((0 + length xs) % 256 ≡ 0 → 0 < 256 →
        parts_behind save index [] (xs ++ more) ≡ parts_behind save index [] xs ++ all) →
        ((length (held ++ x ∷ []) + length xs) % 256 ≡ 0 → length (held ++ x ∷ []) < 256 →
        parts_behind save index (held ++ x ∷ []) (xs ++ more) ≡ parts_behind save index
        (held ++ x ∷ []) xs ++ all) →
        cond b (Part save index (held ++ x ∷ []) ∷ parts_behind save index [] (xs ++ more))
        (parts_behind save index (held ++ x ∷ []) (xs ++ more))
        ≡ cond b (Part save index (held ++ x ∷ []) ∷ parts_behind save index [] xs)
        (parts_behind save index (held ++ x ∷ []) xs) ++ all
    by_full true is empty longer =
        ap (λ bs. Part save index (held ++ x ∷ []) ∷ bs)
        (empty (whole_behind (length held) (length xs) whole (eqb-true (length held + 1) 256 is))
        (omega arith))
    by_full false is empty longer =
        let size : length (held ++ x ∷ []) ≡ length held + 1 = length-append held (x ∷ []) in
        let not_full : length held + 1 ≢ 256 = eqb-false (length held + 1) 256 is in
        let count : length (held ++ x ∷ []) + length xs ≡ length held + suc (length xs) =
        omega arith in
        longer (subst (λ n. n % 256 ≡ 0) (sym count) whole) (omega arith)

-- at most 256 frames are one part
parts_behind-short : (save index : ℕ) (held xs : List Sound) → 1 ≤ length held + length xs →
    length held + length xs ≤ 256 → length held < 256 →
    parts_behind save index held xs ≡ Part save index (held ++ xs) ∷ []
parts_behind-short save index [] [] some few below = absurd (omega arith)
parts_behind-short save index (h ∷ hs) [] some few below =
    ap (λ f. Part save index f ∷ []) (sym (append-nil (h ∷ hs)))
parts_behind-short save index held (x ∷ xs) some few below =
    by_full (length held + 1 == 256) refl (parts_behind-short save index (held ++ x ∷ []) xs)
  where
    none_left : (ys : List Sound) → length ys ≡ 0 → ys ≡ []
    none_left [] none = refl
    none_left (y ∷ ys) none = absurd (omega arith)

    by_full : (b : Bool) → (length held + 1 == 256) ≡ b →
        (1 ≤ length (held ++ x ∷ []) + length xs → length (held ++ x ∷ []) + length xs ≤ 256 →
        length (held ++ x ∷ []) < 256 →
        parts_behind save index (held ++ x ∷ []) xs ≡ Part save index ((held ++ x ∷ []) ++ xs)
        ∷ []) →
        cond b (Part save index (held ++ x ∷ []) ∷ parts_behind save index [] xs)
        (parts_behind save index (held ++ x ∷ []) xs)
        ≡ Part save index (held ++ x ∷ xs) ∷ []
    by_full true is longer =
        let full : length held + 1 ≡ 256 = eqb-true (length held + 1) 256 is in
        let none : length xs ≡ 0 = omega arith in
        let empty : xs ≡ [] = none_left xs none in
        subst (λ ys. Part save index (held ++ x ∷ [])
        ∷ parts_behind save index [] ys ≡ Part save index (held ++ x ∷ ys) ∷ []) (sym empty) refl
    by_full false is longer =
        let size : length (held ++ x ∷ []) ≡ length held + 1 = length-append held (x ∷ []) in
        let not_full : length held + 1 ≢ 256 = eqb-false (length held + 1) 256 is in
        longer (omega arith) (omega arith) (omega arith)
        ∙ ap (λ f. Part save index f ∷ []) (append_assoc held (x ∷ []) xs)

-- a part more of a list whose frames so far are whole parts
parts_of-more : (save index : ℕ) (list part : List Sound) → length list % 256 ≡ 0 →
    1 ≤ length part → length part ≤ 256 →
    parts_of save index (list ++ part) ≡ parts_of save index list ++ Part save index part ∷ []
parts_of-more save index list part whole some few =
    parts_behind-append save index [] list part (let from_none : (0 + length list) % 256 ≡ 0 =
    omega arith in from_none) (omega arith)
    ∙ ap (λ bs. parts_of save index list ++ bs)
    (parts_behind-short save index [] part (let from_one : 1 ≤ 0 + length part = omega arith in
    from_one) (let to_all : 0 + length part ≤ 256 = omega arith in to_all) (omega arith))

-- frames put behind the list at a place
abbrev pub put_at : ℕ → List Sound → List (List Sound) → List (List Sound)
put_at k more [] = []
put_at zero more (list ∷ lists) = (list ++ more) ∷ lists
put_at (suc k) more (list ∷ lists) = list ∷ put_at k more lists

-- from this place on all lists are empty
abbrev pub AreEmptyFrom : ℕ → List (List Sound) → Type 0
AreEmptyFrom k [] = ⊤
AreEmptyFrom zero (list ∷ lists) = (list ≡ []) × AreEmptyFrom zero lists
AreEmptyFrom (suc k) (list ∷ lists) = AreEmptyFrom k lists

-- empty lists have no parts
parts_of_lists-empty : (save index : ℕ) (lists : List (List Sound)) → AreEmptyFrom 0 lists →
    parts_of_lists save index lists ≡ []
parts_of_lists-empty save index [] empty = refl
parts_of_lists-empty save index (list ∷ lists) empty =
    ap (λ l. parts_of save index l ++ parts_of_lists save (index + 1) lists) empty.0
    ∙ parts_of_lists-empty save (index + 1) lists empty.1

-- a part more of one of the lists, behind which all are empty
pub parts_of_lists-put : (save first k : ℕ) (part : List Sound) (lists : List (List Sound)) →
    k < length lists →
    IfSome (slice_get lists k) (λ list. length list % 256 ≡ 0) → 1 ≤ length part →
    length part ≤ 256 → AreEmptyFrom (suc k) lists →
    parts_of_lists save first (put_at k part lists) ≡ parts_of_lists save first lists
    ++ Part save (first + k) part ∷ []
parts_of_lists-put save first k part [] inside whole some few empty = absurd (omega arith)
parts_of_lists-put save first zero part (list ∷ lists) inside whole some few empty =
    let none = parts_of_lists-empty save (first + 1) lists empty in
    let here : first ≡ first + 0 = omega arith in
    ap (λ bs. parts_of save first (list ++ part) ++ bs) none
    ∙ append-nil (parts_of save first (list ++ part))
    ∙ parts_of-more save first list part whole some few
    ∙ ap (λ i. parts_of save first list ++ Part save i part ∷ []) here
    ∙ ap (λ bs. bs ++ Part save (first + 0) part ∷ []) (sym (append-nil (parts_of save first list))
    ∙ ap (λ bs. parts_of save first list ++ bs) (sym none))
parts_of_lists-put save first (suc k) part (list ∷ lists) inside whole some few empty =
    let there : first + 1 + k ≡ first + suc k = omega arith in
    ap (λ bs. parts_of save first list ++ bs)
    (parts_of_lists-put save (first + 1) k part lists (omega arith) whole some few empty)
    ∙ sym (append_assoc (parts_of save first list) (parts_of_lists save (first + 1) lists)
    (Part save (first + 1 + k) part ∷ []))
    ∙ ap (λ i. parts_of_lists save first (list ∷ lists) ++ Part save i part ∷ []) there

-- what else such a part leaves
pub length-put_at : (k : ℕ) (part : List Sound) (lists : List (List Sound)) →
    length (put_at k part lists) ≡ length lists
length-put_at k part [] = refl
length-put_at zero part (list ∷ lists) = refl
length-put_at (suc k) part (list ∷ lists) = ap suc (length-put_at k part lists)

pub empty-put_at : (k : ℕ) (part : List Sound) (lists : List (List Sound)) →
    AreEmptyFrom (suc k) lists → AreEmptyFrom (suc k) (put_at k part lists)
empty-put_at k part [] empty = tt
empty-put_at zero part (list ∷ lists) empty = empty
empty-put_at (suc k) part (list ∷ lists) empty = empty-put_at k part lists empty

pub latest-put_at : (k frames : ℕ) (part : List Sound) (lists : List (List Sound)) →
    IfSome (slice_get lists k) (λ list. length list ≡ frames) →
    IfSome (slice_get (put_at k part lists) k) (λ list. length list ≡ frames + length part)
latest-put_at k frames part [] is = tt
latest-put_at zero frames part (list ∷ lists) is =
    length-append list part ∙ ap (λ n. n + length part) is
latest-put_at (suc k) frames part (list ∷ lists) is = latest-put_at k frames part lists is

pub short-put_at : (k frames : ℕ) (part : List Sound) (lists : List (List Sound)) →
    IfSome (slice_get lists k) (λ list. length list ≡ frames) →
    frames + length part ≤ max_list_frames →
    list_all (λ (list : List Sound). nat_le (length list) max_list_frames) lists ≡ true →
    list_all (λ (list : List Sound). nat_le (length list) max_list_frames) (put_at k part lists)
    ≡ true
short-put_at k frames part [] is fits short = refl
short-put_at zero frames part (list ∷ lists) is fits short =
    let parts = and_parts (nat_le (length list) max_list_frames)
    (list_all (λ (l : List Sound). nat_le (length l) max_list_frames) lists) short in
    let size : length (list ++ part) ≡ length list + length part = length-append list part in
    let is_frames : length list ≡ frames = is in
    and_from (nat_le (length (list ++ part)) max_list_frames)
    (list_all (λ (l : List Sound). nat_le (length l) max_list_frames) lists)
    (le-leb (length (list ++ part)) max_list_frames (omega arith)) parts.1
short-put_at (suc k) frames part (list ∷ lists) is fits short =
    let parts = and_parts (nat_le (length list) max_list_frames)
    (list_all (λ (l : List Sound). nat_le (length l) max_list_frames) lists) short in
    and_from (nat_le (length list) max_list_frames)
    (list_all (λ (l : List Sound). nat_le (length l) max_list_frames) (put_at k part lists))
    parts.0 (short-put_at k frames part lists is fits parts.1)

-- lists that are empty from a place on are so from each place behind it, and there they are empty
pub empty_behind : (k later : ℕ) (lists : List (List Sound)) → k ≤ later → AreEmptyFrom k lists →
    AreEmptyFrom later lists
empty_behind k later [] before empty = tt
empty_behind zero zero (list ∷ lists) before empty = empty
empty_behind zero (suc later) (list ∷ lists) before empty =
    empty_behind zero later lists (omega arith) empty.1
empty_behind (suc k) zero (list ∷ lists) before empty = absurd (omega arith)
empty_behind (suc k) (suc later) (list ∷ lists) before empty =
    empty_behind k later lists (omega arith) empty

pub empty_at : (k : ℕ) (lists : List (List Sound)) → AreEmptyFrom k lists →
    IfSome (slice_get lists k) (λ list. length list ≡ 0)
empty_at k [] empty = tt
empty_at zero (list ∷ lists) empty = ap length empty.0
empty_at (suc k) (list ∷ lists) empty = empty_at k lists empty

-- so many lists with no frames
pub all_empty : (count : ℕ) → AreEmptyFrom 0 (replicate count [])
all_empty zero = tt
all_empty (suc count) = (refl, all_empty count)

pub no_parts : (save first count : ℕ) → parts_of_lists save first (replicate count []) ≡ []
no_parts save first count = parts_of_lists-empty save first (replicate count []) (all_empty count)

pub none_long : (count : ℕ) → list_all (λ (list : List Sound). nat_le (length list) max_list_frames)
    (replicate count []) ≡ true
none_long zero = refl
none_long (suc count) = none_long count
