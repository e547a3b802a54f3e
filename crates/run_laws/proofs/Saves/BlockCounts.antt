-- How many blocks saves have at most.
use Rattle.std.proofs.Common.{◌≡◌, ◌≢◌, ℕ, suc, ◌+◌, ◌*◌, ◌/◌, ◌≤◌, ◌<◌, Bool, true, false, cond, List, [], ◌∷◌, ◌++◌, length, refl, arith, length-append}
use Rattle.std.specs.Prelude.{◌==◌, ◌&&◌, nat_le}
use Rattle.std.specs.List.{AllByRecursion, list_all}
use Rattle.std.proofs.lemmas.Bool.{eqb-true, eqb-false, and_parts, leb-true}
use Rattle.sl_base.specs.Limits.{max_list_frames}
use Rattle.sl_base.specs.Sounds.{Sound}
use Rattle.sl_commands.specs.declared.Target.{Target}
use Rattle.sl_commands.specs.declared.Target.TheVariants.{One, All, Selected}
use Rattle.sl_commands.specs.declared.Block.TheVariants.{Part, End}
use Rattle.sl_commands.specs.Settings.{LooperSettings, is_rate, is_loop_count, are_globals, are_strips, are_settings}
use Rattle.sl_commands.specs.Blocks.{parts_behind, parts_of, parts_of_lists, first_index}
use Rattle.looper_rules.specs.Saves.{Save}
use Rattle.looper_rules.specs.SaveBlocks.{blocks_of_save, blocks_for_all, list_count, IsMade}

-- the parts of a list are its frames by 256, rounded up
one_part : (n : ℕ) → 1 ≤ n → n < 256 → 1 ≡ (n + 0 + 255) / 256
one_part n some below = omega arith

full_part : (held rest : ℕ) → held + 1 ≡ 256 →
    suc ((0 + rest + 255) / 256) ≡ (held + suc rest + 255) / 256
full_part held rest full = omega arith

length-parts_behind : (save index : ℕ) (held xs : List Sound) → length held < 256 →
    length (parts_behind save index held xs) ≡ (length held + length xs + 255) / 256
length-parts_behind save index [] [] below = refl
length-parts_behind save index (h ∷ hs) [] below = one_part (length (h ∷ hs)) (omega arith) below
length-parts_behind save index held (x ∷ xs) below =
    by_full (length held + 1 == 256) refl (length-parts_behind save index [] xs)
    (length-parts_behind save index (held ++ x ∷ []) xs)
  where
    by_full : (b : Bool) → (length held + 1 == 256) ≡ b →
        (0 < 256 → length (parts_behind save index [] xs) ≡ (0 + length xs + 255) / 256) →
        (length (held ++ x ∷ []) < 256 → length (parts_behind save index (held ++ x ∷ []) xs)
        ≡ (length (held ++ x ∷ []) + length xs + 255) / 256) →
        length (cond b (Part save index (held ++ x ∷ []) ∷ parts_behind save index [] xs)
        (parts_behind save index (held ++ x ∷ []) xs)) ≡ (length held + suc (length xs) + 255)
        / 256
    by_full true is empty longer =
        let rest : length (parts_behind save index [] xs) ≡ (0 + length xs + 255) / 256 =
        empty (omega arith) in
        let full : length held + 1 ≡ 256 = eqb-true (length held + 1) 256 is in
        let sum = full_part (length held) (length xs) full in
        omega arith
    by_full false is empty longer =
        let size : length (held ++ x ∷ []) ≡ length held + 1 = length-append held (x ∷ []) in
        let not_full : length held + 1 ≢ 256 = eqb-false (length held + 1) 256 is in
        let rest : length (parts_behind save index (held ++ x ∷ []) xs)
        ≡ (length (held ++ x ∷ []) + length xs + 255) / 256 = longer (omega arith) in
        omega arith

pub length-parts_of : (save index : ℕ) (list : List Sound) →
    length (parts_of save index list) ≡ (length list + 255) / 256
length-parts_of save index list =
    let all : length (parts_of save index list) ≡ (0 + length list + 255) / 256 =
    length-parts_behind save index [] list (omega arith) in omega arith

-- of lists that aren't too long
length-parts_of_lists : (save index : ℕ) (lists : List (List Sound)) →
    list_all (λ (list : List Sound). nat_le (length list) max_list_frames) lists ≡ true →
    length (parts_of_lists save index lists) ≤ length lists * 65536
length-parts_of_lists save index [] short = omega arith
length-parts_of_lists save index (list ∷ lists) short =
    let tests = and_parts (nat_le (length list) max_list_frames)
    (list_all (λ (l : List Sound). nat_le (length l) max_list_frames) lists) short in
    let most : length list ≤ 16777216 = leb-true (length list) max_list_frames tests.0 in
    let parts = length-parts_of save index list in
    let rest = length-parts_of_lists save (index + 1) lists tests.1 in
    let all = length-append (parts_of save index list) (parts_of_lists save (index + 1) lists) in
    omega arith

-- a save has at most 16 lists
few_loops : (s : LooperSettings) → are_settings s ≡ true → length s.strips ≤ 16
few_loops s in_range =
    let outer = and_parts (is_rate s.rate && is_loop_count (length s.strips)
    && are_globals (length s.strips) s.globals) (are_strips s.strips) in_range in
    let middle = and_parts (is_rate s.rate && is_loop_count (length s.strips))
    (are_globals (length s.strips) s.globals) outer.0 in
    let inner = and_parts (is_rate s.rate) (is_loop_count (length s.strips)) middle.0 in
    leb-true (length s.strips) 16
    (and_parts (nat_le 1 (length s.strips)) (nat_le (length s.strips) 16) inner.1).1

few_lists : (target : Target) (loops : ℕ) → loops ≤ 16 → list_count target loops ≤ 16
few_lists (One k) loops few = omega arith
few_lists All loops few = few
few_lists Selected loops few = omega arith

pub length-blocks_of_save : (s : Save) → IsMade s → length (blocks_of_save s) ≤ 1048578
length-blocks_of_save s h =
    let lists : length s.lists ≡ list_count s.target (length s.settings.strips) = h.sent.count in
    let few : list_count s.target (length s.settings.strips) ≤ 16 =
    few_lists s.target (length s.settings.strips) (few_loops s.settings h.settings) in
    let parts = length-parts_of_lists s.number (first_index s.target) s.lists h.sent.save.short in
    let all = length-append (parts_of_lists s.number (first_index s.target) s.lists)
    (End s.number ∷ []) in
    omega arith

pub length-blocks_for_all : (saves : List Save) → AllByRecursion IsMade saves →
    length (blocks_for_all saves) ≤ length saves * 1048578
length-blocks_for_all [] made = omega arith
length-blocks_for_all (s ∷ saves) made =
    let first = length-blocks_of_save s made.0 in
    let rest = length-blocks_for_all saves made.1 in
    let all = length-append (blocks_of_save s) (blocks_for_all saves) in
    omega arith
