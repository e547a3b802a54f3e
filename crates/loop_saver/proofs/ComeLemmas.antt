-- The blocks of a save may come one after another.
use Rattle.std.proofs.Common.{◌≡◌, ℕ, ◌+◌, Bool, true, false, cond, List, [], ◌∷◌, ◌++◌, length, refl, sym, ap, ◌∙◌, subst}
use Rattle.std.specs.Prelude.{Option, Some, None, ◌==◌, is_some}
use Rattle.std.specs.Bool.{then_some}
use Rattle.std.specs.List.{list_all}
use Rattle.std.proofs.lemmas.Bool.{and_parts, and_from, eqb-true}
use Rattle.sl_base.specs.Sounds.{Sound}
use Rattle.sl_commands.specs.declared.Block.{Block}
use Rattle.sl_commands.specs.declared.Block.TheVariants.{Head, Part, End}
use Rattle.sl_commands.specs.Blocks.{parts_behind, parts_of_lists, first_index, Underway, Place, is_save_target, may_be_part, place_after, place_behind, save_of, fits_name, fits_target}
use Rattle.sl_commands.proofs.BlockLemmas.{save_comes}
use Rattle.looper_rules.specs.Saves.{Save}
use Rattle.looper_rules.specs.SaveBlocks.{blocks_of_save, MayBeSent}
use Rattle.loop_saver.specs.Savers.{SavingOf, underway_in, may_come, behind, may_all_come}

-- where there is something, the test held
pub some_then : {A : Type 0} (test : Bool) (x y : A) → then_some test x ≡ Some y → (test ≡ true)
    × (x ≡ y)
some_then true x y is = (refl, cc)
some_then false x y is = absurd (cc)

-- a block that comes is of the save that is due
pub its_save : (saves : ℕ) (underway : Option Underway) (b : Block) (p : Place) →
    place_after saves underway b ≡ Some p → save_of b ≡ saves
its_save saves None (Head save name target settings) p is =
    eqb-true save saves (and_parts (save == saves) (is_save_target target) (some_then _ _ p is).0).0
its_save saves None (Part save index frames) p is = absurd (cc)
its_save saves None (End save) p is = absurd (cc)
its_save saves (Some b) (Head save name target settings) p is = absurd (cc)
its_save saves (Some b) (Part save index frames) p is =
    eqb-true save saves
    (and_parts (save == saves) (may_be_part b index (length frames)) (some_then _ _ p is).0).0
its_save saves (Some b) (End save) p is = eqb-true save saves (some_then _ _ p is).0

-- how far blocks have come behind it is how far the saver has
underway_behind : (saves : ℕ) (saving : Option SavingOf) (b : Block) (p : Place) →
    place_after saves (underway_in saving) b ≡ Some p → p.underway ≡ underway_in (behind saving b)
underway_behind saves None (Head save name target settings) p is =
    sym (ap (λ (q : Place). q.underway) (some_then _ _ p is).1)
underway_behind saves None (Part save index frames) p is = absurd (cc)
underway_behind saves None (End save) p is = absurd (cc)
underway_behind saves (Some s) (Head save name target settings) p is = absurd (cc)
underway_behind saves (Some s) (Part save index frames) p is =
    sym (ap (λ (q : Place). q.underway) (some_then _ _ p is).1)
underway_behind saves (Some s) (End save) p is =
    sym (ap (λ (q : Place). q.underway) (some_then _ _ p is).1)

-- nothing comes where nothing is due
none_behind : (bs : List Block) → place_behind None bs ≡ None
none_behind [] = refl
none_behind (b ∷ bs) = refl

-- a block that is in its order and whose name fits may come, and those behind it
one_more_comes :
    (saves : ℕ) (saving : Option SavingOf) (b : Block) (bs : List Block) (q : Place)
    (o : Option Place) → place_after saves (underway_in saving) b ≡ o →
    place_behind o bs ≡ Some q →
    fits_name b ≡ true →
    ((next : ℕ) → place_behind
    (Some (record { saves = next; underway = underway_in (behind saving b) })) bs ≡ Some q →
    may_all_come (behind saving b) bs ≡ true) →
    may_all_come saving (b ∷ bs) ≡ true
one_more_comes saves saving b bs q None here there fits others = let none = none_behind bs in
    absurd (cc)
one_more_comes saves saving b bs q (Some p) here there fits others =
    let same = its_save saves (underway_in saving) b p here in
    let now : place_after (save_of b) (underway_in saving) b ≡ Some p =
    ap (λ n. place_after n (underway_in saving) b) same ∙ here in
    let comes : may_come saving b ≡ true =
    and_from (is_some (place_after (save_of b) (underway_in saving) b)) (fits_name b)
    (ap is_some now) fits in
    let next : Some p ≡ Some
    (record { saves = p.saves; underway = underway_in (behind saving b) }) =
    ap (λ o. Some (let r : Place = record { saves = p.saves; underway = o } in r))
    (underway_behind saves saving b p here) in
    and_from (may_come saving b) (may_all_come (behind saving b) bs) comes
    (others p.saves (subst (λ o. place_behind o bs ≡ Some q) next there))

-- blocks that are in their order and whose names fit may come
blocks_come :
    (saves : ℕ) (saving : Option SavingOf) (bs : List Block) (q : Place) →
    place_behind (Some (record { saves = saves; underway = underway_in saving })) bs ≡ Some q →
    list_all fits_name bs ≡ true → may_all_come saving bs ≡ true
blocks_come saves saving [] q is fit = refl
blocks_come saves saving (b ∷ bs) q is fit =
    let fits = and_parts (fits_name b) (list_all fits_name bs) fit in
    one_more_comes saves saving b bs q (place_after saves (underway_in saving) b) refl is fits.0
    (λ next there. blocks_come next (behind saving b) bs q there fits.1)

-- only a head has a name
fits-append : (xs ys : List Block) → list_all fits_name xs ≡ true → list_all fits_name ys ≡ true →
    list_all fits_name (xs ++ ys) ≡ true
fits-append [] ys first next = next
fits-append (x ∷ xs) ys first next =
    let parts = and_parts (fits_name x) (list_all fits_name xs) first in
    and_from (fits_name x) (list_all fits_name (xs ++ ys)) parts.0 (fits-append xs ys parts.1 next)

parts_fit : (save index : ℕ) (held xs : List Sound) →
    list_all fits_name (parts_behind save index held xs) ≡ true
parts_fit save index [] [] = refl
parts_fit save index (h ∷ hs) [] = refl
parts_fit save index held (x ∷ xs) = by_full (length held + 1 == 256) (parts_fit save index [] xs)
    (parts_fit save index (held ++ x ∷ []) xs)
  where
    by_full : (b : Bool) → list_all fits_name (parts_behind save index [] xs) ≡ true →
        list_all fits_name (parts_behind save index (held ++ x ∷ []) xs) ≡ true →
        list_all fits_name
        (cond b (Part save index (held ++ x ∷ []) ∷ parts_behind save index [] xs)
        (parts_behind save index (held ++ x ∷ []) xs)) ≡ true
    by_full true full longer = full
    by_full false full longer = longer

lists_fit : (save index : ℕ) (lists : List (List Sound)) →
    list_all fits_name (parts_of_lists save index lists) ≡ true
lists_fit save index [] = refl
lists_fit save index (list ∷ lists) =
    fits-append (parts_behind save index [] list) (parts_of_lists save (index + 1) lists)
    (parts_fit save index [] list) (lists_fit save (index + 1) lists)

pub save_blocks_come : (s : Save) → MayBeSent s → may_all_come None (blocks_of_save s) ≡ true
save_blocks_come s may =
    let parts = parts_of_lists s.number (first_index s.target) s.lists in
    let fit : list_all fits_name (parts ++ End s.number ∷ []) ≡ true =
    fits-append parts (End s.number ∷ []) (lists_fit s.number (first_index s.target) s.lists)
    refl in
    blocks_come s.number None (blocks_of_save s) _
    (save_comes s.number s.name s.target s.settings s.lists may.save)
    (and_from (fits_target s.target s.name) (list_all fits_name (parts ++ End s.number ∷ []))
    may.save.named fit)
