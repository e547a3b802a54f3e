-- The blocks of saves that are numbered in order may follow one another.
use Rattle.std.proofs.Common.{◌≡◌, ℕ, suc, ◌+◌, ◌≤◌, true, List, [], ◌∷◌, ◌++◌, length, Some, None, refl, sym, ap, ◌∙◌, subst, arith, append_assoc, append-nil}
use Rattle.std.proofs.lemmas.Bool.{and_from, and_parts}
use Rattle.sl_commands.specs.declared.Block.{Block}
use Rattle.sl_commands.specs.Blocks.{place_of, may_follow, may_all_follow}
use Rattle.sl_commands.proofs.BlockLemmas.{place_of-save, save_follows}
use Rattle.looper_rules.specs.Saves.{Save}
use Rattle.looper_rules.specs.SaveBlocks.{blocks_of_save, blocks_for_all, AreSent}

-- blocks may follow where some of them may, and the rest behind those
may_all_follow-append : (sent xs ys : List Block) (bound : ℕ) →
    may_all_follow sent xs bound ≡ true → may_all_follow (sent ++ xs) ys bound ≡ true →
    may_all_follow sent (xs ++ ys) bound ≡ true
may_all_follow-append sent [] ys bound first next =
    subst (λ all. may_all_follow all ys bound ≡ true) (append-nil sent) next
may_all_follow-append sent (x ∷ xs) ys bound first next =
    let parts = and_parts (may_follow sent x bound) (may_all_follow (sent ++ x ∷ []) xs bound)
    first in
    let joined : (sent ++ x ∷ []) ++ xs ≡ sent ++ x ∷ xs = append_assoc sent (x ∷ []) xs in
    and_from (may_follow sent x bound) (may_all_follow (sent ++ x ∷ []) (xs ++ ys) bound) parts.0
    (may_all_follow-append (sent ++ x ∷ []) xs ys bound parts.1
    (subst (λ all. may_all_follow all ys bound ≡ true) (sym joined) next))

-- the blocks of a save behind whole saves, numbered as its own number says
one_more : (sent : List Block) (first : ℕ) (s : Save) (saves : List Save) →
    AreSent first (s ∷ saves) →
    place_of sent ≡ Some (record { saves = first; underway = None }) →
    place_of (sent ++ blocks_of_save s) ≡ Some (record { saves = first + 1; underway = None })
one_more sent first s saves are due =
    let due_it : place_of sent ≡ Some (record { saves = s.number; underway = None }) =
    due ∙ ap (λ n. Some (record { saves = n; underway = None })) (sym are.0) in
    place_of-save sent s.number s.name s.target s.settings s.lists due_it are.1.save
    ∙ ap (λ n. Some (record { saves = n + 1; underway = None })) are.0

-- how far the blocks of saves take the place on
pub place_of-blocks_for_all : (sent : List Block) (first : ℕ) (saves : List Save) →
    AreSent first saves →
    place_of sent ≡ Some (record { saves = first; underway = None }) →
    place_of (sent ++ blocks_for_all saves) ≡ Some
    (record { saves = first + length saves; underway = None })
place_of-blocks_for_all sent first [] are due =
    ap place_of (append-nil sent) ∙ due ∙ ap (λ n. Some (record { saves = n; underway = None }))
    (let same : first ≡ first + 0 = omega arith in same)
place_of-blocks_for_all sent first (s ∷ saves) are due =
    let count : first + 1 + length saves ≡ first + suc (length saves) = omega arith in
    ap place_of (sym (append_assoc sent (blocks_of_save s) (blocks_for_all saves)))
    ∙ place_of-blocks_for_all (sent ++ blocks_of_save s) (first + 1) saves are.2
    (one_more sent first s saves are due)
    ∙ ap (λ n. Some (record { saves = n; underway = None })) count

-- and that they may follow
pub blocks_for_all_follow : (sent : List Block) (first bound : ℕ) (saves : List Save) →
    AreSent first saves →
    place_of sent ≡ Some (record { saves = first; underway = None }) →
    first + length saves ≤ bound →
    may_all_follow sent (blocks_for_all saves) bound ≡ true
blocks_for_all_follow sent first bound [] are due few = refl
blocks_for_all_follow sent first bound (s ∷ saves) are due few =
    let number : s.number ≡ first = are.0 in
    let due_it : place_of sent ≡ Some (record { saves = s.number; underway = None }) =
    due ∙ ap (λ n. Some (record { saves = n; underway = None })) (sym are.0) in
    may_all_follow-append sent (blocks_of_save s) (blocks_for_all saves) bound
    (save_follows sent s.number s.name s.target s.settings s.lists bound due_it are.1.save
    (omega arith))
    (blocks_for_all_follow (sent ++ blocks_of_save s) (first + 1) bound saves are.2
    (one_more sent first s saves are due) (omega arith))
