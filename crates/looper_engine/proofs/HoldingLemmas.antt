-- The saves that wait have the lists that the pins hold, and so they stay what they are while these
-- pins stand.
use Rattle.std.proofs.Common.{◌≡◌, ℕ, zero, suc, ◌<◌, true, List, [], ◌∷◌, ◌++◌, length, map, Option, Some, None, refl, sym, ap, ap₂, ◌∙◌, arith}
use Rattle.std.specs.Prelude.{slice_get, option_map}
use Rattle.std.specs.List.{AllByRecursion}
use Rattle.std.proofs.lemmas.Bool.{lt-ltb}
use Rattle.sl_base.specs.Sounds.{Sound}
use Rattle.sl_commands.specs.declared.Target.{Target}
use Rattle.sl_commands.specs.declared.Target.TheVariants.{One, All, Selected}
use Rattle.sl_commands.specs.Commands.{is_release_target}
use Rattle.looper_rules.specs.Stack.{Pin, pinned_list}
use Rattle.looper_rules.specs.Looper.{Track, Looper}
use Rattle.looper_rules.specs.Pins.{pin_on}
use Rattle.looper_rules.specs.Saves.{Save}
use Rattle.looper_rules.specs.Unanswered.{Hold, hold_on, holds_of, list_in, HoldsLoop, IsHeld}
use Rattle.whole_looper.specs.Loopers.{held_on}
use Rattle.looper_engine.specs.declared.queue.Pending.{Pending}
use Rattle.looper_engine.specs.Holding.{pinned_on, lists_for, held_save, held_saves}

-- the list that a pin holds is that of the hold
pin_list : (p : Option (Pin Sound)) (list : List Sound) → option_map list_in p ≡ Some list →
    list ≡ pinned_list p
pin_list None list is = absurd (cc)
pin_list (Some pin) list is = cc

-- the one list of a loop's save
one_list : (lists : List (List Sound)) (p : Option (Pin Sound)) → option_map list_in p
    ∷ [] ≡ map (λ (list : List Sound). Some list) lists → lists ≡ pinned_list p ∷ []
one_list [] p is = absurd (cc)
one_list (list ∷ []) p is = let first : option_map list_in p ≡ Some list = cc in
    ap (λ l. l ∷ []) (pin_list p list first)
one_list (list ∷ other ∷ lists) p is = absurd (cc)

loop_lists : (lists : List (List Sound)) (k : ℕ) (ts : List Track) →
    HoldsLoop lists (slice_get (map hold_on ts) k) → lists ≡ held_on (slice_get ts k) ∷ []
loop_lists lists k [] held = absurd held
loop_lists lists zero (t ∷ ts) held = one_list lists (pin_on t) held.0
loop_lists lists (suc k) (t ∷ ts) held = loop_lists lists k ts held

-- the lists of a session's save
session_lists : (lists : List (List Sound)) (ts : List Track) → map (λ (h : Hold). h.list)
    (map hold_on ts) ≡ map (λ (list : List Sound). Some list) lists →
    lists ≡ map pinned_on ts
session_lists [] [] is = refl
session_lists [] (t ∷ ts) is = absurd (cc)
session_lists (list ∷ lists) [] is = absurd (cc)
session_lists (list ∷ lists) (t ∷ ts) is =
    let first : option_map list_in (pin_on t) ≡ Some list = cc
    in let rest : map (λ (h : Hold). h.list)
    (map hold_on ts) ≡ map (λ (l : List Sound). Some l) lists = cc
    in ap₂ (λ l ls. l ∷ ls) (pin_list (pin_on t) list first) (session_lists lists ts rest)

pub lists_are : (target : Target) (lists : List (List Sound)) (l : Looper) →
    IsHeld target lists (holds_of l) → lists ≡ lists_for target l
lists_are (One k) lists l held = loop_lists lists k l.tracks held
lists_are All lists l held = session_lists lists l.tracks held.saved
lists_are Selected lists l held = absurd held

-- these saves are held
abbrev pub AreHeld : Looper → List Save → Type 0
AreHeld l saves = AllByRecursion (λ (s : Save). IsHeld s.target s.lists (holds_of l)) saves

-- the save with the lists that the pins hold
abbrev pub with_lists : Looper → Save → Save
with_lists l s = record s { lists = lists_for s.target l }

pub held_is : (l : Looper) (s : Save) → IsHeld s.target s.lists (holds_of l) → with_lists l s ≡ s
held_is l s held = ap (λ lists. let x : Save = record s { lists = lists } in x)
    (sym (lists_are s.target s.lists l held))

all_held_are : (l : Looper) (saves : List Save) → AreHeld l saves → map (with_lists l) saves ≡ saves
all_held_are l [] held = refl
all_held_are l (s ∷ saves) held =
    ap₂ (λ x xs. x ∷ xs) (held_is l s held.0) (all_held_are l saves held.1)

held_saves-with_lists : (l now : Looper) (ps : List Pending) →
    held_saves now ps ≡ map (with_lists now) (held_saves l ps)
held_saves-with_lists l now [] = refl
held_saves-with_lists l now (p ∷ ps) =
    ap (λ xs. held_save now p ∷ xs) (held_saves-with_lists l now ps)

-- saves whose lists are still held stay what they are
pub held_saves-still : (l now : Looper) (ps : List Pending) → AreHeld now (held_saves l ps) →
    held_saves now ps ≡ held_saves l ps
held_saves-still l now ps held =
    held_saves-with_lists l now ps ∙ all_held_are now (held_saves l ps) held

-- a save that is held has a target that a release can name
pub hold_within : (lists : List (List Sound)) (k : ℕ) (ts : List Track) →
    HoldsLoop lists (slice_get (map hold_on ts) k) → k < length ts
hold_within lists k [] held = absurd held
hold_within lists zero (t ∷ ts) held = omega arith
hold_within lists (suc k) (t ∷ ts) held = let less = hold_within lists k ts held in omega arith

pub held_target : (target : Target) (lists : List (List Sound)) (l : Looper) →
    IsHeld target lists (holds_of l) → is_release_target (length l.tracks) target ≡ true
held_target (One k) lists l held = lt-ltb k (length l.tracks) (hold_within lists k l.tracks held)
held_target All lists l held = refl
held_target Selected lists l held = absurd held

-- what holds of all saves holds of the first and of the later ones
pub all_left : (P : Save → Type 0) (xs ys : List Save) → AllByRecursion P (xs ++ ys) →
    AllByRecursion P xs
all_left P [] ys all = tt
all_left P (x ∷ xs) ys all = (all.0, all_left P xs ys all.1)

pub all_right : (P : Save → Type 0) (xs ys : List Save) → AllByRecursion P (xs ++ ys) →
    AllByRecursion P ys
all_right P [] ys all = all
all_right P (x ∷ xs) ys all = all_right P xs ys all.1
