-- Saves that are held and of different loops are at most as many as the loops.
use Rattle.std.proofs.Common.{◌≡◌, ℕ, ◌<◌, ◌≤◌, Bool, true, false, List, [], ◌∷◌, length, map, refl, sym, subst, eqb}
use Rattle.std.specs.Prelude.{◌||◌}
use Rattle.sl_base.specs.Sounds.{Sound}
use Rattle.std.specs.List.{AllByRecursion, IsDistinct, list_any}
use Rattle.std.proofs.lemmas.Bool.{ne_eqb, eqb-true}
use Rattle.std.proofs.lemmas.List.{length-map}
use Rattle.std.proofs.lemmas.Map.Steps.{length-le_from_distinct_below}
use Rattle.sl_commands.specs.declared.Target.{Target}
use Rattle.sl_commands.specs.declared.Target.TheVariants.{One, All, Selected}
use Rattle.looper_rules.specs.Looper.{Looper}
use Rattle.looper_rules.specs.Saves.{Save}
use Rattle.looper_rules.specs.Unanswered.{holds_of, IsHeld}
use Rattle.run_laws.specs.Apart.{AreApart, AreAllApart}
use Rattle.looper_engine.proofs.HoldingLemmas.{AreHeld, hold_within}

-- the index of a save's loop; a session's counts as that of the first
abbrev index_in : Target → ℕ
index_in (One k) = k
index_in _ = 0

abbrev index_on : Save → ℕ
index_on s = index_in s.target

apart_indices : (t other : Target) → AreApart t other → eqb (index_in t) (index_in other) ≡ false
apart_indices (One i) (One k) apart = ne_eqb i k apart
apart_indices (One i) All apart = absurd apart
apart_indices (One i) Selected apart = absurd apart
apart_indices All other apart = absurd apart
apart_indices Selected other apart = absurd apart

all_indices_apart : (t : Target) (saves : List Save) →
    AllByRecursion (λ (other : Save). AreApart t other.target) saves →
    AllByRecursion (λ y. eqb (index_in t) y ≡ false) (map index_on saves)
all_indices_apart t [] all = tt
all_indices_apart t (s ∷ saves) all =
    (apart_indices t s.target all.0, all_indices_apart t saves all.1)

indices_distinct : (saves : List Save) → AreAllApart saves → IsDistinct eqb (map index_on saves)
unfolding IsDistinct
indices_distinct [] apart = tt
indices_distinct (s ∷ saves) apart =
    (all_indices_apart s.target saves apart.0, indices_distinct saves apart.1)

-- each index is that of a loop
index_within : (target : Target) (lists : List (List Sound)) (l : Looper) → 1 ≤ length l.tracks →
    IsHeld target lists (holds_of l) → index_in target < length l.tracks
index_within (One k) lists l some held = hold_within lists k l.tracks held
index_within All lists l some held = some
index_within Selected lists l some held = absurd held

indices_within : (l : Looper) (saves : List Save) → 1 ≤ length l.tracks → AreHeld l saves →
    (q : ℕ) → list_any (eqb q) (map index_on saves) ≡ true → q < length l.tracks
indices_within l [] some held q has = absurd (cc)
indices_within l (s ∷ saves) some held q has =
    by_test (eqb q (index_on s)) refl has (indices_within l saves some held.1 q)
  where
    by_test : (b : Bool) → eqb q (index_on s) ≡ b →
        (b || list_any (eqb q) (map index_on saves)) ≡ true →
        (list_any (eqb q) (map index_on saves) ≡ true → q < length l.tracks) → q < length l.tracks
    by_test true is any rest = subst (λ n. n < length l.tracks) (sym (eqb-true q (index_on s) is))
        (index_within s.target s.lists l some held.0)
    by_test false is any rest = rest any

-- so the saves are at most as many as the loops
pub few_wait : (l : Looper) (saves : List Save) → 1 ≤ length l.tracks → AreHeld l saves →
    AreAllApart saves → length saves ≤ length l.tracks
few_wait l saves some held apart =
    subst (λ n. n ≤ length l.tracks) (length-map saves index_on)
    (length-le_from_distinct_below (map index_on saves) (length l.tracks)
    (indices_distinct saves apart) (indices_within l saves some held))
