-- The pins that stand are those of the saves that no release has answered: how lists of holds and
-- of saves change.
use Rattle.std.proofs.Common.{◌≡◌, ℕ, zero, suc, Bool, true, false, not, List, [], ◌∷◌, ◌++◌, map, filter, Option, Some, None, length, is_some, slice_get, option_map, refl, sym, ap, ◌∙◌, subst, inl, inr, arith}
use Rattle.std.specs.Prelude.{◌≢◌, IfSome, IsTrue, ◌==◌, if◌then◌else◌}
use Rattle.std.specs.List.{AllByRecursion}
use Rattle.std.proofs.lemmas.Bool.{eqb-true, eqb-false}
use Rattle.std.proofs.lemmas.Option.{slice_get-map}
use Rattle.sl_base.specs.Sounds.{Sound}
use Rattle.sl_commands.specs.declared.Target.{Target}
use Rattle.sl_commands.specs.declared.Target.TheVariants.{One, All, Selected}
use Rattle.looper_rules.specs.Looper.{Asker}
use Rattle.looper_rules.specs.Saves.{Save, loop_asker, session_asker}
use Rattle.looper_rules.specs.Unanswered.{answers, Hold, HoldsLoop, HoldsSession, IsHeld, HasTarget, held_for, IsOwned, HoldPins}

-- the hold at an index changed
abbrev pub changed : ℕ → (Hold → Hold) → List Hold → List Hold
changed k change [] = []
changed zero change (h ∷ hs) = change h ∷ hs
changed (suc k) change (h ∷ hs) = h ∷ changed k change hs

pub get-changed : (k : ℕ) (change : Hold → Hold) (hs : List Hold) →
    slice_get (changed k change hs) k ≡ option_map change (slice_get hs k)
get-changed k change [] = refl
get-changed zero change (h ∷ hs) = refl
get-changed (suc k) change (h ∷ hs) = get-changed k change hs

pub get-changed_other : (k j : ℕ) (change : Hold → Hold) (hs : List Hold) → j ≢ k →
    slice_get (changed k change hs) j ≡ slice_get hs j
get-changed_other k j change [] other = refl
get-changed_other zero zero change (h ∷ hs) other = absurd (other refl)
get-changed_other zero (suc j) change (h ∷ hs) other = refl
get-changed_other (suc k) zero change (h ∷ hs) other = refl
get-changed_other (suc k) (suc j) change (h ∷ hs) other =
    get-changed_other k j change hs (λ same. other (ap suc same))

-- a hold that a release of its loop's save, or of the session's, takes away
abbrev pub gone : Option Asker → Hold → Hold
gone None h = h
gone (Some asker) h = record { asker = None; list = None }

abbrev pub loop_gone : Hold → Hold
loop_gone h = gone (loop_asker h.asker) h

abbrev pub session_gone : Hold → Hold
session_gone h = gone (session_asker h.asker) h

-- an asker is of a loop's save or of a session's
pub of_loop_alone : (a : Option Asker) → IsTrue (is_some (loop_asker a)) → session_asker a ≡ None
of_loop_alone None is = absurd (cc)
of_loop_alone (Some asker) is = by_kind asker.of_session refl
  where
    by_kind : (kind : Bool) → asker.of_session ≡ kind → session_asker (Some asker) ≡ None
    by_kind true session = let none : loop_asker (Some asker) ≡ None =
        ap (λ k. if k then None else Some asker) session in absurd (cc)
    by_kind false loop = ap (λ k. if k then Some asker else None) loop

pub of_session_alone : (a : Option Asker) → IsTrue (is_some (session_asker a)) → loop_asker a ≡ None
of_session_alone None is = absurd (cc)
of_session_alone (Some asker) is = by_kind asker.of_session refl
  where
    by_kind : (kind : Bool) → asker.of_session ≡ kind → loop_asker (Some asker) ≡ None
    by_kind true session = ap (λ k. if k then None else Some asker) session
    by_kind false loop = let none : session_asker (Some asker) ≡ None =
        ap (λ k. if k then Some asker else None) loop in absurd (cc)

-- no asker stands on the track of an index
abbrev pub IsFree : Option Hold → Type 0
IsFree o = IfSome o (λ (h : Hold). h.asker ≡ None)

-- a hold that is put where none stood leaves the lists of all other saves held
loop_beside : (lists : List (List Sound)) (j k : ℕ) (change : Hold → Hold) (hs : List Hold) →
    IsFree (slice_get hs k) →
    HoldsLoop lists (slice_get hs j) → HoldsLoop lists (slice_get (changed k change hs) j)
loop_beside lists j k change [] free held = held
loop_beside lists zero zero change (h ∷ hs) free held =
    absurd (let none : loop_asker h.asker ≡ None = ap loop_asker free in cc)
loop_beside lists zero (suc k) change (h ∷ hs) free held = held
loop_beside lists (suc j) zero change (h ∷ hs) free held = held
loop_beside lists (suc j) (suc k) change (h ∷ hs) free held =
    loop_beside lists j k change hs free held

asked_everywhere : (k : ℕ) (change : Hold → Hold) (hs : List Hold) → IsFree (slice_get hs k) →
    AllByRecursion (λ (h : Hold). IsTrue (is_some (session_asker h.asker))) hs →
    changed k change hs ≡ hs
asked_everywhere k change [] free asked = refl
asked_everywhere zero change (h ∷ hs) free asked =
    absurd (let none : session_asker h.asker ≡ None = ap session_asker free in cc)
asked_everywhere (suc k) change (h ∷ hs) free asked =
    ap (λ rest. h ∷ rest) (asked_everywhere k change hs free asked.1)

held_beside : (target : Target) (lists : List (List Sound)) (k : ℕ) (change : Hold → Hold)
    (hs : List Hold) → IsFree (slice_get hs k) →
    IsHeld target lists hs → IsHeld target lists (changed k change hs)
held_beside (One j) lists k change hs free held = loop_beside lists j k change hs free held
held_beside All lists k change hs free held =
    subst (λ now. HoldsSession lists now) (sym (asked_everywhere k change hs free held.asked)) held
held_beside Selected lists k change hs free held = held

-- what holds of all saves holds of each that is added and kept
pub all_append : (P : Save → Type 0) (xs ys : List Save) → AllByRecursion P xs →
    AllByRecursion P ys → AllByRecursion P (xs ++ ys)
all_append P [] ys first next = next
all_append P (x ∷ xs) ys first next = (first.0, all_append P xs ys first.1 next)

pub all_weaker : (P Q : Save → Type 0) (xs : List Save) → ((x : Save) → P x → Q x) →
    AllByRecursion P xs → AllByRecursion Q xs
all_weaker P Q [] weaker all = tt
all_weaker P Q (x ∷ xs) weaker all = (weaker x all.0, all_weaker P Q xs weaker all.1)

all_kept : (P Q : Save → Type 0) (keeps : Save → Bool) (xs : List Save) →
    ((x : Save) → keeps x ≡ true → P x → Q x) →
    AllByRecursion P xs → AllByRecursion Q (filter keeps xs)
all_kept P Q keeps [] each all = tt
all_kept P Q keeps (x ∷ xs) each all = by_test (keeps x) refl (all_kept P Q keeps xs each all.1)
  where
    by_test : (b : Bool) → keeps x ≡ b → AllByRecursion Q (filter keeps xs) →
        AllByRecursion Q (if b then x ∷ filter keeps xs else filter keeps xs)
    by_test true is rest = (each x is all.0, rest)
    by_test false is rest = rest

pub has_left : (target : Target) (xs ys : List Save) → HasTarget target xs →
    HasTarget target (xs ++ ys)
has_left target [] ys has = absurd has
has_left target (x ∷ xs) ys (inl here) = inl here
has_left target (x ∷ xs) ys (inr there) = inr (has_left target xs ys there)

pub has_last : (xs : List Save) (s : Save) → HasTarget s.target (xs ++ s ∷ [])
has_last [] s = inl refl
has_last (x ∷ xs) s = inr (has_last xs s)

-- a save that a release doesn't answer is still there
abbrev pub kept_by : Target → List Save → List Save
kept_by target saves = filter (λ (s : Save). not (answers target s.target)) saves

has_kept : (release target : Target) (xs : List Save) → answers release target ≡ false →
    HasTarget target xs → HasTarget target (kept_by release xs)
has_kept release target [] other has = absurd has
has_kept release target (x ∷ xs) other has =
    by_test (not (answers release x.target)) refl has (has_kept release target xs other)
  where
    by_test : (b : Bool) → not (answers release x.target) ≡ b → HasTarget target (x ∷ xs) →
        (HasTarget target xs → HasTarget target (kept_by release xs)) →
        HasTarget target (if b then x ∷ kept_by release xs else kept_by release xs)
    by_test true is (inl here) rest = inl here
    by_test true is (inr there) rest = inr (rest there)
    by_test false is (inl here) rest =
        let passes : not (answers release x.target) ≡ true = ap (λ t. not (answers release t)) here
        ∙ ap not other in absurd (cc)
    by_test false is (inr there) rest = rest there

-- the target of a hold, by whose it is
held_for-loop : (k : ℕ) (asker : Asker) → session_asker (Some asker) ≡ None →
    held_for k asker ≡ One k
held_for-loop k asker none = by_kind asker.of_session refl
  where
    by_kind : (kind : Bool) → asker.of_session ≡ kind → held_for k asker ≡ One k
    by_kind true session = let some : session_asker (Some asker) ≡ Some asker =
        ap (λ b. if b then Some asker else None) session in absurd (cc)
    by_kind false loop = ap (λ b. if b then All else One k) loop

held_for-session : (k : ℕ) (asker : Asker) → loop_asker (Some asker) ≡ None → held_for k asker ≡ All
held_for-session k asker none = by_kind asker.of_session refl
  where
    by_kind : (kind : Bool) → asker.of_session ≡ kind → held_for k asker ≡ All
    by_kind true session = ap (λ b. if b then All else One k) session
    by_kind false loop = let some : loop_asker (Some asker) ≡ Some asker =
        ap (λ b. if b then None else Some asker) loop in absurd (cc)

-- a hold is owned by the saves that are kept, where the release answers no save of its target
owned_kept : (release : Target) (saves : List Save) (j : ℕ) (h : Hold) →
    ((asker : Asker) → h.asker ≡ Some asker → answers release (held_for j asker) ≡ false) →
    IsOwned saves j h → IsOwned (kept_by release saves) j h
owned_kept release saves j h other owned = by_asker h.asker other owned
  where
    by_asker : (a : Option Asker) →
        ((asker : Asker) → a ≡ Some asker → answers release (held_for j asker) ≡ false) →
        IfSome a (λ asker. HasTarget (held_for j asker) saves) →
        IfSome a (λ asker. HasTarget (held_for j asker) (kept_by release saves))
    by_asker None other owned = tt
    by_asker (Some asker) other owned =
        has_kept release (held_for j asker) saves (other asker refl) owned

-- all holds, by index
owned_if : (P Q : Hold → Type 0) (o : Option Hold) → ((h : Hold) → o ≡ Some h → P h → Q h) →
    IfSome o P → IfSome o Q
owned_if P Q None each h = tt
owned_if P Q (Some x) each h = each x refl h

-- and with more saves behind these
owned_more : (j : ℕ) (a : Option Asker) (saves more : List Save) →
    IfSome a (λ asker. HasTarget (held_for j asker) saves) →
    IfSome a (λ asker. HasTarget (held_for j asker) (saves ++ more))
owned_more j None saves more owned = tt
owned_more j (Some asker) saves more owned = has_left (held_for j asker) saves more owned

-- a hold is put on the track of an index, for one save more
pub loop_pinned : (k : ℕ) (s : Save) (asker : Asker) (list : List Sound) (saves : List Save)
    (hs : List Hold) → s.target ≡ One k →
    s.lists ≡ list ∷ [] → asker.of_session ≡ false → IsFree (slice_get hs k) →
    IsTrue (is_some (slice_get hs k)) → HoldPins saves hs →
    HoldPins (saves ++ s ∷ []) (changed k (λ h. record { asker = Some asker; list = Some list }) hs)
loop_pinned k s asker list saves hs target lists kind free there h =
    record {
      held = all_append (λ (x : Save). IsHeld x.target x.lists (changed k put hs)) saves (s ∷ [])
          (all_weaker (λ (x : Save). IsHeld x.target x.lists hs)
          (λ (x : Save). IsHeld x.target x.lists (changed k put hs)) saves
          (λ x held. held_beside x.target x.lists k put hs free held) h.held) (
            subst (λ t. IsHeld t s.lists (changed k put hs)) (sym target)
                (subst (λ o. HoldsLoop s.lists o) (sym now) (own, asks)),
            tt,
          );
      owned = λ j. at_index j (j == k) refl;
    }
  where
    put : Hold → Hold
    put h = record { asker = Some asker; list = Some list }

    present : (o : Option Hold) → IsTrue (is_some o) →
        option_map put o ≡ Some (record { asker = Some asker; list = Some list })
    present None some = absurd (cc)
    present (Some x) some = refl

    now : slice_get (changed k put hs) k ≡ Some (record { asker = Some asker; list = Some list })
    now = get-changed k put hs ∙ present (slice_get hs k) there

    own : Some list ∷ [] ≡ map (λ l. Some l) s.lists
    own = ap (λ ls. map (λ l. Some l) ls) (sym lists)

    asks : IsTrue (is_some (loop_asker (Some asker)))
    asks = ap (λ b. is_some (if b then None else Some asker)) kind

    of_k : held_for k asker ≡ s.target
    of_k = ap (λ b. if b then All else One k) kind ∙ sym target

    at_index : (j : ℕ) (b : Bool) → (j == k) ≡ b →
        IfSome (slice_get (changed k put hs) j) (IsOwned (saves ++ s ∷ []) j)
    at_index j true same =
        subst (λ i. IfSome (slice_get (changed k put hs) i) (IsOwned (saves ++ s ∷ []) i))
        (sym (eqb-true j k same))
        (subst (λ o. IfSome o (IsOwned (saves ++ s ∷ []) k)) (sym now)
        (subst (λ t. HasTarget t (saves ++ s ∷ [])) (sym of_k) (has_last saves s)))
    at_index j false other =
        subst (λ o. IfSome o (IsOwned (saves ++ s ∷ []) j))
        (sym (get-changed_other k j put hs (eqb-false j k other)))
        (owned_if (IsOwned saves j) (IsOwned (saves ++ s ∷ []) j) (slice_get hs j)
        (λ x is. owned_more j x.asker saves (s ∷ [])) (h.owned j))

-- no asker stands on any track
abbrev pub AreFree : List Hold → Type 0
AreFree hs = AllByRecursion (λ (h : Hold). h.asker ≡ None) hs

pub no_loop_held : (lists : List (List Sound)) (j : ℕ) (hs : List Hold) → AreFree hs →
    HoldsLoop lists (slice_get hs j) → ⊥
no_loop_held lists j [] free held = held
no_loop_held lists zero (h ∷ hs) free held = let none : loop_asker h.asker ≡ None =
    ap loop_asker free.0 in cc
no_loop_held lists (suc j) (h ∷ hs) free held = no_loop_held lists j hs free.1 held

pub no_session_held : (lists : List (List Sound)) (h : Hold) (hs : List Hold) → AreFree (h ∷ hs) →
    HoldsSession lists (h ∷ hs) → ⊥
no_session_held lists h hs free held = let none : session_asker h.asker ≡ None =
    ap session_asker free.0 in let some = held.asked.0 in cc

-- what stands on each track once the session is pinned
abbrev pub all_put : Asker → List (List Sound) → List Hold
all_put asker [] = []
all_put asker (list ∷ lists) = record { asker = Some asker; list = Some list } ∷ all_put asker lists

put_holds : (asker : Asker) (lists : List (List Sound)) → session_asker (Some asker) ≡ Some asker →
    HoldsSession lists (all_put asker lists)
put_holds asker [] is = record { saved = refl; asked = tt }
put_holds asker (list ∷ lists) is =
    let rest = put_holds asker lists is in
    record { saved = ap (λ o. Some list ∷ o) rest.saved; asked = (ap is_some is, rest.asked) }

put_owned : (j : ℕ) (asker : Asker) (lists : List (List Sound)) (s : Save) (saves : List Save) →
    ((i : ℕ) → held_for i asker ≡ s.target) → (i : ℕ) →
    IfSome (slice_get (all_put asker lists) j) (IsOwned (saves ++ s ∷ []) i)
put_owned j asker [] s saves target i = tt
put_owned zero asker (list ∷ lists) s saves target i =
    subst (λ t. HasTarget t (saves ++ s ∷ [])) (sym (target i)) (has_last saves s)
put_owned (suc j) asker (list ∷ lists) s saves target i = put_owned j asker lists s saves target i

-- the session's save with all its holds, where none stood
pub session_pinned : (s : Save) (asker : Asker) (saves : List Save) (hs : List Hold) →
    s.target ≡ All → asker.of_session ≡ true →
    length (s.lists) ≡ length hs → AreFree hs → HoldPins saves hs →
    HoldPins (saves ++ s ∷ []) (all_put asker s.lists)
session_pinned s asker saves hs target kind many free h =
    record {
      held = all_append (λ (x : Save). IsHeld x.target x.lists (all_put asker s.lists)) saves
          (s ∷ [])
          (all_weaker (λ (x : Save). IsHeld x.target x.lists hs)
          (λ (x : Save). IsHeld x.target x.lists (all_put asker s.lists)) saves
          (λ x held. none_before x.target x.lists hs s.lists many free held) h.held) (
            subst (λ t. IsHeld t s.lists (all_put asker s.lists)) (sym target)
                (put_holds asker s.lists (ap (λ b. if b then Some asker else None) kind)),
            tt,
          );
      owned = λ j. put_owned j asker s.lists s saves
          (λ i. ap (λ b. if b then All else One i) kind ∙ sym target) j;
    }
  where
    none_before : (t : Target) (lists : List (List Sound)) (hs : List Hold)
        (now : List (List Sound)) → length now ≡ length hs → AreFree hs →
        IsHeld t lists hs → IsHeld t lists (all_put asker now)
    none_before (One j) lists hs now many free held = absurd (no_loop_held lists j hs free held)
    none_before All lists [] [] many free held = held
    none_before All lists [] (l ∷ ls) many free held = absurd (omega arith)
    none_before All lists (x ∷ xs) now many free held =
        absurd (no_session_held lists x xs free held)
    none_before Selected lists hs now many free held = held

-- a release of a loop's save
asked_loop_gone : (k : ℕ) (hs : List Hold) →
    AllByRecursion (λ (h : Hold). IsTrue (is_some (session_asker h.asker))) hs →
    changed k loop_gone hs ≡ hs
asked_loop_gone k [] asked = refl
asked_loop_gone zero (h ∷ hs) asked =
    ap (λ x. x ∷ hs) (ap (λ a. gone a h) (of_session_alone h.asker asked.0))
asked_loop_gone (suc k) (h ∷ hs) asked = ap (λ rest. h ∷ rest) (asked_loop_gone k hs asked.1)

held_loop_released : (k : ℕ) (hs : List Hold) (target : Target) (lists : List (List Sound)) →
    answers (One k) target ≡ false →
    IsHeld target lists hs → IsHeld target lists (changed k loop_gone hs)
held_loop_released k hs (One j) lists other held = subst (λ o. HoldsLoop lists o)
    (sym (get-changed_other k j loop_gone hs (eqb-false j k other))) held
held_loop_released k hs All lists other held =
    subst (λ now. HoldsSession lists now) (sym (asked_loop_gone k hs held.asked)) held
held_loop_released k hs Selected lists other held = held

not-not_true : (b : Bool) → not b ≡ true → b ≡ false
not-not_true true is = absurd (cc)
not-not_true false is = refl

loop_gone_owned : (k : ℕ) (saves : List Save) (h : Hold) → IsOwned saves k h →
    IsOwned (kept_by (One k) saves) k (loop_gone h)
loop_gone_owned k saves h owned = by_loop (loop_asker h.asker) refl
  where
    by_loop : (o : Option Asker) → loop_asker h.asker ≡ o →
        IsOwned (kept_by (One k) saves) k (gone o h)
    by_loop (Some asker) is = tt
    by_loop None none =
        owned_kept (One k) saves k h (λ asker is.
        ap (answers (One k)) (held_for-session k asker (ap loop_asker (sym is) ∙ none))) owned

pub loop_released_holds : (k : ℕ) (saves : List Save) (hs : List Hold) → HoldPins saves hs →
    HoldPins (kept_by (One k) saves) (changed k loop_gone hs)
loop_released_holds k saves hs h =
    record {
      held =
          all_kept (λ (x : Save). IsHeld x.target x.lists hs)
          (λ (x : Save). IsHeld x.target x.lists (changed k loop_gone hs))
          (λ (s : Save). not (answers (One k) s.target)) saves
          (λ x kept held. held_loop_released k hs x.target x.lists
          (not-not_true (answers (One k) x.target) kept) held) h.held;
      owned = λ j. at_index j (j == k) refl;
    }
  where
    here : (o : Option Hold) → IfSome o (IsOwned saves k) →
        IfSome (option_map loop_gone o) (IsOwned (kept_by (One k) saves) k)
    here None owned = tt
    here (Some x) owned = loop_gone_owned k saves x owned

    others : (j : ℕ) → (j == k) ≡ false → (asker : Asker) →
        answers (One k) (held_for j asker) ≡ false
    others j other asker = by_kind asker.of_session
      where
        by_kind : (b : Bool) → answers (One k) (if b then All else One j) ≡ false
        by_kind true = refl
        by_kind false = other

    at_index : (j : ℕ) (b : Bool) → (j == k) ≡ b →
        IfSome (slice_get (changed k loop_gone hs) j) (IsOwned (kept_by (One k) saves) j)
    at_index j true same =
        subst (λ i. IfSome (slice_get (changed k loop_gone hs) i)
        (IsOwned (kept_by (One k) saves) i)) (sym (eqb-true j k same))
        (subst (λ o. IfSome o (IsOwned (kept_by (One k) saves) k))
        (sym (get-changed k loop_gone hs)) (here (slice_get hs k) (h.owned k)))
    at_index j false other =
        subst (λ o. IfSome o (IsOwned (kept_by (One k) saves) j))
        (sym (get-changed_other k j loop_gone hs (eqb-false j k other)))
        (owned_if (IsOwned saves j) (IsOwned (kept_by (One k) saves) j) (slice_get hs j)
        (λ x is owned. owned_kept (One k) saves j x (λ asker some. others j other asker) owned)
        (h.owned j))

-- a release of a session's save
loop_held_on : (lists : List (List Sound)) (j : ℕ) (hs : List Hold) →
    HoldsLoop lists (slice_get hs j) → HoldsLoop lists (slice_get (map session_gone hs) j)
loop_held_on lists j [] held = held
loop_held_on lists zero (h ∷ hs) held =
    subst (λ (x : Hold). HoldsLoop lists (Some x))
    (sym (ap (λ a. gone a h) (of_loop_alone h.asker held.1))) held
loop_held_on lists (suc j) (h ∷ hs) held = loop_held_on lists j hs held

held_session_released : (hs : List Hold) (target : Target) (lists : List (List Sound)) →
    answers All target ≡ false →
    IsHeld target lists hs → IsHeld target lists (map session_gone hs)
held_session_released hs (One j) lists other held = loop_held_on lists j hs held
held_session_released hs All lists other held = absurd (cc)
held_session_released hs Selected lists other held = held

session_gone_owned : (j : ℕ) (saves : List Save) (h : Hold) → IsOwned saves j h →
    IsOwned (kept_by All saves) j (session_gone h)
session_gone_owned j saves h owned = by_session (session_asker h.asker) refl
  where
    by_session : (o : Option Asker) → session_asker h.asker ≡ o →
        IsOwned (kept_by All saves) j (gone o h)
    by_session (Some asker) is = tt
    by_session None none =
        owned_kept All saves j h (λ asker is.
        ap (answers All) (held_for-loop j asker (ap session_asker (sym is) ∙ none))) owned

pub session_released_holds : (saves : List Save) (hs : List Hold) → HoldPins saves hs →
    HoldPins (kept_by All saves) (map session_gone hs)
session_released_holds saves hs h =
    record {
      held =
          all_kept (λ (x : Save). IsHeld x.target x.lists hs)
          (λ (x : Save). IsHeld x.target x.lists (map session_gone hs))
          (λ (s : Save). not (answers All s.target)) saves
          (λ x kept held. held_session_released hs x.target x.lists
          (not-not_true (answers All x.target) kept) held) h.held;
      owned = λ j. subst (λ o. IfSome o (IsOwned (kept_by All saves) j))
          (sym (slice_get-map session_gone hs j)) (there j (slice_get hs j) (h.owned j));
    }
  where
    there : (j : ℕ) (o : Option Hold) → IfSome o (IsOwned saves j) →
        IfSome (option_map session_gone o) (IsOwned (kept_by All saves) j)
    there j None owned = tt
    there j (Some x) owned = session_gone_owned j saves x owned
