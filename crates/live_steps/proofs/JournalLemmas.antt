-- Releases with one more, and releases behind their saves.
use Rattle.std.proofs.Common.{◌≡◌, ◌⊎◌, inl, inr, ⊎_elim, ℕ, suc, ◌≤◌, ◌<◌, List, [], ◌∷◌, ◌++◌, length, take, refl, sym, ap, ◌∙◌, subst, arith, length-append}
use Rattle.std.specs.List.{All}
use Rattle.std.proofs.lemmas.List.{take-append-le}
use Rattle.std.proofs.lemmas.List.Elements.{All-head, All-tail}
use Rattle.sl_base.specs.Sounds.{Sound}
use Rattle.sl_commands.specs.declared.Command.{Command}
use Rattle.sl_commands.specs.declared.Command.TheVariants.{Release}
use Rattle.sl_commands.specs.declared.Entry.{Entry}
use Rattle.sl_commands.specs.Entries.{entries_of}
use Rattle.looper_rules.specs.Looper.{Looper}
use Rattle.looper_rules.specs.Saves.{Save}
use Rattle.looper_rules.specs.Run.{run}
use Rattle.run_laws.specs.Places.{run_before}
use Rattle.live_steps.specs.Passed.{releases_of}
use Rattle.live_steps.specs.InStep.{AreBehindTheirSaves}

-- one release more
pub releases-more : (saves : List Save) (s : Save) (os : List ℕ) (o : ℕ) →
    length saves ≡ length os →
    releases_of (saves ++ s ∷ []) (os ++ o ∷ []) ≡ releases_of saves os ++ Release s.target o ∷ []
releases-more [] s [] o same = refl
releases-more [] s (p ∷ os) o same = absurd (omega arith)
releases-more (x ∷ saves) s [] o same = absurd (omega arith)
releases-more (x ∷ saves) s (p ∷ os) o same =
    ap (λ cs. Release x.target p ∷ cs) (releases-more saves s os o (omega arith))

-- as many releases as outcomes
pub releases-count : (saves : List Save) (os : List ℕ) → length saves ≡ length os →
    length (releases_of saves os) ≡ length os
releases-count [] [] same = refl
releases-count [] (o ∷ os) same = absurd (omega arith)
releases-count (s ∷ saves) [] same = absurd (omega arith)
releases-count (s ∷ saves) (o ∷ os) same = ap suc (releases-count saves os (omega arith))

-- where a list with one more at its end is split
heads : {X : Type 0} (x y : X) (xs ys : List X) → x ∷ xs ≡ y ∷ ys → x ≡ y
heads x y xs ys is = cc

tails : {X : Type 0} (x y : X) (xs ys : List X) → x ∷ xs ≡ y ∷ ys → xs ≡ ys
tails x y xs ys is = cc

cons_same : {X : Type 0} (x y : X) (xs ys : List X) → x ≡ y → xs ≡ ys → x ∷ xs ≡ y ∷ ys
cons_same x y xs ys p q = cc

no_end : {X : Type 0} (bs : List X) (e : X) (after : List X) → [] ≡ bs ++ e ∷ after → ⊥
no_end bs e after is =
    let a = ap length is in let b = length-append bs (e ∷ after) in omega arith

-- the last one, or one before it
last_split : {X : Type 0} (xs before : List X) (a e : X) (after : List X) →
    xs ++ a ∷ [] ≡ before ++ e ∷ after →
    ((before ≡ xs) × (e ≡ a)) ⊎ ((rest : List X) × (xs ≡ before ++ e ∷ rest))
last_split [] [] a e after is = inl (refl, sym (heads a e [] after is))
last_split [] (b ∷ bs) a e after is =
    absurd (no_end bs e after (tails a b [] (bs ++ e ∷ after) is))
last_split (x ∷ xs) [] a e after is =
    inr (xs, cons_same x e xs xs (heads x e (xs ++ a ∷ []) after is) refl)
last_split (x ∷ xs) (b ∷ bs) a e after is =
    let head = heads x b (xs ++ a ∷ []) (bs ++ e ∷ after) is
    in ⊎_elim
    (λ (h : (bs ≡ xs) × (e ≡ a)). inl (cons_same b x bs xs (sym head) h.0, h.1))
    (λ (h : (rest : List _) × (xs ≡ bs ++ e ∷ rest)).
    inr (h.0, cons_same x b xs (bs ++ e ∷ h.0) head h.1))
    (last_split xs bs a e after (tails x b (xs ++ a ∷ []) (bs ++ e ∷ after) is))

-- what holds of all holds of one
all_at : {X : Type 0} (P : X → Type 0) (before : List X) (e : X) (after : List X) →
    All P (before ++ e ∷ after) → P e
all_at P [] e after all = All-head P e after all
all_at P (b ∷ bs) e after all = all_at P bs e after (All-tail P b (bs ++ e ∷ after) all)

-- one entry more, which stands behind its save where it is a release
pub behind-more : (l : Looper) (input : List Sound) (es : List Entry) (en : Entry) →
    AreBehindTheirSaves l input es →
    (en.sender ≡ 2 → length (entries_of 2 es) < length (run_before es en input l).saves) →
    AreBehindTheirSaves l input (es ++ en ∷ [])
behind-more l input es en behind new = λ before e after is of_saver.
    ⊎_elim
    (λ (h : (before ≡ es) × (e ≡ en)).
    subst (λ (y : List Entry × Entry).
    length (entries_of 2 y.0) < length (run_before y.0 y.1 input l).saves)
    (λ i. (sym h.0 i, sym h.1 i)) (new (sym (ap (λ (d : Entry). d.sender) h.1) ∙ of_saver)))
    (λ (h : (rest : List Entry) × (es ≡ before ++ e ∷ rest)). behind before e h.0 h.1 of_saver)
    (last_split es before en e after is)

-- more frames behind all entries
pub behind-frames : (l : Looper) (input xs : List Sound) (es : List Entry) (n : ℕ) →
    n ≡ length input → All (λ (e : Entry). e.frame ≤ n) es → AreBehindTheirSaves l input es →
    AreBehindTheirSaves l (input ++ xs) es
behind-frames l input xs es n long within behind = λ before e after is of_saver.
    let early : e.frame ≤ n = all_at (λ (d : Entry). d.frame ≤ n) before e after
    (subst (λ ds. All (λ (d : Entry). d.frame ≤ n) ds) is within)
    in let within : e.frame ≤ length input = omega arith
    in let same : take e.frame (input ++ xs) ≡ take e.frame input =
    take-append-le e.frame input xs within
    in subst (λ zs. length (entries_of 2 before) < length (run before zs l).saves) (sym same)
    (behind before e after is of_saver)
