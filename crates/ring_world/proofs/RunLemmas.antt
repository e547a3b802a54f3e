-- Steps one after another keep a world in step, and one step more leads on from where they led.
use Rattle.std.proofs.Common.{◌≡◌, ℕ, zero, suc, ◌+◌, ◌<◌, List, [], ◌∷◌, ◌++◌, length, drop, refl, sym, ap, ◌∙◌, subst, arith, append_assoc, append-nil}
use Rattle.std.specs.Prelude.{slice_index_or}
use Rattle.sl_base.specs.Sounds.{Sound}
use Rattle.engine_steps.specs.Engines.{Beginning}
use Rattle.ring_world.specs.declared.lists.Lists.{Lists}
use Rattle.ring_world.specs.declared.step.Step.{Step}
use Rattle.ring_world.specs.Stepping.{did, heard, MayDo}
use Rattle.ring_world.specs.Standing.{IsInStep}
use Rattle.ring_world.specs.Running.{ran, all_heard, MayDoAll}
use Rattle.ring_world.proofs.KeepLemmas.{step_keeps}

-- all steps keep it in step
pub steps_keep : (b : Beginning) (input : List Sound) (steps : List Step) (number : ℕ) (w : Lists) →
    MayDoAll steps number w → IsInStep b input w →
    IsInStep b (input ++ all_heard steps number w) (ran steps number w)
steps_keep b input [] number w may h =
    subst (λ xs. IsInStep b xs w) (sym (append-nil input)) h
steps_keep b input (s ∷ steps) number w may h =
    let next = (did s number w).lists
    in subst (λ xs. IsInStep b xs (ran steps number next))
    (append_assoc input (heard s number w) (all_heard steps number next))
    (steps_keep b (input ++ heard s number w) steps number next may.1
    (step_keeps b input s number w may.0 h))

-- one step more of those that are left
next_left : {A : Type 0} (k : ℕ) (xs : List A) (d : A) → k < length xs →
    drop k xs ≡ slice_index_or xs k d ∷ drop (k + 1) xs
next_left k [] d less = absurd (omega arith)
next_left zero (x ∷ xs) d less = refl
next_left (suc k) (x ∷ xs) d less =
    next_left k xs d (omega arith)
    ∙ ap (λ n. slice_index_or xs k d ∷ drop n (x ∷ xs))
    (let same : suc (k + 1) ≡ suc k + 1 = omega arith in same)

pub next_may : (k : ℕ) (steps : List Step) (d : Step) (number : ℕ) (w : Lists) →
    k < length steps → MayDoAll (drop k steps) number w → MayDo (slice_index_or steps k d) w
next_may k steps d number w less may =
    (subst (λ ss. MayDoAll ss number w) (next_left k steps d less) may).0

pub rest_may : (k : ℕ) (steps : List Step) (d : Step) (number : ℕ) (w : Lists) →
    k < length steps → MayDoAll (drop k steps) number w →
    MayDoAll (drop (k + 1) steps) number (did (slice_index_or steps k d) number w).lists
rest_may k steps d number w less may =
    (subst (λ ss. MayDoAll ss number w) (next_left k steps d less) may).1

pub ran_more : (k : ℕ) (steps : List Step) (d : Step) (number : ℕ) (w all : Lists) →
    k < length steps → ran (drop k steps) number w ≡ all →
    ran (drop (k + 1) steps) number (did (slice_index_or steps k d) number w).lists ≡ all
ran_more k steps d number w all less is =
    sym (ap (λ ss. ran ss number w) (next_left k steps d less)) ∙ is
