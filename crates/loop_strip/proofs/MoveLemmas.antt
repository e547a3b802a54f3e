-- What always holds of a strip's parts lasts through each move.
use Rattle.std.proofs.Common.{◌≡◌, ℕ, ◌<◌, Bool, true, false, not, List, [], ◌∷◌, Option, None, refl, sym, ap, subst, ◌∙◌, arith}
use Rattle.sl_commands.specs.declared.Mode.{Mode}
use Rattle.sl_commands.specs.declared.Mode.TheVariants.{WaitStart, Playing, Overdubbing, Replacing, Muted, OneShot, Substituting, Paused}
use Rattle.looper_rules.specs.Layers.{Layer}
use Rattle.looper_rules.specs.Stack.{LastWrite, streak_broken}
use Rattle.looper_rules.specs.Room.{chunks_of}
use Rattle.layer_memory.specs.Seen.{Held}
use Rattle.looper_rules.specs.Loop.{Loop, is_writing, with_stack, in_mode, turned, rounds, refused_once, length_of}
use Rattle.looper_rules.specs.Starting.{leaves_wait, mode_after_wait}
use Rattle.looper_rules.specs.Verbs.{start_place}
use Rattle.looper_rules.specs.States.{InMode, IsStreak}
use Rattle.looper_rules.specs.Reached.{Unchanged, Keeps}
use Rattle.looper_laws.proofs.Kept.Decks.{with_deck, refused_keeps, no_streak}
use Rattle.looper_laws.proofs.Kept.Rest.{IsResting, resting_is_quiet, rests_again, resting_inside}
use Rattle.looper_laws.proofs.Kept.Verbs.{set_to, leaves_wait_keeps}
use Rattle.loop_states.specs.Moves.{to_start}
use Rattle.loop_strip.specs.declared.parts.Parts.{Parts}
use Rattle.loop_strip.specs.Parts.{loop_of, IsWhole}
use Rattle.loop_strip.specs.Moving.{IsAtRest, MayTurn}
use Rattle.loop_strip.proofs.Whole.{own, own_keeps, kept_as, whole_after, same_mode}

-- both words for being at rest agree
pub rests : (mode : Mode) → IsAtRest mode → IsResting mode
rests Playing is = tt
rests Muted is = tt
rests OneShot is = tt
rests Paused is = tt
rests _ is = absurd is

-- nothing is written at rest
pub rest_quiet : (mode : Mode) → IsAtRest mode → is_writing mode ≡ false
rest_quiet mode is = resting_is_quiet mode (rests mode is)

-- something that keeps the loop, the pin and the mode
keeps_mode : (s s' : Parts) (l : Loop ℕ) → IsWhole s → loop_of s' ≡ l →
    Keeps (own (chunks_of s.layers.stack.tape) s) l → s'.pinned ≡ s.pinned →
    s'.layers.writing ≡ s.layers.writing → is_writing l.deck.mode ≡ is_writing s.deck.mode →
    IsWhole s'
keeps_mode s s' l w is k pinned writing mode =
    whole_after (chunks_of s.layers.stack.tape) s s' w
    (kept_as (chunks_of s.layers.stack.tape) s s' l is k) pinned
    (writing ∙ w.writing ∙ sym mode ∙ sym (ap is_writing (same_mode s s' l is)))

-- a refusal keeps the parts whole
pub whole_refused : (s s' : Parts) → IsWhole s → loop_of s' ≡ refused_once (loop_of s) →
    s'.layers ≡ s.layers → s'.pinned ≡ s.pinned → IsWhole s'
whole_refused s s' w is layers pinned = keeps_mode s s' (refused_once (loop_of s)) w is
    (refused_keeps (own_keeps s w)) pinned (ap (λ (h : Held). h.writing) layers) refl

-- the mode that is set is the mode
set_same : {A : Type 0} (mode : Mode) (l : Loop A) → l.deck.mode ≡ mode → set_to mode l ≡ l
set_same mode l is = ap (λ m. set_to m l) (sym is)

left_quiet : {A : Type 0} (layers : List (Layer A)) → is_writing (mode_after_wait layers) ≡ false
left_quiet [] = refl
left_quiet (x ∷ xs) = refl

-- leaving WaitStart keeps the loop
pub left_keeps : {A : Type 0} {a : Unchanged} (l : Loop A) → l.deck.mode ≡ WaitStart → Keeps a l →
    Keeps a (leaves_wait l)
left_keeps {a = a} l is h =
    let same : set_to WaitStart l ≡ l = set_same WaitStart l is
    in let there : Keeps a (leaves_wait (set_to WaitStart l)) =
    leaves_wait_keeps l (subst (λ (m : Loop _). Keeps a m) (sym same) h)
    in subst (λ (m : Loop _). Keeps a (leaves_wait m)) same there

-- and the parts whole
pub whole_left : (s s' : Parts) → IsWhole s → s.deck.mode ≡ WaitStart →
    loop_of s' ≡ leaves_wait (loop_of s) → s'.layers ≡ s.layers → s'.pinned ≡ s.pinned → IsWhole s'
whole_left s s' w waits is layers pinned =
    keeps_mode s s' (leaves_wait (loop_of s)) w is (left_keeps (loop_of s) waits (own_keeps s w))
    pinned (ap (λ (h : Held). h.writing) layers)
    (left_quiet s.layers.stack.layers ∙ sym (ap is_writing waits))

-- rounding keeps the loop
pub rounds_keeps : {A : Type 0} {a : Unchanged} (l : Loop A) → Keeps a l → Keeps a (rounds l)
rounds_keeps l h =
    with_deck (record l.deck { rounding = true }) l.stack.streak h h.loop.in_mode h.loop.streak refl

-- and the parts whole
pub whole_rounds : (s s' : Parts) → IsWhole s → loop_of s' ≡ rounds (loop_of s) →
    s'.layers ≡ s.layers → s'.pinned ≡ s.pinned → IsWhole s'
whole_rounds s s' w is layers pinned = keeps_mode s s' (rounds (loop_of s)) w is
    (rounds_keeps (loop_of s) (own_keeps s w)) pinned (ap (λ (h : Held). h.writing) layers) refl

-- another mode at rest keeps the loop
pub in_mode_keeps : {A : Type 0} {a : Unchanged} (mode : Mode) (l : Loop A) → IsAtRest l.deck.mode →
    IsAtRest mode → Keeps a l → Keeps a (in_mode mode l)
in_mode_keeps mode l before now h = rests_again mode l.deck.pos l.deck.backward
    (rests l.deck.mode before) (rests mode now) (resting_inside (rests l.deck.mode before) h) h

-- and the parts whole
pub whole_in_mode : (mode : Mode) (s s' : Parts) → IsWhole s → IsAtRest s.deck.mode →
    IsAtRest mode → loop_of s' ≡ in_mode mode (loop_of s) → s'.layers ≡ s.layers →
    s'.pinned ≡ s.pinned → IsWhole s'
whole_in_mode mode s s' w before now is layers pinned =
    keeps_mode s s' (in_mode mode (loop_of s)) w is
    (in_mode_keeps mode (loop_of s) before now (own_keeps s w)) pinned
    (ap (λ (h : Held). h.writing) layers)
    (rest_quiet mode now ∙ sym (rest_quiet s.deck.mode before))

start_inside : (backward : Bool) (pos len : ℕ) → pos < len → start_place backward len < len
start_inside true pos len inside = omega arith
start_inside false pos len inside = omega arith

-- going to the start keeps the loop
pub to_start_keeps : {A : Type 0} {a : Unchanged} (l : Loop A) → IsAtRest l.deck.mode → Keeps a l →
    Keeps a (to_start l)
to_start_keeps l before h =
    let here : IsResting l.deck.mode = rests l.deck.mode before
    in rests_again l.deck.mode (start_place l.deck.backward (length_of l)) l.deck.backward here here
    (start_inside l.deck.backward l.deck.pos (length_of l) (resting_inside here h)) h

-- and the parts whole
pub whole_started : (s s' : Parts) → IsWhole s → IsAtRest s.deck.mode →
    loop_of s' ≡ to_start (loop_of s) → s'.layers ≡ s.layers → s'.pinned ≡ s.pinned → IsWhole s'
whole_started s s' w before is layers pinned =
    keeps_mode s s' (to_start (loop_of s)) w is (to_start_keeps (loop_of s) before (own_keeps s w))
    pinned (ap (λ (h : Held). h.writing) layers) refl

-- where no streak goes on, the direction may change in a mode that writes over its list
turn_in : {A : Type 0} (mode : Mode) (layers redo : List (Layer A)) (pos : ℕ)
    (backward other : Bool) (streak : Option LastWrite) → MayTurn mode streak →
    InMode mode layers redo pos backward → IsStreak mode streak pos backward →
    InMode mode layers redo pos other × IsStreak mode streak pos other
turn_in Playing layers redo pos backward other streak may h r = (h, r)
turn_in Muted layers redo pos backward other streak may h r = (h, r)
turn_in OneShot layers redo pos backward other streak may h r = (h, r)
turn_in Paused layers redo pos backward other streak may h r = (h, r)
turn_in Overdubbing layers redo pos backward other streak may h r =
    (h, subst (λ w. IsStreak Overdubbing w pos other) (sym may) tt)
turn_in Replacing layers redo pos backward other streak may h r =
    (h, subst (λ w. IsStreak Replacing w pos other) (sym may) tt)
turn_in Substituting layers redo pos backward other streak may h r =
    (h, subst (λ w. IsStreak Substituting w pos other) (sym may) tt)
turn_in _ layers redo pos backward other streak may h r = absurd may

-- turning keeps the loop
pub turned_keeps : {A : Type 0} {a : Unchanged} (l : Loop A) → MayTurn l.deck.mode l.stack.streak →
    Keeps a l → Keeps a (turned l)
turned_keeps l may h =
    let now = turn_in l.deck.mode l.stack.layers l.stack.redo l.deck.pos l.deck.backward
    (not l.deck.backward) l.stack.streak may h.loop.in_mode h.loop.streak
    in with_deck
    (record l.deck { backward = not l.deck.backward }) l.stack.streak h now.0 now.1 refl

-- and the parts whole
pub whole_turned : (s s' : Parts) → IsWhole s → MayTurn s.deck.mode s.layers.stack.streak →
    loop_of s' ≡ turned (loop_of s) → s'.layers ≡ s.layers → s'.pinned ≡ s.pinned → IsWhole s'
whole_turned s s' w may is layers pinned = keeps_mode s s' (turned (loop_of s)) w is
    (turned_keeps (loop_of s) may (own_keeps s w)) pinned (ap (λ (h : Held). h.writing) layers) refl

-- the end of a streak keeps the loop
pub broken_keeps : {A : Type 0} {a : Unchanged} (l : Loop A) → Keeps a l →
    Keeps a (with_stack (streak_broken l.stack) l)
broken_keeps l h =
    with_deck l.deck None h h.loop.in_mode (no_streak l.deck.mode l.deck.pos l.deck.backward) refl

-- and the parts whole
pub whole_broken : (s s' : Parts) → IsWhole s → is_writing s.deck.mode ≡ true →
    loop_of s' ≡ with_stack (streak_broken (loop_of s).stack) (loop_of s) →
    s'.layers.writing ≡ true →
    s'.pinned ≡ s.pinned → IsWhole s'
whole_broken s s' w writing is held pinned =
    keeps_mode s s' (with_stack (streak_broken (loop_of s).stack) (loop_of s)) w is
    (broken_keeps (loop_of s) (own_keeps s w)) pinned (held ∙ sym (w.writing ∙ writing)) refl
