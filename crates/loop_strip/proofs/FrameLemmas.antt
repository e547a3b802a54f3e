-- One frame of a strip, step by step.
use Rattle.std.proofs.Common.{◌≡◌, ℕ, ◌≤◌, ◌<◌, Bool, true, false, ◌&&◌, List, [], ◌∷◌, length, Option, Some, None, sym, ap, ap₂, subst, ◌∙◌, arith, nat_le, IsTrue}
use Rattle.std.proofs.lemmas.Grind.{common_steps}
use Rattle.std.specs.Prelude.{⊤, ◌==◌}
use Rattle.sl_base.specs.Limits.{max_list_frames}
use Rattle.sl_base.specs.Sounds.{Sound, loudness}
use Rattle.sl_commands.specs.declared.How.{How}
use Rattle.sl_commands.specs.declared.Mode.{Mode}
use Rattle.sl_commands.specs.declared.Mode.TheVariants.{Off, WaitStart, Recording, Playing, Overdubbing, Multiplying, Inserting, Replacing, Muted, OneShot, Substituting, Paused}
use Rattle.sl_commands.specs.declared.Started.{Started}
use Rattle.sl_commands.specs.declared.Started.TheVariants.{Ok}
use Rattle.looper_rules.specs.Layers.{Layer, current_length, current_list, current_base_length}
use Rattle.looper_rules.specs.Stack.{Stack, LastWrite, streak_broken}
use Rattle.looper_rules.specs.Opening.{opening}
use Rattle.looper_rules.specs.Writing.{extension_fits, extended_if}
use Rattle.looper_rules.specs.WritePlaces.{IsPlace, Follows}
use Rattle.looper_rules.specs.Loop.{Loop, Deck, Controls, is_writing, length_of, with_stack, refused_once}
use Rattle.looper_rules.specs.Starting.{records, leaves_wait}
use Rattle.looper_rules.specs.LoopFrame.{stopped, extends, wakes_as, awake_in, awake, ready_in, ready, heard_from, heard, how_in, fits}
use Rattle.looper_rules.specs.States.{InMode, IsStreak, GoesOn, IsBehind, HasCurrent, IsOpenOver, AreWithin}
use Rattle.looper_rules.specs.Reached.{Unchanged, Keeps as KeepsLoop}
use Rattle.looper_laws.proofs.Kept.LoopFrame.{IsPlaced, IsReady, awake_keeps, ready_keeps}
use Rattle.loop_tape.specs.Pools.{PoolOf}
use Rattle.loop_tape.specs.Tapes.{at}
use Rattle.layer_memory.specs.Seen.{Held, seen as seen_layers, reach}
use Rattle.layer_memory.specs.Answers.{Same}
use Rattle.layer_memory.specs.Sharing.{IsShared}
use Rattle.loop_strip.specs.Strips.{loop_map, seen, reach_in, Owns, Did}
use Rattle.loop_strip.specs.declared.parts.Parts.{Parts}
use Rattle.loop_strip.specs.Parts.{loop_of, strip_of, IsWhole}
use Rattle.loop_strip.specs.Openings.{opens_record}
use Rattle.loop_strip.specs.Advances.{MayAdvance}
use Rattle.layer_memory.proofs.SeenLemmas.{extension-mapped}
use Rattle.loop_strip.proofs.LoopLemmas.{length-mapped, ready-mapped, wakes-mapped}
use Rattle.loop_strip.proofs.LiftLemmas.{keeps_there, keeps_back}
use Rattle.loop_strip.proofs.Whole.{own, whole_keeps, whole_after}
use Rattle.loop_strip.proofs.DidLemmas.{seen-is, seen_deck, seen_controls, reaches, within_reach, did_as, did_then, did_also}
use Rattle.loop_strip.proofs.OpeningLemmas.{layers_of, did_refused}

-- what always holds lasts through what keeps every loop
pub seen_keeps : (s : Parts) (p : PoolOf) → IsWhole s →
    KeepsLoop (own (reach_in (strip_of s) p) s) (seen (strip_of s) p)
seen_keeps s p w =
    let r = reach_in (strip_of s) p
    in subst (λ (l : Loop Sound). KeepsLoop (own r s) l) (sym (seen-is (strip_of s) p))
    (keeps_there (at s.layers.tape p) (loop_of s)
    (whole_keeps r s (within_reach (strip_of s) p) w))

-- what keeps a loop keeps the parts whole
pub whole_did : (act : ℕ → Loop Sound → Loop Sound) (s s' : Parts) (p p' : PoolOf) →
    ((a : Unchanged) (l : Loop Sound) → KeepsLoop a l → KeepsLoop a (act a.reach l)) → IsWhole s →
    Did act (strip_of s) (strip_of s') p p' → s'.pinned ≡ s.pinned →
    s'.layers.writing ≡ is_writing s'.deck.mode → IsWhole s'
whole_did act s s' p p' keeps w d pinned writing =
    let r = reach_in (strip_of s) p
    in let after : KeepsLoop (own r s) (loop_map (at s'.layers.tape p') (loop_of s')) =
    subst (λ (l : Loop Sound). KeepsLoop (own r s) l) (sym d.seen ∙ seen-is (strip_of s') p')
    (keeps (own r s) (seen (strip_of s) p) (seen_keeps s p w))
    in whole_after r s s' w (keeps_back (at s'.layers.tape p') (loop_of s') after) pinned writing

-- WaitStart that ends
pub seen_stack : (s : Parts) (p : PoolOf) → (seen (strip_of s) p).stack ≡ seen_layers s.layers p
seen_stack s p = ap (λ (l : Loop Sound). l.stack) (seen-is (strip_of s) p)

-- a loop that waits is woken
pub did_woken : (s s' : Parts) (p p' : PoolOf) →
    Ok ≡ opening (reach s.layers p) true (seen_layers s.layers p) → Owns (strip_of s) p →
    Did opens_record (strip_of s) (strip_of s') p p' →
    Did (awake_in WaitStart true) (strip_of s) (strip_of s') p p'
did_woken s s' p p' answers o d =
    let l = seen (strip_of s) p
    in let answer : opening (reach_in (strip_of s) p) true l.stack ≡ Ok =
    ap₂ (λ r t. opening r true t) (sym (reaches s p o)) (seen_stack s p) ∙ sym answers
    in did_also (ap (λ a. records a l) answer ∙ sym (ap (λ a. wakes_as a l) answer)) d

-- a loop that waits is refused
pub did_missed : (s s' : Parts) (h : Held) (p p' : PoolOf) (answer : Started) →
    Owns (strip_of s) p → answer ≡ opening (reach s.layers p) true (seen_layers s.layers p) →
    Same s.layers h p p' → s'.layers ≡ h →
    loop_of s' ≡ leaves_wait (refused_once (loop_of (layers_of s h))) →
    leaves_wait (refused_once (loop_of s)) ≡ wakes_as answer (loop_of s) →
    Did (awake_in WaitStart true) (strip_of s) (strip_of s') p p'
did_missed s s' h p p' answer o answers same layers is leads =
    let to : loop_of s' ≡ wakes_as answer (loop_of s) = is
    ∙ ap (λ (g : Held). leaves_wait (refused_once (loop_of (layers_of s g)))) same.held ∙ leads
    in did_refused (λ a l. wakes_as a l) (λ a l. wakes_as a l) true s (layers_of s h) s' p p' answer
    (λ f a l. wakes-mapped f a l) o answers same layers to

-- listening for the threshold
pub did_awake : (x : Sound) (loud : Bool) (s s' : Parts) (p p' : PoolOf) →
    loud ≡ nat_le s.controls.rec_thresh (loudness x) → Did (awake_in s.deck.mode loud) (strip_of s)
    (strip_of s') p p' → Did (awake x) (strip_of s) (strip_of s') p p'
did_awake x loud s s' p p' is d =
    let l = seen (strip_of s) p
    in did_also
    (ap (λ (k : Deck). awake_in k.mode loud (reach_in (strip_of s) p) l)
    (sym (seen_deck (strip_of s) p))
    ∙ ap (λ b. awake_in l.deck.mode b (reach_in (strip_of s) p) l)
    (is ∙ ap (λ (c : Controls). nat_le c.rec_thresh (loudness x))
    (sym (seen_controls (strip_of s) p))))
    d

-- and the parts stay whole
pub whole_awake : (x : Sound) (s s' : Parts) (p p' : PoolOf) → IsWhole s →
    Did (awake x) (strip_of s) (strip_of s') p p' → s'.pinned ≡ s.pinned →
    s'.layers.writing ≡ is_writing s'.deck.mode → IsWhole s'
whole_awake x s s' p p' w d pinned writing =
    whole_did (awake x) s s' p p' (λ a l h. awake_keeps x a.reach h) w d pinned writing

-- a multiply has a base
open_base : {A : Type 0} (ls : List (Layer A)) → HasCurrent IsOpenOver ls →
    0 < current_base_length ls
open_base [] h = absurd h
open_base (l ∷ ls) h = let some : 1 ≤ length l.base = h.0.base_not_empty in omega arith

in_multiply : {A : Type 0} (mode : Mode) (ls redo : List (Layer A)) (pos : ℕ) (backward : Bool) →
    mode ≡ Multiplying → InMode mode ls redo pos backward → HasCurrent IsOpenOver ls
in_multiply mode ls redo pos backward is h = (subst (λ m. InMode m ls redo pos backward) is h).0

-- a multiply has a base
pub base_some : (s : Parts) → IsWhole s → s.deck.mode ≡ Multiplying →
    0 < current_base_length s.layers.stack.layers
base_some s w is =
    open_base s.layers.stack.layers
    (in_multiply s.deck.mode s.layers.stack.layers s.layers.stack.redo s.deck.pos s.deck.backward is
    w.loop.in_mode)

-- whether an extension fits is the same of addresses
no_pool : PoolOf
no_pool = record { store = []; free = []; all = 0 }

fit_is : (s : Parts) (fits : Bool) →
    ((p : PoolOf) → fits ≡ extension_fits (seen_layers s.layers p)) →
    fits ≡ extension_fits s.layers.stack
fit_is s fits answers = answers no_pool ∙ extension-mapped (at s.layers.tape no_pool) s.layers.stack

-- a multiply whose base does not fit
pub extends_false : (s s' : Parts) (h : Held) (fits : Bool) → fits ≡ false →
    ((p : PoolOf) → fits ≡ extension_fits (seen_layers s.layers p)) →
    h.stack ≡ extended_if fits s.layers.stack →
    loop_of s' ≡ stopped (loop_of (layers_of s h)) →
    loop_of s' ≡ extends (extension_fits s.layers.stack) (loop_of s)
extends_false s s' h fits fails answers stack is =
    is ∙ ap (λ t. stopped (with_stack t (loop_of s)))
    (stack ∙ ap (λ b. extended_if b s.layers.stack) fails)
    ∙ ap (λ b. extends b (loop_of s)) (sym fails ∙ fit_is s fits answers)

-- a multiply whose base fits
pub extends_true : (s : Parts) (h : Held) (fits : Bool) → fits ≡ true →
    ((p : PoolOf) → fits ≡ extension_fits (seen_layers s.layers p)) →
    h.stack ≡ extended_if fits s.layers.stack →
    loop_of (layers_of s h) ≡ extends (extension_fits s.layers.stack) (loop_of s)
extends_true s h fits holds answers stack =
    ap (λ t. with_stack t (loop_of s)) (stack ∙ ap (λ b. extended_if b s.layers.stack) holds)
    ∙ ap (λ b. extends b (loop_of s)) (sym holds ∙ fit_is s fits answers)

-- made ready
abbrev pub made_ready : {A : Type 0} → ℕ → Loop A → Loop A
made_ready reach l = ready_in l.deck.mode (l.deck.pos == length_of l) l

-- a loop made ready for a frame
pub did_ready : (x : Sound) (s s1 s' : Parts) (p p' : PoolOf) →
    Did (awake x) (strip_of s) (strip_of s1) p p' → s'.layers.tape ≡ s1.layers.tape →
    IsShared s'.layers →
    loop_of s' ≡ ready_in s1.deck.mode (s1.deck.pos == length_of (loop_of s1)) (loop_of s1) →
    Did (ready x) (strip_of s) (strip_of s') p p'
did_ready x s s1 s' p p' d tape shared is =
    did_then d (did_as made_ready made_ready s1 s' p' d.owns tape shared
    (λ f r l. ready-mapped f l.deck.mode (l.deck.pos == length_of l) l ∙ ap
    (λ n. ready_in l.deck.mode (l.deck.pos == n) (loop_map f l)) (sym (length-mapped f l))) is)

-- and the parts stay whole
pub whole_ready : (x : Sound) (s s' : Parts) (p p' : PoolOf) → IsWhole s →
    Did (ready x) (strip_of s) (strip_of s') p p' → s'.pinned ≡ s.pinned →
    s'.layers.writing ≡ is_writing s'.deck.mode → IsWhole s'
whole_ready x s s' p p' w d pinned writing =
    whole_did (ready x) s s' p p' (λ a l h. (ready_keeps x a.reach h).0) w d pinned writing

-- a loop that is ready is placed
pub placed_ready : (x : Sound) (s s' : Parts) (p p' : PoolOf) → IsWhole s →
    Did (ready x) (strip_of s) (strip_of s') p p' →
    IsPlaced s'.deck.mode s'.deck.pos (length_of (loop_of s'))
placed_ready x s s' p p' w d =
    let a = own (reach_in (strip_of s) p) s
    in let there : IsReady a (ready x (reach_in (strip_of s) p) (seen (strip_of s) p)) =
    ready_keeps x (reach_in (strip_of s) p) (seen_keeps s p w)
    in let now : IsReady a (loop_map (at s'.layers.tape p') (loop_of s')) =
    subst (λ (l : Loop Sound). IsReady a l) (sym d.seen ∙ seen-is (strip_of s') p') there
    in subst (λ n. IsPlaced s'.deck.mode s'.deck.pos n)
    (length-mapped (at s'.layers.tape p') (loop_of s')) now.1

-- the modes in which the frame at pos is heard or written over
abbrev pub HasPlace : Mode → Type 0
HasPlace Playing = ⊤
HasPlace Overdubbing = ⊤
HasPlace Multiplying = ⊤
HasPlace Substituting = ⊤
HasPlace Replacing = ⊤
HasPlace Inserting = ⊤
HasPlace OneShot = ⊤
HasPlace Muted = ⊤
HasPlace _ = ⊥

inside_in : {A : Type 0} (mode : Mode) (ls redo : List (Layer A)) (pos : ℕ) (backward : Bool) →
    HasPlace mode → IsPlaced mode pos (current_length ls) → InMode mode ls redo pos backward →
    pos < current_length ls
inside_in Playing ls redo pos backward has placed h = h.0.1
inside_in OneShot ls redo pos backward has placed h = h.0.1
inside_in Muted ls redo pos backward has placed h = h.0.1
inside_in Overdubbing ls redo pos backward has placed h = h.2
inside_in Replacing ls redo pos backward has placed h = h.2
inside_in Substituting ls redo pos backward has placed h = h.2
inside_in Inserting ls redo pos backward has placed h = h.0.2
inside_in Multiplying ls redo pos backward has placed h = placed
inside_in _ ls redo pos backward has placed h = absurd has

-- a placed loop reads within its list
pub inside : (mode : Mode) (s : Parts) → IsWhole s → s.deck.mode ≡ mode → HasPlace mode →
    IsPlaced mode s.deck.pos (length_of (loop_of s)) →
    s.deck.pos < current_length s.layers.stack.layers
inside mode s w is has placed =
    inside_in mode s.layers.stack.layers s.layers.stack.redo s.deck.pos s.deck.backward has placed
    (subst (λ m. InMode m s.layers.stack.layers s.layers.stack.redo s.deck.pos s.deck.backward) is
    w.loop.in_mode)

-- the feedback is a level
pub feedback_within : (s : Parts) → IsWhole s → s.controls.feedback ≤ 1000
feedback_within s w =
    let h : IsTrue (nat_le 0 s.controls.feedback && nat_le s.controls.feedback 1000) =
    w.controls.feedback in grind (arith, common_steps, h)

-- what is heard
pub heard_is : (s : Parts) (p : PoolOf) (x : Sound) →
    x ≡ heard_from s.deck.mode (current_list (seen_layers s.layers p).layers) s.deck.pos →
    x ≡ heard (seen (strip_of s) p)
unfolding seen
heard_is s p x is = is

-- a place for a write, and the streak that it goes on with
place_in : {A : Type 0} (mode : Mode) (ls redo : List (Layer A)) (pos : ℕ) (backward : Bool) →
    is_writing mode ≡ true → IsPlaced mode pos (current_length ls) →
    InMode mode ls redo pos backward →
    IsPlace (how_in mode backward) pos (current_length ls)
place_in Recording ls redo pos backward writing placed h = h.2
place_in Inserting ls redo pos backward writing placed h = h.0.2
place_in Overdubbing ls redo pos true writing placed h = h.2
place_in Overdubbing ls redo pos false writing placed h = h.2
place_in Replacing ls redo pos true writing placed h = h.2
place_in Replacing ls redo pos false writing placed h = h.2
place_in Substituting ls redo pos true writing placed h = h.2
place_in Substituting ls redo pos false writing placed h = h.2
place_in Multiplying ls redo pos true writing placed h = placed
place_in Multiplying ls redo pos false writing placed h = placed
place_in _ ls redo pos backward writing placed h = let no : ⊥ = cc in absurd no

-- a placed loop writes at a right place
pub place_for : (mode : Mode) (s : Parts) (how : How) → IsWhole s → s.deck.mode ≡ mode →
    is_writing mode ≡ true → IsPlaced mode s.deck.pos (length_of (loop_of s)) →
    how ≡ how_in mode s.deck.backward →
    IsPlace how s.deck.pos (current_length s.layers.stack.layers)
place_for mode s how w is writing placed way =
    subst (λ h. IsPlace h s.deck.pos (current_length s.layers.stack.layers)) (sym way)
    (place_in mode s.layers.stack.layers s.layers.stack.redo s.deck.pos s.deck.backward writing
    placed (subst (λ m. InMode m s.layers.stack.layers s.layers.stack.redo s.deck.pos
    s.deck.backward) is w.loop.in_mode))

goes_follows : (streak : Option LastWrite) (mode : Mode) (pos : ℕ) (backward : Bool) →
    GoesOn streak mode pos backward → Follows streak (how_in mode backward) pos
goes_follows None mode pos backward h = tt
goes_follows (Some last) mode pos backward h =
    (h.0, subst (λ how. IsBehind how last.place pos) h.0 h.1)

streak_goes : (mode : Mode) (streak : Option LastWrite) (pos : ℕ) (backward : Bool) →
    is_writing mode ≡ true → IsStreak mode streak pos backward → GoesOn streak mode pos backward
streak_goes Recording streak pos backward writing h = h
streak_goes Overdubbing streak pos backward writing h = h
streak_goes Multiplying streak pos backward writing h = h
streak_goes Inserting streak pos backward writing h = h
streak_goes Replacing streak pos backward writing h = h
streak_goes Substituting streak pos backward writing h = h
streak_goes _ streak pos backward writing h = let no : ⊥ = cc in absurd no

-- a write goes on with its streak
pub follows_for : (mode : Mode) (s : Parts) (how : How) → IsWhole s → s.deck.mode ≡ mode →
    is_writing mode ≡ true → how ≡ how_in mode s.deck.backward →
    Follows s.layers.stack.streak how s.deck.pos
follows_for mode s how w is writing way =
    subst (λ h. Follows s.layers.stack.streak h s.deck.pos) (sym way)
    (goes_follows s.layers.stack.streak mode s.deck.pos s.deck.backward
    (streak_goes mode s.layers.stack.streak s.deck.pos s.deck.backward writing
    (subst (λ m. IsStreak m s.layers.stack.streak s.deck.pos s.deck.backward) is w.loop.streak)))

-- the list is short enough to go on in
current_short : {A : Type 0} (tape : ℕ) (ls : List (Layer A)) → AreWithin tape ls →
    current_length ls ≤ max_list_frames
current_short tape [] h = omega arith
current_short tape (l ∷ ls) h = h.0.0

-- no streak goes on where nothing is written
quiet_streak : (mode : Mode) (streak : Option LastWrite) (pos : ℕ) (backward : Bool) →
    is_writing mode ≡ false → IsStreak mode streak pos backward → streak ≡ None
quiet_streak Recording streak pos backward quiet h = let no : ⊥ = cc in absurd no
quiet_streak Overdubbing streak pos backward quiet h = let no : ⊥ = cc in absurd no
quiet_streak Multiplying streak pos backward quiet h = let no : ⊥ = cc in absurd no
quiet_streak Inserting streak pos backward quiet h = let no : ⊥ = cc in absurd no
quiet_streak Replacing streak pos backward quiet h = let no : ⊥ = cc in absurd no
quiet_streak Substituting streak pos backward quiet h = let no : ⊥ = cc in absurd no
quiet_streak _ streak pos backward quiet h = h

-- no streak goes on in a mode that is not written
pub still_streak : (mode : Mode) (s : Parts) → IsWhole s → s.deck.mode ≡ mode →
    is_writing mode ≡ false → s.layers.stack.streak ≡ None
still_streak mode s w is quiet =
    quiet_streak mode s.layers.stack.streak s.deck.pos s.deck.backward quiet
    (subst (λ m. IsStreak m s.layers.stack.streak s.deck.pos s.deck.backward) is w.loop.streak)

-- what may be advanced outside the writing modes
may_quiet : (mode : Mode) (pos len : ℕ) → is_writing mode ≡ false → (HasPlace mode → pos < len) →
    len ≤ max_list_frames → MayAdvance mode pos len
may_quiet Off pos len quiet inside short = tt
may_quiet WaitStart pos len quiet inside short = tt
may_quiet Paused pos len quiet inside short = tt
may_quiet Playing pos len quiet inside short = let less = inside tt in omega arith
may_quiet Muted pos len quiet inside short = let less = inside tt in omega arith
may_quiet OneShot pos len quiet inside short = let less = inside tt in omega arith
may_quiet _ pos len quiet inside short = let no : ⊥ = cc in absurd no

placed_quiet : (mode : Mode) (pos len : ℕ) → is_writing mode ≡ false → IsPlaced mode pos len
placed_quiet Multiplying pos len quiet = let no : ⊥ = cc in absurd no
placed_quiet _ pos len quiet = tt

-- a place of the list is within bounds
pub list_short : (s : Parts) → IsWhole s → s.deck.pos ≤ current_length s.layers.stack.layers →
    s.deck.pos ≤ max_list_frames
list_short s w inside = let short = current_short s.layers.stack.tape s.layers.stack.layers
    w.loop.stack.layers_within in omega arith

-- a loop that is not written may advance
pub may_advance : (mode : Mode) (s : Parts) → IsWhole s → s.deck.mode ≡ mode →
    is_writing mode ≡ false → MayAdvance mode s.deck.pos (length_of (loop_of s))
may_advance mode s w is quiet =
    may_quiet mode s.deck.pos (length_of (loop_of s)) quiet
    (λ has. inside mode s w is has (placed_quiet mode s.deck.pos (length_of (loop_of s)) quiet))
    (current_short s.layers.stack.tape s.layers.stack.layers w.loop.stack.layers_within)

pub ruleset waking = (did_awake, whole_awake)

pub ruleset preparing = (did_ready, whole_ready, placed_ready)

pub ruleset mixing = (inside, feedback_within)

-- where no streak goes on, breaking it changes nothing
pub unbroken_stack : {A : Type 0} (s : Stack A) → s.streak ≡ None → s ≡ streak_broken s
unbroken_stack s is = ap (λ r. record s { streak = r }) is

-- where no streak goes on, breaking it leaves the loop
pub unbroken_loop : {A : Type 0} (l : Loop A) → l.stack.streak ≡ None →
    l ≡ with_stack (streak_broken l.stack) l
unbroken_loop l is = ap (λ s. with_stack s l) (unbroken_stack l.stack is)

pub ruleset unbroken = (unbroken_stack, unbroken_loop)

pub ruleset overrunning = (may_advance, still_streak)
