-- An act is carried out move by move.
use Rattle.std.proofs.Common.{◌≡◌, ℕ, zero, suc, ◌+◌, ◌≤◌, ◌<◌, Bool, not, ◌&&◌, ◌||◌, List, [], ◌∷◌, length, drop, get_or, Option, is_some, refl, sym, ap, subst, ◌∙◌, arith}
use Rattle.std.specs.Prelude.{◌==◌}
use Rattle.sl_commands.specs.declared.Verb.{Verb}
use Rattle.sl_commands.specs.declared.Held.{Held as Press}
use Rattle.sl_commands.specs.declared.Mode.{Mode}
use Rattle.sl_commands.specs.declared.Mode.TheVariants.{Off, WaitStart, Recording, Playing, Overdubbing, Multiplying, Inserting, Replacing, Muted, OneShot, Substituting, Paused}
use Rattle.sl_commands.specs.declared.Face.{Face}
use Rattle.looper_rules.specs.Layers.{Layer, current_length, current_base_length}
use Rattle.looper_rules.specs.Loop.{Loop, Controls, Deck, is_writing, face_of}
use Rattle.looper_rules.specs.Values.{AreControls}
use Rattle.layer_memory.specs.Seen.{Held as Layers}
use Rattle.looper_rules.specs.Verbs.{acts, is_mode_of}
use Rattle.looper_rules.specs.Presses.{with_waiting, with_press, never_waits, given, given_at_once, released, is_press_of, is_long}
use Rattle.loop_strip.specs.Openings.{released_as}
use Rattle.looper_rules.specs.States.{IsLoop, InMode, AreClosed, HasCurrent, IsOpenOver, IsRecorded, AreWaiting}
use Rattle.looper_rules.specs.Room.{chunks_of}
use Rattle.looper_laws.proofs.Kept.Decks.{with_deck}
use Rattle.loop_tape.specs.Pools.{PoolOf}
use Rattle.loop_states.specs.declared.act.Move.{Move}
use Rattle.loop_states.specs.Moves.{carry, carry_all}
use Rattle.loop_states.specs.Deciding.{moves_of}
use Rattle.loop_states.proofs.Table.{table_of}
use Rattle.layer_memory.specs.Sharing.{IsShared}
use Rattle.loop_strip.specs.Strips.{seen, reach_in, Owns, Did}
use Rattle.loop_strip.specs.declared.parts.Parts.{Parts}
use Rattle.loop_strip.specs.Parts.{loop_of, strip_of, IsWhole}
use Rattle.loop_strip.specs.Moving.{IsAllowed}
use Rattle.loop_strip.proofs.Allowed.{AreAllowed}
use Rattle.loop_strip.proofs.Carrying.{IsCarried}
use Rattle.loop_strip.proofs.Whole.{own_keeps, kept_as, whole_after}
use Rattle.loop_strip.proofs.DidLemmas.{seen_face, seen_deck, seen_controls, did_as, did_also}
use Rattle.loop_strip.proofs.AllowedLemmas.{moves_allowed}

-- the base isn't longer than the list
closed_base : {A : Type 0} (ls : List (Layer A)) → AreClosed ls →
    current_base_length ls ≤ current_length ls
closed_base [] h = omega arith
closed_base (l ∷ ls) h = let none : length l.base ≡ 0 = ap length h.0.no_base in omega arith

open_base : {A : Type 0} (ls : List (Layer A)) → HasCurrent IsOpenOver ls →
    current_base_length ls ≤ current_length ls
open_base [] h = absurd h
open_base (l ∷ ls) h = h.0.base_within

recorded_base : {A : Type 0} (ls : List (Layer A)) → HasCurrent IsRecorded ls →
    current_base_length ls ≤ current_length ls
recorded_base [] h = absurd h
recorded_base (l ∷ ls) h = let none : length l.base ≡ 0 = ap length h.0.no_base in omega arith

waiting_base : {A : Type 0} (ls : List (Layer A)) (pos : ℕ) → AreWaiting ls pos →
    current_base_length ls ≤ current_length ls
waiting_base [] pos h = omega arith
waiting_base (l ∷ ls) pos h = closed_base (l ∷ ls) h.0

base_in : {A : Type 0} (mode : Mode) (ls redo : List (Layer A)) (pos : ℕ) (backward : Bool) →
    InMode mode ls redo pos backward → current_base_length ls ≤ current_length ls
base_in Off ls redo pos backward h = rw h.0.0 (omega arith)
base_in WaitStart ls redo pos backward h = waiting_base ls pos h.0
base_in Recording ls redo pos backward h = recorded_base ls h.0
base_in Overdubbing ls redo pos backward h = open_base ls h.0
base_in Replacing ls redo pos backward h = open_base ls h.0
base_in Substituting ls redo pos backward h = open_base ls h.0
base_in Inserting ls redo pos backward h = open_base ls h.0.0
base_in Multiplying ls redo pos backward h = open_base ls h.0
base_in Playing ls redo pos backward h = closed_base ls h.0.0
base_in Muted ls redo pos backward h = closed_base ls h.0.0
base_in OneShot ls redo pos backward h = closed_base ls h.0.0
base_in Paused ls redo pos backward h = closed_base ls h.0.0

-- the base is no longer than the list
pub base_within : (s : Parts) → IsWhole s →
    (face_of (loop_of s)).base ≤ (face_of (loop_of s)).length
base_within s w = base_in s.deck.mode s.layers.stack.layers s.layers.stack.redo s.deck.pos
    s.deck.backward w.loop.in_mode

-- nor in the face
pub base_of_face : (s : Parts) (face : Face) → IsWhole s → face ≡ face_of (loop_of s) →
    face.base ≤ face.length
base_of_face s face w is = subst (λ (f : Face). f.base ≤ f.length) (sym is) (base_within s w)

-- the move at an index
drop_at : {A : Type 0} (i : ℕ) (xs : List A) (x : A) → i < length xs → x ≡ get_or xs i x →
    drop i xs ≡ x ∷ drop (i + 1) xs
drop_at i [] x less is = absurd (omega arith)
drop_at zero (y ∷ ys) x less is = ap (λ z. z ∷ ys) (sym is)
drop_at (suc i) (y ∷ ys) x less is = let more : suc i + 1 ≡ suc (i + 1) = omega arith in
    rw more (drop_at i ys x (omega arith) is)

-- before any move is made
pub carried_first : (verb : Verb) (round : Bool) (face : Face) (moves : List Move) (s : Parts)
    (p : PoolOf) → Owns (strip_of s) p → IsWhole s → face ≡ face_of (loop_of s) →
    moves ≡ moves_of verb round face →
    IsCarried 0 moves s s p p
carried_first verb round face moves s p o w is are = record {
  left = refl;
  owns = o;
  reach = refl;
  others = λ u b. record { beside = b; same = refl };
  allowed = subst (λ ms. AreAllowed (reach_in (strip_of s) p) ms (loop_of s))
      (sym (are ∙ ap (moves_of verb round) is))
      (moves_allowed (reach_in (strip_of s) p) verb round (loop_of s));
  whole = w;
}

-- the next move is one that the loop allows
pub next_allowed : (i : ℕ) (moves : List Move) (first now : Parts) (p p' : PoolOf) (next : Move) →
    i < length moves → next ≡ get_or moves i next → IsCarried i moves first now p p' →
    IsAllowed next (loop_of now)
next_allowed i moves first now p p' next less is h =
    (let here : AreAllowed (reach_in (strip_of first) p) (next ∷ drop (i + 1) moves) (loop_of now) =
    subst (λ ms. AreAllowed (reach_in (strip_of first) p) ms (loop_of now))
    (drop_at i moves next less is) h.allowed in here).0

-- one move more
pub carried_more : (i : ℕ) (moves : List Move) (first now then : Parts) (p p1 p2 : PoolOf)
    (next : Move) → i < length moves → next ≡ get_or moves i next →
    IsCarried i moves first now p p1 →
    loop_of then ≡ carry (reach_in (strip_of now) p1) next (loop_of now) →
    Did (λ reach. carry reach next) (strip_of now) (strip_of then) p1 p2 → IsWhole then →
    IsCarried (i + 1) moves first then p p2
carried_more i moves first now then p p1 p2 next less is h moved d w =
    let r = reach_in (strip_of first) p
    in let at : drop i moves ≡ next ∷ drop (i + 1) moves = drop_at i moves next less is
    in let here : AreAllowed r (next ∷ drop (i + 1) moves) (loop_of now) =
    subst (λ ms. AreAllowed r ms (loop_of now)) at h.allowed
    in record {
      left =
          ap (carry_all r (drop (i + 1) moves))
          (d.seen ∙ ap (λ n. carry n next (seen (strip_of now) p1)) h.reach)
          ∙ ap (λ ms. carry_all r ms (seen (strip_of now) p1)) (sym at) ∙ h.left;
      owns = d.owns;
      reach = d.reach ∙ h.reach;
      others = λ u b. let mid = h.others u b in let last = d.others u mid.beside in
          record { beside = last.beside; same = last.same ∙ mid.same };
      allowed = subst (λ (l : Loop ℕ). AreAllowed r (drop (i + 1) moves) l)
          (sym (moved ∙ ap (λ n. carry n next (loop_of now)) h.reach)) here.1;
      whole = w;
    }

-- when all moves are carried out
drop_all : {A : Type 0} (n : ℕ) (xs : List A) → n ≡ length xs → drop n xs ≡ []
drop_all zero [] is = refl
drop_all (suc n) [] is = absurd (omega arith)
drop_all zero (x ∷ xs) is = absurd (omega arith)
drop_all (suc n) (x ∷ xs) is = drop_all n xs (omega arith)

-- once all moves are made
pub acted : (n : ℕ) (verb : Verb) (moves : List Move) (s s' : Parts) (p p' : PoolOf) →
    n ≡ length moves → IsCarried n moves s s' p p' →
    carry_all (reach_in (strip_of s) p) moves (seen (strip_of s) p) ≡ acts verb
    (reach_in (strip_of s) p) (seen (strip_of s) p) →
    Did (acts verb) (strip_of s) (strip_of s') p p'
acted n verb moves s s' p p' all h table = record {
  seen = ap (λ ms. carry_all (reach_in (strip_of s) p) ms (seen (strip_of s') p'))
      (sym (drop_all n moves all)) ∙ h.left ∙ table;
  owns = h.owns;
  reach = h.reach;
  others = h.others;
}

-- the face is the same with the pool
pub face_in : (s : Parts) (p : PoolOf) (face : Face) → face ≡ face_of (loop_of s) →
    face_of (seen (strip_of s) p) ≡ face
face_in s p face is = seen_face (strip_of s) p ∙ sym is

-- and so is the control of rounding
pub round_in : (s : Parts) (p : PoolOf) (round : Bool) → (s.controls.round == 0) ≡ not round →
    ((seen (strip_of s) p).controls.round == 0) ≡ not round
round_in s p round is = ap (λ (c : Controls). c.round == 0) (seen_controls (strip_of s) p) ∙ is

-- another verb waits
pub whole_waits : (verb : Option Verb) (s s' : Parts) → IsWhole s →
    loop_of s' ≡ with_waiting verb (loop_of s) → s'.layers ≡ s.layers → s'.pinned ≡ s.pinned →
    IsWhole s'
whole_waits verb s s' w is layers pinned =
    whole_after (chunks_of s.layers.stack.tape) s s' w
    (kept_as _ s s' _ is
    (with_deck (record (loop_of s).deck { waiting = verb }) s.layers.stack.streak
    (own_keeps s w) w.loop.in_mode w.loop.streak refl)) pinned
    (ap (λ (h : Layers). h.writing) layers ∙ w.writing
    ∙ sym (ap (λ (l : Loop ℕ). is_writing l.deck.mode) is))

-- another press is held
pub whole_held : (press : Option Press) (s s' : Parts) → IsWhole s →
    loop_of s' ≡ with_press press (loop_of s) → s'.layers ≡ s.layers → s'.pinned ≡ s.pinned →
    IsWhole s'
whole_held press s s' w is layers pinned = record {
  loop = subst (λ (l : Loop ℕ). IsLoop l) (sym is)
      (record {
        in_mode = w.loop.in_mode;
        streak = w.loop.streak;
        stack = w.loop.stack;
        refused =
            w.loop.refused;
      });
  writing = ap (λ (h : Layers). h.writing) layers ∙ w.writing
      ∙ sym (ap (λ (l : Loop ℕ). is_writing l.deck.mode) is);
  pinned = ap (λ (h : Layers). is_some h.stack.pin) layers ∙ w.pinned ∙ sym pinned;
  controls = subst AreControls (sym (ap (λ (l : Loop ℕ). l.controls) is)) w.controls;
}

-- a verb waits, or none
pub did_waits : (verb : Option Verb) (s s' : Parts) (p : PoolOf) → Owns (strip_of s) p →
    s'.layers.tape ≡ s.layers.tape → IsShared s'.layers →
    loop_of s' ≡ with_waiting verb (loop_of s) →
    Did (λ reach. with_waiting verb) (strip_of s) (strip_of s') p p
did_waits verb s s' p o tape shared is = did_as (λ reach. with_waiting verb)
    (λ reach. with_waiting verb) s s' p o tape shared (λ f reach l. refl) is

-- a verb is held, or none
pub did_held : (press : Option Press) (s s' : Parts) (p : PoolOf) → Owns (strip_of s) p →
    s'.layers.tape ≡ s.layers.tape → IsShared s'.layers →
    loop_of s' ≡ with_press press (loop_of s) →
    Did (λ reach. with_press press) (strip_of s) (strip_of s') p p
did_held press s s' p o tape shared is = did_as (λ reach. with_press press)
    (λ reach. with_press press) s s' p o tape shared (λ f reach l. refl) is

-- a verb given, by whether it acts at once
pub did_given : (now : Bool) (verb : Verb) (s s' : Parts) (p p' : PoolOf) →
    now ≡ (s.controls.quantize == 0 || never_waits verb) →
    Did (given_at_once now verb) (strip_of s) (strip_of s') p p' →
    Did (given verb) (strip_of s) (strip_of s') p p'
did_given now verb s s' p p' is d =
    did_also (ap (λ b. given_at_once b verb (reach_in (strip_of s) p) (seen (strip_of s) p))
    (is ∙ ap (λ (c : Controls). c.quantize == 0 || never_waits verb)
    (sym (seen_controls (strip_of s) p)))) d

-- a verb let go, by its press
pub did_released : (held long : Bool) (verb : Verb) (frame long_press : ℕ) (s s' : Parts)
    (p p' : PoolOf) → held ≡ is_press_of verb s.deck.press →
    long ≡ (is_long frame long_press s.deck.press && is_mode_of verb s.deck.mode) →
    Did (released_as held long verb) (strip_of s) (strip_of s') p p' →
    Did (released verb frame long_press) (strip_of s) (strip_of s') p p'
did_released held long verb frame long_press s s' p p' of was d =
    let r = reach_in (strip_of s) p
    in let l = seen (strip_of s) p
    in let deck : (loop_of s).deck ≡ l.deck = sym (seen_deck (strip_of s) p)
    in did_also
    (ap (λ b. released_as b long verb r l) (of ∙ ap (λ (d : Deck). is_press_of verb d.press) deck)
    ∙ ap (λ b. released_as (is_press_of verb l.deck.press) b verb r l)
    (was ∙ ap (λ (d : Deck). is_long frame long_press d.press && is_mode_of verb d.mode) deck))
    d

pub ruleset acting =
    (carried_first, next_allowed, carried_more, acted, base_of_face, face_in, round_in, table_of)

pub ruleset decking = (whole_waits, whole_held, did_waits, did_held)
