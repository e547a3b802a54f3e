-- What always holds of a strip's parts lasts where the rules keep the loop.
use Rattle.std.proofs.Common.{◌≡◌, ℕ, zero, suc, ◌+◌, ◌≤◌, ◌<◌, drop, Bool, true, false, List, [], ◌∷◌, length, is_some, refl, sym, ap, subst, ◌∙◌, arith}
use Rattle.sl_commands.specs.declared.Mode.{Mode}
use Rattle.sl_commands.specs.declared.Mode.TheVariants.{Off, Recording, Overdubbing, Multiplying, Inserting, Replacing, Substituting}
use Rattle.looper_rules.specs.Layers.{Layer, current_length}
use Rattle.looper_rules.specs.Room.{chunks_of}
use Rattle.looper_rules.specs.Loop.{Loop, is_writing, with_stack}
use Rattle.looper_rules.specs.Values.{AreControls}
use Rattle.looper_rules.specs.Closing.{closed}
use Rattle.looper_rules.specs.History.{closed_if, settled, undone, with_fewer, stepped_back, undo, undo_each, undo_all, redone, with_more, redo_from, redo, redo_each, redo_all}
use Rattle.looper_rules.specs.States.{InMode}
use Rattle.looper_rules.specs.Reached.{Unchanged, Keeps}
use Rattle.looper_laws.proofs.Kept.Closing.{closed_keeps, closed_leads}
use Rattle.looper_laws.proofs.Kept.History.{closed_is_quiet, undo_keeps, redo_keeps}
use Rattle.loop_strip.specs.declared.parts.Parts.{Parts}
use Rattle.loop_strip.specs.Parts.{loop_of, controls_of, IsWhole}
use Rattle.loop_strip.proofs.Undoing.{IsUndone, IsRedone}

-- what a strip's own verbs and frames leave unchanged, where it reaches so many chunks
abbrev pub own : ℕ → Parts → Unchanged
own reach s = record {
  reach = reach;
  pinned = s.pinned;
  controls = controls_of s.controls;
  press =
      s.deck.press;
}

-- a whole loop keeps what it has
pub whole_keeps : (reach : ℕ) (s : Parts) → chunks_of s.layers.stack.tape ≤ reach → IsWhole s →
    Keeps (own reach s) (loop_of s)
whole_keeps reach s within w =
    record { loop = w.loop; reach = within; pinned = w.pinned; controls = refl; press = refl }

-- the parts behind something that keeps the loop
pub whole_after : (reach : ℕ) (s s' : Parts) → IsWhole s → Keeps (own reach s) (loop_of s') →
    s'.pinned ≡ s.pinned → s'.layers.writing ≡ is_writing s'.deck.mode → IsWhole s'
whole_after reach s s' w k pinned writing = record {
  loop = k.loop;
  writing = writing;
  pinned = k.pinned ∙ sym pinned;
  controls = subst AreControls (sym k.controls) w.controls;
}

-- the same loop keeps the same
pub kept_as : (reach : ℕ) (s s' : Parts) (l : Loop ℕ) → loop_of s' ≡ l → Keeps (own reach s) l →
    Keeps (own reach s) (loop_of s')
kept_as reach s s' l is k = subst (λ (m : Loop ℕ). Keeps (own reach s) m) (sym is) k

-- the same loop has the same mode
pub same_mode : (s s' : Parts) (l : Loop ℕ) → loop_of s' ≡ l → s'.deck.mode ≡ l.deck.mode
same_mode s s' l is = ap (λ (m : Loop ℕ). m.deck.mode) is

-- with what its own tape takes
pub own_keeps : (s : Parts) → IsWhole s → Keeps (own (chunks_of s.layers.stack.tape) s) (loop_of s)
own_keeps s w = whole_keeps (chunks_of s.layers.stack.tape) s (omega arith) w

-- closing
pub whole_closed : (s s' : Parts) → IsWhole s → is_writing s.deck.mode ≡ true →
    loop_of s' ≡ closed (loop_of s) → s'.layers.writing ≡ false → s'.pinned ≡ s.pinned → IsWhole s'
whole_closed s s' w writing is shut pinned =
    let quiet : is_writing s'.deck.mode ≡ false =
    ap is_writing (same_mode s s' (closed (loop_of s)) is)
    ∙ closed_is_quiet (closed (loop_of s)).deck.mode (closed_leads (loop_of s))
    in whole_after (chunks_of s.layers.stack.tape) s s' w
    (kept_as _ s s' _ is (closed_keeps writing (own_keeps s w))) pinned (shut ∙ sym quiet)

-- what is closed isn't written
pub closed_quiet : (s s' : Parts) → loop_of s' ≡ closed (loop_of s) → s'.layers.writing ≡ false →
    s'.layers.writing ≡ is_writing s'.deck.mode
closed_quiet s s' is shut =
    shut ∙ sym (ap is_writing (same_mode s s' (closed (loop_of s)) is)
    ∙ closed_is_quiet (closed (loop_of s)).deck.mode (closed_leads (loop_of s)))

-- in a writing mode pos is a place for the next write
inside_in : {A : Type 0} (mode : Mode) (layers redo : List (Layer A)) (pos : ℕ) (backward : Bool) →
    is_writing mode ≡ true → InMode mode layers redo pos backward → pos ≤ current_length layers
inside_in Recording layers redo pos backward writing h = let same = h.2 in omega arith
inside_in Inserting layers redo pos backward writing h = let inside = h.0.2 in omega arith
inside_in Multiplying layers redo pos backward writing h = h.2
inside_in Overdubbing layers redo pos backward writing h = let inside = h.2 in omega arith
inside_in Replacing layers redo pos backward writing h = let inside = h.2 in omega arith
inside_in Substituting layers redo pos backward writing h = let inside = h.2 in omega arith
inside_in _ layers redo pos backward writing h = let no : ⊥ = cc in absurd no

-- a loop that is written is within its list
pub writing_inside : (s : Parts) → IsWhole s → is_writing s.deck.mode ≡ true →
    s.deck.pos ≤ current_length s.layers.stack.layers
writing_inside s w writing = inside_in s.deck.mode s.layers.stack.layers s.layers.stack.redo
    s.deck.pos s.deck.backward writing w.loop.in_mode

-- undo leaves nothing open
settled_quiet : {A : Type 0} (begun : Bool) (l : Loop A) → is_writing l.deck.mode ≡ begun →
    is_writing (closed_if begun l).deck.mode ≡ false
settled_quiet true l is = closed_is_quiet (closed l).deck.mode (closed_leads l)
settled_quiet false l is = is

fewer_quiet : {A : Type 0} (layers : List (Layer A)) (l : Loop A) → is_writing l.deck.mode ≡ false →
    is_writing (with_fewer layers l).deck.mode ≡ false
fewer_quiet [] l quiet = refl
fewer_quiet (x ∷ xs) l quiet = quiet

undo_quiet : {A : Type 0} (l : Loop A) → is_writing (undo l).deck.mode ≡ false
undo_quiet l =
    let now = settled l
    in fewer_quiet (undone now.stack).layers (with_stack (undone now.stack) now)
    (settled_quiet (is_writing l.deck.mode) l refl)

-- an undo keeps the parts whole
pub whole_undone : (s s1 s' : Parts) → IsWhole s → IsWhole s1 → loop_of s1 ≡ settled (loop_of s) →
    loop_of s' ≡ stepped_back (loop_of s1) → s'.layers.writing ≡ false → s'.pinned ≡ s1.pinned →
    IsWhole s'
whole_undone s s1 s' w w1 first second shut pinned =
    let is : loop_of s' ≡ undo (loop_of s) = second ∙ ap stepped_back first
    in let again : undo (loop_of s) ≡ undo (loop_of s) = refl
    in let quiet : is_writing s'.deck.mode ≡ false =
    ap is_writing (same_mode s s' (undo (loop_of s)) is) ∙ undo_quiet (loop_of s)
    in let kept : Keeps (own (chunks_of s.layers.stack.tape) s) (loop_of s') =
    kept_as _ s s' _ is (undo_keeps (own_keeps s w))
    in let here : is_some s1.layers.stack.pin ≡ s.pinned = ap (λ (l : Loop ℕ). is_some l.stack.pin)
    first ∙ (settled_kept (is_writing s.deck.mode) refl (own_keeps s w)).pinned
    in whole_after (chunks_of s.layers.stack.tape) s s' w kept (pinned ∙ sym w1.pinned ∙ here)
    (shut ∙ sym quiet)
  where
    settled_kept : (begun : Bool) {a : Unchanged} {l : Loop ℕ} → is_writing l.deck.mode ≡ begun →
        Keeps a l → Keeps a (closed_if begun l)
    settled_kept true writing h = closed_keeps writing h
    settled_kept false writing h = h

-- redo begins where nothing is open
more_quiet : {A : Type 0} (mode : Mode) (l : Loop A) → is_writing l.deck.mode ≡ false →
    is_writing (with_more mode l).deck.mode ≡ false
more_quiet Off l quiet = refl
more_quiet _ l quiet = quiet

redo_some : {A : Type 0} (ls : List (Layer A)) (l : Loop A) → 1 ≤ length ls →
    redo_from ls l ≡ with_more l.deck.mode (with_stack (redone l.stack) l)
redo_some [] l some = absurd (omega arith)
redo_some (x ∷ xs) l some = refl

-- so does a redo
pub whole_redone : (s s' : Parts) → IsWhole s → 1 ≤ length s.layers.stack.redo →
    s.layers.writing ≡ false →
    loop_of s' ≡ with_more s.deck.mode (with_stack (redone (loop_of s).stack) (loop_of s)) →
    s'.layers.writing ≡ false → s'.pinned ≡ s.pinned → IsWhole s'
whole_redone s s' w some still is shut pinned =
    let redoes : loop_of s' ≡ redo (loop_of s) =
    is ∙ sym (redo_some s.layers.stack.redo (loop_of s) some)
    in let quiet : is_writing s'.deck.mode ≡ false =
    ap is_writing (same_mode s s' _ is) ∙ more_quiet s.deck.mode
    (with_stack (redone (loop_of s).stack) (loop_of s)) (sym w.writing ∙ still)
    in whole_after (chunks_of s.layers.stack.tape) s s' w
    (kept_as _ s s' _ redoes (redo_keeps (own_keeps s w))) pinned (shut ∙ sym quiet)

-- one undo less is left
undo_step : {A : Type 0} (i : ℕ) (ls : List (Layer A)) (l l' e : Loop A) → i < length ls →
    l' ≡ undo l → undo_each (drop i ls) l ≡ e → undo_each (drop (i + 1) ls) l' ≡ e
undo_step i [] l l' e less is left = absurd (omega arith)
undo_step zero (x ∷ xs) l l' e less is left = ap (undo_each xs) is ∙ left
undo_step (suc i) (x ∷ xs) l l' e less is left = let more : suc i + 1 ≡ suc (i + 1) = omega arith in
    rw more (undo_step i xs l l' e (omega arith) is left)

redo_step : {A : Type 0} (i : ℕ) (ls : List (Layer A)) (l l' e : Loop A) → i < length ls →
    l' ≡ redo l → redo_each (drop i ls) l ≡ e → redo_each (drop (i + 1) ls) l' ≡ e
redo_step i [] l l' e less is left = absurd (omega arith)
redo_step zero (x ∷ xs) l l' e less is left = ap (redo_each xs) is ∙ left
redo_step (suc i) (x ∷ xs) l l' e less is left = let more : suc i + 1 ≡ suc (i + 1) = omega arith in
    rw more (redo_step i xs l l' e (omega arith) is left)

-- one undo more
pub undone_more : (i n : ℕ) (first now next : Parts) → n ≡ length first.layers.stack.layers →
    i < n → IsUndone i first now → loop_of next ≡ undo (loop_of now) →
    next.layers.tape ≡ now.layers.tape → IsWhole next → IsUndone (i + 1) first next
undone_more i n first now next size less h is tape w = record {
  ok = undo_step i first.layers.stack.layers (loop_of now) (loop_of next) (undo_all (loop_of first))
      (omega arith) is h.ok;
  tape = tape ∙ h.tape;
  whole = w;
}

-- one redo more
pub redone_more : (i n : ℕ) (first now next : Parts) → n ≡ length first.layers.stack.redo → i < n →
    IsRedone i first now → loop_of next ≡ redo (loop_of now) → next.layers.tape ≡ now.layers.tape →
    IsWhole next → IsRedone (i + 1) first next
redone_more i n first now next size less h is tape w = record {
  ok = redo_step i first.layers.stack.redo (loop_of now) (loop_of next) (redo_all (loop_of first))
      (omega arith) is h.ok;
  tape = tape ∙ h.tape;
  whole = w;
}

pub ruleset histories = (whole_undone, whole_redone, undone_more, redone_more)
