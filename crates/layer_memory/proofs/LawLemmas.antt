-- What holds of several calls together.
use Rattle.std.proofs.Common.{◌≡◌, ◌<◌, ℕ, Bool, true, false, List, [], ◌∷◌, length, Option, refl, sym, ap, arith}
use Rattle.sl_base.specs.Sounds.{Sound}
use Rattle.sl_commands.specs.declared.How.{How}
use Rattle.looper_rules.specs.Layers.{Layer, current_list, with_current, without_current}
use Rattle.looper_rules.specs.Stack.{Stack, pinned_list}
use Rattle.looper_rules.specs.Opening.{opened}
use Rattle.looper_rules.specs.Writing.{meets_fresh, written, with_written, with_base}
use Rattle.looper_rules.specs.Closing.{finished, finished_layer}
use Rattle.looper_rules.specs.History.{undone, redone}
use Rattle.looper_rules.specs.Saves.{pinned}
use Rattle.loop_tape.specs.Tapes.{TapeOf}
use Rattle.layer_memory.specs.Seen.{Held}
use Rattle.layer_memory.specs.Between.{AreWrites, no_write, wrote, went_on, broke, held, let_go, AreChanges, no_change, opens, writes, extends, breaks, finishes, drops, undoes, redoes}

trans : {A : Type 0} {x y z : A} → x ≡ y → y ≡ z → x ≡ z
trans e f = rw e f

redone-on : (ls : List (Layer ℕ)) (s : Stack ℕ) → s.layers ≡ ls → 0 < length ls →
    redone (undone s) ≡ s
redone-on [] s e lt = absurd (omega (arith, lt))
redone-on (l ∷ ls) s e lt = rw e refl

-- undo, then redo
pub redone-undone : (s : Stack ℕ) → 0 < length s.layers → redone (undone s) ≡ s
redone-undone s lt = redone-on s.layers s refl lt

-- layers as they are seen, of their parts
abbrev held_of_parts : Stack ℕ → Bool → TapeOf → Held
held_of_parts s w t = record { stack = s; writing = w; tape = t }

same-parts : (a b : Stack ℕ) (c d : Bool) (t u : TapeOf) → a ≡ b → c ≡ d → t ≡ u →
    held_of_parts a c t ≡ held_of_parts b d u
same-parts a b c d t u e f g = rw (e, f, g) refl

-- layers seen alike are alike
pub held-same : (h h' : Held) → h'.stack ≡ redone (undone h.stack) → h'.writing ≡ false →
    h'.tape ≡ h.tape → h.writing ≡ false → 0 < length h.stack.layers → h' ≡ h
held-same h h' es ew et w lt = same-parts h'.stack h.stack h'.writing h.writing h'.tape h.tape
    (trans es (redone-undone h.stack lt)) (trans ew (sym w)) et

pub ruleset moves = (held-same)

without-changed : {A : Type 0} (f : Layer A → Layer A) (ls : List (Layer A)) →
    without_current (with_current f ls) ≡ without_current ls
without-changed f [] = refl
without-changed f (l ∷ ls) = refl

without-written : (fresh : Bool) (how : How) (place : ℕ) (x : Sound) (t : Stack Sound) →
    meets_fresh how place t ≡ fresh →
    without_current (written how place x t).layers ≡ without_current t.layers
without-written true how place x t e = rw e (without-changed (with_written how place x 0) t.layers)
without-written false how place x t e = rw e (without-changed _ t.layers)

-- the layers below the open one stay
pub below-stay : (s t : Stack Sound) → AreWrites s t →
    without_current t.layers ≡ without_current s.layers
below-stay s t no_write = refl
below-stay s t (wrote how place x u w) =
    trans (without-written (meets_fresh how place u) how place x u refl) (below-stay s u w)
below-stay s t (went_on u w) = trans (without-changed with_base u.layers) (below-stay s u w)
below-stay s t (broke u w) = below-stay s u w
below-stay s t (held u w) = trans (without-changed _ u.layers) (below-stay s u w)
below-stay s t (let_go u w) = below-stay s u w

undone-layers : (ls : List (Layer Sound)) (s : Stack Sound) → s.layers ≡ ls →
    (undone s).layers ≡ without_current s.layers
undone-layers [] s e = rw e refl
undone-layers (l ∷ ls) s e = rw e refl

-- undo gives back the list from before an opening
pub undo-opening : (s t : Stack Sound) (empty : Bool) (cut : Option ℕ) →
    AreWrites (opened empty s) t →
    current_list (undone (finished cut t)).layers ≡ current_list s.layers
undo-opening s t empty cut w =
    let a = undone-layers (finished cut t).layers (finished cut t) refl in
    let b = without-changed (finished_layer cut t.tape) t.layers in
    let c = below-stay (opened empty s) t w in
    ap current_list (trans a (trans b c))

pub ruleset openings = (undo-opening)

pin-written : (fresh : Bool) (how : How) (place : ℕ) (x : Sound) (t : Stack Sound) →
    meets_fresh how place t ≡ fresh → (written how place x t).pin ≡ t.pin
pin-written true how place x t e = rw e refl
pin-written false how place x t e = rw e refl

pin-undone : (ls : List (Layer Sound)) (s : Stack Sound) → s.layers ≡ ls → (undone s).pin ≡ s.pin
pin-undone [] s e = rw e refl
pin-undone (l ∷ ls) s e = rw e refl

pin-redone : (ls : List (Layer Sound)) (s : Stack Sound) → s.redo ≡ ls → (redone s).pin ≡ s.pin
pin-redone [] s e = rw e refl
pin-redone (l ∷ ls) s e = rw e refl

-- a pin stays
pub pin-stays : (s t : Stack Sound) → AreChanges s t → t.pin ≡ s.pin
pin-stays s t no_change = refl
pin-stays s t (opens empty u w) = pin-stays s u w
pin-stays s t (writes how place x u w) =
    trans (pin-written (meets_fresh how place u) how place x u refl) (pin-stays s u w)
pin-stays s t (extends u w) = pin-stays s u w
pin-stays s t (breaks u w) = pin-stays s u w
pin-stays s t (finishes cut u w) = pin-stays s u w
pin-stays s t (drops u w) = pin-stays s u w
pin-stays s t (undoes u w) = trans (pin-undone u.layers u refl) (pin-stays s u w)
pin-stays s t (redoes u w) = trans (pin-redone u.redo u refl) (pin-stays s u w)

-- what was pinned is what is saved
pub saved-pinned : (s t : Stack Sound) → AreChanges (pinned s) t →
    pinned_list t.pin ≡ current_list s.layers
saved-pinned s t w = rw (pin-stays (pinned s) t w) refl

pub ruleset holds = (saved-pinned)
