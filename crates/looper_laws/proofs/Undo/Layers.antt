-- Undo gives back the layers below an open one, and redo gives back what undo moved.
use Rattle.std.proofs.Common.{◌≡◌, ℕ, ◌≤◌, Bool, true, false, List, [], ◌∷◌, length, Option, None, refl, sym, ap, ◌∙◌, subst, arith, nat_le}
use Rattle.std.specs.Prelude.{◌==◌}
use Rattle.std.proofs.lemmas.Bool.{ne_eqb}
use Rattle.sl_base.specs.Sounds.{Sound}
use Rattle.sl_commands.specs.declared.Verb.TheVariants.{Undo, Redo}
use Rattle.sl_commands.specs.declared.Mode.{Mode}
use Rattle.sl_commands.specs.declared.Mode.TheVariants.{Recording, Multiplying}
use Rattle.looper_rules.specs.Layers.{Layer, contents, with_current, without_current, current_length}
use Rattle.looper_rules.specs.Stack.{Stack}
use Rattle.looper_rules.specs.Loop.{Loop, is_writing, length_of, base_length_of}
use Rattle.looper_rules.specs.Closing.{cut_cells, closing_cycle, finished_layer, closed_recording, multiply_cut, closed_from}
use Rattle.looper_rules.specs.History.{undone_from, redone, closed_if, settled}
use Rattle.looper_rules.specs.Verbs.{acts}
use Rattle.looper_rules.specs.Saves.{pinned}
use Rattle.looper_laws.specs.Undoing.{IsOpenedFrom, for_record, for_mode, StaysOpen, at_once, through_frame, through_save, aside, closing_cut, cut_of, StandsClosed}
use Rattle.looper_laws.proofs.Kept.Layers.{contents-old_cells, length-unmarked, unmarked-unmarked}
use Rattle.looper_laws.proofs.Others.Stacks.{IsTouched}
use Rattle.looper_laws.proofs.Others.Steps.{finished_touched, pinned_touched}
use Rattle.looper_laws.proofs.Undo.Openings.{acts_undo_stack, acts_redo_stack}
use Rattle.looper_laws.proofs.Others.Frames.{frame_stepped}

-- an open layer, over these layers
record IsOpenOn (below : List (Layer Sound)) (l : Loop Sound) : Type 0 where
  writing : is_writing l.deck.mode ≡ true
  layers : without_current l.stack.layers ≡ below

opened_on : {before now : Loop Sound} → IsOpenedFrom before now → IsOpenOn before.stack.layers now
opened_on for_record = record { writing = refl; layers = refl }
opened_on (for_mode mode writing) = record { writing = writing; layers = refl }

stays_on : {first now : Loop Sound} (below : List (Layer Sound)) → IsOpenOn below first →
    StaysOpen first now → IsOpenOn below now
stays_on below h at_once = h
stays_on below h (through_frame x reach now stays writing) =
    let before = stays_on below h stays
    in record {
      writing = writing;
      layers =
          ((frame_stepped x now before.writing).still writing).below ∙ before.layers;
    }
stays_on below h (through_save now stays) =
    let before = stays_on below h stays
    in let touched : IsTouched 0 now.stack (pinned now.stack) = pinned_touched
    in record { writing = before.writing; layers = touched.below ∙ before.layers }
stays_on below h (aside now next stays mode layers) =
    let before = stays_on below h stays
    in record {
      writing = ap is_writing mode ∙ before.writing;
      layers =
          ap without_current layers ∙ before.layers;
    }

not_zero : (n : ℕ) → 1 ≤ n → (n == 0) ≡ false
not_zero n some = ne_eqb n 0 (λ none. omega arith)

-- closing a list that isn't empty keeps the layers below
closed_recording_below : {A : Type 0} (empty single : Bool) (l : Loop A) → empty ≡ false →
    without_current (closed_recording empty single l).stack.layers ≡ without_current l.stack.layers
closed_recording_below true single l some = absurd (let none : ⊥ = Prim.cc in none)
closed_recording_below false single l some =
    (let touched : IsTouched 0 l.stack _ = finished_touched None in touched.below)

closed_from_below : {A : Type 0} (mode : Mode) (l : Loop A) → 1 ≤ length_of l →
    without_current (closed_from mode l).stack.layers ≡ without_current l.stack.layers
closed_from_below Recording l some = closed_recording_below (length_of l == 0)
    (nat_le (length l.stack.layers) 1) l (not_zero (length_of l) some)
closed_from_below Multiplying l some =
    (let touched : IsTouched 0 l.stack _ =
    finished_touched (multiply_cut l.deck.pos (base_length_of l)) in touched.below)
closed_from_below _ l some =
    (let touched : IsTouched 0 l.stack _ = finished_touched None in touched.below)

closed_below : {A : Type 0} (l : Loop A) → is_writing l.deck.mode ≡ true → 1 ≤ length_of l →
    without_current (settled l).stack.layers ≡ without_current l.stack.layers
closed_below l writing some = ap (λ writing. without_current (closed_if writing l).stack.layers)
    writing ∙ closed_from_below l.deck.mode l some

-- undo leaves the layers below the current one
undone_layers : {A : Type 0} (layers : List (Layer A)) (s : Stack A) →
    (undone_from layers (record s { layers = layers })).layers ≡ without_current layers
undone_layers [] s = refl
undone_layers (l ∷ ls) s = refl

pub undo_opened : (reach : ℕ) (before opened now : Loop Sound) → IsOpenedFrom before opened →
    StaysOpen opened now → 1 ≤ length_of now →
    (acts Undo reach now).stack.layers ≡ before.stack.layers
undo_opened reach before opened now opens stays some =
    let there = stays_on before.stack.layers (opened_on opens) stays
    in ap (λ (s : Stack Sound). s.layers) (acts_undo_stack reach now)
    ∙ (undone_layers (settled now).stack.layers (settled now).stack
    ∙ (closed_below now there.writing some ∙ there.layers))

-- redo brings back what undo moved
redone_undone : {A : Type 0} (layers : List (Layer A)) (s : Stack A) → 1 ≤ length layers →
    redone (undone_from layers (record s { layers = layers })) ≡ record s { layers = layers }
redone_undone [] s some = absurd (let none : ⊥ = omega arith in none)
redone_undone (l ∷ ls) s some = refl

pub redo_undo : (reach more : ℕ) (l : Loop Sound) → 1 ≤ length (settled l).stack.layers →
    (acts Redo more (acts Undo reach l)).stack ≡ (settled l).stack
redo_undo reach more l some =
    acts_redo_stack more (acts Undo reach l)
    ∙ (ap redone (acts_undo_stack reach l)
    ∙ redone_undone (settled l).stack.layers (settled l).stack some)

-- closing a list that isn't empty leaves its layer closed on the others
finished_stands : (cut : Option ℕ) (tape : ℕ) (layers : List (Layer Sound)) →
    1 ≤ current_length layers →
    StandsClosed cut tape layers (with_current (finished_layer cut tape) layers)
finished_stands cut tape [] some = absurd (let none : ⊥ = omega arith in none)
finished_stands cut tape (l ∷ ls) some =
    record {
      opened = l;
      closed = finished_layer cut tape l;
      below = ls;
      before = refl;
      after = refl;
      closes = record {
        list = contents-old_cells (contents (cut_cells cut l.cells));
        cycle =
            ap (closing_cycle l.cycle) (sym (length-unmarked (cut_cells cut l.cells)));
        not_fresh =
            unmarked-unmarked (cut_cells cut l.cells);
        no_base = refl;
        no_base_seams = refl;
        end =
            refl;
        seams = refl;
      };
    }

recording_stands : (empty single : Bool) (l : Loop Sound) → empty ≡ false → 1 ≤ length_of l →
    StandsClosed None l.stack.tape l.stack.layers (closed_recording empty single l).stack.layers
recording_stands true single l is some = absurd (let none : ⊥ = Prim.cc in none)
recording_stands false single l is some = finished_stands None l.stack.tape l.stack.layers some

pub closed_stands : (mode : Mode) (l : Loop Sound) → 1 ≤ length_of l →
    StandsClosed (closing_cut mode l.deck.pos (base_length_of l)) l.stack.tape l.stack.layers
    (closed_from mode l).stack.layers
closed_stands Recording l some = recording_stands (length_of l == 0)
    (nat_le (length l.stack.layers) 1) l (not_zero (length_of l) some) some
closed_stands Multiplying l some =
    finished_stands (multiply_cut l.deck.pos (base_length_of l)) l.stack.tape l.stack.layers some
closed_stands _ l some = finished_stands None l.stack.tape l.stack.layers some

pub settled_stands : (l : Loop Sound) → is_writing l.deck.mode ≡ true → 1 ≤ length_of l →
    StandsClosed (cut_of l) l.stack.tape l.stack.layers (settled l).stack.layers
settled_stands l writing some =
    subst (λ is. StandsClosed (cut_of l) l.stack.tape l.stack.layers (closed_if is l).stack.layers)
    (sym writing) (closed_stands l.deck.mode l some)

stands_some : (cut : Option ℕ) (tape : ℕ) (was now : List (Layer Sound)) →
    StandsClosed cut tape was now → 1 ≤ length now
stands_some cut tape was now h = rw h.after (omega arith)

pub redo_undo_stands : (reach more : ℕ) (l : Loop Sound) → is_writing l.deck.mode ≡ true →
    1 ≤ length_of l → StandsClosed (cut_of l) l.stack.tape l.stack.layers
    (acts Redo more (acts Undo reach l)).stack.layers
redo_undo_stands reach more l writing some =
    let stands = settled_stands l writing some
    in let count = stands_some (cut_of l) l.stack.tape l.stack.layers (settled l).stack.layers
    stands
    in subst (λ (s : Stack Sound). StandsClosed (cut_of l) l.stack.tape l.stack.layers s.layers)
    (sym (redo_undo reach more l count)) stands
