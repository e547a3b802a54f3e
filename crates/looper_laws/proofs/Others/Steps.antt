-- Each single change of a stack: what it does to the layers, and that it keeps to the chunks in
-- reach.
use Rattle.std.proofs.Common.{◌≡◌, ℕ, suc, ◌+◌, ◌-◌, ◌≤◌, Bool, true, false, ◌&&◌, ◌||◌, List, [], ◌∷◌, length, Option, None, refl, ap, ◌∙◌, arith, nat_le, nat_lt, is_some, cond, inr}
use Rattle.std.proofs.lemmas.Bool.{ltb-false, le-leb, and_parts}
use Rattle.std.proofs.lemmas.Bool.Decides.{nat_tests}
use Rattle.std.proofs.lemmas.List.Sums.{sum_by-cons}
use Rattle.sl_commands.specs.declared.How.{How}
use Rattle.sl_commands.specs.declared.How.TheVariants.{Append}
use Rattle.sl_commands.specs.declared.Started.TheVariants.{Ok}
use Rattle.sl_base.specs.Limits.{max_layers, max_seams}
use Rattle.looper_rules.specs.Layers.{Layer, seams_of, total_seams, with_current, without_current, current_end}
use Rattle.looper_rules.specs.Stack.{Stack, LastWrite, streak_broken}
use Rattle.looper_rules.specs.Room.{chunks_of, has_room}
use Rattle.looper_rules.specs.Opening.{opening_tape, opening_seams, first_refusal, opening, empty_layer, new_layer, opened}
use Rattle.looper_rules.specs.Writing.{meets_fresh, new_cell_fits, write_fits, with_written, rewritten, newly_written, written, with_base, extended}
use Rattle.looper_rules.specs.Closing.{finished_layer, finished, dropped}
use Rattle.looper_rules.specs.History.{undone_from, undone, redone_from, redone}
use Rattle.looper_rules.specs.Saves.{pinned, unpinned, unmarked_layer}
use Rattle.looper_rules.specs.Sharing.{EndWithin, KeepsToReach}
use Rattle.looper_laws.proofs.Others.Stacks.{IsSame, IsTouched, IsSettled, IsMoved, IsDone, first_of, first_of-count, first_of-split}

-- the current layer changed leaves those below, and their number
below-with_current : {A : Type 0} (f : Layer A → Layer A) (layers : List (Layer A)) →
    without_current (with_current f layers) ≡ without_current layers
below-with_current f [] = refl
below-with_current f (l ∷ ls) = refl

count-with_current : {A : Type 0} (f : Layer A → Layer A) (layers : List (Layer A)) →
    length (with_current f layers) ≡ length layers
count-with_current f [] = refl
count-with_current f (l ∷ ls) = refl

-- layers within a tape are within a longer one
pub end_within_more : {A : Type 0} (tape more : ℕ) (layers : List (Layer A)) → tape ≤ more →
    EndWithin tape layers → EndWithin more layers
end_within_more tape more [] up h = tt
end_within_more tape more (l ∷ ls) up h =
    ((let here : l.end ≤ tape = h.0 in omega arith), end_within_more tape more ls up h.1)

-- they are, where the current layer changes but for its end
end_within_current : {A : Type 0} (tape : ℕ) (f : Layer A → Layer A) (layers : List (Layer A)) →
    ((l : Layer A) → l.end ≤ tape → (f l).end ≤ tape) → EndWithin tape layers →
    EndWithin tape (with_current f layers)
end_within_current tape f [] keeps h = tt
end_within_current tape f (l ∷ ls) keeps h = (keeps l h.0, h.1)

end_within_below : {A : Type 0} (tape : ℕ) (layers : List (Layer A)) → EndWithin tape layers →
    EndWithin tape (without_current layers)
end_within_below tape [] h = tt
end_within_below tape (l ∷ ls) h = h.1

current_end_within : {A : Type 0} (tape : ℕ) (layers : List (Layer A)) → EndWithin tape layers →
    current_end layers ≤ tape
current_end_within tape [] h = omega arith
current_end_within tape (l ∷ ls) h = h.0

-- the streak ends
pub streak_broken_same : {A : Type 0} {reach : ℕ} {s : Stack A} → IsSame reach s (streak_broken s)
streak_broken_same =
    record {
      layers = refl;
      redo = refl;
      reaches = λ h. record {
        tape =
            record { layers = h.tape.layers; redo = h.tape.redo; pin = h.tape.pin };
        chunks =
            h.chunks;
      };
    }

-- the pin goes
pub unpinned_same : {A : Type 0} {reach : ℕ} {s : Stack A} → IsSame reach s (unpinned s)
unpinned_same =
    record {
      layers = refl;
      redo = refl;
      reaches = λ h. record {
        tape =
            record { layers = h.tape.layers; redo = h.tape.redo; pin = omega arith };
        chunks =
            h.chunks;
      };
    }

-- the current layer changes but for its end
current_touched : {A : Type 0} {reach : ℕ} {s : Stack A} (f : Layer A → Layer A)
    (streak : Option LastWrite) → ((l : Layer A) → l.end ≤ s.tape → (f l).end ≤ s.tape) →
    IsTouched reach s (record s { layers = with_current f s.layers; streak = streak })
current_touched {s = s} f streak keeps =
    record {
      below = below-with_current f s.layers;
      count = count-with_current f s.layers;
      redo = refl;
      reaches = λ h. record {
        tape = record {
          layers = end_within_current s.tape f s.layers keeps h.tape.layers;
          redo =
              h.tape.redo;
          pin = h.tape.pin;
        };
        chunks = h.chunks;
      };
    }

pub finished_touched : {A : Type 0} {reach : ℕ} {s : Stack A} (cut : Option ℕ) →
    IsTouched reach s (finished cut s)
finished_touched {s = s} cut = current_touched (finished_layer cut s.tape) None
    (λ l h. (let same : s.tape ≤ s.tape = omega arith in same))

pub extended_touched : {A : Type 0} {reach : ℕ} {s : Stack A} → IsTouched reach s (extended s)
extended_touched {s = s} = current_touched with_base s.streak (λ l h. h)

rewritten_touched : {A : Type 0} {reach : ℕ} {s : Stack A} (how : How) (place : ℕ) (a : A) →
    IsTouched reach s (rewritten how place a s)
rewritten_touched how place a = current_touched (with_written how place a 0) None (λ l h. h)

-- where a tape has room for a frame, a tape of one frame more is in reach
pub room_for_one : (reach tape : ℕ) → has_room reach tape ≡ true → chunks_of tape ≤ reach →
    chunks_of (tape + 1) ≤ reach
room_for_one reach tape room fits = Prim.grind (arith, nat_tests)

newly_written_touched : {A : Type 0} {reach : ℕ} {s : Stack A} (how : How) (place : ℕ) (a : A) →
    has_room reach s.tape ≡ true → IsTouched reach s (newly_written how place a s)
newly_written_touched {reach = reach} {s = s} how place a room =
    let seams : ℕ = cond (is_some s.streak) 0 2
    in record {
      below = below-with_current (with_written how place a seams) s.layers;
      count = count-with_current (with_written how place a seams) s.layers;
      redo = refl;
      reaches = λ h. record {
        tape = record {
          layers = end_within_current (s.tape + 1) (with_written how place a seams) s.layers
              (λ l h. h) (end_within_more s.tape (s.tape + 1) s.layers (omega arith) h.tape.layers);
          redo = end_within_more s.tape (s.tape + 1) s.redo (omega arith) h.tape.redo;
          pin = (let below = h.tape.pin in omega arith);
        };
        chunks = room_for_one reach s.tape room h.chunks;
      };
    }

-- a write that fits, by whether it meets a fresh cell
written_by : {A : Type 0} {reach : ℕ} {s : Stack A} (how : How) (place : ℕ) (a : A) (fresh : Bool) →
    (fresh || new_cell_fits reach how s) ≡ true →
    IsTouched reach s (cond fresh (rewritten how place a s) (newly_written how place a s))
written_by how place a true fits = rewritten_touched how place a
written_by {reach = reach} {s = s} how place a false fits =
    newly_written_touched how place a (and_parts _ _ (and_parts _ _ fits).0).0

pub written_touched : {A : Type 0} {reach : ℕ} {s : Stack A} (how : How) (place : ℕ) (a : A) →
    write_fits reach how place s ≡ true → IsTouched reach s (written how place a s)
written_touched {s = s} how place a fits = written_by how place a (meets_fresh how place s) fits

-- the list is pinned
pub pinned_touched : {A : Type 0} {reach : ℕ} {s : Stack A} → IsTouched reach s (pinned s)
pinned_touched {s = s} =
    record {
      below = below-with_current unmarked_layer s.layers;
      count = count-with_current unmarked_layer s.layers;
      redo = refl;
      reaches = λ h. record {
        tape = record {
          layers = end_within_current s.tape unmarked_layer s.layers (λ l h. h)
              h.tape.layers;
          redo = h.tape.redo;
          pin = omega arith;
        };
        chunks = h.chunks;
      };
    }

-- the open layer goes
pub dropped_settled : {A : Type 0} {reach : ℕ} {s : Stack A} → IsSettled reach s (dropped s)
dropped_settled {s = s} =
    record {
      current = [];
      at_most_one = omega arith;
      layers = refl;
      redo = refl;
      reaches = λ h. record {
        tape = record {
          layers = end_within_below s.tape s.layers h.tape.layers;
          redo = h.tape.redo;
          pin = h.tape.pin;
        };
        chunks = h.chunks;
      };
    }

-- a layer moves to redo
undone_from_moved : {A : Type 0} {reach : ℕ} (layers : List (Layer A)) (s : Stack A) →
    IsMoved reach (record s { layers = layers }) (undone_from layers (record s { layers = layers }))
undone_from_moved [] s = record { row = refl; reaches = λ h. h }
undone_from_moved (l ∷ ls) s =
    record {
      row = refl;
      reaches = λ h. record {
        tape = record {
          layers = h.tape.layers.1;
          redo = (h.tape.layers.0, h.tape.redo);
          pin =
              h.tape.pin;
        };
        chunks = h.chunks;
      };
    }

pub undone_moved : {A : Type 0} {reach : ℕ} {s : Stack A} → IsMoved reach s (undone s)
undone_moved {s = s} = undone_from_moved s.layers s

-- and comes back
redone_from_moved : {A : Type 0} {reach : ℕ} (redo : List (Layer A)) (s : Stack A) →
    IsMoved reach (record s { redo = redo }) (redone_from redo (record s { redo = redo }))
redone_from_moved [] s = record { row = refl; reaches = λ h. h }
redone_from_moved (l ∷ ls) s =
    record {
      row = refl;
      reaches = λ h. record {
        tape = record {
          layers = (h.tape.redo.0, h.tape.layers);
          redo = h.tape.redo.1;
          pin =
              h.tape.pin;
        };
        chunks = h.chunks;
      };
    }

pub redone_moved : {A : Type 0} {reach : ℕ} {s : Stack A} → IsMoved reach s (redone s)
redone_moved {s = s} = redone_from_moved s.redo s

-- what an opening that isn't refused was asked
refusals : (layers seams room : Bool) → first_refusal layers seams room ≡ Ok → (seams ≡ false)
    × (room ≡ true)
refusals true seams room h = absurd (let none : ⊥ = Prim.cc in none)
refusals false true room h = absurd (let none : ⊥ = Prim.cc in none)
refusals false false true h = (refl, refl)
refusals false false false h = absurd (let none : ⊥ = Prim.cc in none)

pub opening_tests : {A : Type 0} (reach : ℕ) (empty : Bool) (s : Stack A) →
    opening reach empty s ≡ Ok →
    (nat_lt (max_seams - 2) (total_seams s.layers + opening_seams empty s.layers) ≡ false)
    × (has_room reach (opening_tape s) ≡ true)
opening_tests reach empty s h =
    refusals (nat_le max_layers (length s.layers))
    (nat_lt (max_seams - 2) (total_seams s.layers + opening_seams empty s.layers))
    (has_room reach (opening_tape s)) h

-- an opening goes on at a tape that is in reach
pub opened_in_reach : {A : Type 0} {reach : ℕ} {s : Stack A} → KeepsToReach reach s →
    chunks_of (opening_tape s) ≤ reach
opened_in_reach {s = s} h =
    let end : current_end s.layers ≤ s.tape = current_end_within s.tape s.layers h.tape.layers
    in let pin = h.tape.pin
    in let chunks = h.chunks
    in omega arith

-- the layers below a new one are those of before
pub settled_then_opened : {A : Type 0} {reach : ℕ} {old now : Stack A} (empty : Bool) →
    IsSettled reach old now → IsDone reach old (opened empty now)
settled_then_opened {now = now} empty h =
    let newest = new_layer empty (opening_tape now) now.layers
    in record {
      others = inr (record {
        newest = newest;
        current = h.current;
        at_most_one = h.at_most_one;
        layers = ap (λ layers. newest ∷ layers) h.layers;
        redo = refl;
      });
      chunks = λ w. opened_in_reach (h.reaches w);
    }

-- and they are still, once the new one has changed
newest_of : {A : Type 0} (s : Stack A) (layers : List (Layer A)) →
    length layers ≡ suc (length s.layers) → without_current layers ≡ s.layers → (newest : Layer A)
    × (layers ≡ newest ∷ s.layers)
newest_of s [] count below = absurd (let none : ⊥ = omega arith in none)
newest_of s (l ∷ ls) count below = (l, ap (λ layers. l ∷ layers) below)

pub opened_then_touched : {A : Type 0} {reach : ℕ} {s new : Stack A} (empty : Bool) →
    IsTouched reach (opened empty s) new → (KeepsToReach reach s → chunks_of new.tape ≤ reach) →
    IsDone reach s new
opened_then_touched {s = s} {new = new} empty h chunks =
    let split = newest_of s new.layers h.count h.below
    in record {
      others = inr (record {
        newest = split.0;
        current = first_of s.layers;
        at_most_one = first_of-count s.layers;
        layers = split.1 ∙ ap (λ layers. split.0 ∷ layers) (first_of-split s.layers);
        redo = h.redo;
      });
      chunks = chunks;
    }

-- two tests that hold, and a third
and_all : (a b : Bool) → a ≡ true → b ≡ true → (a && b && true) ≡ true
and_all a b h k = Prim.cc

-- where an opening of an empty layer isn't refused, the first frame fits
pub first_frame_fits : {A : Type 0} (reach place : ℕ) (s : Stack A) → opening reach true s ≡ Ok →
    write_fits reach Append place (opened true s) ≡ true
first_frame_fits reach place s h =
    let tests = opening_tests reach true s h
    in let total : total_seams (empty_layer (opening_tape s) ∷ s.layers) ≡ 0
    + total_seams s.layers = sum_by-cons seams_of (empty_layer (opening_tape s)) s.layers
    in let few : total_seams s.layers + 0 ≤ 65534 =
    ltb-false 65534 (total_seams s.layers + 0) tests.0
    in and_all (has_room reach (opening_tape s))
    (nat_le (total_seams (empty_layer (opening_tape s) ∷ s.layers)) (max_seams - 2)) tests.1
    (le-leb _ _ (omega arith))
