-- What changes of a stack do to its layers, and that they keep to the chunks in reach.
use Rattle.std.proofs.Common.{◌≡◌, ℕ, ◌≤◌, min, List, [], ◌∷◌, ◌++◌, length, refl, ap, ◌∙◌, arith, inl}
use Rattle.looper_rules.specs.Layers.{Layer, without_current}
use Rattle.looper_rules.specs.Stack.{Stack}
use Rattle.looper_rules.specs.Room.{chunks_of}
use Rattle.looper_laws.specs.OtherLayers.{in_a_row, row_of, OthersStay}
use Rattle.looper_rules.specs.Sharing.{KeepsToReach}

-- what holds within reach of one stack holds of the other
abbrev pub Reaches : {A : Type 0} → ℕ → Stack A → Stack A → Type 0
Reaches reach old new = KeepsToReach reach old → KeepsToReach reach new

-- layers and redo layers are the same
pub record IsSame {A : Type 0} (reach : ℕ) (old new : Stack A) : Type 0 where
  pub layers : new.layers ≡ old.layers
  pub redo : new.redo ≡ old.redo
  pub reaches : Reaches reach old new

-- at most the current layer has changed
pub record IsTouched {A : Type 0} (reach : ℕ) (old new : Stack A) : Type 0 where
  pub below : without_current new.layers ≡ without_current old.layers
  pub count : length new.layers ≡ length old.layers
  pub redo : new.redo ≡ old.redo
  pub reaches : Reaches reach old new

-- at most the current layer has changed or gone
pub record IsSettled {A : Type 0} (reach : ℕ) (old new : Stack A) : Type 0 where
  pub current : List (Layer A)
  pub at_most_one : length current ≤ min 1 (length old.layers)
  pub layers : new.layers ≡ current ++ without_current old.layers
  pub redo : new.redo ≡ old.redo
  pub reaches : Reaches reach old new

-- the row is the same
pub record IsMoved {A : Type 0} (reach : ℕ) (old new : Stack A) : Type 0 where
  pub row : row_of new ≡ row_of old
  pub reaches : Reaches reach old new

-- all layers but the current one stay, and the tape is in reach
pub record IsDone {A : Type 0} (reach : ℕ) (old new : Stack A) : Type 0 where
  pub others : OthersStay old new
  pub chunks : KeepsToReach reach old → chunks_of new.tape ≤ reach

-- nothing done
pub same : {A : Type 0} {reach : ℕ} {s : Stack A} → IsSame reach s s
same = record { layers = refl; redo = refl; reaches = λ h. h }

pub same_touched : {A : Type 0} {reach : ℕ} {old new : Stack A} → IsSame reach old new →
    IsTouched reach old new
same_touched h = record {
  below = ap without_current h.layers;
  count = ap length h.layers;
  redo =
      h.redo;
  reaches = h.reaches;
}

pub touched_on : {A : Type 0} {reach : ℕ} {old now new : Stack A} → IsTouched reach old now →
    IsTouched reach now new → IsTouched reach old new
touched_on h k =
    record {
      below = k.below ∙ h.below;
      count = k.count ∙ h.count;
      redo = k.redo ∙ h.redo;
      reaches = λ w. k.reaches (h.reaches w);
    }

pub settled_same : {A : Type 0} {reach : ℕ} {old now new : Stack A} → IsSettled reach old now →
    IsSame reach now new → IsSettled reach old new
settled_same h k =
    record {
      current = h.current;
      at_most_one = h.at_most_one;
      layers = k.layers ∙ h.layers;
      redo = k.redo ∙ h.redo;
      reaches = λ w. k.reaches (h.reaches w);
    }

-- the current layer, where there is one
abbrev pub first_of : {A : Type 0} → List (Layer A) → List (Layer A)
first_of [] = []
first_of (l ∷ ls) = l ∷ []

pub first_of-count : {A : Type 0} (layers : List (Layer A)) →
    length (first_of layers) ≤ min 1 (length layers)
first_of-count [] = omega arith
first_of-count (l ∷ ls) = omega arith

pub first_of-split : {A : Type 0} (layers : List (Layer A)) →
    layers ≡ first_of layers ++ without_current layers
first_of-split [] = refl
first_of-split (l ∷ ls) = refl

-- what touches the current layer settles it
pub touched_settled : {A : Type 0} {reach : ℕ} {old new : Stack A} → IsTouched reach old new →
    IsSettled reach old new
touched_settled {old = old} {new = new} h =
    record {
      current = first_of new.layers;
      at_most_one = (let few = first_of-count new.layers in let count = h.count in omega arith);
      layers = first_of-split new.layers ∙ ap (λ below. first_of new.layers ++ below) h.below;
      redo = h.redo;
      reaches = h.reaches;
    }

pub touched_then_settled : {A : Type 0} {reach : ℕ} {old now new : Stack A} →
    IsTouched reach old now → IsSettled reach now new → IsSettled reach old new
touched_then_settled {old = old} {now = now} {new = new} h k =
    record {
      current = k.current;
      at_most_one = (let few = k.at_most_one in let count = h.count in omega arith);
      layers = k.layers ∙ ap (λ below. k.current ++ below) h.below;
      redo = k.redo ∙ h.redo;
      reaches = λ w. k.reaches (h.reaches w);
    }

pub moved_on : {A : Type 0} {reach : ℕ} {old now new : Stack A} → IsMoved reach old now →
    IsMoved reach now new → IsMoved reach old new
moved_on h k = record { row = k.row ∙ h.row; reaches = λ w. k.reaches (h.reaches w) }

-- what settles and then moves leaves the others
pub settled_then_moved : {A : Type 0} {reach : ℕ} {old now new : Stack A} →
    IsSettled reach old now → IsMoved reach now new → IsDone reach old new
settled_then_moved {old = old} {now = now} h k =
    let row : row_of now ≡ in_a_row old.redo (h.current ++ without_current old.layers) =
    (ap (λ layers. in_a_row now.redo layers) h.layers
    ∙ ap (λ redo. in_a_row redo (h.current ++ without_current old.layers)) h.redo)
    in record {
      others = inl (record { current = h.current; at_most_one = h.at_most_one; row = k.row ∙ row });
      chunks = λ w. (k.reaches (h.reaches w)).chunks;
    }

pub moved_itself : {A : Type 0} {reach : ℕ} {s : Stack A} → IsMoved reach s s
moved_itself = record { row = refl; reaches = λ w. w }

pub settled_done : {A : Type 0} {reach : ℕ} {old new : Stack A} → IsSettled reach old new →
    IsDone reach old new
settled_done h = settled_then_moved h moved_itself
