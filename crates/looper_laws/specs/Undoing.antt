-- A loop is opened by `record` with an empty layer, and by the other writing verbs with a copy of
-- its list (forward alone by multiply and insert), once an open layer is closed. The layer stays
-- open through frames after which the mode is still a writing one, through saves, and through
-- whatever leaves mode and layers as they are: sets and gets, releases, presses, a verb that begins
-- to wait, a turn of the direction. Undo closes an open layer before it moves it: it has its list
-- still, cut to pos frames where a Multiplying has gone beyond its base, and its cycle, or its
-- length where it had none; no cell is fresh any more, base and base seams are gone, it ends at the
-- tape, and it has the seams that it had.
-- "Opening" and "History: undo and redo" in docs/rules.md.
use Rattle.std.specs.Prelude.{◌≡◌, ℕ, Bool, false, IsTrue, List, [], ◌∷◌, length, Option, Some, None}
use Rattle.sl_base.specs.Sounds.{Sound}
use Rattle.sl_commands.specs.declared.Verb.{Verb}
use Rattle.sl_commands.specs.declared.Verb.TheVariants.{Overdub, Multiply, Insert, Replace, Substitute}
use Rattle.sl_commands.specs.declared.Mode.{Mode}
use Rattle.sl_commands.specs.declared.Mode.TheVariants.{Overdubbing, Multiplying, Inserting, Replacing, Substituting}
use Rattle.sl_commands.specs.declared.Started.TheVariants.{Ok}
use Rattle.looper_rules.specs.Layers.{Layer, contents, unmarked}
use Rattle.looper_rules.specs.Loop.{Loop, is_writing, base_length_of, with_stack}
use Rattle.looper_rules.specs.Closing.{cut_cells, closing_cycle, multiply_cut}
use Rattle.looper_rules.specs.Starting.{records, layers_on}
use Rattle.looper_rules.specs.LoopFrame.{frame_later}
use Rattle.looper_rules.specs.Saves.{pinned}

-- the mode for which a verb opens a copy of the list in this direction
abbrev pub opens_as : Verb → Bool → Option Mode
opens_as Overdub backward = Some Overdubbing
opens_as Replace backward = Some Replacing
opens_as Substitute backward = Some Substituting
opens_as Multiply false = Some Multiplying
opens_as Insert false = Some Inserting
opens_as _ _ = None

-- the loop was opened, for `record` or for the writing verb of a mode
pub data IsOpenedFrom (before : Loop Sound) : Loop Sound → Type 0 where
  for_record : IsOpenedFrom before (records Ok before)
  for_mode : (mode : Mode) → IsTrue (is_writing mode) →
      IsOpenedFrom before (layers_on Ok mode before)

-- the layer that is open in the first loop is still open in the second
pub data StaysOpen (first : Loop Sound) : Loop Sound → Type 0 where
  at_once : StaysOpen first first
  through_frame : (x : Sound) → (reach : ℕ) → (now : Loop Sound) → StaysOpen first now →
      IsTrue (is_writing (frame_later x reach now).deck.mode) →
      StaysOpen first (frame_later x reach now)
  through_save : (now : Loop Sound) → StaysOpen first now →
      StaysOpen first (with_stack (pinned now.stack) now)
  aside : (now next : Loop Sound) → StaysOpen first now →
      next.deck.mode ≡ now.deck.mode → next.stack.layers ≡ now.stack.layers → StaysOpen first next

-- where a loop in this mode, at this place over a base of this length, cuts its list as it closes
abbrev pub closing_cut : Mode → ℕ → ℕ → Option ℕ
closing_cut Multiplying place base = multiply_cut place base
closing_cut _ place base = None

-- where a loop cuts its list as it closes
abbrev pub cut_of : Loop Sound → Option ℕ
cut_of l = closing_cut l.deck.mode l.deck.pos (base_length_of l)

-- a layer that was open, closed on a tape of this length, its list cut there
pub record IsClosedOn (cut : Option ℕ) (tape : ℕ) (was now : Layer Sound) : Type 0 where
  pub list : contents now.cells ≡ contents (cut_cells cut was.cells)
  pub cycle : now.cycle ≡ closing_cycle was.cycle (length now.cells)
  pub not_fresh : now.cells ≡ unmarked now.cells
  pub no_base : now.base ≡ []
  pub no_base_seams : now.base_seams ≡ 0
  pub end : now.end ≡ tape
  pub seams : now.seams ≡ was.seams

-- the current one of these layers, cut there and closed on a tape of this length, stands on the
-- others
pub record StandsClosed (cut : Option ℕ) (tape : ℕ) (was now : List (Layer Sound)) : Type 0 where
  pub opened : Layer Sound
  pub closed : Layer Sound
  pub below : List (Layer Sound)
  pub before : was ≡ opened ∷ below
  pub after : now ≡ closed ∷ below
  pub closes : IsClosedOn cut tape opened closed
