-- A loop that keeps time is one place on behind each frame, whether what was written fitted or not.
-- and whether it fitted.
use Rattle.std.proofs.Common.{◌≡◌, ℕ, Bool, true, false, List, [], ◌∷◌, length, None, refl, sym, ap, ap₂, ◌∙◌, subst, cond, nat_le, leb-true, is_some}
use Rattle.sl_base.specs.Sounds.{Sound}
use Rattle.sl_commands.specs.declared.Mode.{Mode}
use Rattle.sl_commands.specs.declared.Mode.TheVariants.{Off, WaitStart, Recording, Playing, Overdubbing, Multiplying, Inserting, Replacing, Muted, OneShot, Substituting, Paused}
use Rattle.sl_commands.specs.declared.How.{How}
use Rattle.sl_commands.specs.declared.Face.{Face}
use Rattle.looper_rules.specs.Layers.{Layer, with_current, current_length, current_cycle}
use Rattle.looper_rules.specs.Stack.{Stack}
use Rattle.looper_rules.specs.Boundaries.{is_running}
use Rattle.looper_rules.specs.Loop.{Loop, face_of, length_of, cycle_of, refused_once, with_stack}
use Rattle.looper_rules.specs.Closing.{finished_layer, finished, closes_as}
use Rattle.looper_rules.specs.Writing.{overwrites, meets_fresh, rewritten, newly_written, written}
use Rattle.looper_rules.specs.LoopFrame.{how_in, fits, wraps, wrapped_place, wrapped_mode, next_place, goes_on, writes, frame_later}
use Rattle.looper_rules.specs.FacesLater.{face_goes_on, face_later_in, face_later}
use Rattle.looper_laws.specs.Spans.{keeps_time_in, keeps_time}
use Rattle.looper_laws.proofs.Kept.Layers.{length-unmarked}
use Rattle.looper_laws.proofs.Kept.Closing.{closing_cycle-some}
use Rattle.looper_laws.proofs.Kept.Writing.{written_layers, current_length-over}

-- two faces that are at the same time: what boundaries see of them
pub record IsAtTimeOf (a b : Face) : Type 0 where
  pub keeps : keeps_time a ≡ true
  pub keeps_too : keeps_time b ≡ true
  pub pos : a.pos ≡ b.pos
  pub backward : a.backward ≡ b.backward
  pub length : a.length ≡ b.length
  pub cycle : a.cycle ≡ b.cycle

-- a loop that wraps around still keeps time
wrapped_keeps : (mode : Mode) (cycle : ℕ) → keeps_time_in mode cycle ≡ true →
    keeps_time_in (wrapped_mode mode) cycle ≡ true
wrapped_keeps Off cycle keeps = cc
wrapped_keeps WaitStart cycle keeps = cc
wrapped_keeps Recording cycle keeps = cc
wrapped_keeps Playing cycle keeps = refl
wrapped_keeps Overdubbing cycle keeps = keeps
wrapped_keeps Multiplying cycle keeps = cc
wrapped_keeps Inserting cycle keeps = cc
wrapped_keeps Replacing cycle keeps = keeps
wrapped_keeps Muted cycle keeps = refl
wrapped_keeps OneShot cycle keeps = refl
wrapped_keeps Substituting cycle keeps = keeps
wrapped_keeps Paused cycle keeps = cc

-- a loop that keeps time is running
pub keeps_runs : (mode : Mode) (cycle : ℕ) → keeps_time_in mode cycle ≡ true →
    is_running mode ≡ true
keeps_runs Off cycle keeps = cc
keeps_runs WaitStart cycle keeps = cc
keeps_runs Recording cycle keeps = cc
keeps_runs Playing cycle keeps = refl
keeps_runs Overdubbing cycle keeps = refl
keeps_runs Multiplying cycle keeps = cc
keeps_runs Inserting cycle keeps = cc
keeps_runs Replacing cycle keeps = refl
keeps_runs Muted cycle keeps = refl
keeps_runs OneShot cycle keeps = refl
keeps_runs Substituting cycle keeps = refl
keeps_runs Paused cycle keeps = cc

-- and its face goes one place on
face_plays_on : (mode : Mode) (b : Face) → keeps_time_in mode b.cycle ≡ true →
    face_later_in mode b ≡ face_goes_on (wraps b.backward b.pos b.length) b
face_plays_on Off b keeps = cc
face_plays_on WaitStart b keeps = cc
face_plays_on Recording b keeps = cc
face_plays_on Playing b keeps = refl
face_plays_on Overdubbing b keeps = refl
face_plays_on Multiplying b keeps = cc
face_plays_on Inserting b keeps = cc
face_plays_on Replacing b keeps = refl
face_plays_on Muted b keeps = refl
face_plays_on OneShot b keeps = refl
face_plays_on Substituting b keeps = refl
face_plays_on Paused b keeps = cc

-- one place on they still are
goes_on_at_time : (wrap : Bool) (l : Loop Sound) (b : Face) → IsAtTimeOf (face_of l) b →
    IsAtTimeOf (face_of (goes_on wrap l)) (face_goes_on wrap b)
goes_on_at_time true l b h =
    record {
      keeps = wrapped_keeps l.deck.mode (cycle_of l) h.keeps;
      keeps_too = wrapped_keeps b.mode b.cycle h.keeps_too;
      pos = ap₂ wrapped_place h.backward h.length;
      backward = h.backward;
      length = h.length;
      cycle = h.cycle;
    }
goes_on_at_time false l b h =
    record {
      keeps = h.keeps;
      keeps_too = h.keeps_too;
      pos = ap₂ next_place h.backward h.pos;
      backward = h.backward;
      length = h.length;
      cycle = h.cycle;
    }

-- the loop one place on in its list
abbrev plays : Loop Sound → Loop Sound
plays l = goes_on (wraps l.deck.backward l.deck.pos (length_of l)) l

same_wrap : (a b : Face) → IsAtTimeOf a b →
    wraps a.backward a.pos a.length ≡ wraps b.backward b.pos b.length
same_wrap a b h = ap₂ (λ back place. wraps back place a.length) h.backward h.pos
    ∙ ap (wraps b.backward b.pos) h.length

plays_at_time : (l : Loop Sound) (b : Face) → IsAtTimeOf (face_of l) b →
    IsAtTimeOf (face_of (plays l)) (face_later b)
plays_at_time l b h =
    let wrap = wraps b.backward b.pos b.length
    in let now : plays l ≡ goes_on wrap l = ap (λ w. goes_on w l) (same_wrap (face_of l) b h)
    in let then_ : face_later b ≡ face_goes_on wrap b = face_plays_on b.mode b h.keeps_too
    in subst (λ m. IsAtTimeOf (face_of m) (face_later b)) (sym now)
    (subst (IsAtTimeOf (face_of (goes_on wrap l))) (sym then_) (goes_on_at_time wrap l b h))

-- a write over a frame leaves length and cycle
overwriting : (backward : Bool) → overwrites (how_in Overdubbing backward) ≡ true
overwriting true = refl
overwriting false = refl

written_length : (fresh : Bool) (how : How) (place : ℕ) (x : Sound) (s : Stack Sound) →
    overwrites how ≡ true →
    current_length (cond fresh (rewritten how place x s) (newly_written how place x s)).layers
    ≡ current_length s.layers
written_length true how place x s over = current_length-over how place x 0 s.layers over
written_length false how place x s over =
    current_length-over how place x (cond (is_some s.streak) 0 2) s.layers over

layers_cycle : (how : How) (place : ℕ) (x : Sound) (seams : ℕ) (layers : List (Layer Sound)) →
    current_cycle (written_layers how place x seams layers) ≡ current_cycle layers
layers_cycle how place x seams [] = refl
layers_cycle how place x seams (l ∷ ls) = refl

written_cycle : (fresh : Bool) (how : How) (place : ℕ) (x : Sound) (s : Stack Sound) →
    current_cycle (cond fresh (rewritten how place x s) (newly_written how place x s)).layers
    ≡ current_cycle s.layers
written_cycle true how place x s = layers_cycle how place x 0 s.layers
written_cycle false how place x s = layers_cycle how place x (cond (is_some s.streak) 0 2) s.layers

-- closing a layer leaves its length, and its cycle where that is at least 1
finished_length : (tape : ℕ) (layers : List (Layer Sound)) →
    current_length (with_current (finished_layer None tape) layers) ≡ current_length layers
finished_length tape [] = refl
finished_length tape (l ∷ ls) = length-unmarked l.cells

finished_cycle : (tape : ℕ) (layers : List (Layer Sound)) → nat_le 1 (current_cycle layers) ≡ true →
    current_cycle (with_current (finished_layer None tape) layers) ≡ current_cycle layers
finished_cycle tape [] some = refl
finished_cycle tape (l ∷ ls) some =
    closing_cycle-some l.cycle (length l.cells) (leb-true 1 l.cycle some)

-- a loop with a list of the same length and cycle is at the same time, in a mode that keeps it
same_at_time : (l m : Loop Sound) (b : Face) → IsAtTimeOf (face_of l) b →
    keeps_time_in m.deck.mode (cycle_of l) ≡ true → m.deck.pos ≡ l.deck.pos →
    m.deck.backward ≡ l.deck.backward → length_of m ≡ length_of l → cycle_of m ≡ cycle_of l →
    IsAtTimeOf (face_of m) b
same_at_time l m b h keeps pos backward long cycle =
    record {
      keeps = ap (keeps_time_in m.deck.mode) cycle ∙ keeps;
      keeps_too = h.keeps_too;
      pos = pos ∙ h.pos;
      backward = backward ∙ h.backward;
      length = long ∙ h.length;
      cycle = cycle ∙ h.cycle;
    }

-- written over a frame, or closed where that doesn't fit, it goes one place on
wrote_at_time : (how : How) (place : ℕ) (y : Sound) (l : Loop Sound) (b : Face) →
    overwrites how ≡ true → IsAtTimeOf (face_of l) b →
    IsAtTimeOf (face_of (plays (with_stack (written how place y l.stack) l))) (face_later b)
wrote_at_time how place y l b over h =
    let m : Loop Sound = with_stack (written how place y l.stack) l
    in plays_at_time m b
    (same_at_time l m b h h.keeps refl refl
    (written_length (meets_fresh how place l.stack) how place y l.stack over)
    (written_cycle (meets_fresh how place l.stack) how place y l.stack))

overran_at_time : (l : Loop Sound) (b : Face) → nat_le 1 (cycle_of l) ≡ true →
    IsAtTimeOf (face_of l) b →
    IsAtTimeOf
    (face_of (plays (closes_as Playing l.deck.pos (finished None l.stack) (refused_once l))))
    (face_later b)
overran_at_time l b some h =
    let m : Loop Sound = closes_as Playing l.deck.pos (finished None l.stack) (refused_once l)
    in plays_at_time m b
    (same_at_time l m b h refl refl refl (finished_length l.stack.tape l.stack.layers)
    (finished_cycle l.stack.tape l.stack.layers some))

-- a loop in this mode
abbrev with_mode : Mode → Loop Sound → Loop Sound
with_mode mode l = record l { deck = record l.deck { mode = mode } }

overdubs_at_time : (fit : Bool) (x : Sound) (l : Loop Sound) (b : Face) →
    IsAtTimeOf (face_of (with_mode Overdubbing l)) b →
    IsAtTimeOf (face_of (writes fit x (with_mode Overdubbing l))) (face_later b)
overdubs_at_time true x l b h =
    wrote_at_time (how_in Overdubbing l.deck.backward) l.deck.pos _ (with_mode Overdubbing l) b
    (overwriting l.deck.backward) h
overdubs_at_time false x l b h = overran_at_time (with_mode Overdubbing l) b h.keeps h

replaces_at_time : (fit : Bool) (x : Sound) (l : Loop Sound) (b : Face) →
    IsAtTimeOf (face_of (with_mode Replacing l)) b →
    IsAtTimeOf (face_of (writes fit x (with_mode Replacing l))) (face_later b)
replaces_at_time true x l b h =
    wrote_at_time (how_in Replacing l.deck.backward) l.deck.pos _ (with_mode Replacing l) b
    (overwriting l.deck.backward) h
replaces_at_time false x l b h = overran_at_time (with_mode Replacing l) b h.keeps h

substitutes_at_time : (fit : Bool) (x : Sound) (l : Loop Sound) (b : Face) →
    IsAtTimeOf (face_of (with_mode Substituting l)) b →
    IsAtTimeOf (face_of (writes fit x (with_mode Substituting l))) (face_later b)
substitutes_at_time true x l b h =
    wrote_at_time (how_in Substituting l.deck.backward) l.deck.pos _ (with_mode Substituting l) b
    (overwriting l.deck.backward) h
substitutes_at_time false x l b h = overran_at_time (with_mode Substituting l) b h.keeps h

-- one frame later two that are at the same time still are
later_in : (mode : Mode) (x : Sound) (reach : ℕ) (l : Loop Sound) (b : Face) →
    keeps_time_in mode (cycle_of l) ≡ true →
    IsAtTimeOf (face_of (with_mode mode l)) b →
    IsAtTimeOf (face_of (frame_later x reach (with_mode mode l))) (face_later b)
later_in Off x reach l b keeps h = cc
later_in WaitStart x reach l b keeps h = cc
later_in Recording x reach l b keeps h = cc
later_in Playing x reach l b keeps h = plays_at_time (with_mode Playing l) b h
later_in Overdubbing x reach l b keeps h =
    overdubs_at_time (fits reach (with_mode Overdubbing l)) x l b h
later_in Multiplying x reach l b keeps h = cc
later_in Inserting x reach l b keeps h = cc
later_in Replacing x reach l b keeps h =
    replaces_at_time (fits reach (with_mode Replacing l)) x l b h
later_in Muted x reach l b keeps h = plays_at_time (with_mode Muted l) b h
later_in OneShot x reach l b keeps h = plays_at_time (with_mode OneShot l) b h
later_in Substituting x reach l b keeps h =
    substitutes_at_time (fits reach (with_mode Substituting l)) x l b h
later_in Paused x reach l b keeps h = cc

pub later_at_time : (x : Sound) (reach : ℕ) (l : Loop Sound) (b : Face) → IsAtTimeOf (face_of l) b →
    IsAtTimeOf (face_of (frame_later x reach l)) (face_later b)
later_at_time x reach l b h = later_in l.deck.mode x reach l b h.keeps h
