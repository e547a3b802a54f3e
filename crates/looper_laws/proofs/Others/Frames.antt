-- What one frame does to the layers of a loop that aren't the current one, and that it stays in
-- reach.
use Rattle.std.proofs.Common.{◌≡◌, ℕ, ◌+◌, Bool, true, false, [], refl, sym, ◌∙◌, subst, nat_le, cond}
use Rattle.std.specs.Prelude.{◌==◌}
use Rattle.sl_base.specs.Sounds.{Sound, loudness}
use Rattle.sl_commands.specs.declared.Mode.{Mode}
use Rattle.sl_commands.specs.declared.Mode.TheVariants.{Off, WaitStart, Recording, Multiplying, Inserting, OneShot, Paused}
use Rattle.sl_commands.specs.declared.How.TheVariants.{Append}
use Rattle.sl_commands.specs.declared.Started.{Started}
use Rattle.sl_commands.specs.declared.Started.TheVariants.{Ok}
use Rattle.looper_rules.specs.Layers.{current_list}
use Rattle.looper_rules.specs.Stack.{Stack}
use Rattle.looper_rules.specs.Opening.{opening_tape, opening}
use Rattle.looper_rules.specs.Writing.{extension_fits, extended}
use Rattle.looper_rules.specs.Loop.{Loop, is_writing, length_of, at_place, refused_once, with_stack}
use Rattle.looper_rules.specs.Closing.{closed, at_stop}
use Rattle.looper_rules.specs.Starting.{records, leaves_wait}
use Rattle.looper_rules.specs.LoopFrame.{awake_in, wakes_as, stopped, extends, ready_in, sound_at, new_frame, how_in, fits, with_input, wraps, wrapped_mode, goes_on, stops_if, lengthens, advanced_in, overrun_in, writes, passes, after, frame_later}
use Rattle.looper_laws.proofs.Others.Stacks.{IsSame, IsTouched, IsSettled, IsDone, same, same_touched, touched_on, settled_same, touched_settled, touched_then_settled, settled_done}
use Rattle.looper_laws.proofs.Others.Steps.{streak_broken_same, extended_touched, written_touched, first_frame_fits, opened_then_touched, room_for_one, opening_tests, opened_in_reach}
use Rattle.looper_laws.proofs.Kept.Verbs.{set_to}
use Rattle.looper_laws.proofs.Others.Loops.{closed_settled, closed_quiet}

-- the current layer has at most changed or gone, and has at most changed where the mode is a
-- writing one
pub record IsStepped {A : Type 0} (reach : ℕ) (old : Stack A) (new : Loop A) : Type 0 where
  pub settled : IsSettled reach old new.stack
  pub still : is_writing new.deck.mode ≡ true → IsTouched reach old new.stack

touched_stepped : {A : Type 0} {reach : ℕ} {old : Stack A} (new : Loop A) →
    IsTouched reach old new.stack → IsStepped reach old new
touched_stepped new h = record { settled = touched_settled h; still = λ writing. h }

quiet_stepped : {A : Type 0} {reach : ℕ} {old : Stack A} (new : Loop A) →
    is_writing new.deck.mode ≡ false → IsSettled reach old new.stack → IsStepped reach old new
quiet_stepped new quiet h =
    record { settled = h; still = λ writing. absurd (let none : ⊥ = Prim.cc in none) }

touched_then_stepped : {A : Type 0} {reach : ℕ} {old now : Stack A} {new : Loop A} →
    IsTouched reach old now → IsStepped reach now new → IsStepped reach old new
touched_then_stepped h k =
    record {
      settled = touched_then_settled h k.settled;
      still =
          λ writing. touched_on h (k.still writing);
    }

same_stepped : {A : Type 0} {reach : ℕ} {old : Stack A} (new : Loop A) →
    IsSame reach old new.stack → IsStepped reach old new
same_stepped new h = touched_stepped new (same_touched h)

-- one place on
goes_on_same : {A : Type 0} {reach : ℕ} (wrap : Bool) (l : Loop A) →
    IsSame reach l.stack (goes_on wrap l).stack
goes_on_same true l = streak_broken_same
goes_on_same false l = same

wrapped_quiet : (mode : Mode) → is_writing (wrapped_mode mode) ≡ is_writing mode
wrapped_quiet OneShot = refl
wrapped_quiet _ = refl

goes_on_quiet : {A : Type 0} (wrap : Bool) (l : Loop A) →
    is_writing (goes_on wrap l).deck.mode ≡ is_writing l.deck.mode
goes_on_quiet true l = wrapped_quiet l.deck.mode
goes_on_quiet false l = refl

closed_if_stepped : {A : Type 0} {reach : ℕ} (stop : Bool) (l : Loop A) →
    IsStepped reach l.stack (cond stop (closed l) l)
closed_if_stepped true l = quiet_stepped (closed l) (closed_quiet l) (closed_settled l)
closed_if_stepped false l = same_stepped l same

stops_if_stepped : {A : Type 0} {reach : ℕ} (rounding : Bool) (l : Loop A) →
    IsStepped reach l.stack (stops_if rounding l)
stops_if_stepped true l = closed_if_stepped (at_stop l) l
stops_if_stepped false l = same_stepped l same

lengthens_stepped : {A : Type 0} {reach : ℕ} (l : Loop A) → IsStepped reach l.stack (lengthens l)
lengthens_stepped l = stops_if_stepped l.deck.rounding (at_place (l.deck.pos + 1) l)

goes_on_stepped : {A : Type 0} {reach : ℕ} (wrap : Bool) (l : Loop A) →
    IsStepped reach l.stack (goes_on wrap l)
goes_on_stepped wrap l = same_stepped (goes_on wrap l) (goes_on_same wrap l)

advanced_stepped : {A : Type 0} {reach : ℕ} (mode : Mode) (l : Loop A) →
    IsStepped reach l.stack (advanced_in mode l)
advanced_stepped Off l = same_stepped l same
advanced_stepped WaitStart l = same_stepped l same
advanced_stepped Paused l = same_stepped l same
advanced_stepped Recording l = same_stepped (at_place (length_of l) l) same
advanced_stepped Inserting l = lengthens_stepped l
advanced_stepped Multiplying l = lengthens_stepped l
advanced_stepped _ l = goes_on_stepped (wraps l.deck.backward l.deck.pos (length_of l)) l

-- no layer is open, and none is touched
pub record IsQuiet {A : Type 0} (reach : ℕ) (old : Stack A) (new : Loop A) : Type 0 where
  pub same : IsSame reach old new.stack
  pub quiet : is_writing new.deck.mode ≡ false

goes_on_rests : {A : Type 0} {reach : ℕ} (wrap : Bool) (l : Loop A) →
    is_writing l.deck.mode ≡ false → IsQuiet reach l.stack (goes_on wrap l)
goes_on_rests wrap l quiet =
    record { same = goes_on_same wrap l; quiet = goes_on_quiet wrap l ∙ quiet }

advanced_rests : {A : Type 0} {reach : ℕ} (mode : Mode) (l : Loop A) → is_writing mode ≡ false →
    IsQuiet reach l.stack (advanced_in mode (set_to mode l))
advanced_rests Off l quiet = record { same = same; quiet = refl }
advanced_rests WaitStart l quiet = record { same = same; quiet = refl }
advanced_rests Paused l quiet = record { same = same; quiet = refl }
advanced_rests Recording l quiet = absurd (let none : ⊥ = Prim.cc in none)
advanced_rests Inserting l quiet = absurd (let none : ⊥ = Prim.cc in none)
advanced_rests Multiplying l quiet = absurd (let none : ⊥ = Prim.cc in none)
advanced_rests mode l quiet =
    goes_on_rests (wraps l.deck.backward l.deck.pos (length_of l)) (set_to mode l) quiet

-- a frame in which no layer is open
after_rests : {reach : ℕ} (x : Sound) (l : Loop Sound) → is_writing l.deck.mode ≡ false →
    IsQuiet reach l.stack (after x reach l)
after_rests {reach = reach} x l quiet =
    subst (λ writing. IsQuiet reach l.stack (passes writing x reach l)) (sym quiet)
    (advanced_rests l.deck.mode l quiet)

quiet_then : {A : Type 0} {reach : ℕ} {old now : Stack A} {new : Loop A} → IsSettled reach old now →
    IsQuiet reach now new → IsStepped reach old new
quiet_then {new = new} h k = quiet_stepped new k.quiet (settled_same h k.same)

-- a frame whose write doesn't fit
stopped_settled : {A : Type 0} {reach : ℕ} (l : Loop A) → IsSettled reach l.stack (stopped l).stack
stopped_settled l = closed_settled (refused_once l)

stopped_quiet : {A : Type 0} (l : Loop A) → is_writing (stopped l).deck.mode ≡ false
stopped_quiet l = closed_quiet (refused_once l)

overrun_stepped : {A : Type 0} {reach : ℕ} (mode : Mode) (l : Loop A) →
    IsStepped reach l.stack (overrun_in mode l)
overrun_stepped Recording l = quiet_stepped (stopped l) (stopped_quiet l) (stopped_settled l)
overrun_stepped _ l = quiet_then (stopped_settled l)
    (advanced_rests (stopped l).deck.mode (stopped l) (stopped_quiet l))

-- a frame that is written, or not
writes_stepped : {reach : ℕ} (x : Sound) (l : Loop Sound) (fit : Bool) → fits reach l ≡ fit →
    IsStepped reach l.stack (writes fit x l)
writes_stepped x l true fit =
    touched_then_stepped
    (written_touched (how_in l.deck.mode l.deck.backward) l.deck.pos
    (new_frame l.deck.mode l.controls.feedback (sound_at (current_list l.stack.layers) l.deck.pos)
    x) fit)
    (advanced_stepped l.deck.mode (with_stack (with_input x l) l))
writes_stepped x l false fit = overrun_stepped l.deck.mode l

passes_stepped : {reach : ℕ} (x : Sound) (l : Loop Sound) (writing : Bool) →
    IsStepped reach l.stack (passes writing x reach l)
passes_stepped {reach = reach} x l true = writes_stepped x l (fits reach l) refl
passes_stepped x l false = advanced_stepped l.deck.mode l

after_stepped : {reach : ℕ} (x : Sound) (l : Loop Sound) → IsStepped reach l.stack (after x reach l)
after_stepped x l = passes_stepped x l (is_writing l.deck.mode)

-- a frame of a multiply at its end
extended_stepped : {reach : ℕ} (x : Sound) (l : Loop Sound) (fit : Bool) →
    IsStepped reach l.stack (after x reach (extends fit l))
extended_stepped x l true =
    touched_then_stepped extended_touched (after_stepped x (with_stack (extended l.stack) l))
extended_stepped x l false =
    quiet_then (stopped_settled l) (after_rests x (stopped l) (stopped_quiet l))

-- a frame for which a loop has listened
heard_stepped : {reach : ℕ} (x : Sound) (mode : Mode) (ended : Bool) (l : Loop Sound) →
    IsStepped reach l.stack (after x reach (ready_in mode ended l))
heard_stepped x Multiplying true l = extended_stepped x l (extension_fits l.stack)
heard_stepped x _ _ l = after_stepped x l

-- the frames of a loop, once it has listened
abbrev pub once_awake : Sound → ℕ → Loop Sound → Loop Sound
once_awake x reach now = after x reach (ready_in now.deck.mode (now.deck.pos == length_of now) now)

once_awake_stepped : {reach : ℕ} (x : Sound) (now : Loop Sound) →
    IsStepped reach now.stack (once_awake x reach now)
once_awake_stepped x now = heard_stepped x now.deck.mode (now.deck.pos == length_of now) now

-- the first frame of a recording that a loud frame began
first_frame_done : {reach : ℕ} (x : Sound) (l : Loop Sound) (fit : Bool) →
    fits reach (records Ok l) ≡ fit → opening reach true l.stack ≡ Ok →
    IsDone reach l.stack (writes fit x (records Ok l)).stack
first_frame_done {reach = reach} x l true fit starts =
    opened_then_touched true
    (written_touched Append 0 (new_frame Recording l.controls.feedback (sound_at [] 0) x) fit)
    (λ h. room_for_one reach (opening_tape l.stack) (opening_tests reach true l.stack starts).1
    (opened_in_reach h))
first_frame_done {reach = reach} x l false fit starts =
    absurd (let fits_in : fits reach (records Ok l) ≡ true =
    first_frame_fits reach 0 l.stack starts in let none : ⊥ = Prim.cc in none)

woken_done : {reach : ℕ} (x : Sound) (l : Loop Sound) (answer : Started) →
    opening reach true l.stack ≡ answer →
    IsDone reach l.stack (once_awake x reach (wakes_as answer l)).stack
woken_done {reach = reach} x l Ok starts =
    first_frame_done x l (fits reach (records Ok l)) refl starts
woken_done x l _ starts = settled_done (once_awake_stepped x (leaves_wait (refused_once l))).settled

awake_done : {reach : ℕ} (x : Sound) (mode : Mode) (loud : Bool) (l : Loop Sound) →
    IsDone reach l.stack (once_awake x reach (awake_in mode loud reach (set_to mode l))).stack
awake_done {reach = reach} x WaitStart true l =
    woken_done x (set_to WaitStart l) (opening reach true l.stack) refl
awake_done x mode loud l = settled_done (once_awake_stepped x (set_to mode l)).settled

pub frame_done : {reach : ℕ} (x : Sound) (l : Loop Sound) →
    IsDone reach l.stack (frame_later x reach l).stack
frame_done x l = awake_done x l.deck.mode (nat_le l.controls.rec_thresh (loudness x)) l

-- a layer that is open isn't waited for
awake_open : {A : Type 0} (mode : Mode) (loud : Bool) (reach : ℕ) (l : Loop A) →
    is_writing mode ≡ true → awake_in mode loud reach l ≡ l
awake_open WaitStart loud reach l writing = absurd (let none : ⊥ = Prim.cc in none)
awake_open _ loud reach l writing = refl

pub frame_stepped : {reach : ℕ} (x : Sound) (l : Loop Sound) → is_writing l.deck.mode ≡ true →
    IsStepped reach l.stack (frame_later x reach l)
frame_stepped {reach = reach} x l writing =
    subst (λ now. IsStepped reach l.stack (once_awake x reach now))
    (sym (awake_open l.deck.mode (nat_le l.controls.rec_thresh (loudness x)) reach l writing))
    (once_awake_stepped x l)
