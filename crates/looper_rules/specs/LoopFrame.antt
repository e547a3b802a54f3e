-- One frame of a loop with the input x, in this order:
-- - In WaitStart, where the greater of the absolute sides of x is at least rec_thresh, the loop
--   opens for `record`. If that is refused, WaitStart is left. Else the mode is Recording, pos 0,
--   forward.
-- - In Multiplying with pos at the length the list is extended. Where that doesn't fit, one refusal
--   is counted and the layer closes.
-- - The heard frame is the one at pos in Playing, Overdubbing, Multiplying, Substituting and
--   OneShot, and zero elsewhere.
-- - In a writing mode a frame is written at pos: the scaled old one plus x in Overdubbing and
--   Multiplying, x elsewhere; before pos in Inserting, at the end in Recording, over the old one
--   elsewhere. Where it doesn't fit, one refusal is counted and the layer closes; after a closed
--   Recording the loop doesn't advance in this frame.
-- - The loop advances. In Recording pos is the length. In Inserting and Multiplying pos rises by
--   one, and while rounding the layer closes at its stop. In Playing, Overdubbing, Replacing,
--   Substituting, Muted and OneShot pos goes one on in its direction, and round at the list's
--   border: then no streak goes on, and OneShot becomes Muted.
--   Off, WaitStart and Paused don't advance.
-- "One frame of a loop" in docs/rules.md.
use Rattle.std.specs.Prelude.{ℕ, ◌+◌, ◌-◌, Bool, true, false, List, slice_index_or, nat_le, ◌==◌, if◌then◌else◌}
use Rattle.sl_base.specs.Sounds.{Sound, silence, summed, clamped_sound, scaled_sound, loudness}
use Rattle.sl_commands.specs.declared.Mode.{Mode}
use Rattle.sl_commands.specs.declared.Mode.TheVariants.{Off, WaitStart, Recording, Playing, Overdubbing, Multiplying, Inserting, Muted, OneShot, Substituting, Paused}
use Rattle.sl_commands.specs.declared.How.{How}
use Rattle.sl_commands.specs.declared.How.TheVariants.{Forward, Backward, Insert, Append}
use Rattle.sl_commands.specs.declared.Started.{Started}
use Rattle.sl_commands.specs.declared.Started.TheVariants.{Ok}
use Rattle.looper_rules.specs.Layers.{current_list}
use Rattle.looper_rules.specs.Stack.{Stack, streak_broken}
use Rattle.looper_rules.specs.Opening.{opening}
use Rattle.looper_rules.specs.Writing.{write_fits, written, extension_fits, extended}
use Rattle.looper_rules.specs.Loop.{Loop, is_writing, length_of, at_place, in_mode_at, refused_once, with_stack}
use Rattle.looper_rules.specs.Closing.{closed, at_stop}
use Rattle.looper_rules.specs.Starting.{records, leaves_wait}

-- a WaitStart that ends at a loud frame
abbrev pub wakes_as : {A : Type 0} → Started → Loop A → Loop A
wakes_as Ok l = records Ok l
wakes_as refusal l = leaves_wait (records refusal l)

-- the loop by its mode and whether the input is loud enough
abbrev pub awake_in : {A : Type 0} → Mode → Bool → ℕ → Loop A → Loop A
awake_in WaitStart true reach l = wakes_as (opening reach true l.stack) l
awake_in _ _ reach l = l

-- the loop once it has listened for its threshold
abbrev pub awake : {A : Type 0} → Sound → ℕ → Loop A → Loop A
awake x reach l = awake_in l.deck.mode (nat_le l.controls.rec_thresh (loudness x)) reach l

-- a refusal counted, and the layer closed
abbrev pub stopped : {A : Type 0} → Loop A → Loop A
stopped l = closed (refused_once l)

-- the list extended, or the layer closed where that doesn't fit
abbrev pub extends : {A : Type 0} → Bool → Loop A → Loop A
extends true l = with_stack (extended l.stack) l
extends false l = stopped l

-- the loop by its mode and whether pos is at the length
abbrev pub ready_in : {A : Type 0} → Mode → Bool → Loop A → Loop A
ready_in Multiplying true l = extends (extension_fits l.stack) l
ready_in _ _ l = l

-- the loop as it is when its frame is heard and written
abbrev pub ready : {A : Type 0} → Sound → ℕ → Loop A → Loop A
ready x reach l = let now = awake x reach l in
    ready_in now.deck.mode (now.deck.pos == length_of now) now

-- the frame at a place, silence past the end
abbrev pub sound_at : List Sound → ℕ → Sound
sound_at list place = slice_index_or list place silence

-- what is heard of a list in this mode
abbrev pub heard_from : Mode → List Sound → ℕ → Sound
heard_from Playing list place = sound_at list place
heard_from Overdubbing list place = sound_at list place
heard_from Multiplying list place = sound_at list place
heard_from Substituting list place = sound_at list place
heard_from OneShot list place = sound_at list place
heard_from _ list place = silence

-- what is heard of a loop
abbrev pub heard : Loop Sound → Sound
heard l = heard_from l.deck.mode (current_list l.stack.layers) l.deck.pos

-- the frame that is written in this mode, with this feedback, over an old one
abbrev pub new_frame : Mode → ℕ → Sound → Sound → Sound
new_frame Overdubbing feedback old x = clamped_sound (summed (scaled_sound old feedback) x)
new_frame Multiplying feedback old x = clamped_sound (summed (scaled_sound old feedback) x)
new_frame _ feedback old x = x

-- how a frame is written in this mode and direction
abbrev pub how_in : Mode → Bool → How
how_in Recording backward = Append
how_in Inserting backward = Insert
how_in _ backward = if backward then Backward else Forward

-- whether the loop's write fits
abbrev pub fits : {A : Type 0} → ℕ → Loop A → Bool
fits reach l = write_fits reach (how_in l.deck.mode l.deck.backward) l.deck.pos l.stack

-- the stack with the input written
abbrev pub with_input : Sound → Loop Sound → Stack Sound
with_input x l =
    written (how_in l.deck.mode l.deck.backward) l.deck.pos
    (new_frame l.deck.mode l.controls.feedback (sound_at (current_list l.stack.layers) l.deck.pos)
    x) l.stack

-- whether going on in this direction from a place wraps around in a list of this length
abbrev pub wraps : Bool → ℕ → ℕ → Bool
wraps true place len = place == 0
wraps false place len = place + 1 == len

-- the place behind a wrap
abbrev pub wrapped_place : Bool → ℕ → ℕ
wrapped_place true len = len - 1
wrapped_place false len = 0

-- the next place without one
abbrev pub next_place : Bool → ℕ → ℕ
next_place true place = place - 1
next_place false place = place + 1

-- the mode behind a wrap
abbrev pub wrapped_mode : Mode → Mode
wrapped_mode OneShot = Muted
wrapped_mode mode = mode

-- the loop one place on, by whether it wraps around
abbrev pub goes_on : {A : Type 0} → Bool → Loop A → Loop A
goes_on true l =
    with_stack (streak_broken l.stack)
    (in_mode_at (wrapped_mode l.deck.mode) (wrapped_place l.deck.backward (length_of l)) l)
goes_on false l = at_place (next_place l.deck.backward l.deck.pos) l

-- the loop closed, where it rounds and is at its stop
abbrev pub stops_if : {A : Type 0} → Bool → Loop A → Loop A
stops_if true l = if at_stop l then closed l else l
stops_if false l = l

-- a multiply or an insert one place on
abbrev pub lengthens : {A : Type 0} → Loop A → Loop A
lengthens l = stops_if l.deck.rounding (at_place (l.deck.pos + 1) l)

-- the loop advanced in this mode
abbrev pub advanced_in : {A : Type 0} → Mode → Loop A → Loop A
advanced_in Off l = l
advanced_in WaitStart l = l
advanced_in Paused l = l
advanced_in Recording l = at_place (length_of l) l
advanced_in Inserting l = lengthens l
advanced_in Multiplying l = lengthens l
advanced_in _ l = goes_on (wraps l.deck.backward l.deck.pos (length_of l)) l

-- the loop advanced
abbrev pub advanced : {A : Type 0} → Loop A → Loop A
advanced l = advanced_in l.deck.mode l

-- the loop whose write in this mode doesn't fit
abbrev pub overrun_in : {A : Type 0} → Mode → Loop A → Loop A
overrun_in Recording l = stopped l
overrun_in _ l = advanced (stopped l)

-- the loop after a frame in a writing mode, by whether the write fits
abbrev pub writes : Bool → Sound → Loop Sound → Loop Sound
writes true x l = advanced (with_stack (with_input x l) l)
writes false x l = overrun_in l.deck.mode l

-- the loop after a frame for which it is ready, by whether its mode is a writing one
abbrev pub passes : Bool → Sound → ℕ → Loop Sound → Loop Sound
passes true x reach l = writes (fits reach l) x l
passes false x reach l = advanced l

-- the loop after a frame for which it is ready
abbrev pub after : Sound → ℕ → Loop Sound → Loop Sound
after x reach l = passes (is_writing l.deck.mode) x reach l

-- one frame of a loop
abbrev pub frame_later : Sound → ℕ → Loop Sound → Loop Sound
frame_later x reach l = after x reach (ready x reach l)
