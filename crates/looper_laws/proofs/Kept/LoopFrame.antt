-- A loop keeps what it has to keep through a frame.
use Rattle.std.proofs.Common.{◌≡◌, ℕ, ◌+◌, ◌≤◌, ◌<◌, Bool, true, false, ◌||◌, List, Option, Some, None, is_some, refl, sym, subst, arith, nat_le}
use Rattle.std.specs.Prelude.{⊤, ◌==◌, if◌then◌else◌}
use Rattle.std.proofs.lemmas.Bool.{cond_both, eqb-false}
use Rattle.sl_base.specs.Sounds.{Sound, loudness}
use Rattle.sl_commands.specs.declared.Mode.{Mode}
use Rattle.sl_commands.specs.declared.Mode.TheVariants.{Off, WaitStart, Recording, Playing, Overdubbing, Multiplying, Inserting, Replacing, Muted, OneShot, Substituting, Paused}
use Rattle.sl_commands.specs.declared.How.{How}
use Rattle.sl_commands.specs.declared.How.TheVariants.{Forward, Backward, Insert, Append}
use Rattle.sl_commands.specs.declared.Started.{Started}
use Rattle.sl_commands.specs.declared.Started.TheVariants.{Ok}
use Rattle.looper_rules.specs.Layers.{Layer, current_length, current_list}
use Rattle.looper_rules.specs.Stack.{LastWrite, streak_broken}
use Rattle.looper_rules.specs.Opening.{opening}
use Rattle.looper_rules.specs.Writing.{overwrites, meets_fresh, new_cell_fits, rewritten, newly_written, written, extension_fits}
use Rattle.looper_rules.specs.Loop.{Loop, is_writing, length_of, at_place, refused_once, with_stack}
use Rattle.looper_rules.specs.Closing.{closed, at_stop}
use Rattle.looper_rules.specs.Starting.{records}
use Rattle.looper_rules.specs.LoopFrame.{wakes_as, awake_in, awake, stopped, extends, ready_in, ready, sound_at, new_frame, how_in, fits, wraps, wrapped_place, next_place, wrapped_mode, goes_on, stops_if, advanced, overrun_in, writes, passes, after}
use Rattle.looper_rules.specs.States.{IsRecorded, IsOpenOver, AreWritten, InMode, IsBehind, GoesOn, IsStreak}
use Rattle.looper_rules.specs.Reached.{Unchanged, Keeps}
use Rattle.looper_laws.proofs.Kept.Decks.{with_deck, refused_keeps, no_streak}
use Rattle.looper_laws.proofs.Kept.Opening.{opens_record}
use Rattle.looper_laws.proofs.Kept.Closing.{closed_keeps, closed_leads, IsClosedMode}
use Rattle.looper_laws.proofs.Kept.Rest.{closed_layers, IsResting, rests_again, resting_inside}
use Rattle.looper_laws.proofs.Kept.History.{closed_is_quiet}
use Rattle.looper_laws.proofs.Kept.Verbs.{set_to, leaves_wait_keeps}
use Rattle.looper_laws.proofs.Kept.Writing.{Writes, written_stack, written_layers, wrote, still_recorded, still_open, current_length-over, current_length-added, fresh_fits, new_fits, extended_keeps}

-- a WaitStart that ends
wakes_keeps :
    {A : Type 0} {a : Unchanged} (l : Loop A) (answer : Started) →
    (answer ≡ Ok → Keeps a (records Ok (set_to WaitStart l))) →
    Keeps a (set_to WaitStart l) → Keeps a (wakes_as answer (set_to WaitStart l))
wakes_keeps l Ok opens h = opens refl
wakes_keeps l _ opens h = leaves_wait_keeps (refused_once l) (refused_keeps h)

awake_keeps_in :
    {A : Type 0} {a : Unchanged} (l : Loop A) (mode : Mode) (loud : Bool) (reach : ℕ) →
    Keeps a (set_to mode l) →
    Keeps a (awake_in mode loud reach (set_to mode l))
awake_keeps_in l WaitStart true reach h =
    wakes_keeps l (opening reach true l.stack)
    (opens_record reach h (closed_layers WaitStart l.stack.layers l.stack.redo l.deck.pos
    l.deck.backward refl h.loop.in_mode)) h
awake_keeps_in l _ _ reach h = h

pub awake_keeps : {A : Type 0} {a : Unchanged} {l : Loop A} (x : Sound) (reach : ℕ) → Keeps a l →
    Keeps a (awake x reach l)
awake_keeps {l = l} x reach h =
    awake_keeps_in l l.deck.mode (nat_le l.controls.rec_thresh (loudness x)) reach h

-- a refusal counted, and the layer closed
pub stopped_keeps : {A : Type 0} {a : Unchanged} {l : Loop A} → is_writing l.deck.mode ≡ true →
    Keeps a l → Keeps a (stopped l)
stopped_keeps writing h = closed_keeps writing (refused_keeps h)

-- a closed layer is written no further
stopped_is_quiet : {A : Type 0} (l : Loop A) → is_writing (stopped l).deck.mode ≡ false
stopped_is_quiet l = closed_is_quiet (stopped l).deck.mode (closed_leads (refused_once l))

-- in Multiplying pos lies below the length
abbrev pub IsPlaced : Mode → ℕ → ℕ → Type 0
IsPlaced Multiplying pos len = pos < len
IsPlaced _ pos len = ⊤

-- a loop that is ready for its frame
abbrev pub IsReady : {A : Type 0} → Unchanged → Loop A → Type 0
IsReady a l = Keeps a l × IsPlaced l.deck.mode l.deck.pos (length_of l)

closed_is_placed : (mode : Mode) (pos len : ℕ) → IsClosedMode mode → IsPlaced mode pos len
closed_is_placed Off pos len leads = tt
closed_is_placed Playing pos len leads = tt
closed_is_placed _ pos len leads = absurd leads

-- a Multiplying with pos at the length
extends_keeps :
    {A : Type 0} {a : Unchanged} (l : Loop A) (fits : Bool) → extension_fits l.stack ≡ fits →
    Keeps a (set_to Multiplying l) →
    IsReady a (extends fits (set_to Multiplying l))
extends_keeps l true e h = extended_keeps h h.loop.in_mode refl e
extends_keeps l false e h = (
  stopped_keeps refl h,
  closed_is_placed (stopped (set_to Multiplying l)).deck.mode
      (stopped (set_to Multiplying l)).deck.pos (length_of (stopped (set_to Multiplying l)))
      (closed_leads (refused_once (set_to Multiplying l))),
)

ready_keeps_in :
    {A : Type 0} {a : Unchanged} (l : Loop A) (mode : Mode) (full : Bool) →
    (l.deck.pos == length_of l) ≡ full →
    Keeps a (set_to mode l) → IsReady a (ready_in mode full (set_to mode l))
ready_keeps_in l Multiplying true e h = extends_keeps l (extension_fits l.stack) refl h
ready_keeps_in l Multiplying false e h = (
  h,
  (let other : l.deck.pos ≡ length_of l → ⊥ = eqb-false l.deck.pos (length_of l) e in
      let inside : l.deck.pos ≤ length_of l = h.loop.in_mode.2 in omega arith),
)
ready_keeps_in l _ _ e h = (h, tt)

pub ready_keeps : {A : Type 0} {a : Unchanged} {l : Loop A} (x : Sound) (reach : ℕ) → Keeps a l →
    IsReady a (ready x reach l)
ready_keeps {l = l} x reach h =
    ready_keeps_in (awake x reach l) (awake x reach l).deck.mode
    ((awake x reach l).deck.pos == length_of (awake x reach l)) refl (awake_keeps x reach h)

-- the place behind a wrap lies in the list
wrapped_inside : (backward : Bool) (pos len : ℕ) → pos < len → wrapped_place backward len < len
wrapped_inside true pos len inside = omega arith
wrapped_inside false pos len inside = omega arith

-- and so does the next place without one
next_inside : (backward : Bool) (pos len : ℕ) → pos < len → wraps backward pos len ≡ false →
    next_place backward pos < len
next_inside true pos len inside e = omega arith
next_inside false pos len inside e =
    (let not_last : pos + 1 ≡ len → ⊥ = eqb-false (pos + 1) len e in omega arith)

-- the modes in which a list is played, and the next place is heard or passed
abbrev pub IsMoving : Mode → Type 0
IsMoving Playing = ⊤
IsMoving Muted = ⊤
IsMoving OneShot = ⊤
IsMoving _ = ⊥

moving_rests : (mode : Mode) → IsMoving mode → IsResting mode
moving_rests Playing moves = tt
moving_rests Muted moves = tt
moving_rests OneShot moves = tt
moving_rests _ moves = absurd moves

wrapped_rests : (mode : Mode) → IsMoving mode → IsResting (wrapped_mode mode)
wrapped_rests Playing moves = tt
wrapped_rests Muted moves = tt
wrapped_rests OneShot moves = tt
wrapped_rests _ moves = absurd moves

-- the streak of a stack broken
broken_keeps : {A : Type 0} {a : Unchanged} {l : Loop A} → Keeps a l →
    Keeps a (with_stack (streak_broken l.stack) l)
broken_keeps {l = l} h =
    with_deck l.deck None h h.loop.in_mode (no_streak l.deck.mode l.deck.pos l.deck.backward) refl

-- going on in these modes
moves_on :
    {A : Type 0} {a : Unchanged} {l : Loop A} (round : Bool) →
    wraps l.deck.backward l.deck.pos (length_of l) ≡ round →
    IsMoving l.deck.mode → Keeps a l → Keeps a (goes_on round l)
moves_on {l = l} true e moves h =
    broken_keeps (rests_again (wrapped_mode l.deck.mode)
    (wrapped_place l.deck.backward (length_of l)) l.deck.backward (moving_rests l.deck.mode moves)
    (wrapped_rests l.deck.mode moves)
    (wrapped_inside l.deck.backward l.deck.pos (length_of l)
    (resting_inside (moving_rests l.deck.mode moves) h)) h)
moves_on {l = l} false e moves h =
    rests_again l.deck.mode (next_place l.deck.backward l.deck.pos) l.deck.backward
    (moving_rests l.deck.mode moves) (moving_rests l.deck.mode moves)
    (next_inside l.deck.backward l.deck.pos (length_of l)
    (resting_inside (moving_rests l.deck.mode moves) h) e) h

-- a loop in a mode that doesn't write goes on
advances :
    {A : Type 0} {a : Unchanged} (l : Loop A) (mode : Mode) → is_writing mode ≡ false →
    Keeps a (set_to mode l) →
    Keeps a (advanced (set_to mode l))
advances l Off quiet h = h
advances l WaitStart quiet h = h
advances l Paused quiet h = h
advances l Playing quiet h = moves_on (wraps l.deck.backward l.deck.pos (length_of l)) refl tt h
advances l Muted quiet h = moves_on (wraps l.deck.backward l.deck.pos (length_of l)) refl tt h
advances l OneShot quiet h = moves_on (wraps l.deck.backward l.deck.pos (length_of l)) refl tt h
advances l _ quiet h = absurd (let none : ⊥ = Prim.cc in none)

pub advanced_keeps : {A : Type 0} {a : Unchanged} {l : Loop A} → is_writing l.deck.mode ≡ false →
    Keeps a l → Keeps a (advanced l)
advanced_keeps {l = l} quiet h = advances l l.deck.mode quiet h

-- a frame that doesn't fit
overrun_keeps :
    {A : Type 0} {a : Unchanged} (l : Loop A) (mode : Mode) → is_writing mode ≡ true →
    Keeps a (set_to mode l) →
    Keeps a (overrun_in mode (set_to mode l))
overrun_keeps l Recording writing h = stopped_keeps writing h
overrun_keeps l mode writing h =
    advanced_keeps (stopped_is_quiet (set_to mode l)) (stopped_keeps writing h)

-- the last write, where one is kept, was at this place and in this manner
abbrev pub IsLastWrite : Option LastWrite → ℕ → How → Type 0
IsLastWrite None place how = ⊤
IsLastWrite (Some last) place how = (last.place ≡ place) × (last.how ≡ how)

-- a streak that goes on to the place behind
goes_on_to :
    (streak : Option LastWrite) (mode : Mode) (place pos : ℕ) (backward : Bool) →
    IsLastWrite streak place (how_in mode backward) →
    IsBehind (how_in mode backward) place pos → GoesOn streak mode pos backward
goes_on_to None mode place pos backward last behind = tt
goes_on_to (Some w) mode place pos backward last behind = (
  last.1,
  subst (λ how. IsBehind how w.place pos) (sym last.1)
      (subst (λ at. IsBehind (how_in mode backward) at pos) (sym last.0) behind),
)

-- the manner of the modes that overwrite
directed_over : (backward : Bool) → overwrites (if backward then Backward else Forward) ≡ true
directed_over true = refl
directed_over false = refl

-- the next place is behind the one written
directed_behind :
    (backward : Bool) (pos len : ℕ) → wraps backward pos len ≡ false →
    IsBehind (if backward then Backward else Forward) pos (next_place backward pos)
directed_behind true pos len e = (let some : pos ≡ 0 → ⊥ = eqb-false pos 0 e in omega arith)
directed_behind false pos len e = refl

forward_behind : (backward : Bool) (pos : ℕ) → backward ≡ false →
    IsBehind (if backward then Backward else Forward) pos (pos + 1)
forward_behind true pos forward = absurd (let none : ⊥ = Prim.cc in none)
forward_behind false pos forward = refl

-- the modes that write over their list
abbrev pub IsOverwriting : Mode → Type 0
IsOverwriting Overdubbing = ⊤
IsOverwriting Replacing = ⊤
IsOverwriting Substituting = ⊤
IsOverwriting _ = ⊥

pub in_overwriting :
    {A : Type 0} (mode : Mode) (layers redo : List (Layer A)) (pos : ℕ) (backward : Bool) →
    IsOverwriting mode →
    AreWritten layers redo pos → InMode mode layers redo pos backward
in_overwriting Overdubbing layers redo pos backward is h = h
in_overwriting Replacing layers redo pos backward is h = h
in_overwriting Substituting layers redo pos backward is h = h
in_overwriting _ layers redo pos backward is h = absurd is

overwritten :
    {A : Type 0} (mode : Mode) (layers redo : List (Layer A)) (pos : ℕ) (backward : Bool) →
    IsOverwriting mode →
    InMode mode layers redo pos backward → AreWritten layers redo pos
overwritten Overdubbing layers redo pos backward is h = h
overwritten Replacing layers redo pos backward is h = h
overwritten Substituting layers redo pos backward is h = h
overwritten _ layers redo pos backward is h = absurd is

streak_overwriting :
    (mode : Mode) (streak : Option LastWrite) (pos : ℕ) (backward : Bool) → IsOverwriting mode →
    GoesOn streak mode pos backward →
    IsStreak mode streak pos backward
streak_overwriting Overdubbing streak pos backward is h = h
streak_overwriting Replacing streak pos backward is h = h
streak_overwriting Substituting streak pos backward is h = h
streak_overwriting _ streak pos backward is h = absurd is

-- the manner of a write over a list, in this direction
abbrev pub directed : Bool → How
directed backward = if backward then Backward else Forward

module _ {A : Type 0} (a : Unchanged) (l : Loop A) (x : A) (seams tape : ℕ)
    (streak : Option LastWrite) where
  -- the loop with its stack written, before it goes on
  abbrev pub over : Mode → How → Loop A
  over mode how = with_stack (written_stack how l.deck.pos x seams tape streak l.stack)
      (set_to mode l)

  -- a Recording with one frame more
  recording_writes :
      Keeps a (set_to Recording l) → Writes a Append l.deck.pos l.stack seams tape →
      IsLastWrite streak l.deck.pos Append →
      Keeps a (advanced (over Recording Append))
  recording_writes h w last =
      let longer : current_length (written_layers Append l.deck.pos x seams l.stack.layers)
      ≡ current_length l.stack.layers + 1 = current_length-added IsRecorded Append l.deck.pos x
      seams l.stack.layers h.loop.in_mode.0 refl w.inside
      in let at : l.deck.pos ≡ current_length l.stack.layers = h.loop.in_mode.2
      in wrote (record l.deck {
        mode = Recording;
        pos =
            current_length (written_layers Append l.deck.pos x seams l.stack.layers);
      }) Append
      l.deck.pos x seams tape streak h w h.loop.in_mode.1 refl (
        still_recorded Append l.deck.pos x seams l.stack.layers h.loop.in_mode.0,
        h.loop.in_mode.1,
        refl,
        h.loop.in_mode.3,
      )
      (goes_on_to streak Recording l.deck.pos
      (current_length (written_layers Append l.deck.pos x seams l.stack.layers)) l.deck.backward
      last (let next : current_length (written_layers Append l.deck.pos x seams l.stack.layers)
      ≡ l.deck.pos + 1 = omega arith in next))

  -- a loop that stops, where it is asked to
  stops_keeps : (rounding : Bool) (now : Loop A) → is_writing now.deck.mode ≡ true → Keeps a now →
      Keeps a (stops_if rounding now)
  stops_keeps true now writing h = cond_both (at_stop now) (closed now) now (λ r. Keeps a r)
      (λ stop. closed_keeps writing h) (λ further. h)
  stops_keeps false now writing h = h

  -- an Inserting with one frame more
  inserting_writes :
      Keeps a (set_to Inserting l) → Writes a Insert l.deck.pos l.stack seams tape →
      IsLastWrite streak l.deck.pos Insert →
      Keeps a (advanced (over Inserting Insert))
  inserting_writes h w last =
      let longer : current_length (written_layers Insert l.deck.pos x seams l.stack.layers)
      ≡ current_length l.stack.layers + 1 = current_length-added IsOpenOver Insert l.deck.pos x
      seams l.stack.layers h.loop.in_mode.0.0 refl w.inside
      in let inside : l.deck.pos < current_length l.stack.layers = h.loop.in_mode.0.2
      in stops_keeps l.deck.rounding (at_place (l.deck.pos + 1) (over Inserting Insert)) refl
      (wrote (record l.deck { mode = Inserting; pos = l.deck.pos + 1 }) Insert l.deck.pos x seams
      tape streak h w h.loop.in_mode.0.1 refl (
        (
          still_open Insert l.deck.pos x seams l.stack.layers w.inside h.loop.in_mode.0.0,
          h.loop.in_mode.0.1,
          (let next : l.deck.pos
              + 1 < current_length (written_layers Insert l.deck.pos x seams l.stack.layers) =
              omega arith in next),
        ),
        h.loop.in_mode.1,
      )
      (goes_on_to streak Inserting l.deck.pos (l.deck.pos + 1) l.deck.backward last refl))

  -- a Multiplying with one frame written
  multiplying_writes :
      Keeps a (set_to Multiplying l) → l.deck.pos < length_of l →
      Writes a (how_in Multiplying l.deck.backward) l.deck.pos l.stack seams tape →
      IsLastWrite streak l.deck.pos (how_in Multiplying l.deck.backward) →
      Keeps a (advanced (over Multiplying (how_in Multiplying l.deck.backward)))
  multiplying_writes h inside w last =
      let same : current_length
      (written_layers (how_in Multiplying l.deck.backward) l.deck.pos x seams l.stack.layers)
      ≡ current_length l.stack.layers = current_length-over (how_in Multiplying l.deck.backward)
      l.deck.pos x seams l.stack.layers (directed_over l.deck.backward)
      in stops_keeps l.deck.rounding
      (at_place (l.deck.pos + 1) (over Multiplying (how_in Multiplying l.deck.backward))) refl
      (wrote (record l.deck { mode = Multiplying; pos = l.deck.pos + 1 })
      (how_in Multiplying l.deck.backward) l.deck.pos x seams tape streak h w
      h.loop.in_mode.1 refl (
        still_open (how_in Multiplying l.deck.backward) l.deck.pos x seams l.stack.layers w.inside
            h.loop.in_mode.0,
        h.loop.in_mode.1,
        (let next : l.deck.pos
            + 1 ≤ current_length
            (written_layers (how_in Multiplying l.deck.backward) l.deck.pos x seams
            l.stack.layers) = omega arith in next),
        h.loop.in_mode.3,
      )
      (goes_on_to streak Multiplying l.deck.pos (l.deck.pos + 1) l.deck.backward last
      (forward_behind l.deck.backward l.deck.pos h.loop.in_mode.3)))

  -- the layers after a write over the list
  abbrev pub over_layers : List (Layer A)
  over_layers = written_layers (directed l.deck.backward) l.deck.pos x seams l.stack.layers

  -- a mode that writes over its list, at another place
  overwrites_to :
      (mode :
      Mode) (pos : ℕ) (goes : Option LastWrite) → IsOverwriting mode → Keeps a (set_to mode l) →
      Writes a (directed l.deck.backward) l.deck.pos l.stack seams tape →
      pos < current_length over_layers → GoesOn goes mode pos l.deck.backward →
      Keeps a (record l {
        deck = record l.deck { mode = mode; pos = pos };
        stack =
            written_stack (directed l.deck.backward) l.deck.pos x seams tape goes l.stack;
      })
  overwrites_to mode pos goes is h w inside on =
      let now : AreWritten l.stack.layers l.stack.redo l.deck.pos =
      overwritten mode l.stack.layers l.stack.redo l.deck.pos l.deck.backward is h.loop.in_mode
      in wrote (record l.deck { mode = mode; pos = pos }) (directed l.deck.backward) l.deck.pos x
      seams tape goes h w now.1 refl
      (in_overwriting mode over_layers l.stack.redo pos l.deck.backward is (
        still_open (directed l.deck.backward) l.deck.pos x seams l.stack.layers w.inside now.0,
        now.1,
        inside,
      ))
      (streak_overwriting mode goes pos l.deck.backward is on)

  -- the place behind a wrap, and the next place without one
  over_inside : (mode : Mode) → IsOverwriting mode → Keeps a (set_to mode l) →
      l.deck.pos < current_length over_layers
  over_inside mode is h =
      let now : AreWritten l.stack.layers l.stack.redo l.deck.pos =
      overwritten mode l.stack.layers l.stack.redo l.deck.pos l.deck.backward is h.loop.in_mode
      in let same : current_length over_layers ≡ current_length l.stack.layers =
      current_length-over (directed l.deck.backward) l.deck.pos x seams l.stack.layers
      (directed_over l.deck.backward)
      in let inside : l.deck.pos < current_length l.stack.layers = now.2
      in omega arith

  -- a mode that writes over its list, one place on
  overwriting_goes :
      (mode :
      Mode) (round : Bool) → wraps l.deck.backward l.deck.pos (current_length over_layers) ≡ round →
      IsOverwriting mode → Keeps a (set_to mode l) →
      Writes a (directed l.deck.backward) l.deck.pos l.stack seams tape →
      IsLastWrite streak l.deck.pos (directed l.deck.backward) →
      Keeps a (goes_on round (over mode (directed l.deck.backward)))
  overwriting_goes Overdubbing true e is h w last =
      overwrites_to Overdubbing (wrapped_place l.deck.backward (current_length over_layers)) None tt
      h w (wrapped_inside l.deck.backward l.deck.pos (current_length over_layers)
      (over_inside Overdubbing tt h)) tt
  overwriting_goes Replacing true e is h w last =
      overwrites_to Replacing (wrapped_place l.deck.backward (current_length over_layers)) None tt h
      w (wrapped_inside l.deck.backward l.deck.pos (current_length over_layers)
      (over_inside Replacing tt h)) tt
  overwriting_goes Substituting true e is h w last =
      overwrites_to Substituting (wrapped_place l.deck.backward (current_length over_layers)) None
      tt h w (wrapped_inside l.deck.backward l.deck.pos (current_length over_layers)
      (over_inside Substituting tt h)) tt
  overwriting_goes Overdubbing false e is h w last =
      overwrites_to Overdubbing (next_place l.deck.backward l.deck.pos) streak tt h w
      (next_inside l.deck.backward l.deck.pos (current_length over_layers)
      (over_inside Overdubbing tt h) e)
      (goes_on_to streak Overdubbing l.deck.pos (next_place l.deck.backward l.deck.pos)
      l.deck.backward last
      (directed_behind l.deck.backward l.deck.pos (current_length over_layers) e))
  overwriting_goes Replacing false e is h w last =
      overwrites_to Replacing (next_place l.deck.backward l.deck.pos) streak tt h w
      (next_inside l.deck.backward l.deck.pos (current_length over_layers)
      (over_inside Replacing tt h) e)
      (goes_on_to streak Replacing l.deck.pos (next_place l.deck.backward l.deck.pos)
      l.deck.backward
      last (directed_behind l.deck.backward l.deck.pos (current_length over_layers) e))
  overwriting_goes Substituting false e is h w last =
      overwrites_to Substituting (next_place l.deck.backward l.deck.pos) streak tt h w
      (next_inside l.deck.backward l.deck.pos (current_length over_layers)
      (over_inside Substituting tt h) e)
      (goes_on_to streak Substituting l.deck.pos (next_place l.deck.backward l.deck.pos)
      l.deck.backward last
      (directed_behind l.deck.backward l.deck.pos (current_length over_layers) e))
  overwriting_goes _ round e is h w last = absurd is

  -- a write in each writing mode, and the advance behind it
  writes_on :
      (mode : Mode) → is_writing mode ≡ true → IsReady a (set_to mode l) →
      Writes a (how_in mode l.deck.backward) l.deck.pos l.stack seams tape →
      IsLastWrite streak l.deck.pos (how_in mode l.deck.backward) →
      Keeps a (advanced (over mode (how_in mode l.deck.backward)))
  writes_on Recording writing h w last = recording_writes h.0 w last
  writes_on Inserting writing h w last = inserting_writes h.0 w last
  writes_on Multiplying writing h w last = multiplying_writes h.0 h.1 w last
  writes_on Overdubbing writing h w last =
      overwriting_goes Overdubbing (wraps l.deck.backward l.deck.pos (current_length over_layers))
      refl tt h.0 w last
  writes_on Replacing writing h w last = overwriting_goes Replacing
      (wraps l.deck.backward l.deck.pos (current_length over_layers)) refl tt h.0 w last
  writes_on Substituting writing h w last =
      overwriting_goes Substituting (wraps l.deck.backward l.deck.pos (current_length over_layers))
      refl tt h.0 w last
  writes_on _ writing h w last = absurd (let none : ⊥ = Prim.cc in none)

-- in a writing mode pos is a place for the next write
writing_inside :
    {A : Type 0} (mode : Mode) (layers redo : List (Layer A)) (pos : ℕ) (backward : Bool) →
    is_writing mode ≡ true →
    InMode mode layers redo pos backward → pos ≤ current_length layers
writing_inside Recording layers redo pos backward writing h = (let same = h.2 in omega arith)
writing_inside Inserting layers redo pos backward writing h = (let inside = h.0.2 in omega arith)
writing_inside Multiplying layers redo pos backward writing h = h.2
writing_inside Overdubbing layers redo pos backward writing h = (let inside = h.2 in omega arith)
writing_inside Replacing layers redo pos backward writing h = (let inside = h.2 in omega arith)
writing_inside Substituting layers redo pos backward writing h = (let inside = h.2 in omega arith)
writing_inside _ layers redo pos backward writing h = absurd (let none : ⊥ = Prim.cc in none)

-- a new cell fits where a write fits that meets no fresh one
new_cell : (meets new : Bool) → (meets || new) ≡ true → meets ≡ false → new ≡ true
new_cell true new fits none = absurd (let no : ⊥ = Prim.cc in no)
new_cell false new fits none = fits

-- a write that fits, and the advance behind it
written_keeps :
    {A : Type 0} {a : Unchanged} {l : Loop A} (x : A) → is_writing l.deck.mode ≡ true →
    IsReady a l → fits a.reach l ≡ true →
    Keeps a (advanced (with_stack
    (written (how_in l.deck.mode l.deck.backward) l.deck.pos x l.stack) l))
written_keeps {a = a} {l = l} x writing h e =
    let how : How = how_in l.deck.mode l.deck.backward
    in let inside : l.deck.pos ≤ length_of l = writing_inside l.deck.mode l.stack.layers
    l.stack.redo l.deck.pos l.deck.backward writing h.0.loop.in_mode
    in cond_both (meets_fresh how l.deck.pos l.stack) (rewritten how l.deck.pos x l.stack)
    (newly_written how l.deck.pos x l.stack) (λ s. Keeps a (advanced (with_stack s l)))
    (λ meets. writes_on a l x 0 l.stack.tape None l.deck.mode writing h
    (fresh_fits how l.deck.pos h.0 inside meets) tt)
    (λ none. writes_on a l x (if is_some l.stack.streak then 0 else 2) (l.stack.tape + 1)
    (Some (record { place = l.deck.pos; how = how })) l.deck.mode writing h
    (new_fits how l.deck.pos h.0 inside
    (new_cell (meets_fresh how l.deck.pos l.stack) (new_cell_fits a.reach how l.stack) e none))
    (refl, refl))

-- a frame in a writing mode
writes_keeps :
    {a : Unchanged} {l : Loop Sound} (fit : Bool) (x : Sound) → fits a.reach l ≡ fit →
    is_writing l.deck.mode ≡ true → IsReady a l →
    Keeps a (writes fit x l)
writes_keeps {l = l} true x e writing h =
    written_keeps (new_frame l.deck.mode l.controls.feedback
    (sound_at (current_list l.stack.layers) l.deck.pos) x) writing h e
writes_keeps {l = l} false x e writing h = overrun_keeps l l.deck.mode writing h.0

-- a frame
passes_keeps :
    {a : Unchanged} {l : Loop Sound} (writing : Bool) (x : Sound) →
    is_writing l.deck.mode ≡ writing → IsReady a l →
    Keeps a (passes writing x a.reach l)
passes_keeps {a = a} {l = l} true x e h = writes_keeps (fits a.reach l) x refl e h
passes_keeps false x e h = advanced_keeps e h.0

pub after_keeps : {a : Unchanged} {l : Loop Sound} (x : Sound) → IsReady a l →
    Keeps a (after x a.reach l)
after_keeps {l = l} x h = passes_keeps (is_writing l.deck.mode) x refl h

-- a whole frame of a loop
pub framed_keeps : {a : Unchanged} {l : Loop Sound} (x : Sound) → Keeps a l →
    Keeps a (after x a.reach (ready x a.reach l))
framed_keeps {a = a} x h = after_keeps x (ready_keeps x a.reach h)
