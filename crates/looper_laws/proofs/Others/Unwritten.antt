-- A frame outside a writing mode keeps every list.
use Rattle.std.proofs.Common.{◌≡◌, ◌≢◌, ℕ, ◌<◌, ◌≤◌, Bool, true, false, refl, sym, ap, ◌∙◌, subst, nat_le, arith}
use Rattle.std.specs.Prelude.{◌==◌}
use Rattle.std.proofs.lemmas.Bool.{leb-true}
use Rattle.sl_base.specs.Sounds.{Sound, loudness}
use Rattle.sl_commands.specs.declared.Mode.{Mode}
use Rattle.sl_commands.specs.declared.Mode.TheVariants.{Off, WaitStart, Playing, Muted, OneShot, Paused}
use Rattle.sl_commands.specs.declared.Started.TheVariants.{Ok}
use Rattle.looper_rules.specs.Opening.{opening}
use Rattle.looper_rules.specs.Layers.{without_current}
use Rattle.looper_rules.specs.Stack.{Stack}
use Rattle.looper_rules.specs.Loop.{Loop, is_writing, length_of, refused_once}
use Rattle.looper_rules.specs.Starting.{records, mode_after_wait}
use Rattle.looper_rules.specs.LoopFrame.{awake_in, awake, ready_in, fits, wraps, goes_on, writes, after, frame_later}
use Rattle.looper_laws.specs.OtherLayers.{KeepsLists}
use Rattle.looper_laws.proofs.Kept.Verbs.{set_to}
use Rattle.looper_laws.proofs.Others.Frames.{once_awake}
use Rattle.looper_laws.proofs.Others.Steps.{first_frame_fits}
use Rattle.looper_laws.proofs.Undo.Openings.{awake_opens, left_wait_quiet}
use Rattle.looper_laws.proofs.Others.Refusals.{awake_refused}

-- nothing changes, or the streak ends
keeps_all : {A : Type 0} (s : Stack A) → KeepsLists s s
keeps_all s = record { layers = refl; redo = refl; tape = refl; pin = refl }

goes_on_lists : (round : Bool) (l : Loop Sound) → KeepsLists l.stack (goes_on round l).stack
goes_on_lists true l = record { layers = refl; redo = refl; tape = refl; pin = refl }
goes_on_lists false l = keeps_all l.stack

none : (b : Bool) → b ≡ true → b ≡ false → ⊥
none b is isnt = Prim.cc

-- by the mode
unwritten : (x : Sound) (reach : ℕ) (mode : Mode) (l : Loop Sound) → is_writing mode ≡ false →
    mode ≢ WaitStart →
    KeepsLists l.stack (frame_later x reach (set_to mode l)).stack
unwritten x reach Off l quiet awake = keeps_all l.stack
unwritten x reach Paused l quiet awake = keeps_all l.stack
unwritten x reach WaitStart l quiet awake = absurd (awake refl)
unwritten x reach Playing l quiet awake =
    goes_on_lists (wraps l.deck.backward l.deck.pos (length_of l)) (set_to Playing l)
unwritten x reach Muted l quiet awake =
    goes_on_lists (wraps l.deck.backward l.deck.pos (length_of l)) (set_to Muted l)
unwritten x reach OneShot l quiet awake =
    goes_on_lists (wraps l.deck.backward l.deck.pos (length_of l)) (set_to OneShot l)
unwritten x reach _ l quiet awake = absurd (none true refl quiet)

pub frame_keeps_lists : (x : Sound) (reach : ℕ) (l : Loop Sound) → is_writing l.deck.mode ≡ false →
    l.deck.mode ≢ WaitStart →
    KeepsLists l.stack (frame_later x reach l).stack
frame_keeps_lists x reach l quiet awake = unwritten x reach l.deck.mode l quiet awake

-- a frame that isn't loud enough leaves WaitStart as it is
not_loud : (thresh loud : ℕ) → loud < thresh → nat_le thresh loud ≡ false
not_loud thresh loud below = by_test (nat_le thresh loud) refl
  where
    by_test : (b : Bool) → nat_le thresh loud ≡ b → b ≡ false
    by_test true is = absurd (let over : thresh ≤ loud = leb-true thresh loud is in let no : ⊥ =
        omega arith in no)
    by_test false is = refl

silent_in_wait : (x : Sound) (reach : ℕ) (l : Loop Sound) (loud : Bool) → loud ≡ false →
    after x reach (ready_in (awake_in WaitStart loud reach (set_to WaitStart l)).deck.mode
    ((awake_in WaitStart loud reach (set_to WaitStart l)).deck.pos
    == length_of (awake_in WaitStart loud reach (set_to WaitStart l)))
    (awake_in WaitStart loud reach (set_to WaitStart l))) ≡ set_to WaitStart l
silent_in_wait x reach l true is = absurd (none true refl is)
silent_in_wait x reach l false is = refl

quiet_waits : (x : Sound) (reach : ℕ) (mode : Mode) (l : Loop Sound) → mode ≡ WaitStart →
    loudness x < l.controls.rec_thresh →
    frame_later x reach (set_to mode l) ≡ set_to mode l
quiet_waits x reach WaitStart l waits below =
    silent_in_wait x reach l (nat_le l.controls.rec_thresh (loudness x))
    (not_loud l.controls.rec_thresh (loudness x) below)
quiet_waits x reach _ l waits below = absurd (let no : ⊥ = Prim.cc in no)

pub frame_waits : (x : Sound) (reach : ℕ) (l : Loop Sound) → l.deck.mode ≡ WaitStart →
    loudness x < l.controls.rec_thresh → frame_later x reach l ≡ l
frame_waits x reach l waits below = quiet_waits x reach l.deck.mode l waits below

-- a frame in which an opening is refused leaves WaitStart and keeps every list too
awake_lists : (x : Sound) (reach : ℕ) (mode : Mode) (l : Loop Sound) → is_writing mode ≡ false →
    KeepsLists l.stack (once_awake x reach (set_to mode l)).stack
awake_lists x reach Off l quiet = keeps_all l.stack
awake_lists x reach Paused l quiet = keeps_all l.stack
awake_lists x reach WaitStart l quiet = keeps_all l.stack
awake_lists x reach Playing l quiet =
    goes_on_lists (wraps l.deck.backward l.deck.pos (length_of l)) (set_to Playing l)
awake_lists x reach Muted l quiet =
    goes_on_lists (wraps l.deck.backward l.deck.pos (length_of l)) (set_to Muted l)
awake_lists x reach OneShot l quiet =
    goes_on_lists (wraps l.deck.backward l.deck.pos (length_of l)) (set_to OneShot l)
awake_lists x reach _ l quiet = absurd (none true refl quiet)

pub refused_lists : (x : Sound) (reach : ℕ) (l : Loop Sound) → l.deck.mode ≡ WaitStart →
    l.controls.rec_thresh ≤ loudness x →
    opening reach true l.stack ≢ Ok → KeepsLists l.stack (frame_later x reach l).stack
refused_lists x reach l waits loud refused =
    subst (λ now. KeepsLists l.stack (once_awake x reach now).stack)
    (sym (awake_refused x reach l waits loud refused))
    (awake_lists x reach (mode_after_wait l.stack.layers) (refused_once l)
    (left_wait_quiet l.stack.layers))

-- and one that opens a layer keeps all lists below it
opened_lists : (x : Sound) (reach : ℕ) (l : Loop Sound) (fit : Bool) →
    fits reach (records Ok l) ≡ fit → fit ≡ true →
    without_current (writes fit x (records Ok l)).stack.layers ≡ l.stack.layers
opened_lists x reach l true e is = refl
opened_lists x reach l false e is = absurd (none true refl (sym is))

pub granted_lists : (x : Sound) (reach : ℕ) (l : Loop Sound) → l.deck.mode ≡ WaitStart →
    l.controls.rec_thresh ≤ loudness x →
    opening reach true l.stack ≡ Ok →
    without_current (frame_later x reach l).stack.layers ≡ l.stack.layers
granted_lists x reach l waits loud granted =
    ap (λ now. without_current (once_awake x reach now).stack.layers)
    (awake_opens x reach l waits loud granted)
    ∙ opened_lists x reach l (fits reach (records Ok l)) refl
    (first_frame_fits reach 0 l.stack granted)
