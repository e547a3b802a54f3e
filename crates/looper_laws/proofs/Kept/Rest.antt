-- What a loop keeps in modes that don't write, and how it goes from one of them to another.
use Rattle.std.proofs.Common.{◌≡◌, ℕ, ◌<◌, Bool, true, false, List, [], ◌∷◌, Option, None, refl, sym, subst, arith}
use Rattle.std.specs.Prelude.{⊤}
use Rattle.sl_commands.specs.declared.Mode.{Mode}
use Rattle.sl_commands.specs.declared.Mode.TheVariants.{Off, WaitStart, Recording, Playing, Overdubbing, Multiplying, Inserting, Replacing, Muted, OneShot, Substituting, Paused}
use Rattle.looper_rules.specs.Layers.{Layer}
use Rattle.looper_rules.specs.Stack.{LastWrite}
use Rattle.looper_rules.specs.Loop.{Loop, is_writing, is_off, length_of}
use Rattle.looper_rules.specs.States.{AreClosed, ArePlayable, AreWaiting, InMode, IsStreak}
use Rattle.looper_rules.specs.Reached.{Unchanged, Keeps}
use Rattle.looper_laws.proofs.Kept.Decks.{with_deck}

-- a writing mode is none of the others
not_both : (b : Bool) → b ≡ true → b ≡ false → ⊥
not_both b is isnt = Prim.cc

-- outside the writing modes all layers are closed
pub closed_layers :
    {A : Type 0} (mode : Mode) (layers redo : List (Layer A)) (pos : ℕ) (backward : Bool) →
    is_writing mode ≡ false →
    InMode mode layers redo pos backward → AreClosed layers
closed_layers Off layers redo pos backward quiet h = subst (λ ls. AreClosed ls) (sym h.0.0) tt
closed_layers WaitStart [] redo pos backward quiet h = tt
closed_layers WaitStart (l ∷ ls) redo pos backward quiet h = h.0.0
closed_layers Recording layers redo pos backward quiet h = absurd (not_both true refl quiet)
closed_layers Overdubbing layers redo pos backward quiet h = absurd (not_both true refl quiet)
closed_layers Multiplying layers redo pos backward quiet h = absurd (not_both true refl quiet)
closed_layers Inserting layers redo pos backward quiet h = absurd (not_both true refl quiet)
closed_layers Replacing layers redo pos backward quiet h = absurd (not_both true refl quiet)
closed_layers Substituting layers redo pos backward quiet h = absurd (not_both true refl quiet)
closed_layers _ layers redo pos backward quiet h = h.0.0

-- and all redo layers
pub closed_redo :
    {A : Type 0} (mode : Mode) (layers redo : List (Layer A)) (pos : ℕ) (backward : Bool) →
    is_writing mode ≡ false →
    InMode mode layers redo pos backward → AreClosed redo
closed_redo Recording layers redo pos backward quiet h = absurd (not_both true refl quiet)
closed_redo Overdubbing layers redo pos backward quiet h = absurd (not_both true refl quiet)
closed_redo Multiplying layers redo pos backward quiet h = absurd (not_both true refl quiet)
closed_redo Inserting layers redo pos backward quiet h = absurd (not_both true refl quiet)
closed_redo Replacing layers redo pos backward quiet h = absurd (not_both true refl quiet)
closed_redo Substituting layers redo pos backward quiet h = absurd (not_both true refl quiet)
closed_redo _ layers redo pos backward quiet h = h.1

-- there pos lies in the list of the current layer
pub waiting_layers :
    {A : Type 0} (mode : Mode) (layers redo : List (Layer A)) (pos : ℕ) (backward : Bool) →
    is_writing mode ≡ false →
    InMode mode layers redo pos backward → AreWaiting layers pos
waiting_layers Off [] redo pos backward quiet h = h.0.1
waiting_layers Off (l ∷ ls) redo pos backward quiet h =
    absurd (let none : ⊥ = Prim.cc (h.0.0) in none)
waiting_layers WaitStart layers redo pos backward quiet h = h.0
waiting_layers Recording layers redo pos backward quiet h = absurd (not_both true refl quiet)
waiting_layers Overdubbing layers redo pos backward quiet h = absurd (not_both true refl quiet)
waiting_layers Multiplying layers redo pos backward quiet h = absurd (not_both true refl quiet)
waiting_layers Inserting layers redo pos backward quiet h = absurd (not_both true refl quiet)
waiting_layers Replacing layers redo pos backward quiet h = absurd (not_both true refl quiet)
waiting_layers Substituting layers redo pos backward quiet h = absurd (not_both true refl quiet)
waiting_layers _ [] redo pos backward quiet h = absurd (let none : ⊥ = omega arith in none)
waiting_layers _ (l ∷ ls) redo pos backward quiet h = h.0

-- no streak goes on there
pub quiet_streak :
    (mode : Mode) (streak : Option LastWrite) (pos : ℕ) (backward : Bool) →
    is_writing mode ≡ false →
    IsStreak mode streak pos backward →
    streak ≡ None
quiet_streak Recording streak pos backward quiet h = absurd (not_both true refl quiet)
quiet_streak Overdubbing streak pos backward quiet h = absurd (not_both true refl quiet)
quiet_streak Multiplying streak pos backward quiet h = absurd (not_both true refl quiet)
quiet_streak Inserting streak pos backward quiet h = absurd (not_both true refl quiet)
quiet_streak Replacing streak pos backward quiet h = absurd (not_both true refl quiet)
quiet_streak Substituting streak pos backward quiet h = absurd (not_both true refl quiet)
quiet_streak _ streak pos backward quiet h = h

pub streak_in_quiet :
    (mode : Mode) (streak : Option LastWrite) (pos : ℕ) (backward : Bool) →
    is_writing mode ≡ false →
    streak ≡ None →
    IsStreak mode streak pos backward
streak_in_quiet Recording streak pos backward quiet h = absurd (not_both true refl quiet)
streak_in_quiet Overdubbing streak pos backward quiet h = absurd (not_both true refl quiet)
streak_in_quiet Multiplying streak pos backward quiet h = absurd (not_both true refl quiet)
streak_in_quiet Inserting streak pos backward quiet h = absurd (not_both true refl quiet)
streak_in_quiet Replacing streak pos backward quiet h = absurd (not_both true refl quiet)
streak_in_quiet Substituting streak pos backward quiet h = absurd (not_both true refl quiet)
streak_in_quiet _ streak pos backward quiet h = h

-- a list that isn't empty can be played in each of these modes but Off
pub in_quiet :
    {A : Type 0} (mode : Mode) (l : Layer A) (ls redo : List (Layer A)) (pos : ℕ)
    (backward : Bool) → is_writing mode ≡ false →
    is_off mode ≡ false → ArePlayable (l ∷ ls) pos → AreClosed redo →
    InMode mode (l ∷ ls) redo pos backward
in_quiet Off l ls redo pos backward quiet on h closed = absurd (not_both true refl on)
in_quiet Recording l ls redo pos backward quiet on h closed = absurd (not_both true refl quiet)
in_quiet Overdubbing l ls redo pos backward quiet on h closed = absurd (not_both true refl quiet)
in_quiet Multiplying l ls redo pos backward quiet on h closed = absurd (not_both true refl quiet)
in_quiet Inserting l ls redo pos backward quiet on h closed = absurd (not_both true refl quiet)
in_quiet Replacing l ls redo pos backward quiet on h closed = absurd (not_both true refl quiet)
in_quiet Substituting l ls redo pos backward quiet on h closed = absurd (not_both true refl quiet)
in_quiet _ l ls redo pos backward quiet on h closed = (h, closed)

-- a mode in which a list is there and isn't written
abbrev pub IsResting : Mode → Type 0
IsResting Playing = ⊤
IsResting Muted = ⊤
IsResting OneShot = ⊤
IsResting Paused = ⊤
IsResting _ = ⊥

pub resting_is_quiet : (mode : Mode) → IsResting mode → is_writing mode ≡ false
resting_is_quiet Playing rests = refl
resting_is_quiet Muted rests = refl
resting_is_quiet OneShot rests = refl
resting_is_quiet Paused rests = refl
resting_is_quiet _ rests = absurd rests

-- its list can be played
pub playable :
    {A : Type 0} (mode : Mode) (layers redo : List (Layer A)) (pos : ℕ) (backward : Bool) →
    IsResting mode →
    InMode mode layers redo pos backward → ArePlayable layers pos × AreClosed redo
playable Playing layers redo pos backward rests h = h
playable Muted layers redo pos backward rests h = h
playable OneShot layers redo pos backward rests h = h
playable Paused layers redo pos backward rests h = h
playable _ layers redo pos backward rests h = absurd rests

pub in_resting :
    {A : Type 0} (mode : Mode) (layers redo : List (Layer A)) (pos : ℕ) (backward : Bool) →
    IsResting mode →
    ArePlayable layers pos × AreClosed redo → InMode mode layers redo pos backward
in_resting Playing layers redo pos backward rests h = h
in_resting Muted layers redo pos backward rests h = h
in_resting OneShot layers redo pos backward rests h = h
in_resting Paused layers redo pos backward rests h = h
in_resting _ layers redo pos backward rests h = absurd rests

-- a loop goes from one such mode to another, to another place in its list and another direction
pub rests_again :
    {A :
    Type 0} {a : Unchanged} {l : Loop A} (mode : Mode) (pos : ℕ) (backward : Bool) →
    IsResting l.deck.mode → IsResting mode → pos < length_of l → Keeps a l →
    Keeps a (record l { deck = record l.deck { mode = mode; pos = pos; backward = backward } })
rests_again {l = l} mode pos backward before now inside h =
    let can : ArePlayable l.stack.layers l.deck.pos × AreClosed l.stack.redo =
    playable l.deck.mode l.stack.layers l.stack.redo l.deck.pos l.deck.backward before
    h.loop.in_mode
    in let none : l.stack.streak ≡ None =
    quiet_streak l.deck.mode l.stack.streak l.deck.pos l.deck.backward
    (resting_is_quiet l.deck.mode before) h.loop.streak
    in with_deck (record l.deck { mode = mode; pos = pos; backward = backward }) l.stack.streak h
    (in_resting mode l.stack.layers l.stack.redo pos backward now ((can.0.0, inside), can.1))
    (streak_in_quiet mode l.stack.streak pos backward (resting_is_quiet mode now) none)
    refl

-- it has a place in its list
pub resting_inside : {A : Type 0} {a : Unchanged} {l : Loop A} → IsResting l.deck.mode → Keeps a l →
    l.deck.pos < length_of l
resting_inside {l = l} rests h =
    (playable l.deck.mode l.stack.layers l.stack.redo l.deck.pos l.deck.backward rests
    h.loop.in_mode).0.1
