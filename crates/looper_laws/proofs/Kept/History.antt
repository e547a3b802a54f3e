-- A loop keeps what it has to keep through undo and redo.
use Rattle.std.proofs.Common.{◌≡◌, ℕ, ◌%◌, Bool, true, false, List, [], ◌∷◌, length, None, refl, arith}
use Rattle.std.proofs.Math.Nat.{mod-lt}
use Rattle.sl_commands.specs.declared.Mode.{Mode}
use Rattle.sl_commands.specs.declared.Mode.TheVariants.{Off, WaitStart, Recording, Playing, Overdubbing, Multiplying, Inserting, Replacing, Muted, OneShot, Substituting, Paused}
use Rattle.looper_rules.specs.Layers.{Layer}
use Rattle.looper_rules.specs.Loop.{Loop, is_writing, is_off}
use Rattle.looper_rules.specs.History.{closed_if, settled, stepped_back, undo, redo, undo_each, undo_all, redo_each, redo_all}
use Rattle.looper_rules.specs.States.{AreClosed, InMode, IsStreak}
use Rattle.looper_rules.specs.Reached.{Unchanged, Keeps}
use Rattle.looper_laws.proofs.Kept.Decks.{with_deck}
use Rattle.looper_laws.proofs.Kept.Layers.{total_seams-cons}
use Rattle.looper_laws.proofs.Kept.Closing.{closed_keeps, closed_leads, IsClosedMode}
use Rattle.looper_laws.proofs.Kept.Rest.{closed_layers, closed_redo, quiet_streak, streak_in_quiet, in_quiet}

-- the loop in this mode, with these layers and redo layers
abbrev pub so : {A : Type 0} → Mode → List (Layer A) → List (Layer A) → Loop A → Loop A
so mode layers redo l =
    record l {
      deck = record l.deck { mode = mode };
      stack =
          record l.stack { layers = layers; redo = redo };
    }

-- the loop with this mode and place beside its layers and redo layers
abbrev pub moved : {A : Type 0} → Mode → ℕ → List (Layer A) → List (Layer A) → Loop A → Loop A
moved mode pos layers redo l = record l {
  deck = record l.deck { mode = mode; pos = pos };
  stack =
      record l.stack { layers = layers; redo = redo };
}

-- a layer that moves from the layers to redo
goes_back :
    {A : Type 0} {a : Unchanged} (l : Loop A) (mode now : Mode) (pos : ℕ) (x : Layer A)
    (xs redo : List (Layer A)) → Keeps a (so mode (x ∷ xs) redo l) →
    InMode now xs (x ∷ redo) pos l.deck.backward → IsStreak now l.stack.streak pos l.deck.backward →
    Keeps a (moved now pos xs (x ∷ redo) l)
goes_back l mode now pos x xs redo h in_mode streak =
    record {
      loop = record {
        in_mode = in_mode;
        streak = streak;
        stack = record {
          layers_within = h.loop.stack.layers_within.1;
          redo_within = (h.loop.stack.layers_within.0, h.loop.stack.redo_within);
          pin_within = h.loop.stack.pin_within;
          count = (let before = h.loop.stack.count in omega arith);
          seams = (let before = h.loop.stack.seams in let from = total_seams-cons x xs in
              let to = total_seams-cons x redo in omega arith);
          order = h.loop.stack.order.1;
          redo_order = (h.loop.stack.order.0, h.loop.stack.redo_order);
        };
        refused = h.loop.refused;
      };
      reach = h.reach;
      pinned = h.pinned;
      controls = h.controls;
      press = h.press;
    }

-- a layer that comes back from redo
comes_back :
    {A :
    Type 0} {a : Unchanged} (l : Loop A) (mode now : Mode) (pos : ℕ) (layers : List (Layer A))
    (x : Layer A) (xs : List (Layer A)) → Keeps a (so mode layers (x ∷ xs) l) →
    InMode now (x ∷ layers) xs pos l.deck.backward →
    IsStreak now l.stack.streak pos l.deck.backward →
    Keeps a (moved now pos (x ∷ layers) xs l)
comes_back l mode now pos layers x xs h in_mode streak =
    record {
      loop = record {
        in_mode = in_mode;
        streak = streak;
        stack = record {
          layers_within = (h.loop.stack.redo_within.0, h.loop.stack.layers_within);
          redo_within = h.loop.stack.redo_within.1;
          pin_within = h.loop.stack.pin_within;
          count = (let before = h.loop.stack.count in omega arith);
          seams = (let before = h.loop.stack.seams in let to = total_seams-cons x layers in
              let from = total_seams-cons x xs in omega arith);
          order = (h.loop.stack.redo_order.0, h.loop.stack.order);
          redo_order = h.loop.stack.redo_order.1;
        };
        refused = h.loop.refused;
      };
      reach = h.reach;
      pinned = h.pinned;
      controls = h.controls;
      press = h.press;
    }

-- a mode that isn't Off where there is a layer
on :
    {A : Type 0} (mode : Mode) (l : Layer A) (ls redo : List (Layer A)) (pos : ℕ)
    (backward : Bool) →
    InMode mode (l ∷ ls) redo pos backward → is_off mode ≡ false
on Off l ls redo pos backward h = absurd (let none : ⊥ = Prim.cc (h.0.0) in none)
on _ l ls redo pos backward h = refl

-- a step back, outside the writing modes
steps_back :
    {A : Type 0} {a : Unchanged} (l : Loop A) (mode : Mode) (layers redo : List (Layer A)) →
    is_writing mode ≡ false →
    Keeps a (so mode layers redo l) → Keeps a (stepped_back (so mode layers redo l))
steps_back l mode [] redo quiet h =
    with_deck (record l.deck { mode = Off; pos = 0 }) l.stack.streak h
    ((refl, refl), closed_redo mode [] redo l.deck.pos l.deck.backward quiet h.loop.in_mode)
    (quiet_streak mode l.stack.streak l.deck.pos l.deck.backward quiet h.loop.streak)
    refl
steps_back l mode (x ∷ []) redo quiet h =
    let closed : AreClosed (x ∷ []) =
    closed_layers mode (x ∷ []) redo l.deck.pos l.deck.backward quiet h.loop.in_mode
    in goes_back l mode Off 0 x [] redo h (
      (refl, refl),
      (
        closed.0,
        closed_redo mode (x ∷ []) redo l.deck.pos l.deck.backward quiet h.loop.in_mode,
      ),
    )
    (quiet_streak mode l.stack.streak l.deck.pos l.deck.backward quiet h.loop.streak)
steps_back l mode (x ∷ y ∷ ys) redo quiet h =
    let closed : AreClosed (x ∷ y ∷ ys) =
    closed_layers mode (x ∷ y ∷ ys) redo l.deck.pos l.deck.backward quiet h.loop.in_mode
    in let none : l.stack.streak ≡ None =
    quiet_streak mode l.stack.streak l.deck.pos l.deck.backward quiet h.loop.streak
    in goes_back l mode mode (l.deck.pos % length y.cells) x (y ∷ ys) redo h
    (in_quiet mode y ys (x ∷ redo) (l.deck.pos % length y.cells) l.deck.backward quiet
    (on mode x (y ∷ ys) redo l.deck.pos l.deck.backward h.loop.in_mode)
    (closed.1, mod-lt l.deck.pos closed.1.0.not_empty) (
      closed.0,
      closed_redo mode (x ∷ y ∷ ys) redo l.deck.pos l.deck.backward quiet h.loop.in_mode,
    ))
    (streak_in_quiet mode l.stack.streak (l.deck.pos % length y.cells) l.deck.backward quiet none)

-- closing leads out of the writing modes
pub closed_is_quiet : (mode : Mode) → IsClosedMode mode → is_writing mode ≡ false
closed_is_quiet Off leads = refl
closed_is_quiet Playing leads = refl
closed_is_quiet _ leads = absurd leads

-- a loop with no layer open
settled_keeps :
    {A : Type 0} {a : Unchanged} {l : Loop A} (writing : Bool) → is_writing l.deck.mode ≡ writing →
    Keeps a l →
    Keeps a (closed_if writing l) × (is_writing (closed_if writing l).deck.mode ≡ false)
settled_keeps {l = l} true e h = (closed_keeps e h, closed_is_quiet _ (closed_leads l))
settled_keeps {l = l} false e h = (h, e)

-- undo
pub undo_keeps : {A : Type 0} {a : Unchanged} {l : Loop A} → Keeps a l → Keeps a (undo l)
undo_keeps {l = l} h =
    let now = settled_keeps (is_writing l.deck.mode) refl h
    in steps_back (settled l) (settled l).deck.mode (settled l).stack.layers (settled l).stack.redo
    now.1 now.0

-- no layer waits for redo in a writing mode
no_redo :
    {A : Type 0} (mode : Mode) (layers : List (Layer A)) (x : Layer A) (xs : List (Layer A))
    (pos : ℕ) (backward : Bool) →
    InMode mode layers (x ∷ xs) pos backward → is_writing mode ≡ false
no_redo Recording layers x xs pos backward h = absurd (let none : ⊥ = Prim.cc (h.1) in none)
no_redo Overdubbing layers x xs pos backward h = absurd (let none : ⊥ = Prim.cc (h.1) in none)
no_redo Multiplying layers x xs pos backward h = absurd (let none : ⊥ = Prim.cc (h.1) in none)
no_redo Inserting layers x xs pos backward h = absurd (let none : ⊥ = Prim.cc (h.0.1) in none)
no_redo Replacing layers x xs pos backward h = absurd (let none : ⊥ = Prim.cc (h.1) in none)
no_redo Substituting layers x xs pos backward h = absurd (let none : ⊥ = Prim.cc (h.1) in none)
no_redo _ layers x xs pos backward h = refl

-- a layer that comes back in Off
back_from_off :
    {A : Type 0} {a : Unchanged} (l : Loop A) (layers : List (Layer A)) (x : Layer A)
    (xs : List (Layer A)) →
    Keeps a (so Off layers (x ∷ xs) l) → Keeps a (moved Playing 0 (x ∷ layers) xs l)
back_from_off l layers x xs h =
    comes_back l Off Playing 0 layers x xs h (
      (
        (
          h.loop.in_mode.1.0,
          closed_layers Off layers (x ∷ xs) l.deck.pos l.deck.backward refl
              h.loop.in_mode,
        ),
        h.loop.in_mode.1.0.not_empty,
      ),
      h.loop.in_mode.1.1,
    )
    h.loop.streak

-- and in another mode
back_elsewhere :
    {A : Type 0} {a : Unchanged} (l : Loop A) (mode : Mode) (layers : List (Layer A)) (x : Layer A)
    (xs : List (Layer A)) →
    is_off mode ≡ false → Keeps a (so mode layers (x ∷ xs) l) →
    Keeps a (moved mode (l.deck.pos % length x.cells) (x ∷ layers) xs l)
back_elsewhere l mode layers x xs is_on h =
    let quiet : is_writing mode ≡ false =
    no_redo mode layers x xs l.deck.pos l.deck.backward h.loop.in_mode
    in let redo : AreClosed (x ∷ xs) =
    closed_redo mode layers (x ∷ xs) l.deck.pos l.deck.backward quiet h.loop.in_mode
    in let none : l.stack.streak ≡ None =
    quiet_streak mode l.stack.streak l.deck.pos l.deck.backward quiet h.loop.streak
    in comes_back l mode mode (l.deck.pos % length x.cells) layers x xs h
    (in_quiet mode x layers xs (l.deck.pos % length x.cells) l.deck.backward quiet is_on (
      (redo.0, closed_layers mode layers (x ∷ xs) l.deck.pos l.deck.backward quiet h.loop.in_mode),
      mod-lt l.deck.pos redo.0.not_empty,
    ) redo.1)
    (streak_in_quiet mode l.stack.streak (l.deck.pos % length x.cells) l.deck.backward quiet none)

-- redo, by the mode and the redo layers
redoes :
    {A : Type 0} {a : Unchanged} (l : Loop A) (mode : Mode) (layers redo_layers : List (Layer A)) →
    Keeps a (so mode layers redo_layers l) → Keeps a (redo (so mode layers redo_layers l))
redoes l mode layers [] h = h
redoes l Off layers (x ∷ xs) h = back_from_off l layers x xs h
redoes l WaitStart layers (x ∷ xs) h = back_elsewhere l WaitStart layers x xs refl h
redoes l Recording layers (x ∷ xs) h = back_elsewhere l Recording layers x xs refl h
redoes l Playing layers (x ∷ xs) h = back_elsewhere l Playing layers x xs refl h
redoes l Overdubbing layers (x ∷ xs) h = back_elsewhere l Overdubbing layers x xs refl h
redoes l Multiplying layers (x ∷ xs) h = back_elsewhere l Multiplying layers x xs refl h
redoes l Inserting layers (x ∷ xs) h = back_elsewhere l Inserting layers x xs refl h
redoes l Replacing layers (x ∷ xs) h = back_elsewhere l Replacing layers x xs refl h
redoes l Muted layers (x ∷ xs) h = back_elsewhere l Muted layers x xs refl h
redoes l OneShot layers (x ∷ xs) h = back_elsewhere l OneShot layers x xs refl h
redoes l Substituting layers (x ∷ xs) h = back_elsewhere l Substituting layers x xs refl h
redoes l Paused layers (x ∷ xs) h = back_elsewhere l Paused layers x xs refl h

-- redo
pub redo_keeps : {A : Type 0} {a : Unchanged} {l : Loop A} → Keeps a l → Keeps a (redo l)
redo_keeps {l = l} h = redoes l l.deck.mode l.stack.layers l.stack.redo h

-- as many undos and redos as one likes
pub undo_each_keeps : {A : Type 0} {a : Unchanged} (l : Loop A) (ls : List (Layer A)) → Keeps a l →
    Keeps a (undo_each ls l)
undo_each_keeps l [] h = h
undo_each_keeps l (x ∷ xs) h = undo_each_keeps (undo l) xs (undo_keeps h)

pub undo_all_keeps : {A : Type 0} {a : Unchanged} {l : Loop A} → Keeps a l → Keeps a (undo_all l)
undo_all_keeps {l = l} h = undo_each_keeps l l.stack.layers h

pub redo_each_keeps : {A : Type 0} {a : Unchanged} (l : Loop A) (ls : List (Layer A)) → Keeps a l →
    Keeps a (redo_each ls l)
redo_each_keeps l [] h = h
redo_each_keeps l (x ∷ xs) h = redo_each_keeps (redo l) xs (redo_keeps h)

pub redo_all_keeps : {A : Type 0} {a : Unchanged} {l : Loop A} → Keeps a l → Keeps a (redo_all l)
redo_all_keeps {l = l} h = redo_each_keeps l l.stack.redo h
