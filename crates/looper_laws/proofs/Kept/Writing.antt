-- A loop whose open layer gets a cell, or its base once more, keeps what it has to keep.
use Rattle.std.proofs.Common.{◌≡◌, ℕ, ◌+◌, ◌-◌, ◌%◌, ◌≤◌, ◌<◌, Bool, true, false, not, ◌||◌, ◌&&◌, List, [], ◌∷◌, length, Option, is_some, refl, inl, inr, sym, ◌∙◌, subst, arith, cond, nat_le, nat_lt, ltb-true, leb-true}
use Rattle.std.specs.Prelude.{◌==◌}
use Rattle.std.proofs.lemmas.Bool.{or_cases, and_parts, not-true, eqb-false}
use Rattle.std.proofs.lemmas.List.{length-set, length-append, length-map, length_push}
use Rattle.std.proofs.lemmas.List.Edits.{length-insert}
use Rattle.sl_commands.specs.declared.Mode.TheVariants.{Multiplying}
use Rattle.sl_commands.specs.declared.How.{How}
use Rattle.sl_commands.specs.declared.How.TheVariants.{Forward, Backward, Insert, Append}
use Rattle.sl_base.specs.Limits.{max_seams, chunk_frames, max_list_frames}
use Rattle.looper_rules.specs.Layers.{Cell, Layer, fresh_cell, total_seams, with_current, current_length, current_base_length, current_base_seams, current_end}
use Rattle.looper_rules.specs.Stack.{Stack, LastWrite}
use Rattle.looper_rules.specs.Room.{chunks_of, has_room}
use Rattle.looper_rules.specs.Writing.{overwrites, meets_fresh, new_cell_fits, with_cell, with_written, extension_fits, with_base, extended}
use Rattle.looper_rules.specs.Loop.{Deck, Loop, length_of, with_stack}
use Rattle.looper_rules.specs.States.{IsRecorded, IsOpenOver, HasCurrent, InMode, IsStreak, AreWithin, AreOrdered, GoOnFrom}
use Rattle.looper_rules.specs.Reached.{Unchanged, Keeps}
use Rattle.looper_laws.proofs.Kept.Layers.{total_seams-cons, length-with_current}

-- one frame more where there is room takes no chunk that isn't reached
one_more_in_reach : (reach tape : ℕ) → has_room reach tape ≡ true → chunks_of tape ≤ reach →
    chunks_of (tape + 1) ≤ reach
one_more_in_reach reach tape room within =
    elim (or_cases (not (tape % chunk_frames == 0)) (nat_lt (chunks_of tape) reach) room) [
      | inl inside ↦ (let some : tape % chunk_frames ≡ 0 → ⊥ = eqb-false (tape % chunk_frames) 0
          (not-true (tape % chunk_frames == 0) inside) in omega arith)
      | inr free ↦ (let below : chunks_of tape < reach = ltb-true (chunks_of tape) reach free in
          omega arith)
    ]

-- layers within a tape are within a longer one
pub within_longer : {A : Type 0} (less more : ℕ) (layers : List (Layer A)) → less ≤ more →
    AreWithin less layers → AreWithin more layers
within_longer less more [] longer within = tt
within_longer less more (l ∷ ls) longer within = (
  (within.0.0, (let end : l.end ≤ less = within.0.1 in omega arith)),
  within_longer less more ls longer within.1,
)

-- a frame in place of another leaves the length
length-over :
    {A : Type 0} (how : How) (place : ℕ) (c : Cell A) (cells : List (Cell A)) →
    overwrites how ≡ true →
    length (with_cell how place c cells) ≡ length cells
length-over Forward place c cells over = length-set cells place c
length-over Backward place c cells over = length-set cells place c
length-over Insert place c cells over = absurd (let none : ⊥ = Prim.cc in none)
length-over Append place c cells over = absurd (let none : ⊥ = Prim.cc in none)

-- any other adds one
length-added :
    {A : Type 0} (how : How) (place : ℕ) (c : Cell A) (cells : List (Cell A)) →
    overwrites how ≡ false → place ≤ length cells →
    length (with_cell how place c cells) ≡ length cells + 1
length-added Forward place c cells over inside = absurd (let none : ⊥ = Prim.cc in none)
length-added Backward place c cells over inside = absurd (let none : ⊥ = Prim.cc in none)
length-added Insert place c cells over inside = length-insert cells place c inside
length-added Append place c cells over inside = length_push cells c

-- so the length after a write is at least that before
written_length :
    {A : Type 0} (how : How) (place : ℕ) (c : Cell A) (cells : List (Cell A)) (over : Bool) →
    overwrites how ≡ over →
    place ≤ length cells →
    (length cells ≤ length (with_cell how place c cells))
    × (length (with_cell how place c cells) ≤ length cells + 1)
written_length how place c cells true is inside =
    (let same = length-over how place c cells is in (omega arith, omega arith))
written_length how place c cells false is inside =
    (let more = length-added how place c cells is inside in (omega arith, omega arith))

-- what a write asks: seams, tape, chunks and length
pub record Writes {A : Type 0} (a : Unchanged) (how : How) (place : ℕ) (s : Stack A)
    (seams tape : ℕ) : Type 0 where
  pub inside : place ≤ current_length s.layers
  pub seams_within : total_seams s.layers + seams ≤ max_seams
  pub longer : s.tape ≤ tape
  pub in_reach : chunks_of tape ≤ a.reach
  pub short : overwrites how ≡ false → current_length s.layers < max_list_frames

-- the layers after a write
abbrev pub written_layers : {A : Type 0} → How → ℕ → A → ℕ → List (Layer A) → List (Layer A)
written_layers how place x seams layers = with_current (with_written how place x seams) layers

-- the stack after a write
abbrev pub written_stack : {A : Type 0} → How → ℕ → A → ℕ → ℕ → Option LastWrite → Stack A → Stack A
written_stack how place x seams tape streak s =
    record s { layers = written_layers how place x seams s.layers; tape = tape; streak = streak }

-- a recorded layer is still one
pub still_recorded :
    {A : Type 0} (how : How) (place : ℕ) (x : A) (seams : ℕ) (layers : List (Layer A)) →
    HasCurrent IsRecorded layers →
    HasCurrent IsRecorded (written_layers how place x seams layers)
still_recorded how place x seams [] has = absurd has
still_recorded how place x seams (l ∷ ls) has = (
  record {
    no_base = has.0.no_base;
    no_base_seams = has.0.no_base_seams;
    no_cycle =
        has.0.no_cycle;
  },
  has.1,
)

-- and so is one over a list
pub still_open :
    {A : Type 0} (how : How) (place : ℕ) (x : A) (seams : ℕ) (layers : List (Layer A)) →
    place ≤ current_length layers →
    HasCurrent IsOpenOver layers → HasCurrent IsOpenOver (written_layers how place x seams layers)
still_open how place x seams [] inside has = absurd has
still_open how place x seams (l ∷ ls) inside has =
    let longer = written_length how place (fresh_cell x) l.cells (overwrites how) refl inside
    in let base : length l.base ≤ length l.cells = has.0.base_within
    in (
      record {
        base_not_empty = has.0.base_not_empty;
        base_within =
            (let more : length l.cells ≤ length (with_cell how place (fresh_cell x) l.cells) =
            longer.0 in omega arith);
        cycle_from = has.0.cycle_from;
        cycle_to = has.0.cycle_to;
      },
      has.1,
    )

-- the current length after a write in place of another frame
pub current_length-over :
    {A : Type 0} (how : How) (place : ℕ) (x : A) (seams : ℕ) (layers : List (Layer A)) →
    overwrites how ≡ true →
    current_length (written_layers how place x seams layers) ≡ current_length layers
current_length-over how place x seams [] over = refl
current_length-over how place x seams (l ∷ ls) over =
    length-over how place (fresh_cell x) l.cells over

-- after any other
pub current_length-added :
    {A : Type 0} (Kind : Layer A → Type 0) (how : How) (place : ℕ) (x : A) (seams : ℕ)
    (layers : List (Layer A)) →
    HasCurrent Kind layers → overwrites how ≡ false → place ≤ current_length layers →
    current_length (written_layers how place x seams layers) ≡ current_length layers + 1
current_length-added Kind how place x seams [] has over inside = absurd has
current_length-added Kind how place x seams (l ∷ ls) has over inside =
    length-added how place (fresh_cell x) l.cells over inside

-- a list that was short enough
written_short :
    {A : Type 0} (how : How) (place : ℕ) (x : A) (cells : List (Cell A)) (over : Bool) →
    overwrites how ≡ over →
    place ≤ length cells → length cells ≤ max_list_frames →
    (overwrites how ≡ false → length cells < max_list_frames) →
    length (with_cell how place (fresh_cell x) cells) ≤ max_list_frames
written_short how place x cells true is inside short room =
    (let same = length-over how place (fresh_cell x) cells is in omega arith)
written_short how place x cells false is inside short room =
    (let more = length-added how place (fresh_cell x) cells is inside in
    let below : length cells < max_list_frames = room is in omega arith)

-- layers within their limits
written_within :
    {A : Type 0} (how : How) (place : ℕ) (x : A) (seams less more : ℕ) (layers : List (Layer A)) →
    place ≤ current_length layers →
    (overwrites how ≡ false → current_length layers < max_list_frames) → less ≤ more →
    AreWithin less layers →
    AreWithin more (written_layers how place x seams layers)
written_within how place x seams less more [] inside room longer within = tt
written_within how place x seams less more (l ∷ ls) inside room longer within = (
  (
    written_short how place x l.cells (overwrites how) refl inside within.0.0 room,
    (let end : l.end ≤ less = within.0.1 in omega arith),
  ),
  within_longer less more ls longer within.1,
)

-- seams
written_seams :
    {A : Type 0} (how : How) (place : ℕ) (x : A) (seams : ℕ) (layers : List (Layer A)) →
    total_seams (written_layers how place x seams layers) ≤ total_seams layers + seams
written_seams how place x seams [] = omega arith
written_seams how place x seams (l ∷ ls) =
    (let before = total_seams-cons l ls in
    let after = total_seams-cons (with_written how place x seams l) ls in omega arith)

-- order
written_order :
    {A : Type 0} (how : How) (place : ℕ) (x : A) (seams : ℕ) (layers : List (Layer A)) →
    AreOrdered layers →
    AreOrdered (written_layers how place x seams layers)
written_order how place x seams [] order = tt
written_order how place x seams (l ∷ ls) order = order

-- no layer waits for redo
no_layers_seams : {A : Type 0} (layers : List (Layer A)) → layers ≡ [] → total_seams layers ≡ 0
no_layers_seams layers none = subst (λ ls. total_seams ls ≡ 0) (sym none) refl

-- a loop after a write, with its deck moved on
pub wrote :
    {A :
    Type 0} {a : Unchanged} {l : Loop A} (d : Deck) (how : How) (place : ℕ) (x : A) (seams tape : ℕ)
    (streak : Option LastWrite) → Keeps a l → Writes a how place l.stack seams tape →
    l.stack.redo ≡ [] → d.press ≡ l.deck.press →
    InMode d.mode (written_layers how place x seams l.stack.layers) l.stack.redo d.pos d.backward →
    IsStreak d.mode streak d.pos d.backward →
    Keeps a (record l { deck = d; stack = written_stack how place x seams tape streak l.stack })
wrote {l = l} d how place x seams tape streak h w no_redo press in_mode goes =
    record {
      loop = record {
        in_mode = in_mode;
        streak = goes;
        stack = record {
          layers_within = written_within how place x seams l.stack.tape tape l.stack.layers w.inside
              w.short w.longer h.loop.stack.layers_within;
          redo_within = within_longer l.stack.tape tape l.stack.redo w.longer
              h.loop.stack.redo_within;
          pin_within = (let pin = h.loop.stack.pin_within in let longer = w.longer in omega arith);
          count = rw length-with_current h.loop.stack.count;
          seams =
              (let none = no_layers_seams l.stack.redo no_redo in
              let more = written_seams how place x seams l.stack.layers in
              let most = w.seams_within in omega arith);
          order = written_order how place x seams l.stack.layers h.loop.stack.order;
          redo_order = subst
              (λ redo. GoOnFrom (current_end (written_layers how place x seams l.stack.layers))
              redo) (sym no_redo) tt;
        };
        refused = h.loop.refused;
      };
      reach = w.in_reach;
      pinned = h.pinned;
      controls = h.controls;
      press = press ∙ h.press;
    }

-- a write over a fresh cell asks nothing
pub fresh_fits :
    {A : Type 0} {a : Unchanged} {l : Loop A} (how : How) (place : ℕ) → Keeps a l →
    place ≤ length_of l →
    meets_fresh how place l.stack ≡ true → Writes a how place l.stack 0 l.stack.tape
fresh_fits {l = l} how place h inside meets =
    record {
      inside = inside;
      seams_within = (let most = h.loop.stack.seams in omega arith);
      longer = (let same : l.stack.tape ≤ l.stack.tape = omega arith in same);
      in_reach = h.reach;
      short = λ adds. absurd (let over : overwrites how ≡ true = (and_parts _ _ meets).0 in
          let none : ⊥ = Prim.cc in none);
    }

-- the seams that a new cell adds
new_seams : (goes_on : Bool) (total : ℕ) → (goes_on || nat_le total (max_seams - 2)) ≡ true →
    total ≤ max_seams → total + cond goes_on 0 2 ≤ max_seams
new_seams true total free most = omega arith
new_seams false total free most =
    (let few : total ≤ max_seams - 2 = leb-true total (max_seams - 2) free in omega arith)

-- a place for a list that grows
new_room : (over : Bool) (len : ℕ) → (over || nat_lt len max_list_frames) ≡ true → over ≡ false →
    len < max_list_frames
new_room true len free adds = absurd (let none : ⊥ = Prim.cc in none)
new_room false len free adds = ltb-true len max_list_frames free

-- a new cell that fits has all that it asks
pub new_fits :
    {A : Type 0} {a : Unchanged} {l : Loop A} (how : How) (place : ℕ) → Keeps a l →
    place ≤ length_of l →
    new_cell_fits a.reach how l.stack ≡ true →
    Writes a how place l.stack (cond (is_some l.stack.streak) 0 2) (l.stack.tape + 1)
new_fits {a = a} {l = l} how place h inside fits =
    let parts = and_parts
    (has_room a.reach l.stack.tape
    && (is_some l.stack.streak || nat_le (total_seams l.stack.layers) (max_seams - 2)))
    (overwrites how || nat_lt (current_length l.stack.layers) max_list_frames) fits
    in let first = and_parts (has_room a.reach l.stack.tape)
    (is_some l.stack.streak || nat_le (total_seams l.stack.layers) (max_seams - 2)) parts.0
    in record {
      inside = inside;
      seams_within = new_seams (is_some l.stack.streak) (total_seams l.stack.layers) first.1
          (let most = h.loop.stack.seams in omega arith);
      longer = (let longer : l.stack.tape ≤ l.stack.tape + 1 = omega arith in longer);
      in_reach = one_more_in_reach a.reach l.stack.tape first.0 h.reach;
      short = new_room (overwrites how) (current_length l.stack.layers) parts.1;
    }

-- the layers extended are an open layer over others, and pos lies in the list
extended_open :
    {A : Type 0} (layers : List (Layer A)) → HasCurrent IsOpenOver layers →
    HasCurrent IsOpenOver (with_current with_base layers)
    × (current_length layers < current_length (with_current with_base layers))
extended_open [] has = absurd has
extended_open (l ∷ ls) has =
    let longer : length (with_base l).cells ≡ length l.cells + length l.base =
    rw (length-append, length-map) refl
    in let some : 1 ≤ length l.base = has.0.base_not_empty
    in let base : length l.base ≤ length l.cells = has.0.base_within
    in (
      (
        record {
          base_not_empty = has.0.base_not_empty;
          base_within = omega arith;
          cycle_from =
              has.0.cycle_from;
          cycle_to = has.0.cycle_to;
        },
        has.1,
      ),
      omega arith,
    )

extended_within :
    {A : Type 0} (tape : ℕ) (layers : List (Layer A)) →
    current_length layers + current_base_length layers ≤ max_list_frames →
    AreWithin tape layers → AreWithin tape (with_current with_base layers)
extended_within tape [] short within = tt
extended_within tape (l ∷ ls) short within =
    ((rw (length-append, length-map) short, within.0.1), within.1)

extended_seams : {A : Type 0} (layers : List (Layer A)) →
    total_seams (with_current with_base layers) ≤ total_seams layers + current_base_seams layers
extended_seams [] = omega arith
extended_seams (l ∷ ls) =
    (let before = total_seams-cons l ls in let after = total_seams-cons (with_base l) ls in
    omega arith)

extended_order : {A : Type 0} (layers : List (Layer A)) → AreOrdered layers →
    AreOrdered (with_current with_base layers)
extended_order [] order = tt
extended_order (l ∷ ls) order = order

-- a Multiplying whose list is extended
pub extended_keeps :
    {A :
    Type 0} {a : Unchanged} {l : Loop A} → Keeps a l →
    InMode Multiplying l.stack.layers l.stack.redo l.deck.pos l.deck.backward →
    l.deck.mode ≡ Multiplying → extension_fits l.stack ≡ true →
    Keeps a (with_stack (extended l.stack) l)
    × (l.deck.pos < length_of (with_stack (extended l.stack) l))
extended_keeps {l = l} h now is fits =
    let parts = and_parts
    (nat_le (current_length l.stack.layers + current_base_length l.stack.layers)
    max_list_frames) (nat_le (total_seams l.stack.layers + current_base_seams l.stack.layers)
    max_seams) fits
    in let opens = extended_open l.stack.layers now.0
    in let inside : l.deck.pos ≤ current_length l.stack.layers = now.2
    in let longer : current_length l.stack.layers < current_length
    (with_current with_base l.stack.layers) = opens.1
    in (
      record {
        loop = record {
          in_mode = subst (λ mode. InMode mode (with_current with_base l.stack.layers) l.stack.redo
              l.deck.pos l.deck.backward) (sym is) (
                opens.0,
                now.1,
                (let less : l.deck.pos ≤ current_length
                    (with_current with_base l.stack.layers) = omega arith in less),
                now.3,
              );
          streak = h.loop.streak;
          stack = record {
            layers_within = extended_within l.stack.tape l.stack.layers (leb-true _ _ parts.0)
                h.loop.stack.layers_within;
            redo_within = h.loop.stack.redo_within;
            pin_within = h.loop.stack.pin_within;
            count = rw length-with_current h.loop.stack.count;
            seams =
                (let none = no_layers_seams l.stack.redo now.1 in let more =
                extended_seams l.stack.layers in let most = leb-true _ _ parts.1 in omega arith);
            order = extended_order l.stack.layers h.loop.stack.order;
            redo_order = subst
                (λ redo. GoOnFrom (current_end (with_current with_base l.stack.layers)) redo)
                (sym now.1) tt;
          };
          refused = h.loop.refused;
        };
        reach = h.reach;
        pinned = h.pinned;
        controls = h.controls;
        press = h.press;
      },
      omega arith,
    )
