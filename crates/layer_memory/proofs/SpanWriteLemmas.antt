-- What writes in a row leave.
use Rattle.std.proofs.Common.{◌≡◌, ◌≢◌, ◌≤◌, ◌<◌, ℕ, ◌+◌, ◌%◌, ◌==◌, Bool, true, false, List, [], ◌∷◌, length, Option, Some, None, refl, sym, ap, arith, suc, zero, IsTrue, is_some, get_or, take, map, if◌then◌else◌}
use Rattle.std.specs.Prelude.{nat_le, nat_lt, slice_get, slice_set}
use Rattle.std.proofs.lemmas.Bool.{ne_eqb}
use Rattle.std.proofs.lemmas.List.{length-take-le}
use Rattle.sl_base.specs.Limits.{max_seams}
use Rattle.sl_base.specs.Sounds.{Sound, silence}
use Rattle.sl_commands.specs.declared.How.TheVariants.{Forward}
use Rattle.looper_rules.specs.Layers.{Cell, Layer, current_cells, fresh_cell, total_seams, with_current}
use Rattle.looper_rules.specs.Stack.{LastWrite, Stack, streak_broken}
use Rattle.looper_rules.specs.Mapping.{layer_map, stack_map}
use Rattle.looper_rules.specs.Room.{has_room}
use Rattle.looper_rules.specs.Writing.{meets_fresh, new_cell_fits, newly_written, rewritten, with_written, write_fits}
use Rattle.loop_tape.specs.Pools.{PoolOf}
use Rattle.loop_tape.specs.Tapes.{TapeOf, at, IsWhole, Owns as TapeOwns, PushedAll, AreSet}
use Rattle.lazy_fill.specs.Fills.{FillOf, IsFill, fill_written, fill_written_span}
use Rattle.lazy_fill.specs.Streaks.{more_seams}
use Rattle.undo_stack.specs.Layered.{LayersOf}
use Rattle.layer_memory.specs.Kept.{StackBelow, Alone}
use Rattle.layer_memory.specs.Seen.{Held, seen, reach}
use Rattle.layer_memory.specs.Spans.{AllFit, AreAlone, AreMarked, WritesSpan, newly_written_span, written_span}
use Rattle.layer_memory.specs.Inside.{held_by, stacked, Holds}
use Rattle.layer_memory.specs.declared.layers.Top.{Top}
use Rattle.layer_memory.proofs.SeenLemmas.{newly-mapped, stack-agrees, fresh-mapped, cells-mapped, fresh_at-mapped}
use Rattle.layer_memory.proofs.AlikeLemmas.{stack-rewritten}
use Rattle.layer_memory.proofs.FreshLemmas.{alone-in, stale-in}
use Rattle.layer_memory.proofs.WriteLemmas.{stack-pushed, held-pushed-in}

trans : {A : Type 0} {x y z : A} → x ≡ y → y ≡ z → x ≡ z
trans e f = rw e f

is-true : (b : Bool) → IsTrue b → b ≡ true
is-true true t = refl
is-true false t = let no : ⊥ = cc in absurd no

-- the cells behind one that was written
behind-set : {A : Type 0} (cs : List (Cell A)) (place k : ℕ) (c : Cell A) → place < k →
    slice_get (slice_set cs place c) k ≡ slice_get cs k
behind-set [] place k c lt = refl
behind-set (d ∷ cs) zero zero c lt = absurd (omega (arith, lt))
behind-set (d ∷ cs) zero (suc k) c lt = refl
behind-set (d ∷ cs) (suc place) zero c lt = absurd (omega (arith, lt))
behind-set (d ∷ cs) (suc place) (suc k) c lt = behind-set cs place k c (omega (arith, lt))

behind-written : {A : Type 0} (place k more : ℕ) (a : A) (ls : List (Layer A)) → place < k →
    slice_get (current_cells (with_current (with_written Forward place a more) ls)) k ≡ slice_get
    (current_cells ls) k
behind-written place k more a [] lt = refl
behind-written place k more a (l ∷ ls) lt = behind-set l.cells place k (fresh_cell a) lt

marked-next : {A : Type 0} (b : Bool) (n place more : ℕ) (a : A) (ls : List (Layer A)) →
    AreMarked b (suc n) place ls →
    AreMarked b n (place + 1) (with_current (with_written Forward place a more) ls)
marked-next b n place more a ls m k lt =
    let z : place + 1 + k ≡ place + (k + 1) = omega arith in
    let h = m (k + 1) (omega (arith, lt)) in
    rw (z, behind-written place (place + (k + 1)) more a ls (omega arith)) h

marked-first : {A : Type 0} (b : Bool) (n place : ℕ) (s : Stack A) →
    AreMarked b (suc n) place s.layers → meets_fresh Forward place s ≡ b
marked-first b n place s m = let z : place + 0 ≡ place = omega arith in rw z at (m 0 (omega arith))

-- frames that are new cells in a row
abbrev pub newly_on : {A : Type 0} → List A → ℕ → Stack A → Stack A
newly_on [] place s = s
newly_on (x ∷ xs) place s = newly_on xs (place + 1) (newly_written Forward place x s)

-- so many frames end within the chunk in which a tape ends
pub record IsWithin (n tape : ℕ) : Type 0 where
  pub begun : 1 ≤ n → tape % 4096 ≢ 0
  pub within : tape % 4096 + n ≤ 4096

within-next : (n tape : ℕ) → IsWithin (suc n) tape → IsWithin n (tape + 1)
within-next n tape w =
    let b = w.begun (omega arith) in
    let i = w.within in
    record { begun = λ some e. omega (arith, some, e, b, i); within = within_as n tape i }
  where
    within_as : (n tape : ℕ) → tape % 4096 + suc n ≤ 4096 → (tape + 1) % 4096 + n ≤ 4096
    within_as n tape i = omega (arith, i)

has-room : (reach tape : ℕ) → tape % 4096 ≢ 0 → has_room reach tape ≡ true
has-room reach tape ne = grind (arith, ne)

new-fits : {A : Type 0} (reach : ℕ) (s : Stack A) → s.tape % 4096 ≢ 0 → is_some s.streak ≡ true →
    new_cell_fits reach Forward s ≡ true
new-fits reach s ne on = rw (has-room reach s.tape ne, on) refl

-- new cells in a row fit
pub new_fit : {A : Type 0} (xs : List A) (reach place : ℕ) (s : Stack A) → is_some s.streak ≡ true →
    IsWithin (length xs) s.tape → AreMarked false (length xs) place s.layers →
    AllFit reach xs place s
new_fit [] reach place s on w m = tt
new_fit (x ∷ xs) reach place s on w m =
    let stale = marked-first false (length xs) place s m in
    let first : write_fits reach Forward place s ≡ true =
    rw (stale, new-fits reach s (w.begun (omega arith)) on) refl in
    let rest : AllFit reach xs (place + 1) (newly_written Forward place x s) =
    new_fit xs reach (place + 1) (newly_written Forward place x s) refl
    (within-next (length xs) s.tape w) (marked-next false (length xs) place _ x s.layers m) in
    (first, rw stale rest)

-- new cells in a row are so many writes
pub new_written : {A : Type 0} (xs : List A) (place : ℕ) (s : Stack A) →
    AreMarked false (length xs) place s.layers → newly_on xs place s ≡ written_span xs place s
new_written [] place s m = refl
new_written (x ∷ xs) place s m =
    let stale = marked-first false (length xs) place s m in
    let rest : newly_on xs (place + 1) (newly_written Forward place x s) ≡ written_span xs
    (place + 1) (newly_written Forward place x s) = new_written xs (place + 1)
    (newly_written Forward place x s) (marked-next false (length xs) place _ x s.layers m) in
    rw stale rest

-- addresses in a row become the frames there
newly-seen : (xs : List Sound) (f : ℕ → Sound) (place a : ℕ) (s : Stack ℕ) →
    ((k : ℕ) → k < length xs → f (a + k) ≡ get_or xs k silence) →
    stack_map f (newly_written_span (length xs) place a s) ≡ newly_on xs place (stack_map f s)
newly-seen [] f place a s e = refl
newly-seen (x ∷ xs) f place a s e =
    let z : a + 0 ≡ a = omega arith in
    let first : f a ≡ x = rw z at (e 0 (omega arith)) in
    let rest = newly-seen xs f (place + 1) (a + 1) (newly_written Forward place a s)
    (λ k lt. let y : a + 1 + k ≡ a + suc k = omega arith in
    rw y (e (suc k) (omega (arith, lt)))) in
    trans rest (ap (λ t. newly_on xs (place + 1) t)
    (trans (newly-mapped f Forward place a s)
    (ap (λ y. newly_written Forward place y (stack_map f s)) first)))

marked-mapped : {A B : Type 0} (f : A → B) (b : Bool) (n place : ℕ) (ls : List (Layer A)) →
    AreMarked b n place ls → AreMarked b n place (map (layer_map f) ls)
marked-mapped f b n place ls m k lt =
    rw (cells-mapped f ls, fresh_at-mapped f (place + k) (current_cells ls)) (m k lt)

-- what is kept where new cells were written in a row
more-none : (r : Option LastWrite) → is_some r ≡ true → more_seams r ≡ 0
more-none r on = rw on refl

held-span : (k tape : ℕ) (closed : LayersOf) (d : FillOf) (top : Option Top) (pin : Option ℕ)
    (pinned : List ℕ) (place seams : ℕ) → IsTrue (is_some top) → is_some d.streak ≡ true →
    Holds tape closed d top pin pinned seams →
    Holds (tape + k) closed (fill_written_span k place d) top pin pinned seams
held-span zero tape closed d top pin pinned place seams w on h = let z : tape + 0 ≡ tape =
    omega arith in rw z h
held-span (suc k) tape closed d None pin pinned place seams w on h = let no : ⊥ = cc in absurd no
held-span (suc k) tape closed d (Some t) pin pinned place seams w on h =
    let m = more-none d.streak on in
    let few : total_seams closed.layers + (d.seams + more_seams d.streak) ≤ max_seams = let f =
    h.opened.few in rw m (omega (arith, f)) in
    let same : seams ≡ seams + more_seams d.streak = rw m (omega arith) in
    let one = held-pushed-in tape closed d (fill_written Forward place d) (Some t) pin pinned
    Forward place seams seams (tape + 1) w h few same refl refl in
    let y : tape + 1 + k ≡ tape + suc k = omega arith in
    rw y at (held-span k (tape + 1) closed (fill_written Forward place d) (Some t) pin pinned
    (place + 1) seams w refl one)

-- the stack behind them
stack-span : (k : ℕ) (tape tape' : TapeOf) (closed : LayersOf) (d d' : FillOf) (top : Option Top)
    (pin : Option ℕ) (pinned : List ℕ) (place seams : ℕ) → IsTrue (is_some top) →
    is_some d.streak ≡ true → d.floor ≤ d.next → Holds tape.len closed d top pin pinned seams →
    tape'.len ≡ tape.len + k → d' ≡ fill_written_span k place d →
    (held_by tape' closed d' top pin pinned).stack ≡ newly_written_span k place tape.len
    (held_by tape closed d top pin pinned).stack
stack-span zero tape tape' closed d d' top pin pinned place seams w on le h n e =
    let z : tape'.len ≡ tape.len = omega (arith, n) in rw (e, z) refl
stack-span (suc k) tape tape' closed d d' top pin pinned place seams w on le h n e =
    let tape1 : TapeOf = record { chunks = tape.chunks; len = tape.len + 1; room = tape.room } in
    let d1 : FillOf = fill_written Forward place d in
    let one = stack-pushed tape tape1 closed d d1 top pin pinned Forward place w le h.opened refl
    refl in
    let y : tape.len + 1 ≡ tape.len + suc 0 = omega arith in
    let held : Holds (tape.len + 1) closed d1 top pin pinned seams =
    rw (sym y) at (held-span (suc 0) tape.len closed d top pin pinned place seams w on h) in
    let rest = stack-span k tape1 tape' closed d1 d' top pin pinned (place + 1) seams w refl
    (omega (arith, le)) held (omega (arith, n)) e in
    trans rest (ap (λ t. newly_written_span k (place + 1) (tape.len + 1) t) one)

-- what always holds, with a row written
pub held-span-in : (k tape n : ℕ) (closed : LayersOf) (d d' : FillOf) (top : Option Top)
    (pin : Option ℕ) (pinned : List ℕ) (place seams : ℕ) → IsTrue (is_some top) →
    IsTrue (is_some d.streak) → Holds tape closed d top pin pinned seams → n ≡ tape + k →
    d' ≡ fill_written_span k place d → Holds n closed d' top pin pinned seams
held-span-in k tape n closed d d' top pin pinned place seams w on h en ed =
    rw (en, ed)
    (held-span k tape closed d top pin pinned place seams w (is-true (is_some d.streak) on)
    h)

-- the stack with a row written
pub stack-span-in : (k : ℕ) (tape tape' : TapeOf) (closed : LayersOf) (d d' : FillOf)
    (top : Option Top) (pin : Option ℕ) (pinned : List ℕ) (place seams : ℕ) → IsTrue (is_some top) →
    IsTrue (is_some d.streak) → d.floor ≤ d.next → Holds tape.len closed d top pin pinned seams →
    tape'.len ≡ tape.len + k → d' ≡ fill_written_span k place d →
    (held_by tape' closed d' top pin pinned).stack ≡ newly_written_span k place tape.len
    (held_by tape closed d top pin pinned).stack
stack-span-in k tape tape' closed d d' top pin pinned place seams w on le h n e =
    stack-span k tape tape' closed d d' top pin pinned place seams w
    (is-true (is_some d.streak) on) le
    h n e

-- new cells in a row
pub pushes-span : (h h' : Held) (p p' : PoolOf) (place : ℕ) (xs : List Sound) →
    h'.stack ≡ newly_written_span (length xs) place h.tape.len h.stack → h'.writing ≡ true →
    AreMarked false (length xs) place h.stack.layers → IsTrue (is_some h.stack.streak) →
    h.stack.tape ≡ h.tape.len → h.tape.len % 4096 ≢ 0 → h.tape.len % 4096 + length xs ≤ 4096 →
    StackBelow h.tape.len h.stack → IsWhole h'.tape → PushedAll h.tape h'.tape p p' xs →
    WritesSpan xs place h h' p p'
pushes-span h h' p p' place xs e w m on et begun within b whole c =
    let f : ℕ → Sound = at h'.tape p' in
    let agree : stack_map f h.stack ≡ seen h p =
    stack-agrees f (at h.tape p) h.tape.len h.stack c.kept b in
    let marked : AreMarked false (length xs) place (seen h p).layers =
    marked-mapped (at h.tape p) false (length xs) place h.stack.layers m in
    let chunk : IsWithin (length xs) (seen h p).tape =
    rw et (record { begun = λ some. begun; within = within }) in
    record {
      fits = new_fit xs (reach h p) place (seen h p) (is-true (is_some h.stack.streak) on) chunk
          marked;
      seen = trans (ap (λ s. stack_map f s) e)
          (trans (newly-seen xs f place h.tape.len h.stack c.new)
          (trans (ap (λ s. newly_on xs place s) agree) (new_written xs place (seen h p) marked)));
      writing = w;
      keeps = record {
        owns = c.owned;
        whole = whole;
        others = c.others;
        reached = c.chunks;
        all =
            c.all;
      };
    }

-- nothing written
pub writes-none : (h : Held) (p : PoolOf) (place : ℕ) (xs : List Sound) → IsTrue h.writing →
    TapeOwns h.tape p → IsWhole h.tape → WritesSpan (take 0 xs) place h h p p
writes-none h p place xs w o whole = record {
  fits = tt;
  seen = refl;
  writing = is-true h.writing w;
  keeps = record {
    owns = o;
    whole = whole;
    others = λ u size ou apart.
        record { owned = ou; apart = apart; frames = λ a lt. refl };
    reached = refl;
    all = refl;
  };
}

-- fresh cells in a row
pub fresh_fit : {A : Type 0} (xs : List A) (reach place : ℕ) (s : Stack A) →
    AreMarked true (length xs) place s.layers → AllFit reach xs place s
fresh_fit [] reach place s m = tt
fresh_fit (x ∷ xs) reach place s m =
    let fresh = marked-first true (length xs) place s m in
    let first : write_fits reach Forward place s ≡ true = rw fresh refl in
    let rest : AllFit reach xs (place + 1) (rewritten Forward place x s) =
    fresh_fit xs reach (place + 1) (rewritten Forward place x s)
    (marked-next true (length xs) place 0 x s.layers m) in
    (first, rw fresh rest)

-- frames with another at one address
abbrev changed_at : {A : Type 0} → ℕ → A → (ℕ → A) → ℕ → A
changed_at a x f b = if b == a then x else f b

changed-there : {A : Type 0} (a : ℕ) (x : A) (f : ℕ → A) → changed_at a x f a ≡ x
changed-there a x f = let e : (a == a) ≡ true = grind arith in rw e refl

changed-elsewhere : {A : Type 0} (a b : ℕ) (x : A) (f : ℕ → A) → b ≢ a → changed_at a x f b ≡ f b
changed-elsewhere a b x f ne = let e : (b == a) ≡ false = ne_eqb b a ne in rw e refl

-- the frames at the addresses in a row, and those elsewhere
record AreOverwritten (n a : ℕ) (xs : List Sound) (g f : ℕ → Sound) : Type 0 where
  there : (k : ℕ) → k < length xs → g (a + k) ≡ get_or xs k silence
  before : (b : ℕ) → b < a → g b ≡ f b
  behind : (b : ℕ) → a + length xs ≤ b → b < n → g b ≡ f b

overwritten-as : (c : Bool) (n a b : ℕ) (x : Sound) (xs : List Sound) (g f : ℕ → Sound) →
    (b == a) ≡ c → AreOverwritten n a (x ∷ xs) g f → b < a + 1 → g b ≡ changed_at a x f b
overwritten-as true n a b x xs g f e o lt = let z : b ≡ a = grind (arith, e) in let y : a + 0 ≡ a =
    omega arith in rw (z, changed-there a x f) (rw y at (o.there 0 (omega arith)))
overwritten-as false n a b x xs g f e o lt = let ne : b ≢ a = grind (arith, e) in
    rw (changed-elsewhere a b x f ne) (o.before b (omega (arith, ne, lt)))

overwritten-next : (n a : ℕ) (x : Sound) (xs : List Sound) (g f : ℕ → Sound) →
    AreOverwritten n a (x ∷ xs) g f → AreOverwritten n (a + 1) xs g (changed_at a x f)
overwritten-next n a x xs g f o = record {
  there = λ k lt. let y : a + 1 + k ≡ a + suc k = omega arith in
      rw y (o.there (suc k) (omega (arith, lt)));
  before = λ b lt. overwritten-as (b == a) n a b x xs g f refl o lt;
  behind = λ b le lt. rw (changed-elsewhere a b x f (λ e. omega (arith, e, le)))
      (o.behind b (omega (arith, le)) lt);
}

none-overwritten : (c : Bool) (n a b : ℕ) (g f : ℕ → Sound) → nat_lt b a ≡ c →
    AreOverwritten n a [] g f → b < n → g b ≡ f b
none-overwritten true n a b g f e o lt = o.before b (grind (arith, e))
none-overwritten false n a b g f e o lt =
    o.behind b (let h : a ≤ b = grind (arith, e) in omega (arith, h)) lt

over-seen : (xs : List Sound) (g f : ℕ → Sound) (n place a : ℕ) (s : Stack ℕ) → StackBelow n s →
    AreAlone (length xs) place a s → AreMarked true (length xs) place s.layers →
    AreOverwritten n a xs g f →
    stack_map g (streak_broken s) ≡ written_span xs place (stack_map f (streak_broken s))
over-seen [] g f n place a s b al m o =
    stack-agrees g f n (streak_broken s) (λ i lt. none-overwritten (nat_lt i a) n a i g f refl o lt)
    (record { layers = b.layers; redo = b.redo; pin = b.pin })
over-seen (x ∷ xs) g f n place a s b al m o =
    let f1 : ℕ → Sound = changed_at a x f in
    let zp : place + 0 ≡ place = omega arith in
    let za : a + 0 ≡ a = omega arith in
    let here : Alone place a s = rw (zp, za) at (al 0 (omega arith)) in
    let first : stack_map f1 (streak_broken s) ≡ rewritten Forward place x (stack_map f s) =
    stack-rewritten f1 f Forward n place a x s.layers s refl refl
    (λ i lt ne. changed-elsewhere a i x f ne) (changed-there a x f) b.layers b.redo b.pin
    here.layers here.redo here.pin in
    let rest = over-seen xs g f1 n (place + 1) (a + 1) s b
    (λ k lt. let yp : place + 1 + k ≡ place + suc k = omega arith in
    let ya : a + 1 + k ≡ a + suc k = omega arith in rw (yp, ya) (al (suc k) (omega (arith, lt))))
    (λ k lt. let yp : place + 1 + k ≡ place + suc k = omega arith in
    rw yp (m (suc k) (omega (arith, lt))))
    (overwritten-next n a x xs g f o) in
    let fresh : meets_fresh Forward place (stack_map f (streak_broken s)) ≡ true =
    trans (fresh-mapped f Forward place (streak_broken s))
    (marked-first true (length xs) place (streak_broken s) m) in
    trans rest (trans (ap (λ t. written_span xs (place + 1) t) first) (rw fresh refl))

broken-same : {A : Type 0} (x : A) (xs : List A) (place : ℕ) (s : Stack A) →
    meets_fresh Forward place s ≡ true →
    written_span (x ∷ xs) place (streak_broken s) ≡ written_span (x ∷ xs) place s
broken-same x xs place s e = rw e refl

over-all : (xs : List Sound) (f g : ℕ → Sound) (n place a : ℕ) (s : Stack ℕ) → 1 ≤ length xs →
    StackBelow n s → AreAlone (length xs) place a s → AreMarked true (length xs) place s.layers →
    AreOverwritten n a xs g f →
    stack_map g (streak_broken s) ≡ written_span xs place (stack_map f s)
over-all [] f g n place a s some b al m o = absurd (omega (arith, some))
over-all (x ∷ xs) f g n place a s some b al m o =
    let fresh : meets_fresh Forward place (stack_map f s) ≡ true =
    trans (fresh-mapped f Forward place s) (marked-first true (length xs) place s m) in
    trans (over-seen (x ∷ xs) g f n place a s b al m o)
    (broken-same x xs place (stack_map f s) fresh)

-- a row over fresh cells
pub rewrites-span : (h h' : Held) (p p' : PoolOf) (place a : ℕ) (xs : List Sound) →
    h'.stack ≡ streak_broken h.stack → h'.tape ≡ h.tape → h'.writing ≡ true → 1 ≤ length xs →
    AreMarked true (length xs) place h.stack.layers → StackBelow h.tape.len h.stack →
    AreAlone (length xs) place a h.stack → AreSet h.tape h.tape p p' a xs → IsWhole h.tape →
    WritesSpan xs place h h' p p'
rewrites-span h h' p p' place a xs e et w some m b al c whole =
    let f : ℕ → Sound = at h.tape p in
    let g : ℕ → Sound = at h'.tape p' in
    let over : AreOverwritten h.tape.len a xs g f =
    rw et (record { there = c.there; before = c.before; behind = c.behind }) in
    let free : length p'.free ≡ length p.free = ap length c.free in
    record {
      fits = fresh_fit xs (reach h p) place (seen h p)
          (marked-mapped f true (length xs) place h.stack.layers m);
      seen = trans (ap (λ s. stack_map g s) e)
          (over-all xs f g h.tape.len place a h.stack some b al m over);
      writing = w;
      keeps = rw et (record {
        owns = c.owned;
        whole = whole;
        others = c.others;
        reached =
            omega (arith, free);
        all = c.all;
      });
    }

-- the marks of cells in a row, and where they lie
pub marked-row : (top : Option Top) (d : FillOf) (closed : List (Layer ℕ)) (b : Bool)
    (n place : ℕ) → IsTrue (is_some top) → place + n ≤ length d.cells →
    ((k : ℕ) → k < n → nat_le d.floor (get_or d.cells (place + k) 0) ≡ b) →
    AreMarked b n place (stacked top d closed)
marked-row top d closed b n place w le at k lt =
    trans (stale-in top d closed (place + k) w (omega (arith, le, lt))) (at k lt)

-- a row of fresh cells
pub fresh-rows : (floor a n place : ℕ) (cells : List ℕ) → a ≡ get_or cells place 0 →
    (1 ≤ n → floor ≤ get_or cells place 0) →
    ((k : ℕ) → k < n → get_or cells (place + k) 0 ≡ get_or cells place 0 + k) → (k : ℕ) → k < n →
    nat_le floor (get_or cells (place + k) 0) ≡ true
fresh-rows floor a n place cells e first row k lt =
    let r = row k lt in
    let f = first (omega (arith, lt)) in
    let le : floor ≤ get_or cells (place + k) 0 = omega (arith, r, f) in
    grind (arith, le)

-- each of its addresses stands nowhere else
pub alone-row : (tape : TapeOf) (closed : LayersOf) (d : FillOf) (top : Option Top) (pin : Option ℕ)
    (pinned : List ℕ) (seams place a n : ℕ) → IsTrue (is_some top) →
    Holds tape.len closed d top pin pinned seams → IsFill d → place + n ≤ length d.cells →
    a ≡ get_or d.cells place 0 → (1 ≤ n → d.floor ≤ get_or d.cells place 0) →
    ((k : ℕ) → k < n → get_or d.cells (place + k) 0 ≡ get_or d.cells place 0 + k) →
    AreAlone n place a (held_by tape closed d top pin pinned).stack
alone-row tape closed d top pin pinned seams place a n w h i le e first row k lt =
    let r : get_or d.cells (place + k) 0 ≡ a + k = rw e (row k lt) in
    let f = first (omega (arith, lt)) in
    alone-in tape closed d top pin pinned seams (place + k) (a + k) w h i (omega (arith, le, lt))
    (sym r) (omega (arith, e, f))

-- the first of the frames that were offered
take-first : (xs : List Sound) (a b : ℕ) → a ≤ b → take a (take b xs) ≡ take a xs
take-first xs zero b le = refl
take-first [] (suc a) zero le = refl
take-first [] (suc a) (suc b) le = refl
take-first (x ∷ xs) (suc a) zero le = absurd (omega (arith, le))
take-first (x ∷ xs) (suc a) (suc b) le = ap (λ t. x ∷ t) (take-first xs a b (omega (arith, le)))

-- a row of new cells
pub pushes-row : (k : ℕ) (h h' : Held) (p p' : PoolOf) (place most old : ℕ) (xs : List Sound) →
    k ≤ most → most ≤ length xs → most ≤ old → IsTrue h.writing → TapeOwns h.tape p →
    IsWhole h.tape → (k ≡ 0 → (h' ≡ h) × (p' ≡ p)) → (1 ≤ k → IsTrue (is_some h.stack.streak)) →
    (1 ≤ k → h'.stack ≡ newly_written_span k place h.tape.len h.stack) → h'.writing ≡ true →
    (1 ≤ k → PushedAll h.tape h'.tape p p' (take k (take most xs))) → IsWhole h'.tape →
    AreMarked false old place h.stack.layers → h.stack.tape ≡ h.tape.len → h.tape.len % 4096 ≢ 0 →
    h.tape.len % 4096 + most ≤ 4096 → StackBelow h.tape.len h.stack →
    WritesSpan (take k xs) place h h' p p'
pushes-row zero h h' p p' place most old xs le within few w o whole none on e w' c whole' m et begun
    chunk b =
    let same = none refl in
    rw (same.0, same.1) (writes-none h p place xs w o whole)
pushes-row (suc k) h h' p p' place most old xs le within few w o whole none on e w' c whole' m et
    begun chunk b =
    let some : 1 ≤ suc k = omega arith in
    let n : length (take (suc k) xs) ≡ suc k =
    length-take-le (suc k) xs (omega (arith, le, within)) in
    let pushed : PushedAll h.tape h'.tape p p' (take (suc k) xs) =
    rw (take-first xs (suc k) most le) at (c some) in
    let stack : h'.stack ≡ newly_written_span (length (take (suc k) xs)) place h.tape.len h.stack =
    rw n (e some) in
    let marked : AreMarked false (length (take (suc k) xs)) place h.stack.layers =
    λ i lt. m i (omega (arith, n, lt, le, few)) in
    pushes-span h h' p p' place (take (suc k) xs) stack w' marked (on some) et begun
    (omega (arith, n, chunk, le)) b whole' pushed

pub ruleset rows = (held-span-in, stack-span-in, pushes-span, rewrites-span)

pub ruleset marks = (marked-row, fresh-rows, alone-row)

pub ruleset none = (writes-none)

pub ruleset answers = (pushes-span, rewrites-span)
