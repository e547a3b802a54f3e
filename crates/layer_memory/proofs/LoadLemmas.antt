-- What loading a list leaves.
use Rattle.std.proofs.Common.{◌≡◌, ◌≤◌, ◌<◌, ℕ, ◌+◌, ◌%◌, Bool, true, false, List, [], ◌∷◌, ◌++◌, map, length, Option, Some, None, refl, ap, arith, suc, zero, get_or, IsFalse, is_some}
use Rattle.std.proofs.lemmas.List.{length-map}
use Rattle.std.proofs.lemmas.List.Sums.{sum_by-cons}
use Rattle.sl_base.specs.Sounds.{Sound, silence}
use Rattle.looper_rules.specs.Layers.{current_end, seams_of}
use Rattle.looper_rules.specs.Mapping.{stack_map}
use Rattle.looper_rules.specs.Room.{chunks_of}
use Rattle.looper_rules.specs.Saves.{pinned}
use Rattle.looper_rules.specs.Run.{loaded}
use Rattle.pieces.specs.Pieces.{Piece, addresses, piece_addresses}
use Rattle.loop_tape.specs.Pools.{PoolOf}
use Rattle.loop_tape.specs.Tapes.{TapeOf, at, Owns, IsWhole, Pushed}
use Rattle.lazy_fill.specs.Addresses.{Below}
use Rattle.lazy_fill.specs.Fills.{FillOf}
use Rattle.undo_stack.specs.Layered.{LayersOf, closed_of}
use Rattle.layer_memory.specs.Kept.{StackBelow}
use Rattle.layer_memory.specs.Seen.{Held, seen}
use Rattle.layer_memory.specs.Answers.{Loads}
use Rattle.layer_memory.specs.Inside.{pin_of, held_by, Holds}
use Rattle.layer_memory.specs.declared.layers.Top.{Top}
use Rattle.std.specs.List.{range_with_len}
use Rattle.std.proofs.lemmas.List.{ext_get_or, get_or_append_left}
use Rattle.std.proofs.lemmas.List.FromFn.{get_or-range_with_len, length-range_with_len}
use Rattle.std.proofs.Math.Seq.{get_or-append_seam}
use Rattle.std.proofs.Common.{length-append, append-nil}
use Rattle.layer_memory.specs.Appending.{Appended}
use Rattle.layer_memory.proofs.SeenLemmas.{loaded-mapped, stack-agrees}
use Rattle.layer_memory.proofs.KeptLemmas.{end-within}
use Rattle.layer_memory.proofs.ClosingLemmas.{contents-old}
use Rattle.layer_memory.proofs.ReadLemmas.{get-mapped}
use Rattle.layer_memory.proofs.SpanLemmas.{piece-at, length-piece}
use Rattle.layer_memory.proofs.WriteLemmas.{pin-more}

-- equal to an equal
pub trans : {A : Type 0} {x y z : A} → x ≡ y → y ≡ z → x ≡ z
trans e f = rw e f

length-last : (xs : List Sound) (x : Sound) → length (xs ++ x ∷ []) ≡ length xs + 1
length-last xs x = length-append xs (x ∷ [])

before-last : (xs : List Sound) (x : Sound) (k : ℕ) → k < length xs →
    get_or (xs ++ x ∷ []) k silence ≡ get_or xs k silence
before-last xs x k lt = get_or_append_left xs (x ∷ []) silence k lt

at-last : (xs : List Sound) (x : Sound) (k : ℕ) → k ≡ length xs →
    get_or (xs ++ x ∷ []) k silence ≡ x
at-last xs x k e = rw e (get_or-append_seam xs x [] silence)

new-more : (t u v : TapeOf) (p q r : PoolOf) (xs : List Sound) (x : Sound) → Appended t u p q xs →
    Pushed u v q r x → (k : ℕ) → k < length xs + 1 →
    at v r (t.len + k) ≡ get_or (xs ++ x ∷ []) k silence
new-more t u v p q r xs x a b k lt =
    grind (arith, a.new k, b.kept (t.len + k), b.last, a.len, before-last xs x k, at-last xs x k)

-- one frame more
pub appended-more : (t u v : TapeOf) (p q r : PoolOf) (xs : List Sound) (x : Sound) →
    Appended t u p q xs → Pushed u v q r x → Appended t v p r (xs ++ x ∷ [])
appended-more t u v p q r xs x a b = record {
  len = let l = length-last xs x in let m = a.len in let n = b.len in omega (arith, l, m, n);
  new = λ k lt. new-more t u v p q r xs x a b k (let l = length-last xs x in omega (arith, l, lt));
  kept = λ k lt. let m = a.len in trans (b.kept k (omega (arith, m, lt))) (a.kept k lt);
  owned = b.owned;
  others = λ w whole ow apart.
      let s = a.others w whole ow apart in
      let s2 = b.others w whole s.owned s.apart in
      record {
        owned = s2.owned;
        apart = s2.apart;
        frames =
            λ k lk. trans (s2.frames k lk) (s.frames k lk);
      };
  chunks = let m = a.chunks in let n = b.chunks in omega (arith, m, n);
  all = let m = a.all in let n = b.all in omega (arith, m, n);
}

-- the next frame finds room
pub has-room : (t u : TapeOf) (p q : PoolOf) (xs : List Sound) (n : ℕ) (r : Bool) →
    (r ≡ false → (u.len % 4096 ≡ 0) × (length q.free ≡ 0)) → Appended t u p q xs → IsWhole u →
    length xs < n → chunks_of (t.len + n) ≤ length t.chunks + length p.free → r ≡ true
has-room t u p q xs n true full a whole lt room = refl
has-room t u p q xs n false full a whole lt room = let h = full refl in let m = a.len in
    let c = a.chunks in let g : u.len % 4096 ≡ 0 = h.0 in let f : length q.free ≡ 0 = h.1 in
    absurd (omega (arith, m, c, g, f, whole, lt, room))

-- the addresses of one forward piece
pub addresses-forward : (start n : ℕ) →
    addresses (record { start = start; len = n; backward = false } ∷ []) ≡ range_with_len start n
addresses-forward start n =
    let p : Piece = record { start = start; len = n; backward = false } in
    let l = length-piece p in
    let m = length-range_with_len start n in
    trans (append-nil (piece_addresses p))
    (ext_get_or 0 (piece_addresses p) (range_with_len start n) (omega (arith, l, m))
    (λ i lt. let a = piece-at p i (omega (arith, l, lt)) in
    let b = get_or-range_with_len start n i 0 (omega (arith, l, lt)) in omega (arith, a, b)))

-- the addresses from one on are below the one behind them
pub low-range : (start n m : ℕ) → start + n ≤ m → Below m (range_with_len start n)
low-range start zero m le = tt
low-range start (suc n) m le = (omega (arith, le), low-range (start + 1) n m (omega (arith, le)))

-- what is kept where a list is loaded
pub held-loaded : (tape tape' n cycle : ℕ) (closed closed' : LayersOf) (d : FillOf)
    (top : Option Top) (pin : Option ℕ) (pinned : List ℕ) (seams seams' : ℕ) →
    IsFalse (is_some top) → Holds tape closed d top pin pinned seams → tape' ≡ tape + n →
    closed'.layers ≡ closed_of (range_with_len tape n) cycle tape' 2 ∷ closed.layers →
    closed'.redo ≡ [] → seams' ≡ seams + 2 → Holds tape' closed' d top pin pinned seams'
held-loaded tape tape' n cycle closed closed' d (Some t) pin pinned seams seams' w h et el er es =
    grind (arith, w)
held-loaded tape tape' n cycle closed closed' d None pin pinned seams seams' w h et el er es =
    record {
      ordered = rw el (
        let x = end-within tape (current_end closed.layers) closed.redo h.goes_on in
            omega (arith, x, et),
        (
          record {
            below = rw (contents-old (range_with_len tape n), et)
                (low-range tape n (tape + n) (omega arith));
            no_base = refl;
            not_fresh =
                rw (contents-old (range_with_len tape n)) refl;
          },
          h.ordered,
        ),
      );
      goes_on = rw (el, er) (omega arith);
      pin_within = pin-more tape tape' (pin_of pin pinned) (omega (arith, et)) h.pin_within;
      opened = tt;
      total = rw el (let r = sum_by-cons seams_of (closed_of (range_with_len tape n) cycle tape' 2)
          closed.layers in let e = h.total in omega (arith, r, e, es));
    }

-- the stack with a list loaded
pub stack-loaded : (tape tape' : TapeOf) (n cycle : ℕ) (closed closed' : LayersOf) (d : FillOf)
    (top : Option Top) (pin : Option ℕ) (pinned : List ℕ) → IsFalse (is_some top) →
    closed.redo ≡ [] → tape'.len ≡ tape.len + n →
    closed'.layers ≡ closed_of (range_with_len tape.len n) cycle tape'.len 2 ∷ closed.layers →
    closed'.redo ≡ [] → (held_by tape' closed' d top pin pinned).stack ≡ loaded
    (range_with_len tape.len n) cycle (held_by tape closed d top pin pinned).stack
stack-loaded tape tape' n cycle closed closed' d (Some t) pin pinned w r et el er = grind (arith, w)
stack-loaded tape tape' n cycle closed closed' d None pin pinned w r et el er =
    rw (el, er, r, et, length-range_with_len tape.len n) refl

-- the frames at the new addresses
pub loaded-frames : (t t' : TapeOf) (p p' : PoolOf) (xs : List Sound) → Appended t t' p p' xs →
    map (at t' p') (range_with_len t.len (length xs)) ≡ xs
loaded-frames t t' p p' xs a =
    let l = length-range_with_len t.len (length xs) in
    let m = length-map (range_with_len t.len (length xs)) (at t' p') in
    ext_get_or silence (map (at t' p') (range_with_len t.len (length xs))) xs (omega (arith, l, m))
    (λ i lt.
    let within : i < length xs = omega (arith, l, m, lt) in
    let g = get-mapped (at t' p') (range_with_len t.len (length xs)) i 0 silence
    (omega (arith, l, within)) in
    let r = get_or-range_with_len t.len (length xs) i 0 within in
    trans g (trans (ap (at t' p') r) (a.new i within)))

-- a list that is loaded, with the pool
pub loaded-seen : (h h' : Held) (p p' : PoolOf) (xs : List Sound) (cycle : ℕ) →
    h'.stack ≡ loaded (range_with_len h.stack.tape (length xs)) cycle h.stack →
    h.stack.tape ≡ h.tape.len → StackBelow h.tape.len h.stack → Appended h.tape h'.tape p p' xs →
    seen h' p' ≡ loaded xs cycle (seen h p)
loaded-seen h h' p p' xs cycle e n b a =
    let f : ℕ → Sound = at h'.tape p' in
    let agree = stack-agrees f (at h.tape p) h.tape.len h.stack a.kept b in
    let frames = loaded-frames h.tape h'.tape p p' xs a in
    let list : map f (range_with_len h.stack.tape (length xs)) ≡ xs = rw n frames in
    trans (ap (λ s. stack_map f s) e)
    (trans (loaded-mapped f (range_with_len h.stack.tape (length xs)) cycle h.stack)
    (trans (ap (λ ys. loaded ys cycle (stack_map f h.stack)) list)
    (ap (λ s. loaded xs cycle s) agree)))

-- and all that a loading leaves
pub loads_list : (h h' : Held) (p p' : PoolOf) (xs : List Sound) (cycle : ℕ) →
    h'.stack ≡ loaded (range_with_len h.stack.tape (length xs)) cycle h.stack → h'.writing ≡ false →
    h.stack.tape ≡ h.tape.len → StackBelow h.tape.len h.stack → IsWhole h'.tape →
    Appended h.tape h'.tape p p' xs → Loads xs cycle h h' p p'
loads_list h h' p p' xs cycle e w n b whole a = record {
  stack = e;
  seen = loaded-seen h h' p p' xs cycle e n b a;
  writing = w;
  keeps = record {
    owns = a.owned;
    whole = whole;
    others = a.others;
    reached = a.chunks;
    all =
        a.all;
  };
}

pub ruleset lays = (addresses-forward, held-loaded, stack-loaded, length-range_with_len)

pub ruleset loads = (loads_list)
