-- What writing, cutting and extending keep of the layer that is written.
use Rattle.std.proofs.Common.{◌≡◌, ◌≢◌, ◌≤◌, ◌<◌, ℕ, ◌+◌, true, List, [], ◌∷◌, ◌++◌, length, take, refl, sym, subst, ap, arith, suc, zero, Option, Some, None, length-append}
use Rattle.std.specs.Prelude.{slice_set, nat_le}
use Rattle.std.specs.List.{insert}
use Rattle.sl_base.specs.Limits.{max_list_frames, max_seams}
use Rattle.sl_commands.specs.declared.How.{How}
use Rattle.sl_commands.specs.declared.How.TheVariants.{Forward, Backward, Insert, Append}
use Rattle.looper_rules.specs.Layers.{fresh_cell}
use Rattle.looper_rules.specs.Stack.{LastWrite}
use Rattle.looper_rules.specs.States.{IsBehind}
use Rattle.looper_rules.specs.WritePlaces.{Follows, IsPlace}
use Rattle.looper_rules.specs.Writing.{with_cell}
use Rattle.pieces.specs.Pieces.{Piece, Solid, addresses, total}
use Rattle.pieces.proofs.AddressLemmas.{length-addresses, addresses-append, addresses-before}
use Rattle.pieces.proofs.OneMoreLemmas.{overwritten-length, overwritten-length-continues, inserted-length, inserted-length-continues, joined-length, joined-length-continues, continues-extended, overwritten-solid, inserted-solid, joined-solid, solid-append, solid-before, before-few}
use Rattle.pieces.proofs.BackwardLemmas.{down-length, down-length-continues, down-extended, overwritten-down-solid}
use Rattle.lazy_fill.specs.Addresses.{Below, Without, Once}
use Rattle.lazy_fill.specs.Marks.{marked, marked_cell}
use Rattle.lazy_fill.specs.Streaks.{with_address, more_seams, IsShort, HasStreak, IsStreakOn, MeetsPiece, pieces_written}
use Rattle.lazy_fill.specs.Fills.{FillOf, IsFill, fill_written, fill_cut, fill_extended}

-- what is below a number is below a greater one
pub below-more : (m n : ℕ) (xs : List ℕ) → m ≤ n → Below m xs → Below n xs
below-more m n [] le b = tt
below-more m n (x ∷ xs) le b = (omega (arith, le, b.0), below-more m n xs le b.1)

below-set : (n place a : ℕ) (xs : List ℕ) → a < n → Below n xs → Below n (slice_set xs place a)
below-set n place a [] lt b = tt
below-set n zero a (x ∷ xs) lt b = (lt, b.1)
below-set n (suc place) a (x ∷ xs) lt b = (b.0, below-set n place a xs lt b.1)

below-insert : (n place a : ℕ) (xs : List ℕ) → a < n → Below n xs → Below n (insert xs place a)
below-insert n zero a [] lt b = (lt, tt)
below-insert n zero a (x ∷ xs) lt b = (lt, b)
below-insert n (suc place) a [] lt b = (lt, tt)
below-insert n (suc place) a (x ∷ xs) lt b = (b.0, below-insert n place a xs lt b.1)

-- two lists below a number, one behind the other
pub below-append : (n : ℕ) (xs ys : List ℕ) → Below n xs → Below n ys → Below n (xs ++ ys)
below-append n [] ys b c = c
below-append n (x ∷ xs) ys b c = (b.0, below-append n xs ys b.1 c)

-- addresses with the next one written among them
pub below-written : (how : How) (place a : ℕ) (xs : List ℕ) → Below a xs →
    Below (a + 1) (with_address how place a xs)
below-written Forward place a xs b =
    below-set (a + 1) place a xs (omega arith) (below-more a (a + 1) xs (omega arith) b)
below-written Backward place a xs b =
    below-set (a + 1) place a xs (omega arith) (below-more a (a + 1) xs (omega arith) b)
below-written Insert place a xs b =
    below-insert (a + 1) place a xs (omega arith) (below-more a (a + 1) xs (omega arith) b)
below-written Append place a xs b =
    below-append (a + 1) xs (a ∷ []) (below-more a (a + 1) xs (omega arith) b) (omega arith, tt)

-- an address above all others is another than each
without-above : (a : ℕ) (xs : List ℕ) → Below a xs → Without a xs
without-above a [] b = tt
without-above a (x ∷ xs) b = ((λ e. omega (arith, e, b.0)), without-above a xs b.1)

without-set : (x place a : ℕ) (xs : List ℕ) → a ≢ x → Without x xs →
    Without x (slice_set xs place a)
without-set x place a [] ne w = tt
without-set x zero a (y ∷ ys) ne w = (ne, w.1)
without-set x (suc place) a (y ∷ ys) ne w = (w.0, without-set x place a ys ne w.1)

without-insert : (x place a : ℕ) (xs : List ℕ) → a ≢ x → Without x xs →
    Without x (insert xs place a)
without-insert x zero a [] ne w = (ne, tt)
without-insert x zero a (y ∷ ys) ne w = (ne, w)
without-insert x (suc place) a [] ne w = (ne, tt)
without-insert x (suc place) a (y ∷ ys) ne w = (w.0, without-insert x place a ys ne w.1)

without-append : (x : ℕ) (xs ys : List ℕ) → Without x xs → Without x ys → Without x (xs ++ ys)
without-append x [] ys w v = v
without-append x (y ∷ xs) ys w v = (w.0, without-append x xs ys w.1 v)

once-set : (floor place a : ℕ) (xs : List ℕ) → Below a xs → Once floor xs →
    Once floor (slice_set xs place a)
once-set floor place a [] b o = tt
once-set floor zero a (x ∷ xs) b o = ((λ le. without-above a xs b.1), o.1)
once-set floor (suc place) a (x ∷ xs) b o = (
  (λ le. without-set x place a xs (λ e. omega (arith, e, b.0)) (o.0 le)),
  once-set floor place a xs b.1 o.1,
)

once-insert : (floor place a : ℕ) (xs : List ℕ) → Below a xs → Once floor xs →
    Once floor (insert xs place a)
once-insert floor zero a [] b o = ((λ le. tt), tt)
once-insert floor zero a (x ∷ xs) b o = ((λ le. without-above a (x ∷ xs) b), o)
once-insert floor (suc place) a [] b o = ((λ le. tt), tt)
once-insert floor (suc place) a (x ∷ xs) b o = (
  (λ le. without-insert x place a xs (λ e. omega (arith, e, b.0)) (o.0 le)),
  once-insert floor place a xs b.1 o.1,
)

once-append : (floor a : ℕ) (xs : List ℕ) → Below a xs → Once floor xs → Once floor (xs ++ a ∷ [])
once-append floor a [] b o = ((λ le. tt), tt)
once-append floor a (x ∷ xs) b o = (
  (λ le. without-append x xs (a ∷ []) (o.0 le) ((λ e. omega (arith, e, b.0)), tt)),
  once-append floor a xs b.1 o.1,
)

-- the next address, written, stands once
pub once-written : (floor : ℕ) (how : How) (place a : ℕ) (xs : List ℕ) → Below a xs →
    Once floor xs → Once floor (with_address how place a xs)
once-written floor Forward place a xs b o = once-set floor place a xs b o
once-written floor Backward place a xs b o = once-set floor place a xs b o
once-written floor Insert place a xs b o = once-insert floor place a xs b o
once-written floor Append place a xs b o = once-append floor a xs b o

-- addresses below the floor aren't fresh, so each of them may stand often
pub once-below : (floor : ℕ) (xs : List ℕ) → Below floor xs → Once floor xs
once-below floor [] b = tt
once-below floor (x ∷ xs) b = ((λ le. absurd (omega (arith, le, b.0))), once-below floor xs b.1)

-- the pieces after a write are at most its seams
pub new-length : (how : How) (place next : ℕ) (ps : List Piece) →
    length (pieces_written how place next ps) ≤ length ps + 2
new-length Forward place next ps = overwritten-length place next ps
new-length Backward place next ps = down-length place next ps
new-length Insert place next ps = inserted-length place next ps
new-length Append place next ps = let h = joined-length next ps in grind (arith, h)

on-length : (how : How) (last place next : ℕ) (ps : List Piece) →
    IsPlace how place (length (addresses ps)) → IsBehind how last place →
    IsStreakOn how last next ps →
    length (pieces_written how place next ps) ≤ length ps
on-length Forward last place next ps pl b r =
    overwritten-length-continues place next ps (rw (sym b) at r)
on-length Backward last place next ps pl b r =
    down-length-continues place next ps (let n = length-addresses ps in omega (arith, pl, n))
    (rw b at r)
on-length Insert last place next ps pl b r =
    inserted-length-continues place next ps (rw (sym b) at r)
on-length Append last place next ps pl b r =
    joined-length-continues place next ps pl (rw (sym b) at r)

-- a write adds pieces for as many seams as it counts
pub written-length : (streak : Option LastWrite) (how : How) (place next : ℕ) (ps : List Piece) →
    IsPlace how place (length (addresses ps)) → Follows streak how place →
    HasStreak streak next ps →
    length (pieces_written how place next ps) ≤ length ps + more_seams streak
written-length None how place next ps pl f r = new-length how place next ps
written-length (Some last) how place next ps pl f r =
    let e : last.how ≡ how = f.0 in
    let b : IsBehind how last.place place = f.1 in
    let s : IsStreakOn how last.place next ps = subst (λ h. IsStreakOn h last.place next ps) e r in
    let h = on-length how last.place place next ps pl b s in omega (arith, h)

length-set : (xs : List ℕ) (k a : ℕ) → length (slice_set xs k a) ≡ length xs
length-set [] k a = refl
length-set (x ∷ xs) zero a = refl
length-set (x ∷ xs) (suc k) a = let h = length-set xs k a in omega (arith, h)

length-insert : (xs : List ℕ) (k a : ℕ) → length (insert xs k a) ≡ length xs + 1
length-insert [] zero a = refl
length-insert [] (suc k) a = refl
length-insert (x ∷ xs) zero a = omega arith
length-insert (x ∷ xs) (suc k) a = let h = length-insert xs k a in omega (arith, h)

-- a write keeps a list short
pub short-written : (how : How) (place a : ℕ) (xs : List ℕ) → IsShort how (length xs) →
    length (with_address how place a xs) ≤ max_list_frames
short-written Forward place a xs s = let h = length-set xs place a in omega (arith, h, s)
short-written Backward place a xs s = let h = length-set xs place a in omega (arith, h, s)
short-written Insert place a xs s = let h = length-insert xs place a in omega (arith, h, s)
short-written Append place a xs s = let h = length-append xs (a ∷ []) in omega (arith, h, s)

-- no more pieces where a piece goes on to the address
pub met-length : (how : How) (place next : ℕ) (ps : List Piece) →
    IsPlace how place (length (addresses ps)) → MeetsPiece how place next ps →
    length (pieces_written how place next ps) ≤ length ps
met-length Forward place next ps pl m = overwritten-length-continues place next ps m
met-length Backward place next ps pl m =
    down-length-continues place next ps (let n = length-addresses ps in omega (arith, pl, n)) m
met-length Insert place next ps pl m = inserted-length-continues place next ps m
met-length Append place next ps pl m = joined-length-continues place next ps pl m

-- a write leaves no empty piece
pub solid-written : (how : How) (place next : ℕ) (ps : List Piece) → Solid ps →
    Solid (pieces_written how place next ps)
solid-written Forward place next ps s = overwritten-solid place next ps s
solid-written Backward place next ps s = overwritten-down-solid place next ps s
solid-written Insert place next ps s = inserted-solid place next ps s
solid-written Append place next ps s = joined-solid next ps s

-- the cells of a written list are those that the rules write
fresh-marked : (floor x : ℕ) → floor ≤ x → marked_cell floor x ≡ fresh_cell x
fresh-marked floor x le = let e : nat_le floor x ≡ true = grind (arith, le) in rw e refl

marked-set : (floor : ℕ) (xs : List ℕ) (k a : ℕ) → floor ≤ a →
    marked floor (slice_set xs k a) ≡ slice_set (marked floor xs) k (fresh_cell a)
marked-set floor [] k a le = refl
marked-set floor (x ∷ xs) zero a le = rw (fresh-marked floor a le) refl
marked-set floor (x ∷ xs) (suc k) a le =
    ap (λ t. marked_cell floor x ∷ t) (marked-set floor xs k a le)

marked-insert : (floor : ℕ) (xs : List ℕ) (k a : ℕ) → floor ≤ a →
    marked floor (insert xs k a) ≡ insert (marked floor xs) k (fresh_cell a)
marked-insert floor [] zero a le = rw (fresh-marked floor a le) refl
marked-insert floor [] (suc k) a le = rw (fresh-marked floor a le) refl
marked-insert floor (x ∷ xs) zero a le = rw (fresh-marked floor a le) refl
marked-insert floor (x ∷ xs) (suc k) a le =
    ap (λ t. marked_cell floor x ∷ t) (marked-insert floor xs k a le)

marked-append : (floor : ℕ) (xs : List ℕ) (a : ℕ) → floor ≤ a →
    marked floor (xs ++ a ∷ []) ≡ marked floor xs ++ fresh_cell a ∷ []
marked-append floor [] a le = rw (fresh-marked floor a le) refl
marked-append floor (x ∷ xs) a le = ap (λ t. marked_cell floor x ∷ t) (marked-append floor xs a le)

-- the marks of a list with a fresh cell written
pub marked-written : (floor : ℕ) (how : How) (place a : ℕ) (xs : List ℕ) → floor ≤ a →
    marked floor (with_address how place a xs) ≡ with_cell how place (fresh_cell a)
    (marked floor xs)
marked-written floor Forward place a xs le = marked-set floor xs place a le
marked-written floor Backward place a xs le = marked-set floor xs place a le
marked-written floor Insert place a xs le = marked-insert floor xs place a le
marked-written floor Append place a xs le = marked-append floor xs a le

-- what a write keeps
pub fill-written : (f : FillOf) (how : How) (place : ℕ) → IsFill f →
    IsPlace how place (length f.cells) → Follows f.streak how place →
    f.seams + more_seams f.streak ≤ max_seams → IsShort how (length f.cells) →
    addresses (pieces_written how place f.next f.pieces) ≡ with_address how place f.next
    (addresses f.pieces) →
    IsStreakOn how place (f.next + 1) (pieces_written how place f.next f.pieces) →
    IsFill (fill_written how place f)
fill-written f how place i pl fo few s e r = record {
  floor = let t = i.floor in omega (arith, t);
  below = below-written how place f.next f.cells i.below;
  once = once-written f.floor how place f.next f.cells i.below i.once;
  seams = few;
  short = short-written how place f.next f.cells s;
  cells = rw e (ap (λ t. with_address how place f.next t) i.cells);
  few = let h = written-length f.streak how place f.next f.pieces (rw i.cells at pl) fo i.streak in
      let p = i.few in omega (arith, h, p);
  solid = solid-written how place f.next f.pieces i.solid;
  streak = r;
}

below-take : (n k : ℕ) (xs : List ℕ) → Below n xs → Below n (take k xs)
below-take n zero xs b = tt
below-take n (suc k) [] b = tt
below-take n (suc k) (x ∷ xs) b = (b.0, below-take n k xs b.1)

without-take : (x k : ℕ) (xs : List ℕ) → Without x xs → Without x (take k xs)
without-take x zero xs w = tt
without-take x (suc k) [] w = tt
without-take x (suc k) (y ∷ ys) w = (w.0, without-take x k ys w.1)

once-take : (floor k : ℕ) (xs : List ℕ) → Once floor xs → Once floor (take k xs)
once-take floor zero xs o = tt
once-take floor (suc k) [] o = tt
once-take floor (suc k) (x ∷ xs) o =
    ((λ le. without-take x k xs (o.0 le)), once-take floor k xs o.1)

length-take-le : (k : ℕ) (xs : List ℕ) → length (take k xs) ≤ length xs
length-take-le zero xs = omega arith
length-take-le (suc k) [] = omega arith
length-take-le (suc k) (x ∷ xs) = let h = length-take-le k xs in omega (arith, h)

-- what a cut keeps
pub fill-cut : (f : FillOf) (k : ℕ) → IsFill f → k ≤ length f.cells → IsFill (fill_cut (Some k) f)
fill-cut f k i le =
    let n = length-addresses f.pieces in
    let e : k ≤ length (addresses f.pieces) = rw i.cells at le in
    record {
      floor = i.floor;
      below = below-take f.next k f.cells i.below;
      once = once-take f.floor k f.cells i.once;
      seams = i.seams;
      short = let h = length-take-le k f.cells in let s = i.short in omega (arith, h, s);
      cells = rw i.cells (sym (addresses-before k f.pieces (omega (arith, e, n))));
      few = let h = before-few k f.pieces (omega (arith, e, n)) in let p = i.few in
          omega (arith, h, p);
      solid = solid-before k f.pieces i.solid;
      streak = tt;
    }

below-without-at : (n a : ℕ) (xs : List ℕ) → n ≤ a → Below n xs → Without a xs
below-without-at n a [] le b = tt
below-without-at n a (x ∷ xs) le b =
    ((λ e. omega (arith, e, le, b.0)), below-without-at n a xs le b.1)

once-extended : (floor : ℕ) (xs ys : List ℕ) → Below floor ys → Once floor xs →
    Once floor (xs ++ ys)
once-extended floor [] ys b o = once-below floor ys b
once-extended floor (x ∷ xs) ys b o = (
  (λ le. without-append x xs ys (o.0 le) (below-without-at floor x ys le b)),
  once-extended floor xs ys b o.1,
)

on-extended : (how : How) (place next : ℕ) (ps qs : List Piece) → Solid qs →
    IsStreakOn how place next ps → IsStreakOn how place next (ps ++ qs)
on-extended Forward place next ps qs s r = continues-extended (place + 1) next ps qs s r
on-extended Backward place next ps qs s r = down-extended place next ps qs r
on-extended Insert place next ps qs s r = continues-extended (place + 1) next ps qs s r
on-extended Append place next ps qs s r = continues-extended (place + 1) next ps qs s r

-- a streak goes on where pieces come behind
pub streak-extended : (streak : Option LastWrite) (next : ℕ) (ps qs : List Piece) → Solid qs →
    HasStreak streak next ps → HasStreak streak next (ps ++ qs)
streak-extended None next ps qs s r = tt
streak-extended (Some last) next ps qs s r = on-extended last.how last.place next ps qs s r

-- what an extension keeps
pub fill-extended : (f : FillOf) (ps : List Piece) (more : ℕ) → IsFill f → Solid ps →
    length ps ≤ more → Below f.floor (addresses ps) → f.seams + more ≤ max_seams →
    length f.cells + length (addresses ps) ≤ max_list_frames → IsFill (fill_extended ps more f)
fill-extended f ps more i sp fp b few s = record {
  floor = i.floor;
  below = below-append f.next f.cells (addresses ps) i.below
      (below-more f.floor f.next (addresses ps) i.floor b);
  once = once-extended f.floor f.cells (addresses ps) b i.once;
  seams = few;
  short = let h = length-append f.cells (addresses ps) in omega (arith, h, s);
  cells = rw (addresses-append f.pieces ps) (ap (λ t. t ++ addresses ps) i.cells);
  few = let h = length-append f.pieces ps in let p = i.few in omega (arith, h, p, fp);
  solid = solid-append f.pieces ps i.solid sp;
  streak = streak-extended f.streak f.next f.pieces ps sp i.streak;
}

pub ruleset extends = (fill-extended, streak-extended)

-- a cut within the list is one within its pieces
pub cut-within : (k : ℕ) (ps : List Piece) → k ≤ length (addresses ps) → k ≤ total ps
cut-within k ps le = let n = length-addresses ps in omega (arith, n, le)

pub ruleset cuts = (fill-cut, addresses-before, cut-within)

pub ruleset drafts =
    (once-below, written-length, met-length, new-length, marked-written, fill-written)
