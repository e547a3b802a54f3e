-- What writes in a row keep of the layer that is written, and what it is behind them.
use Rattle.std.proofs.Common.{◌≡◌, ◌≤◌, ◌<◌, ℕ, ◌+◌, ◌-◌, true, false, List, [], ◌∷◌, get_or, take, drop, length, refl, sym, ap, arith, suc, zero, Option, Some, None, IsTrue, is_some}
use Rattle.std.specs.Prelude.{slice_set, nat_le}
use Rattle.sl_base.specs.Limits.{max_seams}
use Rattle.sl_commands.specs.declared.How.TheVariants.{Forward}
use Rattle.looper_rules.specs.Stack.{LastWrite}
use Rattle.looper_rules.specs.WritePlaces.{Follows}
use Rattle.std.proofs.lemmas.List.{get_or-take, get_or-drop}
use Rattle.pieces.specs.Pieces.{Piece, address_in, addresses, piece_addresses, total}
use Rattle.pieces.proofs.SplittingLemmas.{at-piece}
use Rattle.pieces.specs.OneMore.{overwritten_span}
use Rattle.pieces.proofs.AddressLemmas.{length-addresses}
use Rattle.pieces.proofs.OneMoreLemmas.{overwritten-addresses, overwritten-continues}
use Rattle.lazy_fill.specs.Streaks.{more_seams}
use Rattle.lazy_fill.specs.Fills.{FillOf, IsFill, fill_written, fill_written_span}
use Rattle.lazy_fill.proofs.FillLemmas.{fill-written}

trans : {A : Type 0} {x y z : A} → x ≡ y → y ≡ z → x ≡ z
trans e f = rw e f

set-length : (xs : List ℕ) (k a : ℕ) → length (slice_set xs k a) ≡ length xs
set-length [] k a = refl
set-length (x ∷ xs) zero a = refl
set-length (x ∷ xs) (suc k) a = ap suc (set-length xs k a)

-- one write over another cell, in a streak that goes on
pub fill-written-over : (f : FillOf) (place : ℕ) (last : LastWrite) → f.streak ≡ Some last →
    IsFill f →
    place < length f.cells → Follows f.streak Forward place → IsFill (fill_written Forward place f)
fill-written-over f place last e i lt fo =
    let n = length-addresses f.pieces in
    let m : length f.cells ≡ length (addresses f.pieces) = ap length i.cells in
    let inside : place < total f.pieces = omega (arith, lt, n, m) in
    let few : f.seams + more_seams f.streak ≤ max_seams = let s = i.seams
    in rw e (omega (arith, s)) in
    fill-written f Forward place i lt fo few i.short
    (overwritten-addresses place f.next f.pieces inside)
    (overwritten-continues place f.next f.pieces inside i.solid)

-- writes in a row keep what always holds
pub fill-span : (k : ℕ) (f : FillOf) (place : ℕ) (last : LastWrite) → f.streak ≡ Some last →
    IsFill f →
    place + k ≤ length f.cells → Follows f.streak Forward place →
    IsFill (fill_written_span k place f)
fill-span zero f place last e i le fo = i
fill-span (suc k) f place last e i le fo =
    let len = set-length f.cells place f.next in
    let y : place + 1 ≡ suc place = omega arith in
    fill-span k (fill_written Forward place f) (place + 1) (record { place = place; how = Forward })
    refl (fill-written-over f place last e i (omega (arith, le)) fo) (omega (arith, le, len))
    (refl, refl)

-- the parts of a fill behind writes in a row
span-floor : (k : ℕ) (f : FillOf) (place : ℕ) → (fill_written_span k place f).floor ≡ f.floor
span-floor zero f place = refl
span-floor (suc k) f place = span-floor k (fill_written Forward place f) (place + 1)

-- writes in a row take so many addresses
pub span-next : (k : ℕ) (f : FillOf) (place : ℕ) → (fill_written_span k place f).next ≡ f.next + k
span-next zero f place = omega arith
span-next (suc k) f place = let h = span-next k (fill_written Forward place f) (place + 1) in
    omega (arith, h)

-- in a streak that goes on, writes in a row add no seams
pub span-seams : (k : ℕ) (f : FillOf) (place : ℕ) (last : LastWrite) → f.streak ≡ Some last →
    (fill_written_span k place f).seams ≡ f.seams
span-seams zero f place last e = refl
span-seams (suc k) f place last e =
    let h = span-seams k (fill_written Forward place f) (place + 1)
    (record { place = place; how = Forward }) refl in
    let m : f.seams + more_seams f.streak ≡ f.seams = rw e (omega arith) in
    trans h m

span-streak : (k : ℕ) (f : FillOf) (place : ℕ) → (fill_written_span (suc k) place f).streak ≡ Some
    (record { place = place + suc k - 1; how = Forward })
span-streak zero f place = let y : place + suc zero - 1 ≡ place = omega arith in rw y refl
span-streak (suc k) f place =
    let h = span-streak k (fill_written Forward place f) (place + 1) in
    let y : place + 1 + suc k - 1 ≡ place + suc (suc k) - 1 = omega arith in
    rw y at h

span-pieces : (k : ℕ) (f : FillOf) (place : ℕ) →
    (fill_written_span k place f).pieces ≡ overwritten_span k place f.next f.pieces
span-pieces zero f place = refl
span-pieces (suc k) f place = span-pieces k (fill_written Forward place f) (place + 1)

-- a fill of these parts
fill-as : (g : FillOf) (cells : List ℕ) (floor next seams : ℕ) (streak : Option LastWrite)
    (pieces : List Piece) → cells ≡ g.cells → floor ≡ g.floor → next ≡ g.next → seams ≡ g.seams →
    streak ≡ g.streak → pieces ≡ g.pieces →
    record {
      cells = cells;
      floor = floor;
      next = next;
      seams = seams;
      streak = streak;
      pieces = pieces;
    }
    ≡ g
fill-as g cells floor next seams streak pieces a b c d e f = rw (a, b, c, d, e, f) refl

span-as : (k : ℕ) (f : FillOf) (place next : ℕ) (last : LastWrite) (streak : Option LastWrite)
    (pieces : List Piece) → f.streak ≡ Some last → IsFill f → place + suc k ≤ length f.cells →
    Follows f.streak Forward place → next ≡ f.next + suc k →
    streak ≡ Some (record { place = place + suc k - 1; how = Forward }) →
    pieces ≡ overwritten_span (suc k) place f.next f.pieces →
    record {
      cells = addresses pieces;
      floor = f.floor;
      next = next;
      seams = f.seams;
      streak =
          streak;
      pieces = pieces;
    } ≡ fill_written_span (suc k) place f
span-as k f place next last streak pieces e i le fo en er ep =
    let g = fill_written_span (suc k) place f in
    let whole : IsFill g = fill-span (suc k) f place last e i le fo in
    let a : next ≡ g.next = trans en (sym (span-next (suc k) f place)) in
    let b : streak ≡ g.streak = trans er (sym (span-streak k f place)) in
    let c : pieces ≡ g.pieces = trans ep (sym (span-pieces (suc k) f place)) in
    let d : addresses pieces ≡ g.cells = trans (ap addresses c) (sym whole.cells) in
    fill-as g (addresses pieces) f.floor next f.seams streak pieces d
    (sym (span-floor (suc k) f place)) a (sym (span-seams (suc k) f place last e)) b c

-- writes in a row, as one record
pub span-is : (k : ℕ) (f : FillOf) (place next : ℕ) (last : LastWrite) (streak : Option LastWrite)
    (pieces : List Piece) → 1 ≤ k → f.streak ≡ Some last → IsFill f → place + k ≤ length f.cells →
    Follows f.streak Forward place → next ≡ f.next + k →
    streak ≡ Some (record { place = place + k - 1; how = Forward }) →
    pieces ≡ overwritten_span k place f.next f.pieces →
    record {
      cells = addresses pieces;
      floor = f.floor;
      next = next;
      seams = f.seams;
      streak =
          streak;
      pieces = pieces;
    } ≡ fill_written_span k place f
span-is zero f place next last streak pieces some e i le fo en er ep = absurd (omega (arith, some))
span-is (suc k) f place next last streak pieces some e i le fo en er ep =
    span-as k f place next last streak pieces e i le fo en er ep

-- the same where a streak goes on
going_on : (r : Option LastWrite) (k : ℕ) (f : FillOf) (place next : ℕ) (streak : Option LastWrite)
    (pieces : List Piece) → f.streak ≡ r → IsTrue (is_some r) → 1 ≤ k → IsFill f →
    place + k ≤ length f.cells → Follows f.streak Forward place → next ≡ f.next + k →
    streak ≡ Some (record { place = place + k - 1; how = Forward }) →
    pieces ≡ overwritten_span k place f.next f.pieces →
    (record {
      cells = addresses pieces;
      floor = f.floor;
      next = next;
      seams = f.seams;
      streak =
          streak;
      pieces = pieces;
    } ≡ fill_written_span k place f) × IsFill (fill_written_span k place f)
going_on None k f place next streak pieces e on some i le fo en er ep = let no : ⊥ = cc in absurd no
going_on (Some last) k f place next streak pieces e on some i le fo en er ep = (
  span-is k f place next last streak pieces some e i le fo en er ep,
  fill-span k f place last e i le fo,
)

-- writes in a row where a streak goes on, as one record
pub span-written : (k : ℕ) (f : FillOf) (place next : ℕ) (streak : Option LastWrite)
    (pieces : List Piece) → IsTrue (is_some f.streak) → 1 ≤ k → IsFill f →
    place + k ≤ length f.cells →
    Follows f.streak Forward place → next ≡ f.next + k →
    streak ≡ Some (record { place = place + k - 1; how = Forward }) →
    pieces ≡ overwritten_span k place f.next f.pieces →
    record {
      cells = addresses pieces;
      floor = f.floor;
      next = next;
      seams = f.seams;
      streak =
          streak;
      pieces = pieces;
    } ≡ fill_written_span k place f
span-written k f place next streak pieces on some i le fo en er ep =
    (going_on f.streak k f place next streak pieces refl on some i le fo en er ep).0

-- and what always holds of it
pub span-holds : (k : ℕ) (f : FillOf) (place next : ℕ) (streak : Option LastWrite)
    (pieces : List Piece) → IsTrue (is_some f.streak) → 1 ≤ k → IsFill f →
    place + k ≤ length f.cells →
    Follows f.streak Forward place → next ≡ f.next + k →
    streak ≡ Some (record { place = place + k - 1; how = Forward }) →
    pieces ≡ overwritten_span k place f.next f.pieces →
    IsFill (record {
      cells = addresses pieces;
      floor = f.floor;
      next = next;
      seams = f.seams;
      streak =
          streak;
      pieces = pieces;
    })
span-holds k f place next streak pieces on some i le fo en er ep =
    let h = going_on f.streak k f place next streak pieces refl on some i le fo en er ep
    in rw h.0 h.1

-- the cells at a piece
piece-cell : (r : Piece) (place k : ℕ) (cells : List ℕ) →
    piece_addresses r ≡ take r.len (drop place cells) → k < r.len →
    get_or cells (place + k) 0 ≡ address_in r k
piece-cell r place k cells e lt =
    let a = at-piece r k lt in
    let b : get_or (take r.len (drop place cells)) k 0 ≡ get_or (drop place cells) k 0 =
    get_or-take r.len (drop place cells) k 0 lt in
    let c = get_or-drop place cells k 0 in
    trans (sym c) (trans (sym b) (trans (ap (λ t. get_or t k 0) (sym e)) a))

not-from : (floor a : ℕ) → a < floor → nat_le floor a ≡ false
not-from floor a lt = grind (arith, lt)

-- an old piece that goes backward has no fresh cell
pub old-backward : (r : Piece) (place k floor : ℕ) (cells : List ℕ) →
    piece_addresses r ≡ take r.len (drop place cells) → r.backward ≡ true → r.start < floor →
    k < r.len → nat_le floor (get_or cells (place + k) 0) ≡ false
old-backward r place k floor cells e b lt n =
    let c : get_or cells (place + k) 0 ≡ r.start - k = rw b at (piece-cell r place k cells e n) in
    rw c (not-from floor (r.start - k) (omega (arith, lt)))

-- an old piece that goes forward has none either, as far as it is below the floor
pub old-forward : (r : Piece) (place k floor count : ℕ) (cells : List ℕ) →
    piece_addresses r ≡ take r.len (drop place cells) → r.backward ≡ false → count ≤ r.len →
    r.start + count ≤ floor → k < count → nat_le floor (get_or cells (place + k) 0) ≡ false
old-forward r place k floor count cells e b most le n =
    let c : get_or cells (place + k) 0 ≡ r.start + k =
    rw b at (piece-cell r place k cells e (omega (arith, most, n))) in
    rw c (not-from floor (r.start + k) (omega (arith, le, n)))

-- a piece that goes forward holds addresses in a row
pub fresh-row : (r : Piece) (place k : ℕ) (cells : List ℕ) →
    piece_addresses r ≡ take r.len (drop place cells) → r.backward ≡ false → k < r.len →
    get_or cells (place + k) 0 ≡ get_or cells place 0 + k
fresh-row r place k cells e b n =
    let c : get_or cells (place + k) 0 ≡ r.start + k = rw b at (piece-cell r place k cells e n) in
    let d : get_or cells (place + 0) 0 ≡ r.start + 0 =
    rw b at (piece-cell r place 0 cells e (omega (arith, n))) in
    let z : place + 0 ≡ place = omega arith in
    let y : r.start + 0 ≡ r.start = omega arith in
    let f : get_or cells place 0 ≡ r.start = rw (z, y) at d in
    rw (c, f) refl

-- a piece that begins at the floor or above begins with a fresh cell
pub fresh-first : (r : Piece) (place floor : ℕ) (cells : List ℕ) →
    piece_addresses r ≡ take r.len (drop place cells) → r.backward ≡ false → 1 ≤ r.len →
    floor ≤ r.start → floor ≤ get_or cells place 0
fresh-first r place floor cells e b some le =
    let d : get_or cells (place + 0) 0 ≡ r.start + 0 =
    rw b at (piece-cell r place 0 cells e (omega (arith, some))) in
    let z : place + 0 ≡ place = omega arith in
    let y : r.start + 0 ≡ r.start = omega arith in
    let f : get_or cells place 0 ≡ r.start = rw (z, y) at d in
    rw f le

pub ruleset cells = (old-backward, old-forward, fresh-row, fresh-first, length-addresses)

pub ruleset spans = (span-written, span-holds)
