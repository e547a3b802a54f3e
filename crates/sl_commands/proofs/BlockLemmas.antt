-- The blocks of a save, one after another.
use Rattle.std.proofs.Common.{◌≡◌, ◌≢◌, ◌⊎◌, ℕ, suc, ◌+◌, ◌%◌, ◌≤◌, ◌<◌, Bool, true, false, ◌&&◌, ◌||◌, ◌==◌, nat_le, nat_lt, cond, List, [], ◌∷◌, ◌++◌, length, Option, Some, None, is_some, refl, sym, ◌∙◌, ap, subst, arith, append_assoc, append-nil, length-append, inl, inr}
use Rattle.std.specs.Bool.{then_some}
use Rattle.std.specs.List.{list_all}
use Rattle.std.proofs.Math.Bool.{or-true, and_assoc}
use Rattle.std.proofs.lemmas.Bool.{leb-true, le-leb, lt-ltb, eqb-true, eq-eqb, ne_eqb, and_parts}
use Rattle.std.proofs.Math.Nat.{add-mul-mod_self_right}
use Rattle.std.proofs.lemmas.List.Folds.{list_all-append}
use Rattle.sl_base.specs.Sounds.{Sound}
use Rattle.sl_commands.specs.declared.command.Target.{Target}
use Rattle.sl_commands.specs.declared.block.Block.{Block}
use Rattle.sl_commands.specs.declared.block.Block.TheVariants.{Head, Part, End}
use Rattle.sl_commands.specs.Settings.{LooperSettings}
use Rattle.sl_base.specs.Limits.{max_list_frames}
use Rattle.sl_commands.specs.Blocks.{parts_behind, parts_of, parts_of_lists, first_index, blocks_of, Underway, Place, has_list, may_be_part, place_after, place_behind, first_place, place_of, save_of, fits_name, may_follow, may_all_follow, IsSave}

-- both halves of a test that passed
both : (a b : Bool) → (a && b) ≡ true → (a ≡ true) × (b ≡ true)
both true b is = (refl, is)
both false b is = Prim.cc

-- blocks that go nowhere stay there
place_behind-None : (bs : List Block) → place_behind None bs ≡ None
place_behind-None [] = refl
place_behind-None (b ∷ bs) = refl

-- the place behind one list and then another
pub place_behind-append : (p : Option Place) (xs ys : List Block) →
    place_behind p (xs ++ ys) ≡ place_behind (place_behind p xs) ys
place_behind-append p [] ys = refl
place_behind-append None (x ∷ xs) ys = sym (place_behind-None ys)
place_behind-append (Some p) (x ∷ xs) ys =
    place_behind-append (place_after p.saves p.underway x) xs ys

-- one list takes a place to a second, another that one to a third
comes_on : (p q r : Option Place) (xs ys : List Block) → place_behind p xs ≡ q →
    place_behind q ys ≡ r → place_behind p (xs ++ ys) ≡ r
comes_on p q r xs ys first then_ = place_behind-append p xs ys ∙ ap (λ o. place_behind o ys) first
    ∙ then_

-- a save with this target and so many loops, of which so many frames of the latest list were sent
abbrev underway : Target → ℕ → ℕ → ℕ → Underway
underway target loops index frames =
    record { target = target; loops = loops; index = index; frames = frames }

abbrev within : ℕ → Target → ℕ → ℕ → ℕ → Option Place
within save target loops index frames =
    Some (record { saves = save; underway = Some (underway target loops index frames) })

-- after the list of one index, parts of the list of another may come, of which so many frames were
-- sent
abbrev IsNext : ℕ → ℕ → ℕ → ℕ → Type 0
IsNext last frames index done = ((last < index) × (done ≡ 0)) ⊎ ((index ≡ last) × (frames ≡ done))

-- the next part is of a later list, or goes on where a whole part ended
goes_on : (last frames index done more : ℕ) → IsNext last frames index done → done % 256 ≡ 0 →
    done + more ≤ 16777216 →
    (nat_lt last index || index == last && frames % 256 == 0 && nat_le (frames + more) 16777216)
    ≡ true
goes_on last frames index done more (inl later) whole short = rw (lt-ltb last index later.0) refl
goes_on last frames index done more (inr same) whole short =
    rw (
      same.1,
      eq-eqb index last same.0,
      eq-eqb (done % 256) 0 whole,
      le-leb (done + more) 16777216 short,
    ) (or-true (nat_lt last index))

-- and its frames are counted from the last whole part
counts_on : (last frames index done more : ℕ) → IsNext last frames index done →
    cond (index == last) (frames + more) more ≡ done + more
counts_on last frames index done more (inl later) =
    let other : (index == last) ≡ false =
    ne_eqb index last (λ same. omega (arith, same, later.0)) in
    let same : more ≡ done + more = omega (arith, later.1) in
    rw other same
counts_on last frames index done more (inr same) = rw (eq-eqb index last same.0, same.1) refl

-- what is left of a list's frames goes on a whole number of parts
whole_on : (done : ℕ) → done % 256 ≡ 0 → (done + 256) % 256 ≡ 0
whole_on done whole = add-mul-mod_self_right done 1 256 ∙ whole

module _ (save : ℕ) (target : Target) (loops : ℕ) where
  -- one part comes, and others behind it
  one_part :
      (last frames index done : ℕ) (part : List Sound) (rest : List Block) →
      has_list target loops index ≡ true → IsNext last frames index done → done % 256 ≡ 0
      → 1 ≤ length part → length part ≤ 256 → done + length part ≤ 16777216
      → place_behind (within save target loops last frames) (Part save index part ∷ rest)
      ≡ place_behind (within save target loops index (done + length part)) rest
  one_part last frames index done part rest has next whole some few short =
      rw (
        eq-eqb save save refl,
        has,
        le-leb 1 (length part) some,
        le-leb (length part) 256 few,
        goes_on last frames index done (length part) next whole short,
        counts_on last frames index done (length part) next,
      )
      refl

  -- blocks have come to the list of this index at most, which may be followed by the next
  record HasCome (index : ℕ) (place : Option Place) : Type 0 where
    last : ℕ
    frames : ℕ
    is : place ≡ within save target loops last frames
    before : last ≤ index

  -- the list that came last isn't beyond the one that is next
  not_beyond : (last frames index done : ℕ) → IsNext last frames index done → last ≤ index
  not_beyond last frames index done (inl later) = omega (arith, later.0)
  not_beyond last frames index done (inr same) = omega (arith, same.0)

  -- the parts of a list come, of which some frames are held
  parts_come :
      (held xs : List Sound) (last frames index done : ℕ) → has_list target loops index ≡ true →
      IsNext last frames index done → done % 256 ≡ 0
      → length held < 256 → done + (length held + length xs) ≤ 16777216
      → HasCome index (place_behind (within save target loops last frames)
      (parts_behind save index held xs))
  parts_come [] [] last frames index done has next whole few short =
      record {
        last = last;
        frames = frames;
        is = refl;
        before =
            not_beyond last frames index done next;
      }
  parts_come (h ∷ hs) [] last frames index done has next whole few short =
      let some : 1 ≤ length (h ∷ hs) = omega arith in
      let small : length (h ∷ hs) ≤ 256 = omega (arith, few) in
      let fits : done + length (h ∷ hs) ≤ 16777216 = omega (arith, short) in
      record {
        last = index;
        frames = done + length (h ∷ hs);
        is = one_part last frames index done (h ∷ hs) [] has next whole some small fits;
        before = omega arith;
      }
  parts_come held (x ∷ xs) last frames index done has next whole few short =
      elim (length held + 1 == 256) as
      (λ full. full ≡ (length held + 1 == 256) →
      HasCome index (place_behind (within save target loops last frames)
      (cond full (Part save index (held ++ x ∷ []) ∷ parts_behind save index [] xs)
      (parts_behind save index (held ++ x ∷ []) xs)))) [
        | true ↦ λ is.
            let size : length (held ++ x ∷ []) ≡ 256 =
            length-append held (x ∷ []) ∙ eqb-true (length held + 1) 256 (sym is) in
            let some : 1 ≤ length (held ++ x ∷ []) = omega (arith, size) in
            let small : length (held ++ x ∷ []) ≤ 256 = omega (arith, size) in
            let counted : length held + 1 ≡ 256 = eqb-true (length held + 1) 256 (sym is) in
            let fits : done + length (held ++ x ∷ []) ≤ 16777216 =
            omega (arith, size, short, counted) in
            let rest_fits : (done + length (held ++ x ∷ [])) + (0 + length xs) ≤ 16777216 =
            omega (arith, size, short, counted) in
            subst (HasCome index)
            (sym (one_part last frames index done (held ++ x ∷ []) (parts_behind save index [] xs)
            has next whole some small fits))
            (parts_come [] xs index (done + length (held ++ x ∷ [])) index
            (done + length (held ++ x ∷ [])) has (inr (refl, refl))
            (rw size (whole_on done whole)) (omega arith) rest_fits)
        | false ↦ λ is.
            let size : length (held ++ x ∷ []) ≡ length held + 1 = length-append held (x ∷ []) in
            let other : length held + 1 ≢ 256 = λ same. Prim.cc in
            let fewer : length (held ++ x ∷ []) < 256 = omega (arith, size, few, other) in
            let fits : done + (length (held ++ x ∷ []) + length xs) ≤ 16777216 =
            omega (arith, size, short) in
            parts_come (held ++ x ∷ []) xs last frames index done has next whole fewer fits
      ]
      refl

  -- the parts of one list come, then those of lists
  then_lists :
      (last frames index : ℕ) (list : List Sound) (lists : List (List Sound))
      (first : HasCome index
      (place_behind (within save target loops last frames) (parts_of save index list)))
      → HasCome (index + 1 + length lists)
      (place_behind (within save target loops first.last first.frames)
      (parts_of_lists save (index + 1) lists))
      → HasCome (index + length (list ∷ lists))
      (place_behind (within save target loops last frames)
      (parts_of_lists save index (list ∷ lists)))
  then_lists last frames index list lists first rest =
      record {
        last = rest.last;
        frames = rest.frames;
        is =
            comes_on (within save target loops last frames)
            (within save target loops first.last first.frames)
            (within save target loops rest.last rest.frames)
            (parts_of save index list) (parts_of_lists save (index + 1) lists) first.is rest.is;
        before = omega (arith, rest.before);
      }

  -- the parts of lists come, the first of the index given
  lists_come :
      (lists : List (List Sound)) (last frames index : ℕ) →
      ((k : ℕ) → k < length lists → has_list target loops (index + k) ≡ true) →
      IsNext last frames index 0
      → list_all (λ (list : List Sound). nat_le (length list) max_list_frames) lists ≡ true
      → HasCome (index + length lists)
      (place_behind (within save target loops last frames) (parts_of_lists save index lists))
  lists_come [] last frames index each next short =
      let beyond = not_beyond last frames index 0 next in
      record { last = last; frames = frames; is = refl; before = omega (arith, beyond) }
  lists_come (list ∷ lists) last frames index each next short =
      let halves = both (nat_le (length list) max_list_frames)
      (list_all (λ (l : List Sound). nat_le (length l) max_list_frames) lists) short in
      let here : index + 0 ≡ index = omega arith in
      let has : has_list target loops index ≡ true =
      subst (λ (i : ℕ). has_list target loops i ≡ true) here (each 0 (omega arith)) in
      let fits : 0 + (0 + length list) ≤ 16777216 =
      omega (arith, leb-true (length list) max_list_frames halves.0) in
      let first = parts_come [] list last frames index 0 has next refl (omega arith) fits in
      let later : (k : ℕ) → k < length lists → has_list target loops (index + 1 + k) ≡ true =
      λ k below. (let shifted : index + suc k ≡ index + 1 + k = omega arith in
      subst (λ (i : ℕ). has_list target loops i ≡ true) shifted
      (each (suc k) (omega (arith, below))))
      in
      let rest = lists_come lists first.last first.frames (index + 1) later
      (inl (omega (arith, first.before), refl)) halves.1 in
      then_lists last frames index list lists first rest

-- the blocks of a save take the place on by one save
pub save_comes :
    (save : ℕ) (name : List ℕ) (target : Target) (settings : LooperSettings)
    (lists : List (List Sound)) → IsSave target name (length settings.strips) lists
    → place_behind (Some (record { saves = save; underway = None }))
    (blocks_of save name target settings lists) ≡ Some
    (record { saves = save + 1; underway = None })
save_comes save name target settings lists is =
    let loops = length settings.strips in
    let index = first_index target in
    let come = lists_come save target loops lists index 0 index is.each (inr (refl, refl))
    is.short in
    let begin : place_after save None (Head save name target settings) ≡ within save target loops
    index 0 = rw (eq-eqb save save refl, is.kind) refl in
    let end : place_behind (within save target loops come.last come.frames) (End save ∷ []) ≡ Some
    (record { saves = save + 1; underway = None }) = rw (eq-eqb save save refl) refl in
    ap (λ p. place_behind p (parts_of_lists save index lists ++ End save ∷ [])) begin
    ∙ comes_on _ _ _ (parts_of_lists save index lists) (End save ∷ []) come.is end

-- the same behind what was sent
pub place_of-save :
    (sent : List Block) (save : ℕ) (name : List ℕ) (target : Target) (settings : LooperSettings)
    (lists : List (List Sound))
    → place_of sent ≡ Some (record { saves = save; underway = None }) →
    IsSave target name (length settings.strips) lists
    → place_of (sent ++ blocks_of save name target settings lists) ≡ Some
    (record { saves = save + 1; underway = None })
place_of-save sent save name target settings lists due is =
    place_behind-append (Some first_place) sent (blocks_of save name target settings lists)
    ∙ ap (λ p. place_behind p (blocks_of save name target settings lists)) due
    ∙ save_comes save name target settings lists is

-- blocks that end somewhere begin somewhere
is_some_before : (p : Option Place) (bs : List Block) (q : Place) → place_behind p bs ≡ Some q →
    is_some p ≡ true
is_some_before (Some p) bs q is = refl
is_some_before None bs q is = let e : None ≡ Some q = sym (place_behind-None bs) ∙ is in Prim.cc

-- what a block has to meet besides the order
abbrev is_fit : ℕ → Block → Bool
is_fit bound b = nat_lt (save_of b) bound && fits_name b

-- blocks in order, each of them fit, may follow one another
all_follow : (sent bs : List Block) (bound : ℕ) (q : Place) → place_of (sent ++ bs) ≡ Some q →
    list_all (is_fit bound) bs ≡ true → may_all_follow sent bs bound ≡ true
all_follow sent [] bound q is fit = refl
all_follow sent (b ∷ bs) bound q is fit =
    let halves = both (is_fit bound b) (list_all (is_fit bound) bs) fit in
    let parts = both (nat_lt (save_of b) bound) (fits_name b) halves.0 in
    let shifted : place_of ((sent ++ b ∷ []) ++ bs) ≡ Some q =
    ap place_of (append_assoc sent (b ∷ []) bs) ∙ is in
    let some : is_some (place_of (sent ++ b ∷ [])) ≡ true =
    is_some_before (place_of (sent ++ b ∷ [])) bs q
    (sym (place_behind-append (Some first_place) (sent ++ b ∷ []) bs) ∙ shifted)
    in
    rw (some, parts.0, parts.1) (all_follow (sent ++ b ∷ []) bs bound q shifted halves.1)

-- a test that each part passes, the parts of a list pass
parts_pass : (test : Block → Bool) (save index : ℕ) →
    ((part : List Sound) → test (Part save index part) ≡ true) → (held xs : List Sound) →
    list_all test (parts_behind save index held xs) ≡ true
parts_pass test save index passes [] [] = refl
parts_pass test save index passes (h ∷ hs) [] = rw (passes (h ∷ hs)) refl
parts_pass test save index passes held (x ∷ xs) =
    elim (length held + 1 == 256) as
    (λ full. list_all test
    (cond full (Part save index (held ++ x ∷ []) ∷ parts_behind save index [] xs)
    (parts_behind save index (held ++ x ∷ []) xs)) ≡ true) [
      | true ↦ rw (passes (held ++ x ∷ [])) (parts_pass test save index passes [] xs)
      | false ↦ parts_pass test save index passes (held ++ x ∷ []) xs
    ]

-- and those of lists
lists_pass :
    (test : Block → Bool) (save : ℕ) →
    ((index : ℕ) (part : List Sound) → test (Part save index part) ≡ true)
    → (index : ℕ) (lists : List (List Sound)) →
    list_all test (parts_of_lists save index lists) ≡ true
lists_pass test save passes index [] = refl
lists_pass test save passes index (list ∷ lists) =
    rw (
      list_all-append test (parts_of save index list) (parts_of_lists save (index + 1) lists),
      parts_pass test save index (passes index) [] list,
    )
    (lists_pass test save passes (index + 1) lists)

-- the blocks of a save may follow whole saves as many as its number, one after another
pub save_follows :
    (sent : List Block) (save : ℕ) (name : List ℕ) (target : Target) (settings : LooperSettings)
    (lists : List (List Sound)) (bound : ℕ)
    → place_of sent ≡ Some (record { saves = save; underway = None }) →
    IsSave target name (length settings.strips) lists → save < bound
    → may_all_follow sent (blocks_of save name target settings lists) bound ≡ true
save_follows sent save name target settings lists bound due is below =
    let fit : list_all (is_fit bound) (blocks_of save name target settings lists) ≡ true =
    rw (
      list_all-append (is_fit bound) (parts_of_lists save (first_index target) lists)
          (End save ∷ []),
      lists_pass (is_fit bound) save (λ index part. rw (lt-ltb save bound below) refl)
          (first_index target) lists,
      lt-ltb save bound below,
      is.named,
    )
    refl
    in
    all_follow sent (blocks_of save name target settings lists) bound _
    (place_of-save sent save name target settings lists due is) fit

-- a choice that was made was open
then_some_made : {X : Type 0} (b : Bool) (x : X) → is_some (then_some b x) ≡ true → b ≡ true
then_some_made true x is = refl
then_some_made false x is = Prim.cc

-- while a save has begun, the next block is its own
own_block : (save : ℕ) (g : Underway) (b : Block) → is_some (place_after save (Some g) b) ≡ true →
    save_of b ≡ save
own_block save g (Head other name target settings) is = Prim.cc
own_block save g (Part other index frames) is =
    eqb-true other save
    ((both (other == save) (may_be_part g index (length frames))
    (then_some_made {X = Place} (other == save && may_be_part g index (length frames)) _ is)).0)
own_block save g (End other) is =
    eqb-true other save (then_some_made {X = Place} (other == save) _ is)

-- a block that may follow then is of the save that has begun
pub follows_own_save :
    (sent : List Block) (b : Block) (bound save : ℕ) (g : Underway) →
    place_of sent ≡ Some (record { saves = save; underway = Some g })
    → may_follow sent b bound ≡ true → save_of b ≡ save
follows_own_save sent b bound save g due may =
    let some : is_some (place_of (sent ++ b ∷ [])) ≡ true = (both _ _ ((both _ _ may).0)).0 in
    own_block save g b
    (subst (λ (p : Option Place). is_some p ≡ true)
    (place_behind-append (Some first_place) sent (b ∷ []) ∙ ap (λ p. place_behind p (b ∷ [])) due)
    some)

-- blocks may follow where the first ones may, and the others behind these
pub may_all_follow-append : (sent xs ys : List Block) (bound : ℕ) →
    may_all_follow sent (xs ++ ys) bound
    ≡ (may_all_follow sent xs bound && may_all_follow (sent ++ xs) ys bound)
may_all_follow-append sent [] ys bound =
    ap (λ bs. may_all_follow bs ys bound) (sym (append-nil sent))
may_all_follow-append sent (x ∷ xs) ys bound =
    ap (λ b. may_follow sent x bound && b) (may_all_follow-append (sent ++ x ∷ []) xs ys bound)
    ∙ ap (λ bs. may_follow sent x bound
    && (may_all_follow (sent ++ x ∷ []) xs bound && may_all_follow bs ys bound))
    (append_assoc sent (x ∷ []) xs)
    ∙ sym (and_assoc (may_follow sent x bound) (may_all_follow (sent ++ x ∷ []) xs bound)
    (may_all_follow (sent ++ x ∷ xs) ys bound))

-- each may follow those before it
pub follows_those_before : (sent first rest : List Block) (b : Block) (bound : ℕ) →
    may_all_follow sent (first ++ b ∷ rest) bound ≡ true → may_follow (sent ++ first) b bound ≡ true
follows_those_before sent first rest b bound all =
    let cut = and_parts (may_all_follow sent first bound)
    (may_all_follow (sent ++ first) (b ∷ rest) bound)
    (sym (may_all_follow-append sent first (b ∷ rest) bound) ∙ all) in
    (and_parts (may_follow (sent ++ first) b bound)
    (may_all_follow ((sent ++ first) ++ b ∷ []) rest bound) cut.1).0
