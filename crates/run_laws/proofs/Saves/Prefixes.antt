-- Blocks that may follow one another are the first ones of those of some saves.
use Rattle.std.proofs.Common.{◌≡◌, ◌⊎◌, ℕ, zero, suc, ◌+◌, ◌%◌, ◌≤◌, ◌<◌, Bool, true, false, cond, List, [], ◌∷◌, ◌++◌, length, replicate, Option, Some, None, is_some, slice_get, refl, sym, ap, ◌∙◌, subst, inl, inr, arith, append_assoc, append-nil, length-append}
use Rattle.std.specs.Prelude.{IfSome, ◌==◌, ◌&&◌, ◌||◌, nat_le, nat_lt}
use Rattle.std.specs.Bool.{then_some}
use Rattle.std.specs.List.{list_all}
use Rattle.std.proofs.lemmas.Bool.{and_parts, eqb-true, eq-eqb, leb-true, lt-ltb, ltb-true, ne_eqb}
use Rattle.std.proofs.lemmas.List.{length-replicate}
use Rattle.sl_base.specs.Limits.{max_list_frames}
use Rattle.sl_base.specs.Sounds.{Sound}
use Rattle.sl_commands.specs.declared.Target.{Target}
use Rattle.sl_commands.specs.declared.Target.TheVariants.{One, All, Selected}
use Rattle.sl_commands.specs.declared.Block.{Block}
use Rattle.sl_commands.specs.declared.Block.TheVariants.{Head, Part, End}
use Rattle.sl_commands.specs.Settings.{LooperSettings}
use Rattle.sl_commands.specs.Blocks.{parts_of_lists, first_index, Underway, Place, is_save_target, has_list, may_be_part, with_part, place_after, place_behind, first_place, place_of, save_of, fits_target, fits_name, may_follow, may_all_follow}
use Rattle.sl_commands.proofs.BlockLemmas.{place_behind-append}
use Rattle.looper_rules.specs.Saves.{Save}
use Rattle.looper_rules.specs.SaveBlocks.{blocks_of_save, blocks_for_all, list_count, MayBeSent, AreSent, BeginSaves}
use Rattle.run_laws.proofs.Saves.Parts.{put_at, AreEmptyFrom, parts_of_lists-put, length-put_at, empty-put_at, latest-put_at, short-put_at, empty_behind, empty_at, all_empty, no_parts, none_long}

-- these blocks are those of whole saves
record AreWhole (bound : ℕ) (sent : List Block) : Type 0 where
  saves : List Save
  are : AreSent 0 saves
  few : length saves ≤ bound
  blocks : sent ≡ blocks_for_all saves
  at : place_of sent ≡ Some (record { saves = length saves; underway = None })

-- these blocks are those of whole saves, and behind them the head of one and the parts of its lists
-- so far
record HaveBegun (bound : ℕ) (b : Underway) (sent : List Block) : Type 0 where
  saves : List Save
  are : AreSent 0 saves
  few : length saves < bound
  name : List ℕ
  settings : LooperSettings
  kind : is_save_target b.target ≡ true
  named : fits_target b.target name ≡ true
  loops : b.loops ≡ length settings.strips
  lists : List (List Sound)
  count : length lists ≡ list_count b.target b.loops
  latest : ℕ
  index : b.index ≡ first_index b.target + latest
  frames : IfSome (slice_get lists latest) (λ list. length list ≡ b.frames)
  empty : AreEmptyFrom (suc latest) lists
  short : list_all (λ (list : List Sound). nat_le (length list) max_list_frames) lists ≡ true
  blocks : sent ≡ blocks_for_all saves ++ Head (length saves) name b.target settings
      ∷ parts_of_lists (length saves) (first_index b.target) lists
  at : place_of sent ≡ Some (record { saves = length saves; underway = Some b })

-- a choice that was made was open, and gives what it gives
then_made : {X : Type 0} (b : Bool) (x : X) → is_some (then_some b x) ≡ true → (b ≡ true)
    × (then_some b x ≡ Some x)
then_made true x is = (refl, refl)
then_made false x is = absurd (cc)

-- the place behind one block more
place_of-push : (sent : List Block) (b : Block) (p : Place) → place_of sent ≡ Some p →
    place_of (sent ++ b ∷ []) ≡ place_after p.saves p.underway b
place_of-push sent b p at = place_behind-append (Some first_place) sent (b ∷ [])
    ∙ ap (λ o. place_behind o (b ∷ [])) at ∙ one (place_after p.saves p.underway b)
  where
    one : (o : Option Place) → place_behind o [] ≡ o
    one o = refl

-- what is due where a block may follow
may_push : (sent : List Block) (b : Block) (bound : ℕ) (p : Place) → place_of sent ≡ Some p →
    may_follow sent b bound ≡ true →
    (is_some (place_after p.saves p.underway b) ≡ true) × (save_of b < bound) × (fits_name b ≡ true)
may_push sent b bound p at may =
    let outer = and_parts (is_some (place_of (sent ++ b ∷ [])) && nat_lt (save_of b) bound)
    (fits_name b) may in
    let inner = and_parts (is_some (place_of (sent ++ b ∷ []))) (nat_lt (save_of b) bound)
    outer.0 in (
      subst (λ o. is_some o ≡ true) (place_of-push sent b p at) inner.0,
      ltb-true (save_of b) bound inner.1,
      outer.1,
    )

-- one save more behind others
sent_more : (first : ℕ) (saves : List Save) (s : Save) → AreSent first saves →
    s.number ≡ first + length saves → MayBeSent s → AreSent first (saves ++ s ∷ [])
sent_more first [] s are number may = ((let same : s.number ≡ first = omega arith in same), may, tt)
sent_more first (x ∷ xs) s are number may = (
  are.0,
  are.1,
  sent_more (first + 1) xs s are.2 (let same : s.number ≡ first + 1 + length xs =
      omega arith in same) may,
)

blocks_for_more : (saves : List Save) (s : Save) →
    blocks_for_all (saves ++ s ∷ []) ≡ blocks_for_all saves ++ blocks_of_save s
blocks_for_more [] s = append-nil (blocks_of_save s)
blocks_for_more (x ∷ xs) s =
    ap (λ bs. blocks_of_save x ++ bs) (blocks_for_more xs s)
    ∙ sym (append_assoc (blocks_of_save x) (blocks_for_all xs) (blocks_of_save s))

-- a save with as many lists as its target says has a list of each index
each_list : (target : Target) (loops k : ℕ) → is_save_target target ≡ true →
    k < list_count target loops → has_list target loops (first_index target + k) ≡ true
each_list (One i) loops k kind below = eq-eqb (i + k) i (omega arith)
each_list All loops k kind below = lt-ltb (0 + k) loops (omega arith)
each_list Selected loops k kind below = absurd (cc)

-- the save that has begun, with the lists so far
abbrev save_so_far : {bound : ℕ} {b : Underway} {sent : List Block} → HaveBegun bound b sent → Save
save_so_far {b = b} h =
    record {
      number = length h.saves;
      name = h.name;
      target = b.target;
      settings =
          h.settings;
      lists = h.lists;
    }

may_be_sent : {bound : ℕ} {b : Underway} {sent : List Block} (h : HaveBegun bound b sent) →
    MayBeSent (save_so_far h)
may_be_sent {b = b} h =
    let count : length h.lists ≡ list_count b.target (length h.settings.strips) =
    h.count ∙ ap (list_count b.target) h.loops in
    record {
      save = record {
        kind = h.kind;
        named = h.named;
        each = λ k below.
            each_list b.target (length h.settings.strips) k h.kind (omega arith);
        short = h.short;
      };
      count = count;
    }

-- its blocks are those so far and its end
so_far_whole : {bound : ℕ} {b : Underway} {sent : List Block} (h : HaveBegun bound b sent) →
    blocks_for_all (h.saves ++ save_so_far h ∷ []) ≡ sent ++ End (length h.saves) ∷ []
so_far_whole {b = b} h =
    blocks_for_more h.saves (save_so_far h)
    ∙ sym (append_assoc (blocks_for_all h.saves) (Head (length h.saves) h.name b.target h.settings
    ∷ parts_of_lists (length h.saves) (first_index b.target) h.lists) (End (length h.saves) ∷ []))
    ∙ ap (λ bs. bs ++ End (length h.saves) ∷ []) (sym h.blocks)

-- a head comes behind whole saves
no_frames : (count : ℕ) → IfSome (slice_get (replicate count []) 0)
    (λ (list : List Sound). length list ≡ 0)
no_frames zero = tt
no_frames (suc count) = refl

head_comes : {bound : ℕ} {sent : List Block} (save : ℕ) (name : List ℕ) (target : Target)
    (settings : LooperSettings) → AreWhole bound sent →
    may_follow sent (Head save name target settings) bound ≡ true →
    HaveBegun bound (record {
      target = target;
      loops = length settings.strips;
      index =
          first_index target;
      frames = 0;
    }) (sent ++ Head save name target settings ∷ [])
head_comes {bound = bound} {sent = sent} save name target settings h may =
    let loops = length settings.strips in
    let due = may_push sent (Head save name target settings) bound
    (record { saves = length h.saves; underway = None }) h.at may in
    let begun : Place =
    record {
      saves = length h.saves;
      underway =
          Some (record { target = target; loops = loops; index = first_index target; frames = 0 });
    } in
    let made = then_made (save == length h.saves && is_save_target target) begun due.0 in
    let tests = and_parts (save == length h.saves) (is_save_target target) made.0 in
    let number : save ≡ length h.saves = eqb-true save (length h.saves) tests.0 in
    let below : save < bound = due.1 in
    let count = list_count target loops in
    record {
      saves = h.saves;
      are = h.are;
      few = (omega arith);
      name = name;
      settings = settings;
      kind = tests.1;
      named = due.2;
      loops = refl;
      lists = replicate count [];
      count = length-replicate count [];
      latest = 0;
      index = (let same : first_index target ≡ first_index target + 0 = omega arith in same);
      frames = no_frames count;
      empty = empty_behind 0 1 (replicate count []) (omega arith) (all_empty count);
      short = none_long count;
      blocks =
          ap (λ bs. bs ++ Head save name target settings ∷ []) h.blocks
          ∙ ap (λ n. blocks_for_all h.saves ++ Head n name target settings ∷ []) number
          ∙ ap (λ bs. blocks_for_all h.saves ++ Head (length h.saves) name target settings ∷ bs)
          (sym (no_parts (length h.saves) (first_index target) count));
      at = place_of-push sent (Head save name target settings)
          (record { saves = length h.saves; underway = None }) h.at ∙ made.1;
    }

-- the place of a list among those of its save
place_for : (target : Target) (loops index : ℕ) → has_list target loops index ≡ true → (k : ℕ)
    × (index ≡ first_index target + k) × (k < list_count target loops)
place_for (One i) loops index has =
    (0, (let same = eqb-true index i has in omega arith), omega arith)
place_for All loops index has = (index, (omega arith), ltb-true index loops has)
place_for Selected loops index has = absurd (cc)

-- a part goes on at the latest list, or begins a later one
goes_on_or_begins : (b : Underway) (index more : ℕ) →
    (nat_lt b.index index || index == b.index && b.frames % 256 == 0
    && nat_le (b.frames + more) max_list_frames) ≡ true →
    (b.index < index) ⊎ ((index ≡ b.index) × (b.frames % 256 ≡ 0)
    × (b.frames + more ≤ max_list_frames))
goes_on_or_begins b index more is = by_later (nat_lt b.index index) refl is
  where
    by_later : (t : Bool) → nat_lt b.index index ≡ t →
        (t || index == b.index && b.frames % 256 == 0 && nat_le (b.frames + more) max_list_frames)
        ≡ true →
        (b.index < index) ⊎ ((index ≡ b.index) × (b.frames % 256 ≡ 0)
        × (b.frames + more ≤ max_list_frames))
    by_later true later rest = inl (ltb-true b.index index later)
    by_later false later rest =
        let outer = and_parts (index == b.index && b.frames % 256 == 0)
        (nat_le (b.frames + more) max_list_frames) rest in
        let inner = and_parts (index == b.index) (b.frames % 256 == 0) outer.0 in
        inr (
          eqb-true index b.index inner.0,
          eqb-true (b.frames % 256) 0 inner.1,
          leb-true (b.frames + more) max_list_frames outer.1,
        )

-- what a part needs of the list at its place: whole parts, no list behind it, and room
record HasRoom (b : Underway) (index more k : ℕ) (lists : List (List Sound)) : Type 0 where
  so_far : ℕ
  is : IfSome (slice_get lists k) (λ list. length list ≡ so_far)
  whole : so_far % 256 ≡ 0
  fits : so_far + more ≤ max_list_frames
  empty : AreEmptyFrom (suc k) lists
  frames : (with_part b index more).frames ≡ so_far + more

if_whole : (o : Option (List Sound)) (so_far : ℕ) → so_far % 256 ≡ 0 →
    IfSome o (λ list. length list ≡ so_far) → IfSome o (λ list. length list % 256 ≡ 0)
if_whole None so_far whole is = tt
if_whole (Some list) so_far whole is = ap (λ n. n % 256) is ∙ whole

has_room : {bound : ℕ} {b : Underway} {sent : List Block} (h : HaveBegun bound b sent)
    (index more k : ℕ) → index ≡ first_index b.target + k → more ≤ 256 →
    (b.index < index) ⊎ ((index ≡ b.index) × (b.frames % 256 ≡ 0)
    × (b.frames + more ≤ max_list_frames)) → HasRoom b index more k h.lists
has_room {b = b} h index more k at few (inl later) =
    let latest : b.index ≡ first_index b.target + h.latest = h.index in
    let other : (index == b.index) ≡ false = ne_eqb index b.index (λ same. omega arith) in
    record {
      so_far = 0;
      is = empty_at k h.lists (empty_behind (suc h.latest) k h.lists (omega arith) h.empty);
      whole = refl;
      fits = (omega arith);
      empty = empty_behind (suc h.latest) (suc k) h.lists (omega arith) h.empty;
      frames = ap (λ t. cond t (b.frames + more) more) other
          ∙ (let same : more ≡ 0 + more = omega arith in same);
    }
has_room {b = b} h index more k at few (inr (same, whole, fits)) =
    let latest : b.index ≡ first_index b.target + h.latest = h.index in
    let here : h.latest ≡ k = omega arith in
    let own : (index == b.index) ≡ true = eq-eqb index b.index same in
    record {
      so_far = b.frames;
      is = subst (λ i. IfSome (slice_get h.lists i) (λ list. length list ≡ b.frames)) here h.frames;
      whole = whole;
      fits = fits;
      empty = subst (λ i. AreEmptyFrom (suc i) h.lists) here h.empty;
      frames = ap (λ t. cond t (b.frames + more) more) own;
    }

-- a part comes
part_comes : {bound : ℕ} {b : Underway} {sent : List Block} (save index : ℕ) (part : List Sound) →
    HaveBegun bound b sent →
    may_follow sent (Part save index part) bound ≡ true →
    HaveBegun bound (with_part b index (length part)) (sent ++ Part save index part ∷ [])
part_comes {bound = bound} {b = b} {sent = sent} save index part h may =
    let due = may_push sent (Part save index part) bound
    (record { saves = length h.saves; underway = Some b }) h.at may in
    let next : Place =
    record { saves = length h.saves; underway = Some (with_part b index (length part)) } in
    let made = then_made (save == length h.saves && may_be_part b index (length part)) next due.0 in
    let tests = and_parts (save == length h.saves) (may_be_part b index (length part)) made.0 in
    let number : save ≡ length h.saves = eqb-true save (length h.saves) tests.0 in
    let goes = and_parts
    (has_list b.target b.loops index && nat_le 1 (length part) && nat_le (length part) 256)
    (nat_lt b.index index || index == b.index && b.frames % 256 == 0
    && nat_le (b.frames + length part) max_list_frames) tests.1 in
    let sizes = and_parts (has_list b.target b.loops index && nat_le 1 (length part))
    (nat_le (length part) 256) goes.0 in
    let has = and_parts (has_list b.target b.loops index) (nat_le 1 (length part)) sizes.0 in
    let some : 1 ≤ length part = leb-true 1 (length part) has.1 in
    let few : length part ≤ 256 = leb-true (length part) 256 sizes.1 in
    let there = place_for b.target b.loops index has.0 in
    let k : ℕ = there.0 in
    let room = has_room h index (length part) k there.1 few
    (goes_on_or_begins b index (length part) goes.1) in
    let inside : k < length h.lists =
    (let total = h.count in let below : k < list_count b.target b.loops = there.2 in
    omega arith) in
    let head = Head (length h.saves) h.name b.target h.settings in
    let parts = parts_of_lists (length h.saves) (first_index b.target) h.lists in
    let grown : parts_of_lists (length h.saves) (first_index b.target) (put_at k part h.lists)
    ≡ parts ++ Part (length h.saves) (first_index b.target + k) part ∷ [] =
    parts_of_lists-put (length h.saves) (first_index b.target) k part h.lists inside
    (if_whole (slice_get h.lists k) room.so_far room.whole room.is) some few room.empty
    in
    record {
      saves = h.saves;
      are = h.are;
      few = h.few;
      name = h.name;
      settings = h.settings;
      kind = h.kind;
      named = h.named;
      loops = h.loops;
      lists = put_at k part h.lists;
      count = length-put_at k part h.lists ∙ h.count;
      latest = k;
      index = there.1;
      frames = subst (λ n. IfSome (slice_get (put_at k part h.lists) k) (λ list. length list ≡ n))
          (sym room.frames) (latest-put_at k room.so_far part h.lists room.is);
      empty = empty-put_at k part h.lists room.empty;
      short = short-put_at k room.so_far part h.lists room.is room.fits h.short;
      blocks =
          ap (λ bs. bs ++ Part save index part ∷ []) h.blocks
          ∙ append_assoc (blocks_for_all h.saves) (head ∷ parts) (Part save index part ∷ [])
          ∙ ap (λ n. blocks_for_all h.saves ++ head ∷ (parts ++ Part n index part ∷ [])) number
          ∙ ap (λ i. blocks_for_all h.saves ++ head ∷ (parts ++ Part (length h.saves) i part ∷ []))
          there.1
          ∙ ap (λ bs. blocks_for_all h.saves ++ head ∷ bs) (sym grown);
      at = place_of-push sent (Part save index part)
          (record { saves = length h.saves; underway = Some b }) h.at ∙ made.1;
    }

-- an end comes
end_comes : {bound : ℕ} {b : Underway} {sent : List Block} (save : ℕ) → HaveBegun bound b sent →
    may_follow sent (End save) bound ≡ true →
    AreWhole bound (sent ++ End save ∷ [])
end_comes {bound = bound} {b = b} {sent = sent} save h may =
    let due = may_push sent (End save) bound (record { saves = length h.saves; underway = Some b })
    h.at may in
    let next : Place = record { saves = length h.saves + 1; underway = None } in
    let made = then_made (save == length h.saves) next due.0 in
    let number : save ≡ length h.saves = eqb-true save (length h.saves) made.0 in
    let count : length (h.saves ++ save_so_far h ∷ []) ≡ length h.saves + 1 =
    length-append h.saves (save_so_far h ∷ []) in
    let below : length h.saves < bound = h.few in
    record {
      saves = h.saves ++ save_so_far h ∷ [];
      are = sent_more 0 h.saves (save_so_far h) h.are
          (let same : length h.saves ≡ 0 + length h.saves = omega arith in same) (may_be_sent h);
      few = (omega arith);
      blocks = ap (λ n. sent ++ End n ∷ []) number ∙ sym (so_far_whole h);
      at = place_of-push sent (End save) (record { saves = length h.saves; underway = Some b }) h.at
          ∙ made.1 ∙ ap (λ n. Some (record { saves = n; underway = None })) (sym count);
    }

-- all blocks, one after another
ends_whole : {bound : ℕ} {sent : List Block} → AreWhole bound sent → BeginSaves bound sent
ends_whole {sent = sent} h = record {
  saves = h.saves;
  sent = h.are;
  few = h.few;
  rest = [];
  whole =
      sym h.blocks ∙ sym (append-nil sent);
}

ends_begun : {bound : ℕ} {b : Underway} {sent : List Block} → HaveBegun bound b sent →
    BeginSaves bound sent
ends_begun {bound = bound} h =
    let count : length (h.saves ++ save_so_far h ∷ []) ≡ length h.saves + 1 =
    length-append h.saves (save_so_far h ∷ []) in
    let below : length h.saves < bound = h.few in
    record {
      saves = h.saves ++ save_so_far h ∷ [];
      sent = sent_more 0 h.saves (save_so_far h) h.are
          (let same : length h.saves ≡ 0 + length h.saves = omega arith in same) (may_be_sent h);
      few = (omega arith);
      rest = End (length h.saves) ∷ [];
      whole = so_far_whole h;
    }

-- how blocks that may follow have come, and one more of them
abbrev HaveCome : ℕ → List Block → Type 0
HaveCome bound sent = AreWhole bound sent ⊎ ((b : Underway) × HaveBegun bound b sent)

comes : {bound : ℕ} {sent : List Block} (b : Block) → HaveCome bound sent →
    may_follow sent b bound ≡ true → HaveCome bound (sent ++ b ∷ [])
comes (Head save name target settings) (inl h) may =
    inr (
      record {
        target = target;
        loops = length settings.strips;
        index = first_index target;
        frames = 0;
      },
      head_comes save name target settings h may,
    )
comes {bound = bound} {sent = sent} (Part save index part) (inl h) may =
    let due = may_push sent (Part save index part) bound
    (record { saves = length h.saves; underway = None }) h.at may in absurd (cc)
comes {bound = bound} {sent = sent} (End save) (inl h) may =
    let due = may_push sent (End save) bound (record { saves = length h.saves; underway = None })
    h.at may in absurd (cc)
comes {bound = bound} {sent = sent} (Head save name target settings) (inr (b, h)) may =
    let due = may_push sent (Head save name target settings) bound
    (record { saves = length h.saves; underway = Some b }) h.at may in absurd (cc)
comes (Part save index part) (inr (b, h)) may =
    inr (with_part b index (length part), part_comes save index part h may)
comes (End save) (inr (b, h)) may = inl (end_comes save h may)

ends : {bound : ℕ} {sent : List Block} → HaveCome bound sent → BeginSaves bound sent
ends (inl h) = ends_whole h
ends (inr (b, h)) = ends_begun h

follow : (bound : ℕ) (sent bs : List Block) → HaveCome bound sent →
    may_all_follow sent bs bound ≡ true → BeginSaves bound (sent ++ bs)
follow bound sent [] h may = subst (λ all. BeginSaves bound all) (sym (append-nil sent)) (ends h)
follow bound sent (b ∷ bs) h may =
    let parts = and_parts (may_follow sent b bound) (may_all_follow (sent ++ b ∷ []) bs bound)
    may in
    subst (λ all. BeginSaves bound all) (append_assoc sent (b ∷ []) bs)
    (follow bound (sent ++ b ∷ []) bs (comes b h parts.0) parts.1)

-- blocks that may follow from the first on
pub blocks_begin_saves : (bound : ℕ) (bs : List Block) → may_all_follow [] bs bound ≡ true →
    BeginSaves bound bs
blocks_begin_saves bound bs may =
    follow bound [] bs
    (inl (record { saves = []; are = tt; few = (omega arith); blocks = refl; at = refl })) may
