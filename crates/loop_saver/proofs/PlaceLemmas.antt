-- A saver is at the place that the blocks lead to which it accepted.
use Rattle.std.proofs.Common.{◌≡◌, ℕ, ◌+◌, ◌&&◌, List, [], ◌∷◌, ◌++◌, length, refl, sym, ap, ap₂, ◌∙◌, subst, append_assoc, append-nil, length-append, arith, nat_lt}
use Rattle.std.specs.Prelude.{Option, Some, None, is_some, IsTrue}
use Rattle.std.proofs.lemmas.Bool.{and_parts, and_from}
use Rattle.sl_commands.specs.declared.Block.{Block}
use Rattle.sl_commands.specs.declared.Block.TheVariants.{Head, Part, End}
use Rattle.sl_commands.specs.Blocks.{Underway, Place, first_place, place_after, place_behind, place_of, save_of, fits_name, may_follow, may_all_follow}
use Rattle.sl_commands.proofs.BlockLemmas.{place_behind-append}
use Rattle.sl_ports.specs.declared.keepers.Keeper.{Ghosts as Keeper}
use Rattle.loop_saver.specs.declared.saver.Saved.{Saved}
use Rattle.loop_saver.specs.Savers.{SavingOf, underway_in, may_come}
use Rattle.loop_saver.specs.Accepting.{Accepts}
use Rattle.loop_saver.specs.Keeping.{Keeps, HasCome, outcome_in}
use Rattle.loop_saver.proofs.ComeLemmas.{some_then, its_save}

-- the place of so many saves, and this one underway
abbrev place : ℕ → Option Underway → Place
place saves underway = record { saves = saves; underway = underway }

-- the place behind one block more
one_more : (blocks : List Block) (b : Block) (saves : ℕ) (saving : Option SavingOf) →
    HasCome saving blocks saves →
    place_of (blocks ++ b ∷ []) ≡ place_after saves (underway_in saving) b
one_more blocks b saves saving come =
    place_behind-append (Some first_place) blocks (b ∷ [])
    ∙ ap (λ o. place_behind o (b ∷ [])) come.place

-- what is some is something
some_is : {A : Type 0} (o : Option A) → IsTrue (is_some o) → (a : A) × (o ≡ Some a)
some_is (Some a) is = (a, refl)
some_is None is = absurd (Prim.cc)

-- a block that may follow is in its order
in_order : (blocks : List Block) (b : Block) (bound saves : ℕ) (saving : Option SavingOf) →
    HasCome saving blocks saves → IsTrue (may_follow blocks b bound) →
    IsTrue (is_some (place_after saves (underway_in saving) b)) × IsTrue (fits_name b)
in_order blocks b bound saves saving come may =
    let all = and_parts (is_some (place_of (blocks ++ b ∷ [])) && nat_lt (save_of b) bound)
    (fits_name b) may in
    let first = and_parts (is_some (place_of (blocks ++ b ∷ [])))
    (nat_lt (save_of b) bound) all.0 in
    (subst (λ o. IsTrue (is_some o)) (one_more blocks b saves saving come) first.0, all.1)

-- a block that may follow what was taken may come
pub follower_comes : (blocks : List Block) (b : Block) (bound saves : ℕ)
    (saving : Option SavingOf) → HasCome saving blocks saves →
    IsTrue (may_follow blocks b bound) → IsTrue (may_come saving b)
follower_comes blocks b bound saves saving come may =
    let order = in_order blocks b bound saves saving come may in
    let at = some_is _ order.0 in
    let same = its_save saves (underway_in saving) b at.0 at.1 in
    and_from (is_some (place_after (save_of b) (underway_in saving) b)) (fits_name b)
    (subst (λ n. IsTrue (is_some (place_after n (underway_in saving) b))) (sym same) order.0)
    order.1

-- the place behind an accepted block
accepted_place :
    {P : Type 0} (k : Keeper P) (rate saves : ℕ) (b : Block) (saving after : Option SavingOf)
    (old new : P) (answer : Saved) (p : Place) → Accepts k rate b saving after old new answer →
    place_after saves (underway_in saving) b ≡ Some p →
    p ≡ place (saves + length (outcome_in answer)) (underway_in after)
accepted_place k rate saves (Head save name target settings) None after old new answer p accepts
    is =
    let none : saves ≡ saves + length (outcome_in answer) =
    (let on = ap (λ a. length (outcome_in a)) accepts.2 in omega arith) in
    sym (some_then _ _ p is).1
    ∙ ap₂ place none (sym (ap underway_in accepts.0))
accepted_place k rate saves (Head save name target settings) (Some s) after old new answer p
    accepts is = absurd (Prim.cc)
accepted_place k rate saves (Part save index frames) None after old new answer p accepts is =
    absurd accepts
accepted_place k rate saves (Part save index frames) (Some s) after old new answer p accepts is =
    let none : saves ≡ saves + length (outcome_in answer) =
    (let on = ap (λ a. length (outcome_in a)) accepts.1 in omega arith) in
    sym (some_then _ _ p is).1
    ∙ ap₂ place none (sym (ap underway_in accepts.0.saving))
accepted_place k rate saves (End save) None after old new answer p accepts is = absurd accepts
accepted_place k rate saves (End save) (Some s) after old new answer p accepts is =
    let one : saves + 1 ≡ saves + length (outcome_in answer) =
    (let on = ap (λ a. length (outcome_in a)) accepts.answer_is in omega arith) in
    sym (some_then _ _ p is).1
    ∙ ap₂ place one (sym (ap underway_in accepts.over))

-- a block more
comes_on :
    {P : Type 0} (k : Keeper P) (rate bound saves : ℕ) (blocks : List Block) (b : Block)
    (saving after : Option SavingOf) (old new : P) (answer : Saved) →
    HasCome saving blocks saves → IsTrue (may_follow blocks b bound) →
    Accepts k rate b saving after old new answer →
    HasCome after (blocks ++ b ∷ []) (saves + length (outcome_in answer))
comes_on k rate bound saves blocks b saving after old new answer come may accepts =
    let order = in_order blocks b bound saves saving come may in
    let at = some_is _ order.0 in
    record {
      place = one_more blocks b saves saving come ∙ at.1
          ∙ ap Some (accepted_place k rate saves b saving after old new answer at.0 accepts at.1);
    }

-- all blocks that may follow
pub comes_behind :
    {P : Type 0} (k : Keeper P) (rate bound : ℕ) (blocks bs : List Block) (saves : ℕ)
    (saving after : Option SavingOf) (old new : P) (outs : List ℕ) →
    HasCome saving blocks saves → IsTrue (may_all_follow blocks bs bound) →
    Keeps k rate bs saving old outs after new →
    HasCome after (blocks ++ bs) (saves + length outs)
comes_behind k rate bound blocks [] saves saving after old new outs come may keeps =
    let none : saves ≡ saves + length outs = (let no = ap length keeps.0 in omega arith) in
    subst (λ n. HasCome after (blocks ++ []) n) none
    (subst (λ o. HasCome o (blocks ++ []) saves) (sym keeps.1)
    (subst (λ bs. HasCome saving bs saves) (sym (append-nil blocks)) come))
comes_behind k rate bound blocks (b ∷ bs) saves saving after old new outs come may keeps =
    let parts = and_parts (may_follow blocks b bound)
    (may_all_follow (blocks ++ b ∷ []) bs bound) may in
    let next = comes_on k rate bound saves blocks b saving keeps.mid old keeps.now keeps.answer
    come parts.0 keeps.accepts in
    let all = comes_behind k rate bound (blocks ++ b ∷ []) bs
    (saves + length (outcome_in keeps.answer)) keeps.mid after keeps.now new keeps.more next
    parts.1 keeps.behind in
    let count : saves + length (outcome_in keeps.answer) + length keeps.more
    ≡ saves + length outs =
    (let is = ap length keeps.gave ∙ length-append (outcome_in keeps.answer) keeps.more in
    omega arith) in
    subst (λ n. HasCome after (blocks ++ b ∷ bs) n) count
    (subst (λ l. HasCome after l (saves + length (outcome_in keeps.answer) + length keeps.more))
    (append_assoc blocks (b ∷ []) bs) all)
