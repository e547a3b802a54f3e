-- What the activity of the saver did, turn by turn.
use Rattle.std.proofs.Common.{◌≡◌, ◌≤◌, ◌<◌, ℕ, ◌+◌, ◌&&◌, Bool, true, false, List, [], ◌∷◌, ◌++◌, length, refl, sym, ap, ◌∙◌, subst, append_assoc, append-nil, arith, nat_lt, ltb-true}
use Rattle.std.specs.Prelude.{Option, Some, None, is_some, option_to_list, IsTrue}
use Rattle.std.specs.List.{AllByRecursion}
use Rattle.std.proofs.lemmas.Bool.{and_parts, and_from}
use Rattle.sl_base.specs.Counting.{Rose}
use Rattle.sl_commands.specs.declared.Block.{Block}
use Rattle.sl_commands.specs.Blocks.{first_place, place_after, place_behind, place_of, save_of, fits_name, may_follow}
use Rattle.sl_commands.specs.Commands.{is_outcome}
use Rattle.sl_commands.proofs.BlockLemmas.{place_behind-append}
use Rattle.sl_ports.specs.declared.keepers.Keeper.{Ghosts as Keeper}
use Rattle.loop_saver.specs.declared.saver.Saved.{Saved}
use Rattle.loop_saver.specs.declared.saver.Saved.TheVariants.{Continue, Finished}
use Rattle.loop_saver.specs.Savers.{SavingOf, underway_in}
use Rattle.loop_saver.specs.Keeping.{HasCome, outcome_in}
use Rattle.loop_saver.proofs.ComeLemmas.{its_save}
use Rattle.loop_saver.proofs.KeepLemmas.{one_kept, keeps_then, are_outcomes}
use Rattle.loop_saver.proofs.PlaceLemmas.{comes_behind}
use Rattle.event_rings.specs.Ends.{PutEnd, TakeEnd, SamePutRing, SameTakeRing, IsFull}
use Rattle.saver_serving.specs.Serving.{ServingOf, serving, MayServe, SaverDid, HasWaited}
use Rattle.saver_serving.specs.Turns.{taking, TookOne, TookNone, WaitedWhere}

-- what is some is something
some_is : {A : Type 0} (o : Option A) → IsTrue (is_some o) → (a : A) × (o ≡ Some a)
some_is (Some a) is = (a, refl)
some_is None is = absurd (Prim.cc)

-- a block that may follow is of the save that is due, which is below the bound
follower_below : (blocks : List Block) (b : Block) (bound saves : ℕ) (saving : Option SavingOf) →
    HasCome saving blocks saves → IsTrue (may_follow blocks b bound) → saves < bound
follower_below blocks b bound saves saving come may =
    let all = and_parts (is_some (place_of (blocks ++ b ∷ [])) && nat_lt (save_of b) bound)
    (fits_name b) may in
    let two = and_parts (is_some (place_of (blocks ++ b ∷ []))) (nat_lt (save_of b) bound) all.0 in
    let one_more : place_of (blocks ++ b ∷ []) ≡ place_after saves (underway_in saving) b =
    place_behind-append (Some first_place) blocks (b ∷ [])
    ∙ ap (λ o. place_behind o (b ∷ [])) come.place in
    let at = some_is _ (subst (λ o. IsTrue (is_some o)) one_more two.0) in
    subst (λ n. n < bound) (its_save saves (underway_in saving) b at.0 at.1)
    (ltb-true (save_of b) bound two.1)

-- a block gives one outcome at most
one_outcome : (answer : Saved) → length (outcome_in answer) ≤ 1
one_outcome Continue = omega arith
one_outcome (Finished target outcome) = omega arith

-- an outcome that is held is one of those
held_outcome : (held : Option ℕ) (outs : List ℕ) → option_to_list held ≡ outs →
    AllByRecursion (λ o. IsTrue (is_outcome o)) outs → (o : ℕ) → held ≡ Some o →
    IsTrue (is_outcome o)
held_outcome held outs same all o is =
    (subst (λ l. AllByRecursion (λ o. IsTrue (is_outcome o)) l)
    (sym same ∙ ap option_to_list is) all).0

-- a ring is the same
same_put : (r : PutEnd ℕ) → SamePutRing r r
same_put r =
    record { name = refl; kind = refl; capacity = refl; limit = refl; bound = refl }

same_take : (b : TakeEnd Block) → SameTakeRing b b
same_take b =
    record { name = refl; kind = refl; capacity = refl; limit = refl; bound = refl }

-- so is that of what says that audio is over
pub same_over : (o : TakeEnd ℕ) → SameTakeRing o o
same_over o =
    record { name = refl; kind = refl; capacity = refl; limit = refl; bound = refl }

pub over_then : (o p q : TakeEnd ℕ) → SameTakeRing o p → SameTakeRing p q → SameTakeRing o q
over_then o p q x y =
    record {
      name = y.name ∙ x.name;
      kind = y.kind ∙ x.kind;
      capacity = y.capacity ∙ x.capacity;
      limit = y.limit ∙ x.limit;
      bound = y.bound ∙ x.bound;
    }

module _ {P : Type 0} (k : Keeper P) (rate : ℕ) where
  -- nothing was done
  pub did_none : (saving : Option SavingOf) (old : P) (blocks : TakeEnd Block)
      (releases : PutEnd ℕ) (held : Option ℕ) →
      SaverDid k rate (serving saving old blocks releases held)
      (serving saving old blocks releases held)
  did_none saving old blocks releases held =
      record {
        taken = [];
        outs = [];
        kept = (refl, refl, refl);
        took = sym (append-nil blocks.taken);
        put = ap (λ l. releases.sent ++ l) (sym (append-nil (option_to_list held)));
        blocks = same_take blocks;
        releases = same_put releases;
        nones = omega arith;
        fulls = omega arith;
      }

  -- the outcome that was held was put
  pub put_did : (saving : Option SavingOf) (old : P) (blocks : TakeEnd Block)
      (releases releases' : PutEnd ℕ) (held : Option ℕ) (outcome : ℕ) → held ≡ Some outcome →
      SamePutRing releases releases' → releases'.sent ≡ releases.sent ++ outcome ∷ [] →
      releases'.fulls ≡ releases.fulls →
      SaverDid k rate (serving saving old blocks releases held)
      (serving saving old blocks releases' None)
  put_did saving old blocks releases releases' held outcome is ring sent fulls =
      record {
        taken = [];
        outs = [];
        kept = (refl, refl, refl);
        took = sym (append-nil blocks.taken);
        put = append-nil releases'.sent ∙ sent
            ∙ ap (λ h. releases.sent ++ option_to_list h) (sym is)
            ∙ ap (λ l. releases.sent ++ l) (sym (append-nil (option_to_list held)));
        blocks = same_take blocks;
        releases = ring;
        nones = omega arith;
        fulls = omega arith;
      }

  -- a put found the ring full
  pub full_did : (saving : Option SavingOf) (old : P) (blocks : TakeEnd Block)
      (releases releases' : PutEnd ℕ) (held : Option ℕ) → SamePutRing releases releases' →
      IsFull releases releases' →
      SaverDid k rate (serving saving old blocks releases held)
      (serving saving old blocks releases' held)
  full_did saving old blocks releases releases' held ring full =
      let counted = full.counted in
      record {
        taken = [];
        outs = [];
        kept = (refl, refl, refl);
        took = sym (append-nil blocks.taken);
        put = ap (λ l. l ++ option_to_list held) full.sent
            ∙ ap (λ l. releases.sent ++ l) (sym (append-nil (option_to_list held)));
        blocks = same_take blocks;
        releases = ring;
        nones = omega arith;
        fulls = omega arith;
      }

  -- a take found the ring empty
  pub none_did : (saving after : Option SavingOf) (old new : P) (blocks blocks' : TakeEnd Block)
      (releases : PutEnd ℕ) (held : Option ℕ) → SameTakeRing blocks blocks' →
      TookNone (taking saving old blocks) (taking after new blocks') →
      SaverDid k rate (serving saving old blocks releases held)
      (serving after new blocks' releases held)
  none_did saving after old new blocks blocks' releases held ring took =
      let counted = took.empty.counted in
      record {
        taken = [];
        outs = [];
        kept = (refl, took.saving, took.keeper);
        took = took.empty.taken ∙ sym (append-nil blocks.taken);
        put = ap (λ l. releases.sent ++ l) (sym (append-nil (option_to_list held)));
        blocks = ring;
        releases = same_put releases;
        nones = omega arith;
        fulls = omega arith;
      }

  -- a block was taken, and the outcome that it gave is held
  pub block_may : (saving after : Option SavingOf) (old new : P) (blocks blocks' : TakeEnd Block)
      (releases : PutEnd ℕ) (held held' : Option ℕ) (answer : Saved) → held ≡ None →
      option_to_list held' ≡ outcome_in answer → SameTakeRing blocks blocks' →
      TookOne k rate (taking saving old blocks) (taking after new blocks') answer →
      MayServe (serving saving old blocks releases held) →
      MayServe (serving after new blocks' releases held')
  block_may saving after old new blocks blocks' releases held held' answer none gave ring took m =
      let may = took.next.may in
      let kept = one_kept k rate took.block saving after old new answer took.accepts in
      let come = comes_behind k rate blocks.bound blocks.taken (took.block ∷ []) m.saves saving
      after
      old new (outcome_in answer) m.come
      (and_from (may_follow blocks.taken took.block blocks.bound) true may refl) kept in
      let below = follower_below blocks.taken took.block blocks.bound m.saves saving m.come may in
      let most = one_outcome answer in
      let bound = ring.bound in
      let before = m.each in
      let no_held = ap (λ h. length (option_to_list h)) none in
      let now_held = ap length gave in
      record {
        saves = m.saves + length (outcome_in answer);
        come = subst (λ l. HasCome after l (m.saves + length (outcome_in answer)))
            (sym took.next.taken) come;
        each = omega arith;
        within = omega arith;
        limit = subst (λ n. n ≤ releases.limit) (sym ring.bound) m.limit;
        outcome = held_outcome held' (outcome_in answer) gave
            (are_outcomes k rate (took.block ∷ []) saving after old new (outcome_in answer) kept);
      }

  pub block_did : (saving after : Option SavingOf) (old new : P) (blocks blocks' : TakeEnd Block)
      (releases : PutEnd ℕ) (held held' : Option ℕ) (answer : Saved) → held ≡ None →
      option_to_list held' ≡ outcome_in answer → SameTakeRing blocks blocks' →
      TookOne k rate (taking saving old blocks) (taking after new blocks') answer →
      SaverDid k rate (serving saving old blocks releases held)
      (serving after new blocks' releases held')
  block_did saving after old new blocks blocks' releases held held' answer none gave ring took =
      let nones = took.next.nones in
      record {
        taken = took.block ∷ [];
        outs = outcome_in answer;
        kept = one_kept k rate took.block saving after old new answer took.accepts;
        took = took.next.taken;
        put = ap (λ l. releases.sent ++ l) gave
            ∙ ap (λ h. releases.sent ++ (option_to_list h ++ outcome_in answer)) (sym none);
        blocks = ring;
        releases = same_put releases;
        nones = omega arith;
        fulls = omega arith;
      }

  -- this was done, and then that
  pub did_then : (s t u : ServingOf P) → SaverDid k rate s t → SaverDid k rate t u →
      SaverDid k rate s u
  did_then s t u x y =
      let nones_first = x.nones in
      let nones_then = y.nones in
      let fulls_first = x.fulls in
      let fulls_then = y.fulls in
      let h = option_to_list s.held in
      record {
        taken = x.taken ++ y.taken;
        outs = x.outs ++ y.outs;
        kept = keeps_then k rate x.taken y.taken s.saving t.saving u.saving s.keeper t.keeper
            u.keeper x.outs y.outs x.kept y.kept;
        took = y.took ∙ ap (λ l. l ++ y.taken) x.took
            ∙ append_assoc s.blocks.taken x.taken y.taken;
        put = y.put ∙ sym (append_assoc t.releases.sent (option_to_list t.held) y.outs)
            ∙ ap (λ l. l ++ y.outs) x.put ∙ append_assoc s.releases.sent (h ++ x.outs) y.outs
            ∙ ap (λ l. s.releases.sent ++ l) (append_assoc h x.outs y.outs);
        blocks = record {
          name = y.blocks.name ∙ x.blocks.name;
          kind = y.blocks.kind ∙ x.blocks.kind;
          capacity = y.blocks.capacity ∙ x.blocks.capacity;
          limit = y.blocks.limit ∙ x.blocks.limit;
          bound = y.blocks.bound ∙ x.blocks.bound;
        };
        releases = record {
          name = y.releases.name ∙ x.releases.name;
          kind = y.releases.kind ∙ x.releases.kind;
          capacity = y.releases.capacity ∙ x.releases.capacity;
          limit = y.releases.limit ∙ x.releases.limit;
          bound = y.releases.bound ∙ x.releases.bound;
        };
        nones = omega arith;
        fulls = omega arith;
      }

  rose_since : (a b c : ℕ) → a ≤ b → Rose b c → Rose a c
  rose_since a b c early rose = omega arith

  waited_since : (held : Option ℕ) (s t u : ServingOf P) → SaverDid k rate s t →
      HasWaited held t u → HasWaited held s u
  waited_since None s t u did waited =
      rose_since s.blocks.nones t.blocks.nones u.blocks.nones did.nones waited
  waited_since (Some o) s t u did waited =
      rose_since s.releases.fulls t.releases.fulls u.releases.fulls did.fulls waited

  -- there was nothing to do in the last turn
  pub waited_then : (waited : Bool) (s t u : ServingOf P) → waited ≡ true → SaverDid k rate s t →
      WaitedWhere waited t u → HasWaited u.held s u
  waited_then true s t u is did at_last = waited_since u.held s t u did at_last
  waited_then false s t u is did at_last = absurd (Prim.cc)
