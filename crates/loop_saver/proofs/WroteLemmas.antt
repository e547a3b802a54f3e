-- The blocks of saves write the files of these saves, one save after another.
use Rattle.std.proofs.Common.{◌≡◌, ℕ, ◌+◌, ◌==◌, cond, Bool, true, false, not, List, [], ◌∷◌, ◌++◌, length, refl, sym, ap, ap₂, ◌∙◌, subst, append_assoc, append-nil, arith}
use Rattle.std.specs.Prelude.{Option, Some, None}
use Rattle.std.specs.List.{AllByRecursion, list_all}
use Rattle.std.proofs.lemmas.Bool.{and_parts, and_from}
use Rattle.sl_base.specs.Counting.{RoseBy}
use Rattle.sl_base.specs.Sounds.{Sound}
use Rattle.sl_commands.specs.declared.Block.{Block}
use Rattle.sl_commands.specs.declared.Block.TheVariants.{Head, Part, End}
use Rattle.sl_commands.specs.Blocks.{parts_behind, parts_of_lists, first_index, part_length}
use Rattle.sl_ports.specs.declared.keepers.Keeper.{Ghosts as Keeper}
use Rattle.looper_rules.specs.Saves.{Save}
use Rattle.looper_rules.specs.SaveBlocks.{blocks_of_save, blocks_for_all, is_end, MayBeSent}
use Rattle.loop_saver.specs.declared.ending.Ending.{Ending}
use Rattle.loop_saver.specs.declared.ending.Ending.TheVariants.{Written, Failed, Memory}
use Rattle.loop_saver.specs.SavedFiles.{SavedFile, files_of_save}
use Rattle.loop_saver.specs.Savers.{SavingOf, ending_number, underway_in}
use Rattle.loop_saver.specs.Accepting.{Writes, Accepts}
use Rattle.loop_saver.specs.Coming.{Feeds, HasWritten}
use Rattle.loop_saver.specs.Keeping.{Keeps, outcome_in, WroteSave, WroteSaves, failed_in}
use Rattle.loop_saver.proofs.ComeLemmas.{save_blocks_come}
use Rattle.loop_saver.proofs.DueLemmas.{files_due, save_over}
use Rattle.loop_saver.proofs.FeedLemmas.{feeds_on, files_on}

-- no save ends in these blocks
abbrev end_none : List Block → Bool
end_none bs = list_all (λ b. not (is_end b)) bs

none-append : (xs ys : List Block) → end_none xs ≡ true → end_none ys ≡ true →
    end_none (xs ++ ys) ≡ true
none-append [] ys first next = next
none-append (x ∷ xs) ys first next =
    let parts = and_parts (not (is_end x)) (end_none xs) first in
    and_from (not (is_end x)) (end_none (xs ++ ys)) parts.0 (none-append xs ys parts.1 next)

parts_end_none : (save index : ℕ) (held xs : List Sound) →
    end_none (parts_behind save index held xs) ≡ true
parts_end_none save index [] [] = refl
parts_end_none save index (h ∷ hs) [] = refl
parts_end_none save index held (x ∷ xs) =
    by_full (length held + 1 == part_length) (parts_end_none save index [] xs)
    (parts_end_none save index (held ++ x ∷ []) xs)
  where
    by_full : (b : Bool) → end_none (parts_behind save index [] xs) ≡ true →
        end_none (parts_behind save index (held ++ x ∷ []) xs) ≡ true →
        end_none (cond b (Part save index (held ++ x ∷ []) ∷ parts_behind save index [] xs)
        (parts_behind save index (held ++ x ∷ []) xs)) ≡ true
    by_full true full longer = full
    by_full false full longer = longer

lists_end_none : (save index : ℕ) (lists : List (List Sound)) →
    end_none (parts_of_lists save index lists) ≡ true
lists_end_none save index [] = refl
lists_end_none save index (list ∷ lists) =
    none-append (parts_behind save index [] list) (parts_of_lists save (index + 1) lists)
    (parts_end_none save index [] list) (lists_end_none save (index + 1) lists)

module _ {P : Type 0} (k : Keeper P) (rate : ℕ) where
  -- what was accepted, cut in two
  pub record Split (xs ys : List Block) (a c : Option SavingOf) (p r : P)
      (outs : List ℕ) : Type 0 where
    pub mid : Option SavingOf
    pub now : P
    pub first : List ℕ
    pub next : List ℕ
    pub both : outs ≡ first ++ next
    pub front : Keeps k rate xs a p first mid now
    pub rest : Keeps k rate ys mid now next c r

  split : (xs ys : List Block) (a c : Option SavingOf) (p r : P) (outs : List ℕ) →
      Keeps k rate (xs ++ ys) a p outs c r → Split xs ys a c p r outs
  split [] ys a c p r outs x = record {
    mid = a;
    now = p;
    first = [];
    next = outs;
    both = refl;
    front = (refl, refl, refl);
    rest = x;
  }
  split (b ∷ xs) ys a c p r outs x =
      let s = split xs ys x.mid c x.now r x.more x.behind in
      record {
        mid = s.mid;
        now = s.now;
        first = outcome_in x.answer ++ s.first;
        next = s.next;
        both = x.gave ∙ ap (λ l. outcome_in x.answer ++ l) s.both
            ∙ sym (append_assoc (outcome_in x.answer) s.first s.next);
        front = record {
          mid = x.mid;
          now = x.now;
          answer = x.answer;
          more = s.first;
          accepts = x.accepts;
          gave = refl;
          behind = s.front;
        };
        rest = s.rest;
      }

  -- how a save ended whose files have come so far
  wrote : (all : List SavedFile) (start new : P) (ending : Ending) →
      HasWritten k rate all start new ending None [] →
      WroteSave k all start new (ending_number ending)
  wrote all start new Written x = record {
    ending = Written;
    is = refl;
    writes = subst (λ fs. Writes k fs start new Written) (sym (x.whole ∙ append-nil x.done))
        x.written;
  }
  wrote all start new Failed x = record { ending = Failed; is = refl; writes = x }
  wrote all start new Memory x = record { ending = Memory; is = refl; writes = x }

  -- the blocks of one save gave one outcome
  pub record OneSave (all : List SavedFile) (start new : P) (saving : Option SavingOf)
      (outs : List ℕ) : Type 0 where
    pub over : saving ≡ None
    pub outcome : ℕ
    pub gave : outs ≡ outcome ∷ []
    pub wrote_it : WroteSave k all start new outcome

  at_end : (n : ℕ) (saving after : Option SavingOf) (start old new : P) (all : List SavedFile)
      (outs : List ℕ) → Feeds k rate all start old saving (End n ∷ []) →
      Keeps k rate (End n ∷ []) saving old outs after new → OneSave all start new after outs
  at_end n None after start old new all outs feeds x = absurd x.accepts
  at_end n (Some s) after start old new all outs feeds x =
      let a = x.accepts in
      let done = wrote all start x.now a.ending
      (files_on k rate all _ start old x.now s.ending a.ending (Some s) (λ e. None) (End n) []
      refl refl feeds.files a.writes) in
      record {
        over = x.behind.1 ∙ a.over;
        outcome = ending_number a.ending;
        gave = x.gave ∙ ap₂ (λ w l. outcome_in w ++ l) a.answer_is x.behind.0;
        wrote_it = subst (λ q. WroteSave k all start q (ending_number a.ending))
            (sym x.behind.2) done;
      }

  one_save : (xs : List Block) (n : ℕ) (saving after : Option SavingOf) (start old new : P)
      (all : List SavedFile) (outs : List ℕ) → end_none xs ≡ true →
      Feeds k rate all start old saving (xs ++ End n ∷ []) →
      Keeps k rate (xs ++ End n ∷ []) saving old outs after new →
      OneSave all start new after outs
  one_save [] n saving after start old new all outs none feeds x =
      at_end n saving after start old new all outs feeds x
  one_save (End m ∷ xs) n saving after start old new all outs none feeds x =
      absurd (Prim.cc)
  one_save (Head save name target settings ∷ xs) n saving after start old new all outs none feeds
      x =
      let a = x.accepts in
      let on = feeds_on k rate all start old x.now saving x.mid (Head save name target settings)
      (xs ++ End n ∷ [])
      (subst (λ w. Accepts k rate (Head save name target settings) saving x.mid old x.now w) a.2
      x.accepts) feeds in
      let rest = one_save xs n x.mid after start x.now new all x.more none on x.behind in
      record {
        over = rest.over;
        outcome = rest.outcome;
        gave = x.gave ∙ ap₂ (λ w l. outcome_in w ++ l) a.2 rest.gave;
        wrote_it = rest.wrote_it;
      }
  one_save (Part save index frames ∷ xs) n None after start old new all outs none feeds x =
      absurd x.accepts
  one_save (Part save index frames ∷ xs) n (Some s) after start old new all outs none feeds x =
      let a = x.accepts in
      let on = feeds_on k rate all start old x.now (Some s) x.mid (Part save index frames)
      (xs ++ End n ∷ [])
      (subst (λ w. Accepts k rate (Part save index frames) (Some s) x.mid old x.now w) a.1
      x.accepts) feeds in
      let rest = one_save xs n x.mid after start x.now new all x.more none on x.behind in
      record {
        over = rest.over;
        outcome = rest.outcome;
        gave = x.gave ∙ ap₂ (λ w l. outcome_in w ++ l) a.1 rest.gave;
        wrote_it = rest.wrote_it;
      }

  -- before the first block of a save
  first_feeds : (s : Save) (start : P) → MayBeSent s →
      Feeds k rate (files_of_save rate s) start start None (blocks_of_save s)
  first_feeds s start may = record {
    files = record { done = []; whole = sym (files_due rate s); written = (refl, refl) };
    may = record { may = save_blocks_come s may; over = ap underway_in (save_over s) };
  }

  -- the blocks of saves write their files
  pub saves_wrote : (saves : List Save) (old new : P) (outs : List ℕ) (after : Option SavingOf) →
      AllByRecursion MayBeSent saves →
      Keeps k rate (blocks_for_all saves) None old outs after new →
      (after ≡ None) × WroteSaves k rate saves old outs new
  saves_wrote [] old new outs after may x = (x.1, (x.0, x.2))
  saves_wrote (s ∷ saves) old new outs after may x =
      let t = split (blocks_of_save s) (blocks_for_all saves) None after old new outs x in
      let parts = parts_of_lists s.number (first_index s.target) s.lists in
      let none = lists_end_none s.number (first_index s.target) s.lists in
      let one = one_save (Head s.number s.name s.target s.settings ∷ parts) s.number None t.mid old
      old t.now (files_of_save rate s) t.first none (first_feeds s old may.0) t.front in
      let more = saves_wrote saves t.now new t.next after may.1
      (subst (λ m. Keeps k rate (blocks_for_all saves) m t.now t.next after new)
      one.over t.rest) in (
        more.0,
        subst (λ l. WroteSaves k rate (s ∷ saves) old l new)
            (sym (t.both ∙ ap (λ l. l ++ t.next) one.gave))
            (record { now = t.now; first = one.wrote_it; others = more.1 }),
      )

  -- the count of failed writes rose where a save failed
  one_failed_rose : (fs : List SavedFile) (old new : P) (ending : Ending) →
      Writes k fs old new ending →
      RoseBy (failed_in (ending_number ending ∷ [])) (k.write_faults old) (k.write_faults new)
  one_failed_rose fs old new Written writes = let same = writes.1 in omega arith
  one_failed_rose fs old new Failed writes = let rose = writes.1 in omega arith
  one_failed_rose fs old new Memory writes = let same = writes.1 in omega arith

  pub failed_rose : (saves : List Save) (old new : P) (outs : List ℕ) →
      WroteSaves k rate saves old outs new →
      RoseBy (failed_in outs) (k.write_faults old) (k.write_faults new)
  failed_rose [] old new outs wrote =
      let none = ap failed_in wrote.0 in
      let same = ap k.write_faults wrote.1 in
      omega arith
  failed_rose (s ∷ saves) old new [] wrote = absurd wrote
  failed_rose (s ∷ saves) old new (o ∷ outs) wrote =
      let one = subst (λ n. RoseBy (failed_in (n ∷ [])) (k.write_faults old)
      (k.write_faults wrote.now)) (sym wrote.first.is)
      (one_failed_rose (files_of_save rate s) old wrote.now wrote.first.ending
      wrote.first.writes) in
      let more = failed_rose saves wrote.now new outs wrote.others in
      omega arith
