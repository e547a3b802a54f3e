-- Blocks are accepted one after another.
use Rattle.std.proofs.Common.{ℕ, List, [], ◌∷◌, ◌++◌, refl, sym, ap, ◌∙◌, subst, append_assoc, append-nil}
use Rattle.std.specs.Prelude.{Option, Some, None, IsTrue}
use Rattle.std.specs.List.{AllByRecursion}
use Rattle.sl_commands.specs.declared.Block.{Block}
use Rattle.sl_commands.specs.declared.Block.TheVariants.{Head, Part, End}
use Rattle.sl_commands.specs.Commands.{is_outcome}
use Rattle.sl_ports.specs.declared.keepers.Keeper.{Ghosts as Keeper}
use Rattle.loop_saver.specs.declared.ending.Ending.{Ending}
use Rattle.loop_saver.specs.declared.ending.Ending.TheVariants.{Written, Failed, Memory}
use Rattle.loop_saver.specs.declared.saver.Saved.{Saved}
use Rattle.loop_saver.specs.Savers.{SavingOf, ending_number}
use Rattle.loop_saver.specs.Accepting.{Accepts}
use Rattle.loop_saver.specs.Keeping.{Keeps, outcome_in}

-- each outcome is one
abbrev AreOutcomes : List ℕ → Type 0
AreOutcomes outs = AllByRecursion (λ o. IsTrue (is_outcome o)) outs

outcomes-append : (xs ys : List ℕ) → AreOutcomes xs → AreOutcomes ys → AreOutcomes (xs ++ ys)
outcomes-append [] ys first next = next
outcomes-append (x ∷ xs) ys first next = (first.0, outcomes-append xs ys first.1 next)

ending_is : (ending : Ending) → IsTrue (is_outcome (ending_number ending))
ending_is Written = refl
ending_is Failed = refl
ending_is Memory = refl

module _ {P : Type 0} (k : Keeper P) (rate : ℕ) where
  -- one block
  pub one_kept : (b : Block) (saving after : Option SavingOf) (old new : P) (answer : Saved) →
      Accepts k rate b saving after old new answer →
      Keeps k rate (b ∷ []) saving old (outcome_in answer) after new
  one_kept b saving after old new answer accepts = record {
    mid = after;
    now = new;
    answer = answer;
    more = [];
    accepts = accepts;
    gave = sym (append-nil (outcome_in answer));
    behind = (refl, refl, refl);
  }

  -- blocks, and those behind them
  pub keeps_then : (xs ys : List Block) (a b c : Option SavingOf) (p q r : P)
      (outs more : List ℕ) → Keeps k rate xs a p outs b q → Keeps k rate ys b q more c r →
      Keeps k rate (xs ++ ys) a p (outs ++ more) c r
  keeps_then [] ys a b c p q r outs more x y =
      subst (λ l. Keeps k rate ys a p l c r) (ap (λ l. l ++ more) (sym x.0))
      (subst (λ s. Keeps k rate ys s p more c r) x.1
      (subst (λ n. Keeps k rate ys b n more c r) x.2 y))
  keeps_then (z ∷ xs) ys a b c p q r outs more x y = record {
    mid = x.mid;
    now = x.now;
    answer = x.answer;
    more = x.more ++ more;
    accepts = x.accepts;
    gave = ap (λ l. l ++ more) x.gave ∙ append_assoc (outcome_in x.answer) x.more more;
    behind = keeps_then xs ys x.mid b c x.now q r x.more more x.behind y;
  }

  -- the outcome of a block
  outcome_is : (b : Block) (saving after : Option SavingOf) (old new : P) (answer : Saved) →
      Accepts k rate b saving after old new answer → AreOutcomes (outcome_in answer)
  outcome_is (Head save name target settings) saving after old new answer accepts =
      subst (λ a. AreOutcomes (outcome_in a)) (sym accepts.2) tt
  outcome_is (Part save index frames) None after old new answer accepts = absurd accepts
  outcome_is (Part save index frames) (Some s) after old new answer accepts =
      subst (λ a. AreOutcomes (outcome_in a)) (sym accepts.1) tt
  outcome_is (End save) None after old new answer accepts = absurd accepts
  outcome_is (End save) (Some s) after old new answer accepts =
      subst (λ a. AreOutcomes (outcome_in a)) (sym accepts.answer_is)
      (ending_is accepts.ending, tt)

  -- all outcomes are such
  pub are_outcomes : (bs : List Block) (saving after : Option SavingOf) (old new : P)
      (outs : List ℕ) → Keeps k rate bs saving old outs after new →
      AllByRecursion (λ o. IsTrue (is_outcome o)) outs
  are_outcomes [] saving after old new outs keeps = subst AreOutcomes (sym keeps.0) tt
  are_outcomes (b ∷ bs) saving after old new outs keeps =
      subst AreOutcomes (sym keeps.gave)
      (outcomes-append (outcome_in keeps.answer) keeps.more
      (outcome_is b saving keeps.mid old keeps.now keeps.answer keeps.accepts)
      (are_outcomes bs keeps.mid after keeps.now new keeps.more keeps.behind))
