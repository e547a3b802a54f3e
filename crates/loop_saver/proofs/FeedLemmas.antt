-- What the saver does with one block more.
use Rattle.std.proofs.Common.{◌≡◌, ℕ, Bool, List, [], ◌∷◌, ◌++◌, refl, sym, ap, ap₂, ◌∙◌, subst, append_assoc}
use Rattle.std.specs.Prelude.{Option, Some, None, is_some, ◌&&◌}
use Rattle.std.proofs.lemmas.Bool.{and_parts}
use Rattle.sl_commands.specs.declared.Block.{Block}
use Rattle.sl_commands.specs.declared.Block.TheVariants.{Head, Part, End}
use Rattle.sl_commands.specs.Blocks.{Underway, place_after, save_of, fits_name}
use Rattle.sl_ports.specs.declared.keepers.Keeper.{Ghosts as Keeper}
use Rattle.loop_saver.specs.declared.ending.Ending.{Ending}
use Rattle.loop_saver.specs.declared.ending.Ending.TheVariants.{Written, Failed, Memory}
use Rattle.loop_saver.specs.declared.saver.Saved.TheVariants.{Continue}
use Rattle.loop_saver.specs.SavedFiles.{SavedFile}
use Rattle.loop_saver.specs.Savers.{SavingOf, with_frames, underway_in, may_come, due, due_for_all, behind, behind_all, may_all_come}
use Rattle.loop_saver.specs.Accepting.{Writes, GoesOn, Accepts}
use Rattle.loop_saver.specs.Coming.{HasWritten, MayEnd, Feeds}
use Rattle.loop_saver.proofs.AcceptLemmas.{writes_more, writes_failed, writes_wanted}

-- only how far the blocks have come decides which may come
behind_same : (a b : Option SavingOf) → underway_in a ≡ underway_in b → (x : Block) →
    underway_in (behind a x) ≡ underway_in (behind b x)
behind_same None None same x = refl
behind_same None (Some t) same x = absurd (cc)
behind_same (Some s) None same x = absurd (cc)
behind_same (Some s) (Some t) same (Head save name target settings) = refl
behind_same (Some s) (Some t) same (Part save index frames) =
    let one : s.underway ≡ t.underway = cc in
    ap (λ (b : Underway).
    underway_in (behind (Some (record s { underway = b })) (Part save index frames))) one
behind_same (Some s) (Some t) same (End save) = refl

come_same : (a b : Option SavingOf) → underway_in a ≡ underway_in b → (bs : List Block) →
    may_all_come a bs ≡ may_all_come b bs
come_same a b same [] = refl
come_same a b same (x ∷ bs) =
    ap₂ (λ (first rest : Bool). first && rest)
    (ap (λ (o : Option Underway). is_some (place_after (save_of x) o x) && fits_name x) same)
    (come_same (behind a x) (behind b x) (behind_same a b same x) bs)

over_same : (a b : Option SavingOf) → underway_in a ≡ underway_in b → (bs : List Block) →
    underway_in (behind_all a bs) ≡ underway_in (behind_all b bs)
over_same a b same [] = same
over_same a b same (x ∷ bs) = over_same (behind a x) (behind b x) (behind_same a b same x) bs

-- what may come behind a block
pub rest_may : (saving after : Option SavingOf) (b : Block) (rest : List Block) →
    underway_in after ≡ underway_in (behind saving b) → MayEnd saving (b ∷ rest) → MayEnd after rest
rest_may saving after b rest same may = record {
  may = come_same after (behind saving b) same rest
      ∙ (and_parts (may_come saving b) (may_all_come (behind saving b) rest) may.may).1;
  over = over_same after (behind saving b) same rest ∙ may.over;
}

-- how far the files have come behind a block
pub files_on :
    {P : Type 0} (k : Keeper P) (rate : ℕ) (all fs : List SavedFile) (start old new : P)
    (before now : Ending) (saving : Option SavingOf) (after : Ending → Option SavingOf)
    (b : Block)
    (rest : List Block) → fs ≡ due rate saving b → after Written ≡ behind saving b →
    HasWritten k rate all start old before saving (b ∷ rest) → GoesOn k fs old new before now →
    HasWritten k rate all start new now (after now) rest
files_on k rate all fs start old new Written Written saving after b rest fs_are after_is w goes =
    record {
      done = w.done ++ fs;
      whole = w.whole
          ∙ ap (λ more. w.done ++ more)
          (ap₂ (λ (f : List SavedFile) (o : Option SavingOf). f ++ due_for_all rate o rest)
          (sym fs_are) (sym after_is))
          ∙ sym (append_assoc w.done fs (due_for_all rate (after Written) rest));
      written = writes_more k w.done fs start old new Written w.written goes;
    }
files_on k rate all fs start old new Written Failed saving after b rest fs_are after_is w goes =
    let more = due_for_all rate (behind saving b) rest in
    let whole = w.whole ∙ ap (λ f. w.done ++ (f ++ more)) (sym fs_are)
    ∙ sym (append_assoc w.done fs more) in
    subst (λ a. Writes k a start new Failed) (sym whole)
    (writes_failed k (w.done ++ fs) more start new
    (writes_more k w.done fs start old new Failed w.written goes))
files_on k rate all fs start old new Written Memory saving after b rest fs_are after_is w goes =
    let more = due_for_all rate (behind saving b) rest in
    let whole = w.whole ∙ ap (λ f. w.done ++ (f ++ more)) (sym fs_are)
    ∙ sym (append_assoc w.done fs more) in
    subst (λ a. Writes k a start new Memory) (sym whole)
    (writes_wanted k (w.done ++ fs) more start new
    (writes_more k w.done fs start old new Memory w.written goes))
files_on k rate all fs start old new Failed now saving after b rest fs_are after_is w goes =
    subst (λ e. HasWritten k rate all start new e (after e) rest) (sym goes.0)
    (subst (λ p. Writes k all start p Failed) (sym goes.1) w)
files_on k rate all fs start old new Memory now saving after b rest fs_are after_is w goes =
    subst (λ e. HasWritten k rate all start new e (after e) rest) (sym goes.0)
    (subst (λ p. Writes k all start p Memory) (sym goes.1) w)

-- a block that lets the save go on
pub feeds_on :
    {P : Type 0} (k : Keeper P) (rate : ℕ) (all : List SavedFile) (start old new : P)
    (saving after : Option SavingOf) (b : Block) (rest : List Block) →
    Accepts k rate b saving after old new Continue → Feeds k rate all start old saving (b ∷ rest) →
    Feeds k rate all start new after rest
feeds_on k rate all start old new None after (Head save name target settings) rest accepts feeds =
    let w = feeds.files in
    subst (λ o. Feeds k rate all start new o rest) (sym accepts.0)
    (subst (λ p. Feeds k rate all start p (behind None (Head save name target settings)) rest)
    (sym accepts.1) (record {
      files = record { done = w.done; whole = w.whole; written = w.written };
      may = rest_may None (behind None (Head save name target settings))
          (Head save name target settings) rest refl feeds.may;
    }))
feeds_on k rate all start old new (Some s) after (Head save name target settings) rest accepts
    feeds = absurd (let may = feeds.may.may in cc)
feeds_on k rate all start old new None after (Part save index frames) rest accepts feeds =
    absurd accepts
feeds_on k rate all start old new (Some s) after (Part save index frames) rest accepts feeds =
    let t = accepts.0 in
    subst (λ o. Feeds k rate all start new o rest) (sym t.saving) (record {
      files = files_on k rate all _ start old new s.ending t.ending (Some s) (λ e. Some (with e))
          (Part save index frames) rest refl refl feeds.files t.writes;
      may = rest_may (Some s) (Some (with t.ending)) (Part save index frames) rest refl feeds.may;
    })
  where
    with : Ending → SavingOf
    with e = with_frames index frames e s
feeds_on k rate all start old new None after (End save) rest accepts feeds = absurd accepts
feeds_on k rate all start old new (Some s) after (End save) rest accepts feeds =
    absurd (let is = accepts.answer_is in cc)
