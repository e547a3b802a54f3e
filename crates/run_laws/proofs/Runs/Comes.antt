-- Each reply and each save of a run comes with one of its entries.
use Rattle.std.proofs.Common.{◌≡◌, ℕ, ◌+◌, ◌≤◌, List, [], ◌∷◌, ◌++◌, get_or, take, drop, Option, Some, None, option_to_list, refl, sym, ap, ◌∙◌, subst, append_assoc, append-nil}
use Rattle.std.specs.List.{All}
use Rattle.std.proofs.lemmas.List.{take-take}
use Rattle.std.proofs.lemmas.List.Elements.{All-head, All-cons, All-nil, All-append, All-weaker, All-same}
use Rattle.sl_base.specs.Sounds.{Sound}
use Rattle.sl_commands.specs.declared.Entry.{Entry}
use Rattle.sl_commands.specs.Entries.{FramesNeverFall}
use Rattle.sl_commands.specs.Settings.{LooperSettings}
use Rattle.looper_rules.specs.Looper.{Looper}
use Rattle.looper_rules.specs.Entries.{applied, reply, save}
use Rattle.looper_rules.specs.Frame.{framed}
use Rattle.looper_rules.specs.Run.{begun, Ran, run, start}
use Rattle.looper_rules.specs.Cuts.{run_from}
use Rattle.run_laws.specs.Places.{place_of, run_before, met, run_behind, run_around, ComesWithEntry}
use Rattle.run_laws.specs.Questions.{AnswersInTime}
use Rattle.run_laws.proofs.Runs.Places.{run-around, before_is_before, all_right}
use Rattle.run_laws.proofs.Answers.Runs.{all_left, start-asked_before}
use Rattle.run_laws.proofs.Runs.Cuts.{run-run_from}

-- frames that never fall along two lists don't along the first
front_never_falls : (frame : ℕ) (es more : List Entry) → FramesNeverFall frame (es ++ more) →
    FramesNeverFall frame es
front_never_falls frame [] more never = tt
front_never_falls frame (e ∷ es) more never = (never.0, front_never_falls e.frame es more never.1)

-- without entries there are no replies and no saves
begun-no_replies : (frame : ℕ) (xs : List Sound) (l : Looper) → (begun frame [] xs l).replies ≡ []
begun-no_replies frame [] l = refl
begun-no_replies frame (x ∷ xs) l = begun-no_replies (frame + 1) xs (framed frame x l).looper

begun-no_saves : (frame : ℕ) (xs : List Sound) (l : Looper) → (begun frame [] xs l).saves ≡ []
begun-no_saves frame [] l = refl
begun-no_saves frame (x ∷ xs) l = begun-no_saves (frame + 1) xs (framed frame x l).looper

begun-none_left : (frame : ℕ) (xs : List Sound) (l : Looper) → (begun frame [] xs l).left ≡ []
begun-none_left frame [] l = refl
begun-none_left frame (x ∷ xs) l = begun-none_left (frame + 1) xs (framed frame x l).looper

pub run_from-no_replies : (frame : ℕ) (xs : List Sound) (l : Looper) →
    (run_from frame [] xs l).replies ≡ []
run_from-no_replies frame xs l = rw (begun-no_replies frame xs l, begun-none_left frame xs l) refl

pub run_from-no_saves : (frame : ℕ) (xs : List Sound) (l : Looper) →
    (run_from frame [] xs l).saves ≡ []
run_from-no_saves frame xs l = rw (begun-no_saves frame xs l, begun-none_left frame xs l) refl

module _ {X : Type 0} (given : Entry → Looper → Option X) (part : Ran → List X)
    (around : (before : List Entry) (e : Entry) (after : List Entry) (input : List Sound)
    (l : Looper) → part (run_around before e after input l) ≡ part (run_before before e input l)
    ++ (option_to_list (given e (met before e input l))
    ++ part (run_behind before e after input l)))
    (none : (frame : ℕ) (xs : List Sound) (l : Looper) → part (run_from frame [] xs l) ≡ []) where
  -- this many frames of the input are all that these entries look at
  abbrev SameUpTo : List Sound → List Sound → List Entry → Type 0
  SameUpTo xs input es = All (λ b. take b.frame xs ≡ take b.frame input) es

  -- each of what such a run gave comes with one of its entries
  abbrev Comes : List Entry → List Sound → Looper → Type 0
  Comes es input l =
      (xs : List Sound) → SameUpTo xs input es →
      All (ComesWithEntry given es input l) (part (run es xs l))

  -- with an entry more behind the others it still does
  comes_still : (es : List Entry) (e : Entry) (input : List Sound) (l : Looper) (x : X) →
      ComesWithEntry given es input l x → ComesWithEntry given (es ++ e ∷ []) input l x
  comes_still es e input l x c =
      record {
        before = c.before;
        entry = c.entry;
        after = c.after ++ e ∷ [];
        whole = ap (λ all. all ++ e ∷ []) c.whole
            ∙ append_assoc c.before (c.entry ∷ c.after) (e ∷ []);
        made = c.made;
      }

  all_option : (P : X → Type 0) (o : Option X) → ((x : X) → o ≡ Some x → P x) →
      All P (option_to_list o)
  all_option P None each = All-nil P
  all_option P (Some x) each = All-cons P x [] (each x refl) (All-nil P)

  short : (es : List Entry) (e : Entry) (xs input : List Sound) → All (λ b. b.frame ≤ e.frame) es →
      SameUpTo xs input es → SameUpTo (take e.frame xs) input es
  short es e xs input up_to same k d inside =
      let b = get_or es k d in
      take-take b.frame e.frame xs (up_to k d inside) ∙ same k d inside

  comes_more : (es : List Entry) (e : Entry) (input : List Sound) (l : Looper) →
      FramesNeverFall 0 (es ++ e ∷ []) →
      Comes es input l → Comes (es ++ e ∷ []) input l
  comes_more es e input l never comes xs same =
      let P = ComesWithEntry given (es ++ e ∷ []) input l in
      let S = λ (b : Entry). take b.frame xs ≡ take b.frame input in
      let here : take e.frame xs ≡ take e.frame input =
      All-head S e [] (all_right S es (e ∷ []) same) in
      let front = All-weaker (ComesWithEntry given es input l) P (comes_still es e input l)
      (part (run es (take e.frame xs) l))
      (comes (take e.frame xs)
      (short es e xs input (before_is_before es e [] never) (all_left S es (e ∷ []) same))) in
      let there = ap (λ zs. given e (run es zs l).looper) (sym here) in
      let middle = all_option P (given e (met es e xs l))
      (λ x is. record {
        before = es;
        entry = e;
        after = [];
        whole = refl;
        made =
            there ∙ is;
      }) in
      let behind = none (place_of e xs) (drop e.frame xs)
      (applied (place_of e xs) e (met es e xs l)) in
      let whole = ap part (run-around es e [] xs l never) ∙ around es e [] xs l
      ∙ ap (λ more. part (run_before es e xs l)
      ++ (option_to_list (given e (met es e xs l)) ++ more)) behind in
      All-same P _ _ whole (All-append P _ _ front (All-append P _ _ middle (All-nil P)))

  comes_all : (es rest : List Entry) (input : List Sound) (l : Looper) →
      FramesNeverFall 0 (es ++ rest) →
      Comes es input l → Comes (es ++ rest) input l
  comes_all es [] input l never comes = subst (λ all. Comes all input l) (sym (append-nil es)) comes
  comes_all es (e ∷ rest) input l never comes =
      let joins = append_assoc es (e ∷ []) rest in
      let whole = subst (λ all. FramesNeverFall 0 all) (sym joins) never in
      subst (λ all. Comes all input l) joins
      (comes_all (es ++ e ∷ []) rest input l whole
      (comes_more es e input l (front_never_falls 0 (es ++ e ∷ []) rest whole) comes))

  pub all_come : (es : List Entry) (input : List Sound) (l : Looper) → FramesNeverFall 0 es →
      All (ComesWithEntry given es input l) (part (run es input l))
  all_come es input l never =
      let start : Comes [] input l =
      λ xs same. All-same (ComesWithEntry given [] input l) _ [] (ap part (run-run_from [] xs l)
      ∙ none 0 xs l) (All-nil (ComesWithEntry given [] input l)) in
      comes_all [] es input l never start input (λ k d inside. refl)

-- each reply of a run comes with one of its entries, and so does each save
pub replies_come : (es : List Entry) (input : List Sound) (l : Looper) → FramesNeverFall 0 es →
    All (ComesWithEntry reply es input l) (run es input l).replies
replies_come es input l never =
    all_come reply (λ r. r.replies) (λ before e after input l. refl) run_from-no_replies es input l
    never

pub saves_come : (es : List Entry) (input : List Sound) (l : Looper) → FramesNeverFall 0 es →
    All (ComesWithEntry save es input l) (run es input l).saves
saves_come es input l never =
    all_come save (λ r. r.saves) (λ before e after input l. refl) run_from-no_saves es input l never

-- each reply of a run from its start answers the entry with which it comes, or one before it
pub start-answers : (settings : LooperSettings) (chunks : ℕ) (initial : List (List Sound))
    (es : List Entry) (input : List Sound) →
    FramesNeverFall 0 es →
    All (AnswersInTime es input (start settings chunks initial))
    (run es input (start settings chunks initial)).replies
start-answers settings chunks initial es input never =
    let l = start settings chunks initial in
    All-weaker (ComesWithEntry reply es input l) (AnswersInTime es input l)
    (λ r c. record {
      comes = c;
      asked = start-asked_before settings chunks initial c.before
          c.entry input r c.made;
    }) (run es input l).replies (replies_come es input l never)
