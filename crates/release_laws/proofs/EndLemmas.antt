-- A run with one entry more at its end: its saves, who holds its loops, and what is unanswered.
use Rattle.std.proofs.Common.{◌≡◌, ℕ, ◌+◌, ◌≤◌, ◌<◌, List, [], ◌∷◌, ◌++◌, length, take, drop, refl, sym, ap, ◌∙◌, subst, arith, append_assoc, append-nil, length-take, take-append-drop, ⊎_elim, Option, Some}
use Rattle.std.specs.Prelude.{option_to_list}
use Rattle.std.specs.List.{All}
use Rattle.std.proofs.lemmas.List.{take_all, take-take}
use Rattle.std.proofs.lemmas.List.Elements.{All-head, All-append, All-cons, All-nil, All-weaker}
use Rattle.std.proofs.lemmas.Bool.{cases_lt}
use Rattle.sl_base.specs.Sounds.{Sound}
use Rattle.sl_commands.specs.declared.Entry.{Entry}
use Rattle.sl_commands.specs.Entries.{FramesNeverFall}
use Rattle.looper_rules.specs.Looper.{Looper}
use Rattle.looper_rules.specs.Entries.{applied, save}
use Rattle.looper_rules.specs.Frame.{framed}
use Rattle.looper_rules.specs.Run.{begun, Ran, run}
use Rattle.looper_rules.specs.Cuts.{run_from}
use Rattle.looper_rules.specs.Unanswered.{unanswered_after, unanswered}
use Rattle.looper_laws.proofs.Kept.Askers.{askers_of, framed-same}
use Rattle.run_laws.specs.Places.{place_of, run_before, met, ComesWithEntry}
use Rattle.run_laws.proofs.Runs.Comes.{run_from-no_saves}
use Rattle.run_laws.proofs.Runs.Places.{run-around, before_is_before, all_right}
use Rattle.engine_steps.proofs.UnansweredLemmas.{unanswered-one_more, unanswered-more_frames}

-- frames alone leave who holds a loop
begun-none_left : (frame : ℕ) (xs : List Sound) (l : Looper) → (begun frame [] xs l).left ≡ []
begun-none_left frame [] l = refl
begun-none_left frame (x ∷ xs) l = begun-none_left (frame + 1) xs (framed frame x l).looper

begun-askers : (frame : ℕ) (xs : List Sound) (l : Looper) →
    askers_of (begun frame [] xs l).looper.tracks ≡ askers_of l.tracks
begun-askers frame [] l = refl
begun-askers frame (x ∷ xs) l =
    begun-askers (frame + 1) xs (framed frame x l).looper ∙ framed-same frame x l

pub run_from-askers : (frame : ℕ) (xs : List Sound) (l : Looper) →
    askers_of (run_from frame [] xs l).looper.tracks ≡ askers_of l.tracks
run_from-askers frame xs l = rw (begun-none_left frame xs l) (begun-askers frame xs l)

-- one entry more at the end
pub saves-one_more : (es : List Entry) (e : Entry) (input : List Sound) (l : Looper) →
    FramesNeverFall 0 (es ++ e ∷ []) →
    (run (es ++ e ∷ []) input l).saves
    ≡ (run_before es e input l).saves ++ option_to_list (save e (met es e input l))
saves-one_more es e input l never =
    let made = option_to_list (save e (met es e input l)) in
    ap (λ (r : Ran). r.saves) (run-around es e [] input l never)
    ∙ ap (λ more. (run_before es e input l).saves ++ (made ++ more))
    (run_from-no_saves (place_of e input) (drop e.frame input)
    (applied (place_of e input) e (met es e input l)))
    ∙ ap (λ ss. (run_before es e input l).saves ++ ss) (append-nil made)

pub askers-one_more : (es : List Entry) (e : Entry) (input : List Sound) (l : Looper) →
    FramesNeverFall 0 (es ++ e ∷ []) →
    askers_of (run (es ++ e ∷ []) input l).looper.tracks
    ≡ askers_of (applied (place_of e input) e (met es e input l)).tracks
askers-one_more es e input l never =
    ap (λ (r : Ran). askers_of r.looper.tracks) (run-around es e [] input l never)
    ∙ run_from-askers (place_of e input) (drop e.frame input)
    (applied (place_of e input) e (met es e input l))

pub unanswered-with_one : (es : List Entry) (e : Entry) (input : List Sound) (l : Looper) →
    FramesNeverFall 0 (es ++ e ∷ []) →
    unanswered (es ++ e ∷ []) input l
    ≡ unanswered_after e (met es e input l) (unanswered es (take e.frame input) l)
unanswered-with_one es e input l never = ⊎_elim past inside (cases_lt (length input) e.frame)
  where
    xs : List Sound
    xs = take e.frame input

    past : length input < e.frame →
        unanswered (es ++ e ∷ []) input l
        ≡ unanswered_after e (met es e input l) (unanswered es xs l)
    past is =
        let whole : xs ≡ input = take_all e.frame input (omega arith) in
        unanswered-one_more es e input l (omega arith)
        ∙ ap (λ zs. unanswered_after e (run es zs l).looper (unanswered es zs l)) (sym whole)

    inside : e.frame ≤ length input →
        unanswered (es ++ e ∷ []) input l
        ≡ unanswered_after e (met es e input l) (unanswered es xs l)
    inside is =
        let cut = length-take e.frame input in
        let long : length xs ≡ e.frame = omega arith in
        let F = λ (b : Entry). b.frame ≤ length xs in
        let front = All-weaker (λ (b : Entry). b.frame ≤ e.frame) F (λ b h. omega arith) es
        (before_is_before es e [] never) in
        let here : e.frame ≤ length xs = omega arith in
        let all = All-append F es (e ∷ []) front (All-cons F e [] here (All-nil F)) in
        ap (λ zs. unanswered (es ++ e ∷ []) zs l) (sym (take-append-drop e.frame input))
        ∙ unanswered-more_frames (es ++ e ∷ []) xs (drop e.frame input) l all
        ∙ unanswered-one_more es e xs l (omega arith)

-- what holds of all holds of one among them
pub all_at : {X : Type 0} (P : X → Type 0) (before : List X) (x : X) (after : List X) →
    All P (before ++ x ∷ after) → P x
all_at P before x after all = All-head P x after (all_right P before (x ∷ after) all)

-- an entry gives the same in a run over more frames
pub gives_longer : {X : Type 0} (given : Entry → Looper → Option X) (es : List Entry) (n : ℕ)
    (input : List Sound) (l : Looper) (x : X) → All (λ (b : Entry). b.frame ≤ n) es →
    (c : ComesWithEntry given es (take n input) l x) →
    (c.entry.frame ≤ n) × (given c.entry (met c.before c.entry input l) ≡ Some x)
gives_longer given es n input l x up_to c =
    let early = all_at (λ (b : Entry). b.frame ≤ n) c.before c.entry c.after
    (subst (λ bs. All (λ (b : Entry). b.frame ≤ n) bs) c.whole up_to) in (
      early,
      ap (λ zs. given c.entry (run c.before zs l).looper)
          (sym (take-take c.entry.frame n input early)) ∙ c.made,
    )

-- frames that never fall along two lists don't along the first
pub front_never : (frame : ℕ) (es rest : List Entry) → FramesNeverFall frame (es ++ rest) →
    FramesNeverFall frame es
front_never frame [] rest never = tt
front_never frame (e ∷ es) rest never = (never.0, front_never e.frame es rest never.1)

-- what the empty list has and each entry more keeps, all lists of entries have whose frames never
-- fall
module _ (P : List Entry → Type 0)
    (more : (es : List Entry) (e : Entry) → FramesNeverFall 0 (es ++ e ∷ []) → P es →
    P (es ++ e ∷ [])) where
  pub onward : (es rest : List Entry) → FramesNeverFall 0 (es ++ rest) → P es → P (es ++ rest)
  onward es [] never has = subst P (sym (append-nil es)) has
  onward es (e ∷ rest) never has =
      let joins = append_assoc es (e ∷ []) rest in
      let whole = subst (λ all. FramesNeverFall 0 all) (sym joins) never in
      subst P joins
      (onward (es ++ e ∷ []) rest whole (more es e (front_never 0 (es ++ e ∷ []) rest whole) has))
