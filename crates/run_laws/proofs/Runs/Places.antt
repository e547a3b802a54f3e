-- A run may be cut at an entry's place.
use Rattle.std.proofs.Common.{◌≡◌, ℕ, ◌≤◌, ◌<◌, min, List, [], ◌∷◌, ◌++◌, length, take, drop, sym, ap, ◌∙◌, append-nil, length-take, take-append-drop, drop_of_length-le, le_refl, ⊎_elim, arith}
use Rattle.std.specs.List.{All}
use Rattle.std.proofs.lemmas.List.{take_all}
use Rattle.std.proofs.lemmas.List.Elements.{All-head, All-tail, All-cons, All-nil, All-weaker}
use Rattle.std.proofs.lemmas.Bool.{cases_lt}
use Rattle.std.proofs.Math.Seq.{take-append_seam}
use Rattle.sl_base.specs.Sounds.{Sound}
use Rattle.sl_commands.specs.declared.Entry.{Entry}
use Rattle.sl_commands.specs.Entries.{FramesNeverFall}
use Rattle.looper_rules.specs.Looper.{Looper}
use Rattle.looper_rules.specs.Entries.{applied, reply, save}
use Rattle.looper_rules.specs.Run.{entered, Ran, run, begun}
use Rattle.looper_rules.specs.Cuts.{run_from, joined}
use Rattle.run_laws.specs.Places.{given_then, run_around, BeginsWith}
use Rattle.run_laws.proofs.Runs.Cuts.{run_from-due, run_from-due_no_frames, run-cut, run-more, run_from-append, first_is_first, others_never_fall, with_entered}

-- what holds of all of two lists holds of all of the second
pub all_right : {A : Type 0} (P : A → Type 0) (xs ys : List A) → All P (xs ++ ys) → All P ys
all_right P [] ys all = all
all_right P (x ∷ xs) ys all = all_right P xs ys (All-tail P x (xs ++ ys) all)

-- of entries whose frames never fall, those in front of one aren't behind it
pub before_is_before : (before : List Entry) (e : Entry) (after : List Entry) →
    FramesNeverFall 0 (before ++ e ∷ after) → All (λ b. b.frame ≤ e.frame) before
before_is_before [] e after never = All-nil (λ b. b.frame ≤ e.frame)
before_is_before (b ∷ before) e after never =
    let later_ones = all_right (λ x. b.frame ≤ x.frame) before (e ∷ after)
    (first_is_first b (before ++ e ∷ after) never) in
    All-cons (λ b. b.frame ≤ e.frame) b before
    (All-head (λ x. b.frame ≤ x.frame) e after later_ones)
    (before_is_before before e after (others_never_fall b (before ++ e ∷ after) never))

-- and those behind it aren't before it
pub behind_is_behind : (before : List Entry) (e : Entry) (after : List Entry) →
    FramesNeverFall 0 (before ++ e ∷ after) → All (λ b. e.frame ≤ b.frame) (e ∷ after)
behind_is_behind [] e after never =
    All-cons (λ b. e.frame ≤ b.frame) e after (le_refl e.frame) (first_is_first e after never)
behind_is_behind (b ∷ before) e after never =
    behind_is_behind before e after (others_never_fall b (before ++ e ∷ after) never)

-- what one entry gives stands in front of what the run behind it gives
with_entered-one : (frame : ℕ) (e : Entry) (l : Looper) (next : Ran) →
    with_entered (entered frame (e ∷ []) l) next ≡ given_then (reply e l) (save e l) next
with_entered-one frame e l next = simp append-nil

-- a run around an entry, with the input cut at its place
abbrev around_at : ℕ → List Entry → Entry → List Entry → List Sound → List Sound → Looper → Ran
around_at frame before e after xs ys l =
    let first = run before xs l in
    joined first (given_then (reply e first.looper) (save e first.looper)
    (run_from frame after ys (applied frame e first.looper)))

around_inside : (before : List Entry) (e : Entry) (after : List Entry) (xs ys : List Sound)
    (l : Looper) →
    e.frame ≡ length xs → FramesNeverFall 0 (before ++ e ∷ after) →
    run (before ++ e ∷ after) (xs ++ ys) l ≡ around_at (length xs) before e after xs ys l
around_inside before e after xs ys l here never =
    let there = (run before xs l).looper in
    let up_to = All-weaker (λ b. b.frame ≤ e.frame) (λ b. b.frame ≤ length xs) (λ b h. omega arith)
    before (before_is_before before e after never) in
    let from = All-weaker (λ b. e.frame ≤ b.frame) (λ b. length xs ≤ b.frame) (λ b h. omega arith)
    (e ∷ after) (behind_is_behind before e after never) in
    let itself : e.frame ≤ length xs = omega arith in
    let one = All-cons (λ b. b.frame ≤ length xs) e [] itself
    (All-nil (λ b. b.frame ≤ length xs)) in
    run-cut before (e ∷ after) xs ys l up_to from
    ∙ ap (joined (run before xs l)) (run_from-due (length xs) (e ∷ []) after ys there one
    ∙ with_entered-one (length xs) e there _)

around_end : (before : List Entry) (e : Entry) (after : List Entry) (input : List Sound)
    (l : Looper) →
    length input ≤ e.frame → FramesNeverFall 0 (before ++ e ∷ after) →
    run (before ++ e ∷ after) input l ≡ around_at (length input) before e after input [] l
around_end before e after input l past never =
    let there = (run before input l).looper in
    let from = All-weaker (λ b. e.frame ≤ b.frame) (λ b. length input ≤ b.frame)
    (λ b h. omega arith) (e ∷ after) (behind_is_behind before e after never) in
    run-more before (e ∷ after) input l from
    ∙ ap (joined (run before input l)) (run_from-due_no_frames (length input) (e ∷ []) after there
    ∙ with_entered-one (length input) e there _)

-- a run is cut at an entry's place
pub run-around : (before : List Entry) (e : Entry) (after : List Entry) (input : List Sound)
    (l : Looper) →
    FramesNeverFall 0 (before ++ e ∷ after) →
    run (before ++ e ∷ after) input l ≡ run_around before e after input l
run-around before e after input l never = ⊎_elim past inside (cases_lt (length input) e.frame)
  where
    past : length input < e.frame →
        run (before ++ e ∷ after) input l ≡ run_around before e after input l
    past is =
        let long : length input ≤ e.frame = omega arith in
        let whole = take_all e.frame input long in
        let none = drop_of_length-le input long in
        let place : min e.frame (length input) ≡ length input = omega arith in
        around_end before e after input l long never
        ∙ (λ i. around_at (sym place i) before e after (sym whole i) (sym none i) l)

    inside : e.frame ≤ length input →
        run (before ++ e ∷ after) input l ≡ run_around before e after input l
    inside is =
        let cut = length-take e.frame input in
        let here : e.frame ≡ length (take e.frame input) = omega arith in
        ap (λ all. run (before ++ e ∷ after) all l) (sym (take-append-drop e.frame input))
        ∙ around_inside before e after (take e.frame input) (drop e.frame input) l here never
        ∙ ap (λ n. around_at n before e after (take e.frame input) (drop e.frame input) l) cut

-- a list begins with each of its first parts
begins_with : {A : Type 0} (longer shorter rest : List A) → longer ≡ shorter ++ rest →
    BeginsWith longer shorter
begins_with longer shorter rest is = ap (take (length shorter)) is ∙ take-append_seam shorter rest

-- a longer run begins with the saves of a shorter one
pub saves_are_kept : (first next : List Entry) (xs ys : List Sound) (l : Looper) →
    All (λ e. e.frame ≤ length xs) first → All (λ e. length xs ≤ e.frame) next →
    BeginsWith (run (first ++ next) (xs ++ ys) l).saves (run first xs l).saves
saves_are_kept first next xs ys l up_to from =
    begins_with _ _ _ (ap (λ (r : Ran). r.saves) (run-cut first next xs ys l up_to from))

-- and with those of its first frames
pub begun_saves_are_kept : (frame : ℕ) (es : List Entry) (xs ys : List Sound) (l : Looper) →
    BeginsWith (run_from frame es (xs ++ ys) l).saves (begun frame es xs l).saves
begun_saves_are_kept frame es xs ys l =
    begins_with _ _ _ (ap (λ (r : Ran). r.saves) (run_from-append frame es xs ys l))
