-- A run may be cut into two at any frame.
use Rattle.std.proofs.Common.{◌≡◌, ℕ, ◌+◌, ◌≤◌, ◌<◌, Bool, true, false, List, [], ◌∷◌, ◌++◌, length, if◌then◌else◌, nat_le, nat_lt, IsTrue, refl, sym, ap, ap₂, ◌∙◌, append_assoc, append-nil, add-zero, zero-add, length-append, le_trans, le_of_lt, ⊎_elim, arith}
use Rattle.std.specs.List.{All, filter}
use Rattle.std.proofs.lemmas.List.Elements.{All-head, All-tail, All-cons, All-nil, All-weaker}
use Rattle.std.proofs.lemmas.Bool.{le-leb, lt-leb, lt-ltb, le-ltb, leb-true, ltb-true, cases_lt}
use Rattle.sl_base.specs.Sounds.{Sound}
use Rattle.sl_commands.specs.declared.Entry.{Entry}
use Rattle.sl_commands.specs.Entries.{FramesNeverFall, are_stamped}
use Rattle.sl_commands.proofs.EntriesLemmas.{stamped_is_in_order}
use Rattle.looper_rules.specs.Looper.{Looper}
use Rattle.looper_rules.specs.Entries.{applied, reply, save}
use Rattle.looper_rules.specs.Frame.{framed}
use Rattle.looper_rules.specs.Run.{Entered, entered, entered_before, due, later, RunSoFar, begun, begun_before, Ran, ended, ended_with, run}
use Rattle.looper_rules.specs.Cuts.{run_from, continued, joined, ran_so_far, begun_on, run_on, ran_on, with_more_left, entries_before, entries_from}

-- what one frame gave stands in front of all that comes behind it
begun_before-continued : (before : Entered) (out : Sound) (first next : RunSoFar) →
    begun_before before out (continued first next) ≡ continued (begun_before before out first) next
begun_before-continued before out first next = simp append_assoc

-- frames go on where those before them left off
pub begun-append : (frame : ℕ) (es : List Entry) (xs ys : List Sound) (l : Looper) →
    begun frame es (xs ++ ys) l ≡ begun_on (frame + length xs) (begun frame es xs l) ys
begun-append frame es [] ys l = rw add-zero refl
begun-append frame es (x ∷ xs) ys l =
    let before = entered frame (due frame es) l in
    let now = framed frame x before.looper in
    let first = begun (frame + 1) (later frame es) xs now.looper in
    let place : frame + 1 + length xs ≡ frame + length (x ∷ xs) = omega arith in
    ap (begun_before before now.output) (begun-append (frame + 1) (later frame es) xs ys now.looper)
    ∙ begun_before-continued before now.output first _
    ∙ ap (λ n. continued (begun_before before now.output first)
    (begun n first.left ys first.looper)) place

-- what the entries behind the last frame give stands behind all that came before
ended_with-continued : (first next : RunSoFar) (last : Entered) →
    ended_with (continued first next) last ≡ joined (ran_so_far first) (ended_with next last)
ended_with-continued first next last = simp append_assoc

-- a run goes on where its first frames left off
pub run_from-append : (frame : ℕ) (es : List Entry) (xs ys : List Sound) (l : Looper) →
    run_from frame es (xs ++ ys) l ≡ run_on (frame + length xs) (begun frame es xs l) ys
run_from-append frame es xs ys l =
    let first = begun frame es xs l in
    let next = begun (frame + length xs) first.left ys first.looper in
    let both = length-append xs ys in
    let place : frame + length (xs ++ ys) ≡ frame + length xs + length ys = omega arith in
    ap (ended (frame + length (xs ++ ys))) (begun-append frame es xs ys l)
    ∙ ap (λ n. ended n (continued first next)) place
    ∙ ended_with-continued first next
    (entered (frame + length xs + length ys) next.left next.looper)

-- a run begins at frame 0
pub run-run_from : (es : List Entry) (input : List Sound) (l : Looper) →
    run es input l ≡ run_from 0 es input l
run-run_from es input l = ap (λ n. ended n (begun 0 es input l)) (sym (zero-add (length input)))

pub run-append : (es : List Entry) (xs ys : List Sound) (l : Looper) →
    run es (xs ++ ys) l ≡ run_on (length xs) (begun 0 es xs l) ys
run-append es xs ys l =
    run-run_from es (xs ++ ys) l
    ∙ run_from-append 0 es xs ys l
    ∙ ap (λ n. run_on n (begun 0 es xs l) ys) (zero-add (length xs))

-- a test of entries whose first isn't due
not_due : (frame : ℕ) (e : Entry) (es : List Entry) → All (λ e. frame < e.frame) (e ∷ es) →
    nat_le e.frame frame ≡ false
not_due frame e es after = let first = All-head (λ e. frame < e.frame) e es after in
    lt-leb e.frame frame first

-- entries of frames to come aren't due, and all of them are later
pub due_none : (frame : ℕ) (es : List Entry) → All (λ e. frame < e.frame) es → due frame es ≡ []
due_none frame [] after = refl
due_none frame (e ∷ es) after = rw (not_due frame e es after) refl

pub later_all : (frame : ℕ) (es : List Entry) → All (λ e. frame < e.frame) es → later frame es ≡ es
later_all frame [] after = refl
later_all frame (e ∷ es) after = rw (not_due frame e es after) refl

-- entries of frames to come, behind others, change nothing of what is due
pub due-append_none : (frame : ℕ) (es more : List Entry) → All (λ e. frame < e.frame) more →
    due frame (es ++ more) ≡ due frame es
due-append_none frame [] more after = due_none frame more after
due-append_none frame (e ∷ es) more after =
    ap (λ l. if nat_le e.frame frame then e ∷ l else []) (due-append_none frame es more after)

if-append : (b : Bool) (us vs more : List Entry) →
    (if b then us ++ more else vs ++ more) ≡ (if b then us else vs) ++ more
if-append true us vs more = refl
if-append false us vs more = refl

-- and they are later, behind those of the others that are
pub later-append : (frame : ℕ) (es more : List Entry) → All (λ e. frame < e.frame) more →
    later frame (es ++ more) ≡ later frame es ++ more
later-append frame [] more after = later_all frame more after
later-append frame (e ∷ es) more after =
    ap (λ l. if nat_le e.frame frame then l else e ∷ es ++ more) (later-append frame es more after)
    ∙ if-append (nat_le e.frame frame) (later frame es) (e ∷ es) more

-- one frame with these entries due and those later, and the frames behind it
abbrev stepped : ℕ → List Entry → List Entry → Sound → List Sound → Looper → RunSoFar
stepped frame now_due rest x xs l =
    let before = entered frame now_due l in
    let now = framed frame x before.looper in
    begun_before before now.output (begun (frame + 1) rest xs now.looper)

-- entries of frames behind some frames change nothing of what those gave
pub begun-more : (frame : ℕ) (es more : List Entry) (xs : List Sound) (l : Looper) →
    All (λ e. frame + length xs ≤ e.frame) more →
    begun frame (es ++ more) xs l ≡ with_more_left more (begun frame es xs l)
begun-more frame es more [] l after = refl
begun-more frame es more (x ∷ xs) l after =
    let soon = All-weaker (λ e. frame + length (x ∷ xs) ≤ e.frame) (λ e. frame < e.frame)
    (λ e h. omega arith) more after in
    let behind = All-weaker (λ e. frame + length (x ∷ xs) ≤ e.frame)
    (λ e. frame + 1 + length xs ≤ e.frame) (λ e h. omega arith) more after in
    let before = entered frame (due frame es) l in
    let now = framed frame x before.looper in
    ap₂ (λ now_due rest. stepped frame now_due rest x xs l) (due-append_none frame es more soon)
    (later-append frame es more soon)
    ∙ ap (begun_before before now.output)
    (begun-more (frame + 1) (later frame es) more xs now.looper behind)

-- what entries gave, in front of what a run gave
abbrev pub with_entered : Entered → Ran → Ran
with_entered first next =
    record {
      output = next.output;
      replies = first.replies ++ next.replies;
      saves =
          first.saves ++ next.saves;
      looper = next.looper;
    }

-- what entries gave, in front of what other entries gave
abbrev pub entered_joined : Entered → Entered → Entered
entered_joined first next =
    record {
      replies = first.replies ++ next.replies;
      saves = first.saves ++ next.saves;
      looper =
          next.looper;
    }

-- entries apply one behind the other
pub entered-append : (frame : ℕ) (first next : List Entry) (l : Looper) →
    entered frame (first ++ next) l ≡ entered_joined (entered frame first l)
    (entered frame next (entered frame first l).looper)
entered-append frame [] next l = refl
entered-append frame (e ∷ es) next l =
    ap (entered_before (reply e l) (save e l)) (entered-append frame es next (applied frame e l))
    ∙ simp append_assoc

-- entries up to a frame are due at it
pub due-append_all : (frame : ℕ) (first next : List Entry) → All (λ e. e.frame ≤ frame) first →
    due frame (first ++ next) ≡ first ++ due frame next
due-append_all frame [] next up_to = refl
due-append_all frame (e ∷ es) next up_to =
    let here = le-leb e.frame frame (All-head (λ e. e.frame ≤ frame) e es up_to) in
    rw here (ap (λ l. e ∷ l)
    (due-append_all frame es next (All-tail (λ e. e.frame ≤ frame) e es up_to)))

pub later-append_all : (frame : ℕ) (first next : List Entry) → All (λ e. e.frame ≤ frame) first →
    later frame (first ++ next) ≡ later frame next
later-append_all frame [] next up_to = refl
later-append_all frame (e ∷ es) next up_to =
    let here = le-leb e.frame frame (All-head (λ e. e.frame ≤ frame) e es up_to) in
    rw here (later-append_all frame es next (All-tail (λ e. e.frame ≤ frame) e es up_to))

-- a run without frames
abbrev pub ran_alone : Entered → Ran
ran_alone all = record {
  output = [];
  replies = all.replies;
  saves = all.saves;
  looper =
      all.looper;
}

pub run_from-no_frames : (frame : ℕ) (es : List Entry) (l : Looper) →
    run_from frame es [] l ≡ ran_alone (entered frame es l)
run_from-no_frames frame es l = ap (λ n. ran_alone (entered n es l)) (add-zero frame)

-- the first entries of a frame stand in front of all that comes behind them
ended_with-joined : (first next : Entered) (out : Sound) (rest : RunSoFar) (last : Entered) →
    ended_with (begun_before (entered_joined first next) out rest) last ≡ with_entered first
    (ended_with (begun_before next out rest) last)
ended_with-joined first next out rest last = simp append_assoc

pub run_from-due_no_frames : (frame : ℕ) (first next : List Entry) (l : Looper) →
    run_from frame (first ++ next) [] l ≡ with_entered (entered frame first l)
    (run_from frame next [] (entered frame first l).looper)
run_from-due_no_frames frame first next l =
    let before = entered frame first l in
    run_from-no_frames frame (first ++ next) l ∙ ap ran_alone (entered-append frame first next l)
    ∙ ap (with_entered before) (sym (run_from-no_frames frame next before.looper))

-- a run whose first entries are up to its first frame begins with those
pub run_from-due : (frame : ℕ) (first next : List Entry) (input : List Sound) (l : Looper) →
    All (λ e. e.frame ≤ frame) first →
    run_from frame (first ++ next) input l ≡ with_entered (entered frame first l)
    (run_from frame next input (entered frame first l).looper)
run_from-due frame first next [] l up_to = run_from-due_no_frames frame first next l
run_from-due frame first next (x ∷ xs) l up_to =
    let last = frame + length (x ∷ xs) in
    let before = entered frame first l in
    let behind = entered frame (due frame next) before.looper in
    let now = framed frame x behind.looper in
    let rest = begun (frame + 1) (later frame next) xs now.looper in
    ap₂ (λ now_due rest. ended last (stepped frame now_due rest x xs l))
    (due-append_all frame first next up_to) (later-append_all frame first next up_to)
    ∙ ap (λ (all : Entered). let now = framed frame x all.looper in
    ended last (begun_before all now.output (begun (frame + 1) (later frame next) xs now.looper)))
    (entered-append frame first (due frame next) l)
    ∙ ended_with-joined before behind now.output rest (entered last rest.left rest.looper)

-- what holds of all entries holds of the due ones, and of the later ones
pub due-all : (P : Entry → Type 0) (frame : ℕ) (es : List Entry) → All P es → All P (due frame es)
due-all P frame [] all = all
due-all P frame (e ∷ es) all =
    by_test (nat_le e.frame frame) (due-all P frame es (All-tail P e es all))
  where
    by_test : (b : Bool) → All P (due frame es) → All P (if b then e ∷ due frame es else [])
    by_test true rest = All-cons P e (due frame es) (All-head P e es all) rest
    by_test false rest = All-nil P

pub later-all : (P : Entry → Type 0) (frame : ℕ) (es : List Entry) → All P es →
    All P (later frame es)
later-all P frame [] all = all
later-all P frame (e ∷ es) all =
    by_test (nat_le e.frame frame) (later-all P frame es (All-tail P e es all)) all
  where
    by_test : (b : Bool) → All P (later frame es) → All P (e ∷ es) →
        All P (if b then later frame es else e ∷ es)
    by_test true rest whole = rest
    by_test false rest whole = whole

pub left-all : (P : Entry → Type 0) (frame : ℕ) (es : List Entry) (input : List Sound)
    (l : Looper) → All P es →
    All P (begun frame es input l).left
left-all P frame es [] l all = all
left-all P frame es (x ∷ xs) l all =
    left-all P (frame + 1) (later frame es) xs
    (framed frame x (entered frame (due frame es) l).looper).looper (later-all P frame es all)

-- what a run gave, by its frames and then by the entries that they left
ended_with-followed : (first : RunSoFar) (last : Entered) (next : Ran) →
    joined (ran_so_far first) (with_entered last next) ≡ joined (ended_with first last) next
ended_with-followed first last next = simp append_assoc

-- where entries up to the cut stand in front of those from the cut on, each part of the run has its
-- own
pub run_from-cut : (frame : ℕ) (first next : List Entry) (xs ys : List Sound) (l : Looper) →
    All (λ e. e.frame ≤ frame + length xs) first → All (λ e. frame + length xs ≤ e.frame) next →
    run_from frame (first ++ next) (xs ++ ys) l ≡ ran_on (frame + length xs)
    (run_from frame first xs l) next ys
run_from-cut frame first next xs ys l up_to from =
    let cut = frame + length xs in
    let begin = begun frame first xs l in
    let last = entered cut begin.left begin.looper in
    run_from-append frame (first ++ next) xs ys l
    ∙ ap (λ b. run_on cut b ys) (begun-more frame first next xs l from)
    ∙ ap (joined (ran_so_far begin))
    (run_from-due cut begin.left next ys begin.looper
    (left-all (λ e. e.frame ≤ cut) frame first xs l up_to))
    ∙ ended_with-followed begin last (run_from cut next ys last.looper)

-- entries behind the last frame stand behind all the others
run_from-more : (frame : ℕ) (first next : List Entry) (xs : List Sound) (l : Looper) →
    All (λ e. frame + length xs ≤ e.frame) next →
    run_from frame (first ++ next) xs l ≡ ran_on (frame + length xs) (run_from frame first xs l)
    next []
run_from-more frame first next xs l from =
    let cut = frame + length xs in
    let begin = begun frame first xs l in
    let last = entered cut begin.left begin.looper in
    ap (λ zs. run_from frame (first ++ next) zs l) (sym (append-nil xs))
    ∙ run_from-append frame (first ++ next) xs [] l
    ∙ ap (λ b. run_on cut b []) (begun-more frame first next xs l from)
    ∙ ap (joined (ran_so_far begin)) (run_from-due_no_frames cut begin.left next begin.looper)
    ∙ ended_with-followed begin last (run_from cut next [] last.looper)

-- a test that each element passes, or none
filter_all : {A : Type 0} (test : A → Bool) (xs : List A) → All (λ x. test x ≡ true) xs →
    filter test xs ≡ xs
filter_all test [] all = refl
filter_all test (x ∷ xs) all =
    rw (All-head (λ x. test x ≡ true) x xs all)
    (ap (λ l. x ∷ l) (filter_all test xs (All-tail (λ x. test x ≡ true) x xs all)))

filter_none : {A : Type 0} (test : A → Bool) (xs : List A) → All (λ x. test x ≡ false) xs →
    filter test xs ≡ []
filter_none test [] none = refl
filter_none test (x ∷ xs) none =
    rw (All-head (λ x. test x ≡ false) x xs none)
    (filter_none test xs (All-tail (λ x. test x ≡ false) x xs none))

-- each element that a filter lets through passes its test
filter_passes : {A : Type 0} (test : A → Bool) (xs : List A) →
    All (λ x. test x ≡ true) (filter test xs)
filter_passes test [] = All-nil (λ x. test x ≡ true)
filter_passes test (x ∷ xs) = by_test (test x) refl (filter_passes test xs)
  where
    by_test : (b : Bool) → test x ≡ b → All (λ x. test x ≡ true) (filter test xs) →
        All (λ x. test x ≡ true) (if b then x ∷ filter test xs else filter test xs)
    by_test true is rest = All-cons (λ x. test x ≡ true) x (filter test xs) is rest
    by_test false is rest = rest

-- frames that never fall from one on are none below it
none_is_below : (frame : ℕ) (es : List Entry) → FramesNeverFall frame es →
    All (λ b. frame ≤ b.frame) es
none_is_below frame [] never = All-nil (λ b. frame ≤ b.frame)
none_is_below frame (e ∷ es) never =
    All-cons (λ b. frame ≤ b.frame) e es never.0
    (All-weaker (λ b. e.frame ≤ b.frame) (λ b. frame ≤ b.frame) (λ b h. le_trans never.0 h) es
    (none_is_below e.frame es never.1))

-- of entries whose frames never fall, the first isn't behind the others, and the others' frames
-- never fall
pub first_is_first : (e : Entry) (es : List Entry) → FramesNeverFall 0 (e ∷ es) →
    All (λ b. e.frame ≤ b.frame) es
first_is_first e es never = none_is_below e.frame es never.1

pub others_never_fall : (e : Entry) (es : List Entry) → FramesNeverFall 0 (e ∷ es) →
    FramesNeverFall 0 es
others_never_fall e [] never = tt
others_never_fall e (b ∷ es) never = (omega arith, never.1.1)

-- entries whose frames never fall are those before a frame, and behind them those from it on
pub entries-split : (frame : ℕ) (es : List Entry) → FramesNeverFall 0 es →
    es ≡ entries_before frame es ++ entries_from frame es
entries-split frame [] never = refl
entries-split frame (e ∷ es) never =
    ⊎_elim (early (entries-split frame es (others_never_fall e es never))) late
    (cases_lt e.frame frame)
  where
    early : es ≡ entries_before frame es ++ entries_from frame es → e.frame < frame →
        e ∷ es ≡ entries_before frame (e ∷ es) ++ entries_from frame (e ∷ es)
    early rest is = rw (lt-ltb e.frame frame is, lt-leb frame e.frame is) (ap (λ l. e ∷ l) rest)

    late : frame ≤ e.frame → e ∷ es ≡ entries_before frame (e ∷ es) ++ entries_from frame (e ∷ es)
    late is =
        let first = first_is_first e es never in
        let not_before = filter_none (λ e. nat_lt e.frame frame) es
        (All-weaker (λ b. e.frame ≤ b.frame) (λ b. nat_lt b.frame frame ≡ false)
        (λ b h. le-ltb b.frame frame (le_trans is h)) es first) in
        let behind = filter_all (λ e. nat_le frame e.frame) es
        (All-weaker (λ b. e.frame ≤ b.frame) (λ b. nat_le frame b.frame ≡ true)
        (λ b h. le-leb frame b.frame (le_trans is h)) es first) in
        rw (le-ltb e.frame frame is, le-leb frame e.frame is, not_before, behind) refl

-- frames of stamped entries never fall
pub stamped_never_fall : (es : List Entry) → IsTrue (are_stamped es) → FramesNeverFall 0 es
stamped_never_fall es stamped = (stamped_is_in_order es stamped).frames

-- a run is that of the entries before the cut's frame, and behind it that of the others
pub run_from-split : (frame : ℕ) (es : List Entry) (xs ys : List Sound) (l : Looper) →
    FramesNeverFall 0 es →
    run_from frame es (xs ++ ys) l ≡ ran_on (frame + length xs)
    (run_from frame (entries_before (frame + length xs) es) xs l)
    (entries_from (frame + length xs) es) ys
run_from-split frame es xs ys l never =
    let cut = frame + length xs in
    let up_to = All-weaker (λ e. nat_lt e.frame cut ≡ true) (λ e. e.frame ≤ cut)
    (λ e h. le_of_lt (ltb-true e.frame cut h)) (entries_before cut es)
    (filter_passes (λ e. nat_lt e.frame cut) es) in
    let from = All-weaker (λ e. nat_le cut e.frame ≡ true) (λ e. cut ≤ e.frame)
    (λ e h. leb-true cut e.frame h) (entries_from cut es)
    (filter_passes (λ e. nat_le cut e.frame) es) in
    ap (λ all. run_from frame all (xs ++ ys) l) (entries-split cut es never)
    ∙ run_from-cut frame (entries_before cut es) (entries_from cut es) xs ys l up_to from

-- the same cuts of whole runs
pub run-cut : (first next : List Entry) (xs ys : List Sound) (l : Looper) →
    All (λ e. e.frame ≤ length xs) first →
    All (λ e. length xs ≤ e.frame) next →
    run (first ++ next) (xs ++ ys) l ≡ ran_on (length xs) (run first xs l) next ys
run-cut first next xs ys l up_to from =
    let cut = zero-add (length xs) in
    let short = All-weaker (λ e. e.frame ≤ length xs) (λ e. e.frame ≤ 0 + length xs)
    (λ e h. omega arith) first up_to in
    let long = All-weaker (λ e. length xs ≤ e.frame) (λ e. 0 + length xs ≤ e.frame)
    (λ e h. omega arith) next from in
    run-run_from (first ++ next) (xs ++ ys) l ∙ run_from-cut 0 first next xs ys l short long
    ∙ ap₂ (λ n r. ran_on n r next ys) cut (sym (run-run_from first xs l))

pub run-more : (first next : List Entry) (input : List Sound) (l : Looper) →
    All (λ e. length input ≤ e.frame) next →
    run (first ++ next) input l ≡ ran_on (length input) (run first input l) next []
run-more first next input l from =
    let long = All-weaker (λ e. length input ≤ e.frame) (λ e. 0 + length input ≤ e.frame)
    (λ e h. omega arith) next from in
    run-run_from (first ++ next) input l ∙ run_from-more 0 first next input l long
    ∙ ap₂ (λ n r. ran_on n r next []) (zero-add (length input)) (sym (run-run_from first input l))

pub run-split : (es : List Entry) (xs ys : List Sound) (l : Looper) → FramesNeverFall 0 es →
    run es (xs ++ ys) l ≡ ran_on (length xs) (run (entries_before (length xs) es) xs l)
    (entries_from (length xs) es) ys
run-split es xs ys l never =
    run-run_from es (xs ++ ys) l
    ∙ run_from-split 0 es xs ys l never
    ∙ ap (λ n. ran_on n (run_from 0 (entries_before n es) xs l) (entries_from n es) ys)
    (zero-add (length xs))
    ∙ ap (λ r. ran_on (length xs) r (entries_from (length xs) es) ys)
    (sym (run-run_from (entries_before (length xs) es) xs l))
