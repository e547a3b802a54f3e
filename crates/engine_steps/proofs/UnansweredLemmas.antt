-- The unanswered saves of a run with one entry more at its end, and with more frames.
use Rattle.std.proofs.Common.{◌≡◌, ℕ, zero, suc, ◌+◌, ◌≤◌, ◌<◌, List, [], ◌∷◌, ◌++◌, length, refl, sym, ap, ap₂, ◌∙◌, subst, arith, append-nil, add-zero, zero-add}
use Rattle.std.specs.List.{All}
use Rattle.std.proofs.lemmas.List.Elements.{All-cons, All-nil, All-weaker}
use Rattle.sl_base.specs.Sounds.{Sound}
use Rattle.sl_commands.specs.declared.Entry.{Entry}
use Rattle.looper_rules.specs.Looper.{Looper}
use Rattle.looper_rules.specs.Saves.{Save}
use Rattle.looper_rules.specs.Entries.{applied}
use Rattle.looper_rules.specs.Frame.{framed}
use Rattle.looper_rules.specs.Run.{RunSoFar, entered, due, later, begun, run}
use Rattle.looper_rules.specs.Cuts.{with_more_left, begun_on}
use Rattle.looper_rules.specs.Unanswered.{unanswered_after, unanswered_entered, unanswered_begun, unanswered}
use Rattle.run_laws.proofs.Runs.Cuts.{begun-append, begun-more, due-append_none, later-append, due-append_all, later-append_all, left-all}

-- entries one behind the other
unanswered_entered-append : (frame : ℕ) (first next : List Entry) (l : Looper) (saves : List Save) →
    unanswered_entered frame (first ++ next) l saves
    ≡ unanswered_entered frame next (entered frame first l).looper
    (unanswered_entered frame first l saves)
unanswered_entered-append frame [] next l saves = refl
unanswered_entered-append frame (e ∷ es) next l saves =
    unanswered_entered-append frame es next (applied frame e l) (unanswered_after e l saves)

-- one frame with these entries due and those later, and the frames behind it
abbrev stepped : ℕ → List Entry → List Entry → Sound → List Sound → Looper → List Save → List Save
stepped frame now_due rest x xs l saves =
    let before = (entered frame now_due l).looper
    in unanswered_begun (frame + 1) rest xs (framed frame x before).looper
    (unanswered_entered frame now_due l saves)

-- entries of frames to come change nothing before
unanswered_begun-more : (frame : ℕ) (es more : List Entry) (xs : List Sound) (l : Looper)
    (saves : List Save) →
    All (λ e. frame + length xs ≤ e.frame) more →
    unanswered_begun frame (es ++ more) xs l saves ≡ unanswered_begun frame es xs l saves
unanswered_begun-more frame es more [] l saves after = refl
unanswered_begun-more frame es more (x ∷ xs) l saves after =
    let soon = All-weaker (λ (e : Entry). frame + length (x ∷ xs) ≤ e.frame)
    (λ (e : Entry). frame < e.frame) (λ e h. omega arith) more after
    in let behind = All-weaker (λ (e : Entry). frame + length (x ∷ xs) ≤ e.frame)
    (λ (e : Entry). frame + 1 + length xs ≤ e.frame) (λ e h. omega arith) more after
    in let before = (entered frame (due frame es) l).looper
    in ap₂ (λ now_due rest. stepped frame now_due rest x xs l saves)
    (due-append_none frame es more soon) (later-append frame es more soon)
    ∙ unanswered_begun-more (frame + 1) (later frame es) more xs (framed frame x before).looper
    (unanswered_entered frame (due frame es) l saves) behind

-- what is unanswered behind these frames and the entries that they left
abbrev behind : ℕ → RunSoFar → List Save → List Save
behind frame b saves = unanswered_entered frame b.left b.looper saves

-- one entry more, at the end
pub unanswered-one_more : (es : List Entry) (en : Entry) (input : List Sound) (l : Looper) →
    length input ≤ en.frame →
    unanswered (es ++ en ∷ []) input l ≡ unanswered_after en (run es input l).looper
    (unanswered es input l)
unanswered-one_more es en input l late =
    let frame = length input
    in let here : 0 + length input ≤ en.frame = omega arith
    in let after : All (λ (e : Entry). 0 + length input ≤ e.frame) (en ∷ []) =
    All-cons (λ (e : Entry). 0 + length input ≤ e.frame) en [] here
    (All-nil (λ (e : Entry). 0 + length input ≤ e.frame))
    in let first = begun 0 es input l
    in ap₂ (λ b saves. behind frame b saves) (begun-more 0 es (en ∷ []) input l after)
    (unanswered_begun-more 0 es (en ∷ []) input l [] after)
    ∙ unanswered_entered-append frame first.left (en ∷ []) first.looper
    (unanswered_begun 0 es input l [])

-- frames with no entry among them
unanswered_begun-none : (frame : ℕ) (xs : List Sound) (l : Looper) (saves : List Save) →
    unanswered_begun frame [] xs l saves ≡ saves
unanswered_begun-none frame [] l saves = refl
unanswered_begun-none frame (x ∷ xs) l saves =
    unanswered_begun-none (frame + 1) xs (framed frame x l).looper saves

left_none : (frame : ℕ) (xs : List Sound) (l : Looper) → (begun frame [] xs l).left ≡ []
left_none frame [] l = refl
left_none frame (x ∷ xs) l = left_none (frame + 1) xs (framed frame x l).looper

-- frames behind others
unanswered_begun-append : (frame : ℕ) (es : List Entry) (xs ys : List Sound) (l : Looper)
    (saves : List Save) →
    unanswered_begun frame es (xs ++ ys) l saves
    ≡ unanswered_begun (frame + length xs) (begun frame es xs l).left ys
    (begun frame es xs l).looper (unanswered_begun frame es xs l saves)
unanswered_begun-append frame es [] ys l saves =
    ap (λ n. unanswered_begun n es ys l saves) (sym (add-zero frame))
unanswered_begun-append frame es (x ∷ xs) ys l saves =
    let before = (entered frame (due frame es) l).looper
    in let now = (framed frame x before).looper
    in let rest = begun (frame + 1) (later frame es) xs now
    in let sofar = unanswered_entered frame (due frame es) l saves
    in let same : frame + 1 + length xs ≡ frame + length (x ∷ xs) = omega arith
    in unanswered_begun-append (frame + 1) (later frame es) xs ys now sofar
    ∙ ap (λ n. unanswered_begun n rest.left ys rest.looper
    (unanswered_begun (frame + 1) (later frame es) xs now sofar)) same

-- entries that are due at a frame are all of them, and none is later
due_all : (frame : ℕ) (es : List Entry) → All (λ (e : Entry). e.frame ≤ frame) es →
    due frame es ≡ es
due_all frame es up_to = ap (due frame) (sym (append-nil es)) ∙ due-append_all frame es [] up_to
    ∙ append-nil es

later_none : (frame : ℕ) (es : List Entry) → All (λ (e : Entry). e.frame ≤ frame) es →
    later frame es ≡ []
later_none frame es up_to = ap (later frame) (sym (append-nil es))
    ∙ later-append_all frame es [] up_to

-- more frames leave unanswered what the entries before them left
first_frame : (frame : ℕ) (y : Sound) (ys : List Sound) (es : List Entry) (l : Looper)
    (saves : List Save) → All (λ (e : Entry). e.frame ≤ frame) es →
    unanswered_begun frame es (y ∷ ys) l saves ≡ unanswered_entered frame es l saves
first_frame frame y ys es l saves up_to =
    ap₂ (λ now_due rest. stepped frame now_due rest y ys l saves) (due_all frame es up_to)
    (later_none frame es up_to)
    ∙ unanswered_begun-none (frame + 1) ys (framed frame y (entered frame es l).looper).looper
    (unanswered_entered frame es l saves)

left_behind : (frame : ℕ) (y : Sound) (ys : List Sound) (es : List Entry) (l : Looper) →
    All (λ (e : Entry). e.frame ≤ frame) es →
    (begun frame es (y ∷ ys) l).left ≡ []
left_behind frame y ys es l up_to =
    ap₂ (λ now_due rest.
    (begun (frame + 1) rest ys (framed frame y (entered frame now_due l).looper).looper).left)
    (due_all frame es up_to) (later_none frame es up_to)
    ∙ left_none (frame + 1) ys (framed frame y (entered frame es l).looper).looper

pub unanswered-more_frames : (es : List Entry) (xs ys : List Sound) (l : Looper) →
    All (λ (e : Entry). e.frame ≤ length xs) es →
    unanswered es (xs ++ ys) l ≡ unanswered es xs l
unanswered-more_frames es xs [] l up_to = ap (λ zs. unanswered es zs l) (append-nil xs)
unanswered-more_frames es xs (y ∷ ys) l up_to =
    let first = begun 0 es xs l
    in let frame = length xs
    in let sofar = unanswered_begun 0 es xs l []
    in let from : 0 + length xs ≡ frame = zero-add (length xs)
    in let still : All (λ (e : Entry). e.frame ≤ frame) first.left =
    left-all (λ (e : Entry). e.frame ≤ frame) 0 es xs l up_to
    in let cut : unanswered_begun 0 es (xs ++ y ∷ ys) l [] ≡ unanswered_begun frame first.left
    (y ∷ ys) first.looper sofar =
    unanswered_begun-append 0 es xs (y ∷ ys) l []
    ∙ ap (λ n. unanswered_begun n first.left (y ∷ ys) first.looper sofar) from
    in let whole : begun 0 es (xs ++ y ∷ ys) l ≡ begun_on frame first (y ∷ ys) =
    begun-append 0 es xs (y ∷ ys) l ∙ ap (λ n. begun_on n first (y ∷ ys)) from
    in let none : (begun 0 es (xs ++ y ∷ ys) l).left ≡ [] =
    ap (λ (b : RunSoFar). b.left) whole ∙ left_behind frame y ys first.left first.looper still
    in ap (λ us. unanswered_entered (length (xs ++ y ∷ ys)) us (begun 0 es (xs ++ y ∷ ys) l).looper
    (unanswered_begun 0 es (xs ++ y ∷ ys) l [])) none
    ∙ cut ∙ first_frame frame y ys first.left first.looper sofar still
