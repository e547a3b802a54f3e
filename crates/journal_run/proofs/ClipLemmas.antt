-- A run of entries that are clipped to the frames of its input is the run of the entries.
use Rattle.std.proofs.Common.{◌≡◌, ℕ, ◌+◌, ◌<◌, ◌≤◌, min, Bool, true, false, List, [], ◌∷◌, ◌++◌, length, cond, refl, sym, ap, ap₂, ◌∙◌, arith}
use Rattle.std.specs.Prelude.{nat_le, Option, None, option_to_list, if◌then◌else◌}
use Rattle.std.proofs.lemmas.Bool.{le-leb, leb-true, false≢true}
use Rattle.sl_base.specs.Sounds.{Sound}
use Rattle.sl_commands.specs.declared.Command.{Command}
use Rattle.sl_commands.specs.declared.Command.TheVariants.{Down, Up, Hit, Set, SetGlobal, Get, GetGlobal, SaveLoop, SaveSession, Release, Quit}
use Rattle.sl_commands.specs.declared.Entry.{Entry}
use Rattle.sl_commands.specs.declared.Reply.{Reply}
use Rattle.looper_rules.specs.Looper.{Looper}
use Rattle.looper_rules.specs.Entries.{is_taken, performed, applied, reply_of, reply, save}
use Rattle.looper_rules.specs.Frame.{framed}
use Rattle.looper_rules.specs.Run.{Entered, entered, due, later, RunSoFar, begun, begun_before, Ran, ended, run}
use Rattle.journal_run.specs.Clipping.{clipped, all_clipped}

-- what a command does has nothing to do with the entry's own frame
performed-clipped : (count frame : ℕ) (c : Command) (e : Entry) (l : Looper) →
    performed c frame (clipped count e) l ≡ performed c frame e l
performed-clipped count frame (Down target verb) e l = refl
performed-clipped count frame (Up target verb) e l = refl
performed-clipped count frame (Hit target verb) e l = refl
performed-clipped count frame (Set target control value) e l = refl
performed-clipped count frame (SetGlobal control value) e l = refl
performed-clipped count frame (Get target control) e l = refl
performed-clipped count frame (GetGlobal control) e l = refl
performed-clipped count frame (SaveLoop target name) e l = refl
performed-clipped count frame (SaveSession name) e l = refl
performed-clipped count frame (Release target outcome) e l = refl
performed-clipped count frame Quit e l = refl

replied-clipped : (count : ℕ) (c : Command) (e : Entry) (l : Looper) →
    reply_of c (clipped count e) l ≡ reply_of c e l
replied-clipped count (Down target verb) e l = refl
replied-clipped count (Up target verb) e l = refl
replied-clipped count (Hit target verb) e l = refl
replied-clipped count (Set target control value) e l = refl
replied-clipped count (SetGlobal control value) e l = refl
replied-clipped count (Get target control) e l = refl
replied-clipped count (GetGlobal control) e l = refl
replied-clipped count (SaveLoop target name) e l = refl
replied-clipped count (SaveSession name) e l = refl
replied-clipped count (Release target outcome) e l = refl
replied-clipped count Quit e l = refl

pub applied-clipped : (count frame : ℕ) (e : Entry) (l : Looper) →
    applied frame (clipped count e) l ≡ applied frame e l
applied-clipped count frame e l =
    ap (λ after. cond (is_taken e l) after l) (performed-clipped count frame e.command e l)

pub reply-clipped : (count : ℕ) (e : Entry) (l : Looper) → reply (clipped count e) l ≡ reply e l
reply-clipped count e l = ap (λ (r : Option Reply). if is_taken e l then r else None)
    (replied-clipped count e.command e l)

-- entries that are entered at one frame
entered-clipped : (count frame : ℕ) (es : List Entry) (l : Looper) →
    entered frame (all_clipped count es) l ≡ entered frame es l
entered-clipped count frame [] l = refl
entered-clipped count frame (e ∷ es) l =
    let after = applied-clipped count frame e l in
    let rest : entered frame (all_clipped count es) (applied frame (clipped count e) l) ≡ entered
    frame es (applied frame e l) =
    ap (entered frame (all_clipped count es)) after
    ∙ entered-clipped count frame es (applied frame e l) in
    ap₂ (λ (answer : Option Reply) (r : Entered). before answer r) (reply-clipped count e l) rest
  where
    before : Option Reply → Entered → Entered
    before answer r =
        record {
          replies = option_to_list answer ++ r.replies;
          saves = option_to_list (save e l) ++ r.saves;
          looper = r.looper;
        }

-- before the last frame the same entries are due
due_so : (count frame at : ℕ) → frame < count → nat_le (min at count) frame ≡ nat_le at frame
due_so count frame at before = by_test (nat_le at frame) refl
  where
    not_yet : ((min at count ≤ frame) → ⊥) → nat_le (min at count) frame ≡ false
    not_yet none = by_bool (nat_le (min at count) frame) refl
      where
        by_bool : (b : Bool) → nat_le (min at count) frame ≡ b → b ≡ false
        by_bool true is = absurd (none (leb-true (min at count) frame is))
        by_bool false is = refl

    by_test : (b : Bool) → nat_le at frame ≡ b → nat_le (min at count) frame ≡ b
    by_test true is = let early : at ≤ frame = leb-true at frame is in
        le-leb (min at count) frame (omega arith)
    by_test false is = not_yet (λ all. false≢true (sym is ∙ le-leb at frame (omega (arith, all))))

due-clipped : (count frame : ℕ) (es : List Entry) → frame < count →
    due frame (all_clipped count es) ≡ all_clipped count (due frame es)
due-clipped count frame [] before = refl
due-clipped count frame (e ∷ es) before =
    ap (λ b. cond b (clipped count e ∷ due frame (all_clipped count es)) [])
    (due_so count frame e.frame before)
    ∙ by_test (nat_le e.frame frame) (due-clipped count frame es before)
  where
    by_test : (b : Bool) → due frame (all_clipped count es) ≡ all_clipped count (due frame es) →
        cond b (clipped count e ∷ due frame (all_clipped count es)) [] ≡ all_clipped count
        (cond b (e ∷ due frame es) [])
    by_test true rest = ap (λ ds. clipped count e ∷ ds) rest
    by_test false rest = refl

later-clipped : (count frame : ℕ) (es : List Entry) → frame < count →
    later frame (all_clipped count es) ≡ all_clipped count (later frame es)
later-clipped count frame [] before = refl
later-clipped count frame (e ∷ es) before =
    ap (λ b. cond b (later frame (all_clipped count es)) (clipped count e ∷ all_clipped count es))
    (due_so count frame e.frame before)
    ∙ by_test (nat_le e.frame frame) (later-clipped count frame es before)
  where
    by_test : (b : Bool) → later frame (all_clipped count es) ≡ all_clipped count (later frame es) →
        cond b (later frame (all_clipped count es)) (clipped count e ∷ all_clipped count es)
        ≡ all_clipped count (cond b (later frame es) (e ∷ es))
    by_test true rest = rest
    by_test false rest = refl

-- what frames gave, with the entries that are left clipped
abbrev left_clipped : ℕ → RunSoFar → RunSoFar
left_clipped count b = record b { left = all_clipped count b.left }

begun-clipped : (count frame : ℕ) (es : List Entry) (xs : List Sound) (l : Looper) →
    frame + length xs ≡ count →
    begun frame (all_clipped count es) xs l ≡ left_clipped count (begun frame es xs l)
begun-clipped count frame es [] l all = refl
begun-clipped count frame es (x ∷ xs) l all =
    let before : frame < count = omega arith in
    let same : entered frame (due frame (all_clipped count es)) l ≡ entered frame (due frame es) l =
    ap (λ ds. entered frame ds l) (due-clipped count frame es before)
    ∙ entered-clipped count frame (due frame es) l in
    ap₂ (λ (n : Entered) (ls : List Entry). go n ls) same (later-clipped count frame es before)
    ∙ ap (λ (b : RunSoFar). begun_before (entered frame (due frame es) l)
    (framed frame x (entered frame (due frame es) l).looper).output b)
    (begun-clipped count (frame + 1) (later frame es) xs
    (framed frame x (entered frame (due frame es) l).looper).looper (omega (arith, all)))
  where
    go : Entered → List Entry → RunSoFar
    go n ls = begun_before n (framed frame x n.looper).output
        (begun (frame + 1) ls xs (framed frame x n.looper).looper)

pub run-clipped : (es : List Entry) (xs : List Sound) (l : Looper) →
    run (all_clipped (length xs) es) xs l ≡ run es xs l
run-clipped es xs l =
    ap (ended (length xs))
    (begun-clipped (length xs) 0 es xs l (let all : 0 + length xs ≡ length xs = omega arith in
    all))
    ∙ ap (λ (n : Entered). last (begun 0 es xs l) n)
    (entered-clipped (length xs) (length xs) (begun 0 es xs l).left (begun 0 es xs l).looper)
  where
    last : RunSoFar → Entered → Ran
    last b n = record {
      output = b.output;
      replies = b.replies ++ n.replies;
      saves =
          b.saves ++ n.saves;
      looper = n.looper;
    }
