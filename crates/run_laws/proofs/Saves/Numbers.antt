-- The saves of a run are numbered in order.
use Rattle.std.proofs.Common.{◌≡◌, ℕ, zero, suc, ◌+◌, Bool, true, false, List, [], ◌∷◌, ◌++◌, length, map, Option, Some, None, option_map, option_to_list, if◌then◌else◌, refl, sym, ap, ap₂, ◌∙◌, subst, add-zero, zero-add, length-append, arith}
use Rattle.std.specs.List.{range_with_len}
use Rattle.std.proofs.lemmas.Bool.{and_parts}
use Rattle.std.proofs.lemmas.List.{map-append}
use Rattle.sl_base.specs.Sounds.{Sound}
use Rattle.sl_commands.specs.declared.Target.{Target}
use Rattle.sl_commands.specs.declared.Target.TheVariants.{One, All, Selected}
use Rattle.sl_commands.specs.declared.Command.{Command}
use Rattle.sl_commands.specs.declared.Command.TheVariants.{Down, Up, Hit, Set, SetGlobal, Get, GetGlobal, SaveLoop, SaveSession, Release, Quit}
use Rattle.sl_commands.specs.declared.Entry.{Entry}
use Rattle.sl_base.specs.Names.{is_name}
use Rattle.sl_commands.specs.Commands.{is_single_target, is_allowed}
use Rattle.sl_commands.specs.Entries.{is_sender, is_valid}
use Rattle.looper_rules.specs.Looper.{Asker, Track, Looper, index_of}
use Rattle.looper_rules.specs.Saves.{Save, session_refusal}
use Rattle.looper_rules.specs.Entries.{is_taken, applied, performed, save, save_of, track_of, refusal_at, asker_of, saves_loop, saves_session, releases, loop_save, session_save, unless_refused}
use Rattle.looper_rules.specs.Frame.{framed}
use Rattle.looper_rules.specs.Run.{entered, due, later, begun, run}
use Rattle.looper_laws.specs.Selecting.{SelectsALoop}
use Rattle.run_laws.proofs.Runs.Sizes.{HasLoops, applied-has_loops, framed-has_loops, entered-has_loops, begun-has_loops}
use Rattle.run_laws.proofs.Answers.Gets.{target_there}

-- these saves have the numbers from one on, and so many were made then
record Numbered (old : ℕ) (made : List Save) (now : ℕ) : Type 0 where
  numbers : map (λ (s : Save). s.number) made ≡ range_with_len old (length made)
  count : now ≡ old + length made

range-append : (a m k : ℕ) →
    range_with_len a (m + k) ≡ range_with_len a m ++ range_with_len (a + m) k
range-append a zero k = ap₂ range_with_len (sym (add-zero a)) (zero-add k)
range-append a (suc m) k =
    let one : suc m + k ≡ suc (m + k) = omega arith in
    let place : a + 1 + m ≡ a + suc m = omega arith in
    ap (range_with_len a) one ∙ ap (λ l. a ∷ l) (range-append (a + 1) m k)
    ∙ ap (λ n. a ∷ range_with_len (a + 1) m ++ range_with_len n k) place

-- saves behind others go on where those left off
numbered-append : (a b c : ℕ) (xs ys : List Save) → Numbered a xs b → Numbered b ys c →
    Numbered a (xs ++ ys) c
numbered-append a b c xs ys first next =
    let long = length-append xs ys in
    let counts = first.count in
    let ends = next.count in
    record {
      numbers = map-append (λ (s : Save). s.number) xs ys
          ∙ ap₂ (λ us vs. us ++ vs) first.numbers
          (next.numbers ∙ ap (λ n. range_with_len n (length ys)) counts)
          ∙ sym (range-append a (length xs) (length ys)) ∙ ap (range_with_len a) (sym long);
      count = omega arith;
    }

numbered-none : (n : ℕ) → Numbered n [] n
numbered-none n = record { numbers = refl; count = sym (add-zero n) }

numbered-loop : (refusal : Option ℕ) (target : Target) (name : List ℕ) (k : ℕ) (asker : Asker)
    (l : Looper) (o : Option Track) (t : Track) →
    o ≡ Some t →
    Numbered l.saves (option_to_list
    (unless_refused refusal (option_map (loop_save target name l) o)))
    (saves_loop refusal k asker l).saves
numbered-loop None target name k asker l o t there =
    rw there (record { numbers = refl; count = refl })
numbered-loop (Some n) target name k asker l o t there = numbered-none l.saves

numbered-session : (refusal : Option ℕ) (name : List ℕ) (asker : Asker) (l : Looper) →
    Numbered l.saves (option_to_list (unless_refused refusal (Some (session_save name l))))
    (saves_session refusal asker l).saves
numbered-session None name asker l = record { numbers = refl; count = refl }
numbered-session (Some n) name asker l = numbered-none l.saves

numbered-release : (target : Target) (l : Looper) → Numbered l.saves [] (releases target l).saves
numbered-release (One k) l = numbered-none l.saves
numbered-release All l = numbered-none l.saves
numbered-release Selected l = numbered-none l.saves

numbered-performed : (c : Command) (n frame : ℕ) (e : Entry) (l : Looper) → HasLoops n l →
    is_allowed n c ≡ true →
    Numbered l.saves (option_to_list (save_of c l)) (performed c frame e l).saves
numbered-performed (SaveLoop target name) n frame e l has allowed =
    let there = target_there n target l has
    (and_parts (is_single_target n target) (is_name name) allowed).0 in
    numbered-loop (refusal_at target l) target name (index_of target l.globals.selected_loop_num)
    (asker_of e false) l (track_of target l) there.0 there.1
numbered-performed (SaveSession name) n frame e l has allowed =
    numbered-session (session_refusal l.tracks) name (asker_of e true) l
numbered-performed (Release target outcome) n frame e l has allowed = numbered-release target l
numbered-performed (Down target verb) n frame e l has allowed = numbered-none l.saves
numbered-performed (Up target verb) n frame e l has allowed = numbered-none l.saves
numbered-performed (Hit target verb) n frame e l has allowed = numbered-none l.saves
numbered-performed (Set target control value) n frame e l has allowed = numbered-none l.saves
numbered-performed (SetGlobal control value) n frame e l has allowed = numbered-none l.saves
numbered-performed (Get target control) n frame e l has allowed = numbered-none l.saves
numbered-performed (GetGlobal control) n frame e l has allowed = numbered-none l.saves
numbered-performed Quit n frame e l has allowed = numbered-none l.saves

numbered-applied : (n frame : ℕ) (e : Entry) (l : Looper) → HasLoops n l →
    Numbered l.saves (option_to_list (save e l)) (applied frame e l).saves
numbered-applied n frame e l has = by_taken (is_taken e l) refl
  where
    by_taken : (b : Bool) → is_valid (length l.tracks) e ≡ b →
        Numbered l.saves (option_to_list (if b then save_of e.command l else None))
        (if b then performed e.command frame e l else l).saves
    by_taken true valid =
        let here = subst (λ k. is_valid k e ≡ true) has.loops valid in
        numbered-performed e.command n frame e l has
        (and_parts (is_sender e.sender e.command) (is_allowed n e.command) here).1
    by_taken false valid = numbered-none l.saves

numbered-entered : (n frame : ℕ) (es : List Entry) (l : Looper) → HasLoops n l →
    Numbered l.saves (entered frame es l).saves (entered frame es l).looper.saves
numbered-entered n frame [] l has = numbered-none l.saves
numbered-entered n frame (e ∷ es) l has =
    let now = applied frame e l in
    numbered-append _ _ _ (option_to_list (save e l)) (entered frame es now).saves
    (numbered-applied n frame e l has)
    (numbered-entered n frame es now (applied-has_loops n frame e l has))

numbered-begun : (n frame : ℕ) (es : List Entry) (xs : List Sound) (l : Looper) → HasLoops n l →
    Numbered l.saves (begun frame es xs l).saves (begun frame es xs l).looper.saves
numbered-begun n frame es [] l has = numbered-none l.saves
numbered-begun n frame es (x ∷ xs) l has =
    let before = entered frame (due frame es) l in
    let now = framed frame x before.looper in
    let next = begun (frame + 1) (later frame es) xs now.looper in
    numbered-append _ _ _ before.saves next.saves (numbered-entered n frame (due frame es) l has)
    (numbered-begun n (frame + 1) (later frame es) xs now.looper
    (framed-has_loops n frame x before.looper (entered-has_loops n frame (due frame es) l has)))

numbered-run : (es : List Entry) (input : List Sound) (l : Looper) → SelectsALoop l →
    Numbered l.saves (run es input l).saves (run es input l).looper.saves
numbered-run es input l selects =
    let n = length l.tracks in
    let has : HasLoops n l = record { loops = refl; selects = selects } in
    let first = begun 0 es input l in
    numbered-append _ _ _ first.saves _ (numbered-begun n 0 es input l has)
    (numbered-entered n (length input) first.left first.looper (begun-has_loops n 0 es input l has))

-- the saves of a run are numbered in order, from how many there were
pub run-numbers : (es : List Entry) (input : List Sound) (l : Looper) → SelectsALoop l →
    map (λ (s : Save). s.number) (run es input l).saves ≡ range_with_len l.saves
    (length (run es input l).saves)
run-numbers es input l selects = (numbered-run es input l selects).numbers

pub run-count_of_saves : (es : List Entry) (input : List Sound) (l : Looper) → SelectsALoop l →
    (run es input l).looper.saves ≡ l.saves + length (run es input l).saves
run-count_of_saves es input l selects = (numbered-run es input l selects).count
