-- Each save of a run has the settings of all loops, so its release is one that the saver may send.
use Rattle.std.proofs.Common.{◌≡◌, ℕ, suc, ◌+◌, ◌<◌, true, List, [], ◌∷◌, ◌++◌, length, map, ◌⊎◌, inl, inr, Option, Some, None, refl, sym, ap, ◌∙◌, subst}
use Rattle.std.specs.Prelude.{option_to_list, IsTrue}
use Rattle.std.specs.List.{AllByRecursion}
use Rattle.std.proofs.lemmas.Bool.{and_from}
use Rattle.std.proofs.lemmas.List.{length-map}
use Rattle.sl_base.specs.Sounds.{Sound}
use Rattle.sl_commands.specs.declared.Target.{Target}
use Rattle.sl_commands.specs.declared.Command.TheVariants.{SaveLoop, SaveSession, Release}
use Rattle.sl_commands.specs.declared.Entry.{Entry}
use Rattle.sl_commands.specs.declared.StripSettings.{StripSettings}
use Rattle.sl_commands.specs.Settings.{LooperSettings, are_settings}
use Rattle.sl_commands.specs.Commands.{is_release_target, is_outcome}
use Rattle.looper_rules.specs.Looper.{Looper}
use Rattle.looper_rules.specs.Saves.{Save, strip_on}
use Rattle.looper_rules.specs.Entries.{applied, save}
use Rattle.looper_rules.specs.Frame.{framed}
use Rattle.looper_rules.specs.Run.{entered, begun, run, start, due, later, first_tracks}
use Rattle.looper_rules.specs.SaveBlocks.{IsMade}
use Rattle.run_laws.proofs.Saves.Entries.{save-of_loop, save-of_session, save-only}
use Rattle.run_laws.proofs.Runs.Sizes.{HasLoops, applied-has_loops, framed-has_loops, entered-has_loops, begun-has_loops, start-selects}
use Rattle.live_steps.specs.Passed.{releases_of}
use Rattle.live_session.proofs.JournalLemmas.{MaySend}

-- a save tells the settings of so many loops
abbrev HasStrips : ℕ → Save → Type 0
HasStrips n s = length s.settings.strips ≡ n

pub all_append : {X : Type 0} (P : X → Type 0) (xs ys : List X) → AllByRecursion P xs →
    AllByRecursion P ys → AllByRecursion P (xs ++ ys)
all_append P [] ys first rest = rest
all_append P (x ∷ xs) ys first rest = (first.0, all_append P xs ys first.1 rest)

strips_of : (n : ℕ) (e : Entry) (l : Looper) (s : Save) → HasLoops n l → save e l ≡ Some s →
    HasStrips n s
strips_of n e l s has made = by_command (save-only e l s made)
  where
    tracks : length (map strip_on l.tracks) ≡ n
    tracks = length-map l.tracks strip_on ∙ has.loops

    by_command : ((target : Target) × (name : List ℕ) × (e.command ≡ SaveLoop target name))
        ⊎ ((name : List ℕ) × (e.command ≡ SaveSession name)) → HasStrips n s
    by_command (inl (target, name, is)) =
        let one = save-of_loop e l s target name is made in
        subst (HasStrips n) (sym one.2) tracks
    by_command (inr (name, is)) =
        subst (HasStrips n) (sym (save-of_session e l s name is made)) tracks

made_strips : (n : ℕ) (e : Entry) (l : Looper) (o : Option Save) → HasLoops n l → save e l ≡ o →
    AllByRecursion (HasStrips n) (option_to_list o)
made_strips n e l None has is = tt
made_strips n e l (Some s) has is = (strips_of n e l s has is, tt)

entered_strips : (n frame : ℕ) (es : List Entry) (l : Looper) → HasLoops n l →
    AllByRecursion (HasStrips n) (entered frame es l).saves
entered_strips n frame [] l has = tt
entered_strips n frame (e ∷ es) l has =
    all_append (HasStrips n) (option_to_list (save e l)) (entered frame es (applied frame e
    l)).saves
    (made_strips n e l (save e l) has refl)
    (entered_strips n frame es (applied frame e l) (applied-has_loops n frame e l has))

begun_strips : (n frame : ℕ) (es : List Entry) (xs : List Sound) (l : Looper) → HasLoops n l →
    AllByRecursion (HasStrips n) (begun frame es xs l).saves
begun_strips n frame es [] l has = tt
begun_strips n frame es (x ∷ xs) l has =
    let before = entered frame (due frame es) l in
    let now = framed frame x before.looper in
    all_append (HasStrips n) before.saves (begun (frame + 1) (later frame es) xs now.looper).saves
    (entered_strips n frame (due frame es) l has)
    (begun_strips n (frame + 1) (later frame es) xs now.looper
    (framed-has_loops n frame x before.looper (entered-has_loops n frame (due frame es) l has)))

first_count : (strips : List StripSettings) (lists : List (List Sound)) →
    length (first_tracks strips lists) ≡ length strips
first_count [] lists = refl
first_count (s ∷ strips) [] = ap suc (first_count strips [])
first_count (s ∷ strips) (list ∷ lists) = ap suc (first_count strips lists)

-- each save of a run has
pub run_strips : (s : LooperSettings) (chunks : ℕ) (lists : List (List Sound)) (es : List Entry)
    (input : List Sound) → IsTrue (are_settings s) →
    AllByRecursion (HasStrips (length s.strips)) (run es input (start s chunks lists)).saves
run_strips s chunks lists es input valid =
    let n = length s.strips in
    let l = start s chunks lists in
    let selects = start-selects s chunks lists valid in
    let count : length l.tracks ≡ n = first_count s.strips lists in
    let has : HasLoops n l =
    record { loops = count; selects = subst (λ m. l.globals.selected_loop_num < m) count selects }
    in let first = begun 0 es input l in
    all_append (HasStrips n) first.saves (entered (length input) first.left first.looper).saves
    (begun_strips n 0 es input l has)
    (entered_strips n (length input) first.left first.looper (begun-has_loops n 0 es input l has))

-- the release of such a save is one that the saver may send
may_release : (n : ℕ) (s : Save) (o : ℕ) → IsMade s → HasStrips n s → is_outcome o ≡ true →
    MaySend 2 n (Release s.target o)
may_release n s o made strips ends =
    record {
      sends = refl;
      allowed = and_from (is_release_target n s.target) (is_outcome o)
          (subst (λ m. is_release_target m s.target ≡ true) strips made.target) ends;
    }

pub may_release_all : (n : ℕ) (saves : List Save) (os : List ℕ) → AllByRecursion IsMade saves →
    AllByRecursion (HasStrips n) saves → AllByRecursion (λ o. is_outcome o ≡ true) os →
    AllByRecursion (MaySend 2 n) (releases_of saves os)
may_release_all n [] os made strips ends = tt
may_release_all n (s ∷ saves) [] made strips ends = tt
may_release_all n (s ∷ saves) (o ∷ os) made strips ends = (
  may_release n s o made.0 strips.0 ends.0,
  may_release_all n saves os made.1 strips.1 ends.1,
)
