-- The saves that no release has answered are some of those of the run, and of different loops.
use Rattle.std.proofs.Common.{◌≡◌, ℕ, zero, suc, ◌+◌, ◌≤◌, Bool, true, false, List, [], ◌∷◌, ◌++◌, filter, length, Option, Some, None, is_some, slice_get, option_map, option_to_list, refl, sym, ap, ◌∙◌, subst, inl, inr, arith, append_assoc, append-nil, nat_le, leb-true}
use Rattle.std.specs.Prelude.{IsTrue, if◌then◌else◌}
use Rattle.std.specs.List.{AllByRecursion}
use Rattle.std.specs.Option.{option_and_then}
use Rattle.std.proofs.lemmas.Bool.{and_parts}
use Rattle.std.proofs.lemmas.List.{length-map}
use Rattle.std.proofs.lemmas.Option.{slice_get-map}
use Rattle.sl_base.specs.Sounds.{Sound}
use Rattle.sl_commands.specs.declared.Target.{Target}
use Rattle.sl_commands.specs.declared.Target.TheVariants.{One, All, Selected}
use Rattle.sl_commands.specs.declared.Command.{Command}
use Rattle.sl_commands.specs.declared.Command.TheVariants.{SaveLoop, SaveSession, Release}
use Rattle.sl_commands.specs.declared.Entry.{Entry}
use Rattle.looper_rules.specs.Looper.{Track, Looper, index_of}
use Rattle.looper_rules.specs.Saves.{Save, save_refusal, any_pinned, loop_asker, session_asker}
use Rattle.looper_rules.specs.Entries.{is_taken, applied, refusal_at, track_of, loop_save, session_save, unless_refused, save, save_of}
use Rattle.looper_rules.specs.Frame.{framed}
use Rattle.looper_rules.specs.Run.{entered, due, later, begun, run}
use Rattle.looper_rules.specs.Unanswered.{still_unanswered, unanswered_after, unanswered_entered, unanswered_begun, unanswered, Hold, hold_on, holds_of, HoldsLoop, IsHeld, HoldPins}
use Rattle.looper_rules.specs.Reached.{KeepsLooper}
use Rattle.run_laws.specs.Apart.{AreApart, AreAllApart, AreSomeOf}
use Rattle.run_laws.proofs.Saves.Holds.{IsFree, AreFree, no_loop_held, no_session_held, all_weaker}
use Rattle.run_laws.proofs.Saves.Owners.{track_at, unasked, all_free, applied-holds, framed-owners, entered-holds}
use Rattle.looper_laws.proofs.Kept.Runs.{entry_keeps, entered_keeps, frame_keeps}

-- some of some saves, and more of both
some_more : (s : Save) (some all : List Save) → AreSomeOf some all → AreSomeOf some (s ∷ all)
some_more s [] all h = tt
some_more s (x ∷ some) all h = inr h

some_itself : (saves : List Save) → AreSomeOf saves saves
some_itself [] = tt
some_itself (s ∷ saves) = inl (refl, some_itself saves)

some_behind : (some front all : List Save) → AreSomeOf some all → AreSomeOf some (front ++ all)
some_behind some [] all h = h
some_behind some (x ∷ front) all h = some_more x some (front ++ all) (some_behind some front all h)

some_joined : (some all next more : List Save) → AreSomeOf some all → AreSomeOf next more →
    AreSomeOf (some ++ next) (all ++ more)
some_joined [] all next more h n = some_behind next all more n
some_joined (s ∷ some) [] next more h n = absurd h
some_joined (s ∷ some) (x ∷ all) next more (inl h) n =
    inl (h.0, some_joined some all next more h.1 n)
some_joined (s ∷ some) (x ∷ all) next more (inr h) n =
    inr (some_joined (s ∷ some) all next more h n)

some_without_first : (s : Save) (some all : List Save) → AreSomeOf (s ∷ some) all →
    AreSomeOf some all
some_without_first s some [] h = absurd h
some_without_first s some (x ∷ all) (inl h) = some_more x some all h.1
some_without_first s some (x ∷ all) (inr h) = some_more x some all (some_without_first s some all h)

some_kept : (keeps : Save → Bool) (some all : List Save) → AreSomeOf some all →
    AreSomeOf (filter keeps some) all
some_kept keeps [] all h = tt
some_kept keeps (s ∷ some) [] h = absurd h
some_kept keeps (s ∷ some) (x ∷ all) (inl h) = by_test (keeps s) (some_kept keeps some all h.1)
  where
    by_test : (b : Bool) → AreSomeOf (filter keeps some) all →
        AreSomeOf (if b then s ∷ filter keeps some else filter keeps some) (x ∷ all)
    by_test true rest = inl (h.0, rest)
    by_test false rest = some_more x (filter keeps some) all rest
some_kept keeps (s ∷ some) (x ∷ all) (inr h) =
    some_more x (filter keeps (s ∷ some)) all (some_kept keeps (s ∷ some) all h)

-- behind an entry, some entries, some frames and a run
some_still : (c : Command) (some all : List Save) → AreSomeOf some all →
    AreSomeOf (still_unanswered c some) all
some_still (Release target outcome) some all h = some_kept _ some all h
some_still _ some all h = h

some_after : (e : Entry) (l : Looper) (some all : List Save) → AreSomeOf some all →
    AreSomeOf (unanswered_after e l some) (all ++ option_to_list (save e l))
some_after e l some all h = by_taken (is_taken e l) (some_still e.command some all h)
  where
    by_taken : (b : Bool) → AreSomeOf (still_unanswered e.command some) all →
        AreSomeOf ((if b then still_unanswered e.command some else some)
        ++ option_to_list (save e l)) (all ++ option_to_list (save e l))
    by_taken true still =
        some_joined (still_unanswered e.command some) all (option_to_list (save e l))
        (option_to_list (save e l)) still (some_itself (option_to_list (save e l)))
    by_taken false still = some_joined some all (option_to_list (save e l))
        (option_to_list (save e l)) h (some_itself (option_to_list (save e l)))

pub some_entered : (frame : ℕ) (es : List Entry) (l : Looper) (some all : List Save) →
    AreSomeOf some all →
    AreSomeOf (unanswered_entered frame es l some) (all ++ (entered frame es l).saves)
some_entered frame [] l some all h = subst (λ ys. AreSomeOf some ys) (sym (append-nil all)) h
some_entered frame (e ∷ es) l some all h =
    let now = applied frame e l in
    subst (λ ys. AreSomeOf (unanswered_entered frame es now (unanswered_after e l some)) ys)
    (append_assoc all (option_to_list (save e l)) (entered frame es now).saves)
    (some_entered frame es now (unanswered_after e l some) (all ++ option_to_list (save e l))
    (some_after e l some all h))

pub some_begun : (frame : ℕ) (es : List Entry) (xs : List Sound) (l : Looper)
    (some all : List Save) → AreSomeOf some all →
    AreSomeOf (unanswered_begun frame es xs l some) (all ++ (begun frame es xs l).saves)
some_begun frame es [] l some all h = subst (λ ys. AreSomeOf some ys) (sym (append-nil all)) h
some_begun frame es (x ∷ xs) l some all h =
    let before = entered frame (due frame es) l in
    let now = (framed frame x before.looper).looper in
    let left = unanswered_entered frame (due frame es) l some in
    let next = begun (frame + 1) (later frame es) xs now in
    subst (λ ys. AreSomeOf (unanswered_begun (frame + 1) (later frame es) xs now left) ys)
    (append_assoc all before.saves next.saves)
    (some_begun (frame + 1) (later frame es) xs now left (all ++ before.saves)
    (some_entered frame (due frame es) l some all h))

pub some_run : (es : List Entry) (input : List Sound) (l : Looper) →
    AreSomeOf (unanswered es input l) (run es input l).saves
some_run es input l =
    let first = begun 0 es input l in
    some_entered (length input) first.left first.looper (unanswered_begun 0 es input l [])
    first.saves (some_begun 0 es input l [] [] tt)

-- saves of different loops, of which some are taken away
apart_kept : (target : Target) (keeps : Save → Bool) (saves : List Save) →
    AllByRecursion (λ (x : Save). AreApart target x.target) saves →
    AllByRecursion (λ (x : Save). AreApart target x.target) (filter keeps saves)
apart_kept target keeps [] h = tt
apart_kept target keeps (x ∷ saves) h = by_test (keeps x) (apart_kept target keeps saves h.1)
  where
    by_test : (b : Bool) →
        AllByRecursion (λ (y : Save). AreApart target y.target) (filter keeps saves) →
        AllByRecursion (λ (y : Save). AreApart target y.target)
        (if b then x ∷ filter keeps saves else filter keeps saves)
    by_test true rest = (h.0, rest)
    by_test false rest = rest

all_apart_kept : (keeps : Save → Bool) (saves : List Save) → AreAllApart saves →
    AreAllApart (filter keeps saves)
all_apart_kept keeps [] h = tt
all_apart_kept keeps (s ∷ saves) h = by_test (keeps s) (all_apart_kept keeps saves h.1)
  where
    by_test : (b : Bool) → AreAllApart (filter keeps saves) →
        AreAllApart (if b then s ∷ filter keeps saves else filter keeps saves)
    by_test true rest = (apart_kept s.target keeps saves h.0, rest)
    by_test false rest = rest

still_apart : (c : Command) (saves : List Save) → AreAllApart saves →
    AreAllApart (still_unanswered c saves)
still_apart (Release target outcome) saves h = all_apart_kept _ saves h
still_apart _ saves h = h

-- one save more behind them
apart_push : (target : Target) (saves : List Save) (s : Save) →
    AllByRecursion (λ (x : Save). AreApart target x.target) saves → AreApart target s.target →
    AllByRecursion (λ (x : Save). AreApart target x.target) (saves ++ s ∷ [])
apart_push target [] s all last = (last, tt)
apart_push target (x ∷ saves) s all last = (all.0, apart_push target saves s all.1 last)

all_apart_push : (saves : List Save) (s : Save) → AreAllApart saves →
    AllByRecursion (λ (x : Save). AreApart x.target s.target) saves → AreAllApart (saves ++ s ∷ [])
all_apart_push [] s h last = (tt, tt)
all_apart_push (x ∷ saves) s h last =
    (apart_push x.target saves s h.0 last.0, all_apart_push saves s h.1 last.1)

-- a save whose lists are held is of another loop than one on which nothing stands
another_loop : (lists : List (List Sound)) (j k : ℕ) (hs : List Hold) → IsFree (slice_get hs k) →
    HoldsLoop lists (slice_get hs j) → j ≡ k → ⊥
another_loop lists j k hs free held same =
    clash lists (slice_get hs j) (subst (λ i. IsFree (slice_get hs i)) (sym same) free) held
  where
    clash : (lists : List (List Sound)) (o : Option Hold) → IsFree o → HoldsLoop lists o → ⊥
    clash lists None free held = held
    clash lists (Some h) free held = let none : loop_asker h.asker ≡ None = ap loop_asker free in cc

no_session : (k : ℕ) (h : Hold) (hs : List Hold) → slice_get hs k ≡ Some h → h.asker ≡ None →
    AllByRecursion (λ (x : Hold). IsTrue (is_some (session_asker x.asker))) hs → ⊥
no_session k h [] there free asked = cc
no_session zero h (x ∷ hs) there free asked =
    let same : x ≡ h = cc in
    let none : session_asker x.asker ≡ None = ap (λ (y : Hold). session_asker y.asker) same
    ∙ ap session_asker free in
    cc
no_session (suc k) h (x ∷ hs) there free asked = no_session k h hs there free asked.1

held_apart : (target : Target) (lists : List (List Sound)) (k : ℕ) (h : Hold) (hs : List Hold) →
    slice_get hs k ≡ Some h → h.asker ≡ None →
    IsHeld target lists hs → AreApart target (One k)
held_apart (One j) lists k h hs there free held =
    another_loop lists j k hs (subst IsFree (sym there) free) held
held_apart All lists k h hs there free held = no_session k h hs there free held.asked
held_apart Selected lists k h hs there free held = held

held_nowhere : (target : Target) (lists : List (List Sound)) (h : Hold) (hs : List Hold) →
    AreFree (h ∷ hs) → IsHeld target lists (h ∷ hs) → ⊥
held_nowhere (One j) lists h hs free held = no_loop_held lists j (h ∷ hs) free held
held_nowhere All lists h hs free held = no_session_held lists h hs free held
held_nowhere Selected lists h hs free held = held

-- a save of a loop
loop_apart : (frame : ℕ) (target : Target) (name : List ℕ) (l : Looper) (saves : List Save)
    (o : Option Track) → track_of target l ≡ o →
    option_and_then save_refusal o ≡ None → KeepsLooper frame l → HoldPins saves (holds_of l) →
    AreAllApart saves →
    AreAllApart (saves ++ option_to_list (option_map (loop_save target name l) o))
loop_apart frame target name l saves None none unrefused kept h apart =
    subst AreAllApart (sym (append-nil saves)) apart
loop_apart frame target name l saves (Some t) there unrefused kept h apart =
    let k = index_of target l.globals.selected_loop_num in
    let free : t.asker ≡ None =
    unasked frame t (track_at frame k l.tracks t kept.looper.tracks there) unrefused in
    let at_k : slice_get (holds_of l) k ≡ Some (hold_on t) =
    slice_get-map hold_on l.tracks k ∙ ap (option_map hold_on) there in
    all_apart_push saves (loop_save target name l t) apart
    (all_weaker (λ (x : Save). IsHeld x.target x.lists (holds_of l))
    (λ (x : Save). AreApart x.target (One k)) saves
    (λ x held. held_apart x.target x.lists k (hold_on t) (holds_of l) at_k free held) h.held)

saves_loop_apart : (frame : ℕ) (target : Target) (name : List ℕ) (l : Looper) (saves : List Save)
    (refusal : Option ℕ) → refusal_at target l ≡ refusal →
    KeepsLooper frame l → HoldPins saves (holds_of l) → AreAllApart saves →
    AreAllApart (saves ++ option_to_list
    (unless_refused refusal (option_map (loop_save target name l) (track_of target l))))
saves_loop_apart frame target name l saves None unrefused kept h apart =
    loop_apart frame target name l saves (track_of target l) refl unrefused kept h apart
saves_loop_apart frame target name l saves (Some n) refused kept h apart =
    subst AreAllApart (sym (append-nil saves)) apart

-- a save of the session
session_apart : (s : Save) (saves : List Save) (hs : List Hold) → 1 ≤ length hs → AreFree hs →
    HoldPins saves hs → AreAllApart saves → AreAllApart (saves ++ s ∷ [])
session_apart s saves [] some free h apart = absurd (let none : ⊥ = omega arith in none)
session_apart s saves (x ∷ hs) some free h apart =
    all_apart_push saves s apart
    (all_weaker (λ (y : Save). IsHeld y.target y.lists (x ∷ hs))
    (λ (y : Save). AreApart y.target s.target) saves
    (λ y held. absurd (held_nowhere y.target y.lists x hs free held)) h.held)

saves_session_apart : (frame : ℕ) (name : List ℕ) (l : Looper) (saves : List Save) (any : Bool) →
    any_pinned l.tracks ≡ any → KeepsLooper frame l →
    HoldPins saves (holds_of l) → AreAllApart saves →
    AreAllApart (saves ++ option_to_list
    (unless_refused (if any then Some 2 else None) (Some (session_save name l))))
saves_session_apart frame name l saves true pinned kept h apart =
    subst AreAllApart (sym (append-nil saves)) apart
saves_session_apart frame name l saves false pinned kept h apart =
    let count = and_parts (nat_le 1 (length l.tracks)) (nat_le (length l.tracks) 16)
    kept.looper.count in
    let some : 1 ≤ length l.tracks = leb-true 1 (length l.tracks) count.0 in
    let same : length (holds_of l) ≡ length l.tracks = length-map l.tracks hold_on in
    session_apart (session_save name l) saves (holds_of l) (omega arith)
    (all_free frame l.tracks kept.looper.tracks pinned) h apart

-- what a command saves is of another loop than the unanswered saves
made_apart : (c : Command) (frame : ℕ) (l : Looper) (saves : List Save) → KeepsLooper frame l →
    HoldPins saves (holds_of l) → AreAllApart saves →
    AreAllApart (still_unanswered c saves ++ option_to_list (save_of c l))
made_apart (SaveLoop target name) frame l saves kept h apart =
    saves_loop_apart frame target name l saves (refusal_at target l) refl kept h apart
made_apart (SaveSession name) frame l saves kept h apart =
    saves_session_apart frame name l saves (any_pinned l.tracks) refl kept h apart
made_apart (Release target outcome) frame l saves kept h apart =
    subst AreAllApart (sym (append-nil (still_unanswered (Release target outcome) saves)))
    (still_apart (Release target outcome) saves apart)
made_apart _ frame l saves kept h apart = subst AreAllApart (sym (append-nil saves)) apart

pub after_apart : (frame : ℕ) (e : Entry) (l : Looper) (saves : List Save) → KeepsLooper frame l →
    HoldPins saves (holds_of l) → AreAllApart saves →
    AreAllApart (unanswered_after e l saves)
after_apart frame e l saves kept h apart = by_taken (is_taken e l)
  where
    by_taken : (b : Bool) →
        AreAllApart ((if b then still_unanswered e.command saves else saves)
        ++ option_to_list (if b then save_of e.command l else None))
    by_taken true = made_apart e.command frame l saves kept h apart
    by_taken false = subst AreAllApart (sym (append-nil saves)) apart

pub entered_apart : (frame : ℕ) (es : List Entry) (l : Looper) (saves : List Save) →
    KeepsLooper frame l → HoldPins saves (holds_of l) → AreAllApart saves →
    AreAllApart (unanswered_entered frame es l saves)
entered_apart frame [] l saves kept h apart = apart
entered_apart frame (e ∷ es) l saves kept h apart =
    entered_apart frame es (applied frame e l) (unanswered_after e l saves)
    (entry_keeps frame e l kept) (applied-holds frame e l saves kept h)
    (after_apart frame e l saves kept h apart)

pub begun_apart : (frame : ℕ) (es : List Entry) (xs : List Sound) (l : Looper) (saves : List Save) →
    KeepsLooper frame l → HoldPins saves (holds_of l) →
    AreAllApart saves → AreAllApart (unanswered_begun frame es xs l saves)
begun_apart frame es [] l saves kept h apart = apart
begun_apart frame es (x ∷ xs) l saves kept h apart =
    let before = (entered frame (due frame es) l).looper in
    let left = unanswered_entered frame (due frame es) l saves in
    begun_apart (frame + 1) (later frame es) xs (framed frame x before).looper left
    (frame_keeps frame frame x before (entered_keeps frame (due frame es) l kept))
    (framed-owners frame x before left (entered-holds frame (due frame es) l saves kept h))
    (entered_apart frame (due frame es) l saves kept h apart)
