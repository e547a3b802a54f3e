-- Only entries of OSC and MIDI make saves, so a run has no more saves than these.
use Rattle.std.proofs.Common.{◌≡◌, ℕ, zero, suc, ◌+◌, ◌≤◌, ◌<◌, Bool, true, false, ◌&&◌, ◌==◌, List, [], ◌∷◌, ◌++◌, length, Option, Some, None, option_to_list, refl, sym, ap, ap₂, ◌∙◌, zero-le, arith, append_assoc, length-append, nat_le, nat_lt, cond}
use Rattle.std.specs.Prelude.{if◌then◌else◌}
use Rattle.std.proofs.lemmas.Bool.{and_parts, ltb-true}
use Rattle.std.proofs.lemmas.List.Elements.{filter-append}
use Rattle.sl_base.specs.Sounds.{Sound}
use Rattle.sl_commands.specs.declared.Command.{Command}
use Rattle.sl_commands.specs.declared.Command.TheVariants.{Down, Up, Hit, Set, SetGlobal, Get, GetGlobal, SaveLoop, SaveSession, Release, Quit}
use Rattle.sl_commands.specs.declared.Entry.{Entry}
use Rattle.sl_commands.specs.Entries.{entries_of, is_sender}
use Rattle.sl_commands.specs.Commands.{is_allowed}
use Rattle.looper_rules.specs.Looper.{Looper}
use Rattle.looper_rules.specs.Saves.{Save}
use Rattle.looper_rules.specs.Entries.{is_taken, applied, save, save_of}
use Rattle.looper_rules.specs.Frame.{framed}
use Rattle.looper_rules.specs.Run.{entered, due, later, begun}
use Rattle.looper_rules.specs.Cuts.{run_from}
use Rattle.run_laws.proofs.Answers.Runs.{due-later}

-- how many entries of OSC and MIDI there are
abbrev pub asked_by_players : List Entry → ℕ
asked_by_players es = length (entries_of 0 es) + length (entries_of 1 es)

asked-append : (xs ys : List Entry) →
    asked_by_players (xs ++ ys) ≡ asked_by_players xs + asked_by_players ys
asked-append xs ys =
    let osc = ap length (filter-append (λ (e : Entry). e.sender == 0) xs ys)
    ∙ length-append (entries_of 0 xs) (entries_of 0 ys) in
    let midi = ap length (filter-append (λ (e : Entry). e.sender == 1) xs ys)
    ∙ length-append (entries_of 1 xs) (entries_of 1 ys) in
    omega arith

-- one of their entries counts
own_asks : (sender : ℕ) (e : Entry) → e.sender ≡ sender → sender < 2 →
    1 ≤ asked_by_players (e ∷ [])
own_asks zero e is two =
    let first : length (entries_of 0 (e ∷ [])) ≡ 1 =
    ap (λ k. length (if k == 0 then e ∷ [] else [])) is in omega arith
own_asks (suc zero) e is two =
    let first : length (entries_of 1 (e ∷ [])) ≡ 1 =
    ap (λ k. length (if k == 1 then e ∷ [] else [])) is in omega arith
own_asks (suc (suc n)) e is two = absurd (omega arith)

by_player : (e : Entry) → nat_lt e.sender 2 ≡ true → 1 ≤ asked_by_players (e ∷ [])
by_player e is = own_asks e.sender e refl (ltb-true e.sender 2 is)

at_most_one : {X : Type 0} (o : Option X) → length (option_to_list o) ≤ 1
at_most_one None = omega arith
at_most_one (Some x) = omega arith

-- what a valid command saves, its sender may ask for
valid_saves : (c : Command) (e : Entry) (l : Looper) → is_sender e.sender c ≡ true →
    length (option_to_list (save_of c l)) ≤ asked_by_players (e ∷ [])
valid_saves (SaveLoop target name) e l player =
    let one = at_most_one (save_of (SaveLoop target name) l) in
    let some = by_player e player in
    omega arith
valid_saves (SaveSession name) e l player =
    let one = at_most_one (save_of (SaveSession name) l) in
    let some = by_player e player in
    omega arith
valid_saves _ e l player = zero-le

-- what an entry saves
entry_saves : (e : Entry) (l : Looper) →
    length (option_to_list (save e l)) ≤ asked_by_players (e ∷ [])
entry_saves e l = by_taken (is_taken e l) refl
  where
    by_taken : (b : Bool) → is_taken e l ≡ b →
        length (option_to_list (if b then save_of e.command l else None))
        ≤ asked_by_players (e ∷ [])
    by_taken true valid =
        valid_saves e.command e l
        (and_parts (is_sender e.sender e.command) (is_allowed (length l.tracks) e.command) valid).0
    by_taken false valid = zero-le

entered_saves : (frame : ℕ) (es : List Entry) (l : Looper) →
    length (entered frame es l).saves ≤ asked_by_players es
entered_saves frame [] l = zero-le
entered_saves frame (e ∷ es) l =
    let next = applied frame e l in
    let rest = entered_saves frame es next in
    let here = entry_saves e l in
    let both = length-append (option_to_list (save e l)) (entered frame es next).saves in
    let all = asked-append (e ∷ []) es in
    omega arith

begun_saves : (frame : ℕ) (es : List Entry) (xs : List Sound) (l : Looper) →
    length (begun frame es xs l).saves + asked_by_players (begun frame es xs l).left
    ≤ asked_by_players es
begun_saves frame es [] l = omega arith
begun_saves frame es (x ∷ xs) l =
    let before = entered frame (due frame es) l in
    let now = framed frame x before.looper in
    let next = begun (frame + 1) (later frame es) xs now.looper in
    let first = entered_saves frame (due frame es) l in
    let rest = begun_saves (frame + 1) (later frame es) xs now.looper in
    let both = length-append before.saves next.saves in
    let all = sym (asked-append (due frame es) (later frame es))
    ∙ ap asked_by_players (due-later frame es) in
    omega arith

-- a run has no more saves than entries of OSC and MIDI
pub run_from-saves : (frame : ℕ) (es : List Entry) (xs : List Sound) (l : Looper) →
    length (run_from frame es xs l).saves ≤ asked_by_players es
run_from-saves frame es xs l =
    let first = begun frame es xs l in
    let last = entered (frame + length xs) first.left first.looper in
    let begins = begun_saves frame es xs l in
    let ends = entered_saves (frame + length xs) first.left first.looper in
    let both = length-append first.saves last.saves in
    omega arith
