-- An entry gives at most one reply, and makes at most one save.
use Rattle.std.proofs.Common.{◌≡◌, ℕ, ◌+◌, ◌≤◌, Bool, true, false, List, [], ◌∷◌, length, Option, Some, None, option_to_list, refl, arith, length-append, nat_le}
use Rattle.std.specs.Prelude.{if◌then◌else◌}
use Rattle.sl_base.specs.Sounds.{Sound}
use Rattle.sl_commands.specs.declared.Entry.{Entry}
use Rattle.looper_rules.specs.Looper.{Looper}
use Rattle.looper_rules.specs.Entries.{applied, reply, save}
use Rattle.looper_rules.specs.Frame.{framed}
use Rattle.looper_rules.specs.Run.{entered, due, later, begun}
use Rattle.looper_rules.specs.Cuts.{run_from}

at_most_one : {X : Type 0} (o : Option X) → length (option_to_list o) ≤ 1
at_most_one None = omega arith
at_most_one (Some x) = omega arith

-- what some entries give
pub entered-few : (frame : ℕ) (es : List Entry) (l : Looper) →
    (length (entered frame es l).replies ≤ length es)
    × (length (entered frame es l).saves ≤ length es)
entered-few frame [] l = (omega arith, omega arith)
entered-few frame (e ∷ es) l =
    let next = applied frame e l in
    let rest = entered-few frame es next in
    let replies = length-append (option_to_list (reply e l)) (entered frame es next).replies in
    let saves = length-append (option_to_list (save e l)) (entered frame es next).saves in
    let one = at_most_one (reply e l) in
    let made = at_most_one (save e l) in
    let more_replies = rest.0 in
    let more_saves = rest.1 in
    (omega arith, omega arith)

-- those that are due and those that aren't are all of them
due_and_later : (frame : ℕ) (es : List Entry) →
    length (due frame es) + length (later frame es) ≡ length es
due_and_later frame [] = refl
due_and_later frame (e ∷ es) = by_test (nat_le e.frame frame) (due_and_later frame es)
  where
    by_test : (b : Bool) → length (due frame es) + length (later frame es) ≡ length es →
        length (if b then e ∷ due frame es else []) + length (if b then later frame es else e ∷ es)
        ≡ length (e ∷ es)
    by_test true rest = omega arith
    by_test false rest = omega arith

-- what some frames give, beside the entries that they leave
pub begun-few : (frame : ℕ) (es : List Entry) (xs : List Sound) (l : Looper) →
    (length (begun frame es xs l).replies + length (begun frame es xs l).left ≤ length es)
    × (length (begun frame es xs l).saves + length (begun frame es xs l).left ≤ length es)
begun-few frame es [] l = (omega arith, omega arith)
begun-few frame es (x ∷ xs) l =
    let before = entered frame (due frame es) l in
    let now = framed frame x before.looper in
    let next = begun (frame + 1) (later frame es) xs now.looper in
    let first = entered-few frame (due frame es) l in
    let rest = begun-few (frame + 1) (later frame es) xs now.looper in
    let all = due_and_later frame es in
    let replies = length-append before.replies next.replies in
    let saves = length-append before.saves next.saves in
    let first_replies : length before.replies ≤ length (due frame es) = first.0 in
    let first_saves : length before.saves ≤ length (due frame es) = first.1 in
    let rest_replies : length next.replies + length next.left ≤ length (later frame es) = rest.0 in
    let rest_saves : length next.saves + length next.left ≤ length (later frame es) = rest.1 in
    (omega arith, omega arith)

-- what a run gives
pub run_from-few : (frame : ℕ) (es : List Entry) (xs : List Sound) (l : Looper) →
    (length (run_from frame es xs l).replies ≤ length es)
    × (length (run_from frame es xs l).saves ≤ length es)
run_from-few frame es xs l =
    let first = begun frame es xs l in
    let last = entered (frame + length xs) first.left first.looper in
    let few = begun-few frame es xs l in
    let more = entered-few (frame + length xs) first.left first.looper in
    let replies = length-append first.replies last.replies in
    let saves = length-append first.saves last.saves in
    let first_replies : length first.replies + length first.left ≤ length es = few.0 in
    let first_saves : length first.saves + length first.left ≤ length es = few.1 in
    let last_replies : length last.replies ≤ length first.left = more.0 in
    let last_saves : length last.saves ≤ length first.left = more.1 in
    (omega arith, omega arith)
