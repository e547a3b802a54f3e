-- An entry stands in a run at its frame, or behind the last frame where that comes first. There it
-- meets the looper that the entries before it left, over the frames before its own. What it gives
-- there, and all that comes before it, stays whatever follows.
-- "The run" in docs/rules.md.
use Rattle.std.specs.Prelude.{◌≡◌, ℕ, min, List, ◌∷◌, ◌++◌, length, take, drop, Option, Some, option_to_list}
use Rattle.sl_base.specs.Sounds.{Sound}
use Rattle.sl_commands.specs.declared.Entry.{Entry}
use Rattle.sl_commands.specs.declared.Reply.{Reply}
use Rattle.looper_rules.specs.Looper.{Looper}
use Rattle.looper_rules.specs.Saves.{Save}
use Rattle.looper_rules.specs.Entries.{applied, reply, save}
use Rattle.looper_rules.specs.Run.{Ran, run}
use Rattle.looper_rules.specs.Cuts.{run_from, joined}

-- the frame at which an entry applies in a run over this input
abbrev pub place_of : Entry → List Sound → ℕ
place_of e input = min e.frame (length input)

-- the run of the entries before an entry, up to its place
abbrev pub run_before : List Entry → Entry → List Sound → Looper → Ran
run_before before e input l = run before (take e.frame input) l

-- the looper that an entry meets behind the entries before it
abbrev pub met : List Entry → Entry → List Sound → Looper → Looper
met before e input l = (run_before before e input l).looper

-- the run of the entries behind an entry, from the looper that it left
abbrev pub run_behind : List Entry → Entry → List Entry → List Sound → Looper → Ran
run_behind before e after input l =
    let frame = place_of e input in
    run_from frame after (drop e.frame input) (applied frame e (met before e input l))

-- what an entry gave, and what the run behind it gave and left
abbrev pub given_then : Option Reply → Option Save → Ran → Ran
given_then answer made next =
    record {
      output = next.output;
      replies = option_to_list answer ++ next.replies;
      saves = option_to_list made ++ next.saves;
      looper = next.looper;
    }

-- the run of the entries before an entry, what it gave to the looper that it met, and the run of
-- those behind it
abbrev pub run_around : List Entry → Entry → List Entry → List Sound → Looper → Ran
run_around before e after input l =
    let there = met before e input l in
    joined (run_before before e input l)
    (given_then (reply e there) (save e there) (run_behind before e after input l))

-- one of a run's entries gives this to the looper that it meets
pub record ComesWithEntry {X : Type 0} (given : Entry → Looper → Option X) (es : List Entry)
    (input : List Sound) (l : Looper) (x : X) : Type 0 where
  pub before : List Entry
  pub entry : Entry
  pub after : List Entry
  pub whole : es ≡ before ++ entry ∷ after
  pub made : given entry (met before entry input l) ≡ Some x

-- the longer list begins with the shorter
abbrev pub BeginsWith : {A : Type 0} → List A → List A → Type 0
BeginsWith longer shorter = take (length shorter) longer ≡ shorter
