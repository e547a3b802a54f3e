-- A run may be cut into two at any frame, and is then the run of the first frames, followed by that
-- of the rest. The rest begins at the cut's frame, with the looper and the entries that the first
-- frames left; or, where entries up to the cut stand in front of those from the cut on, with the
-- looper that the run of the former left, and the latter.
-- "The run" in docs/rules.md.
use Rattle.std.specs.Prelude.{ℕ, ◌+◌, List, ◌++◌, length, filter, nat_lt, nat_le}
use Rattle.sl_base.specs.Sounds.{Sound}
use Rattle.sl_commands.specs.declared.Entry.{Entry}
use Rattle.looper_rules.specs.Looper.{Looper}
use Rattle.looper_rules.specs.Run.{RunSoFar, begun, Ran, ended}

-- the run of entries over an input whose first frame has this number, from a looper
abbrev pub run_from : ℕ → List Entry → List Sound → Looper → Ran
run_from frame es input l = ended (frame + length input) (begun frame es input l)

-- what some frames gave, and what the frames behind them gave and left
abbrev pub continued : RunSoFar → RunSoFar → RunSoFar
continued first next =
    record {
      output = first.output ++ next.output;
      replies = first.replies ++ next.replies;
      saves = first.saves ++ next.saves;
      left = next.left;
      looper = next.looper;
    }

-- what a run gave, and what the run behind it gave and left
abbrev pub joined : Ran → Ran → Ran
joined first next =
    record {
      output = first.output ++ next.output;
      replies = first.replies ++ next.replies;
      saves = first.saves ++ next.saves;
      looper = next.looper;
    }

-- what some frames gave, and the looper that they left, as a run of their own
abbrev pub ran_so_far : RunSoFar → Ran
ran_so_far first = record {
  output = first.output;
  replies = first.replies;
  saves = first.saves;
  looper = first.looper;
}

-- these frames behind those that gave and left this, the next having this number
abbrev pub begun_on : ℕ → RunSoFar → List Sound → RunSoFar
begun_on frame first input = continued first (begun frame first.left input first.looper)

-- the run of these frames behind those that gave and left this
abbrev pub run_on : ℕ → RunSoFar → List Sound → Ran
run_on frame first input = joined (ran_so_far first) (run_from frame first.left input first.looper)

-- the run of these entries and frames behind a run
abbrev pub ran_on : ℕ → Ran → List Entry → List Sound → Ran
ran_on frame first es input = joined first (run_from frame es input first.looper)

-- the entries of frames before this one
abbrev pub entries_before : ℕ → List Entry → List Entry
entries_before frame es = filter (λ e. nat_lt e.frame frame) es

-- the entries of this frame and of those behind it
abbrev pub entries_from : ℕ → List Entry → List Entry
entries_from frame es = filter (λ e. nat_le frame e.frame) es

-- what some frames gave and left, with more entries behind those that are left
abbrev pub with_more_left : List Entry → RunSoFar → RunSoFar
with_more_left more b = record b { left = b.left ++ more }
