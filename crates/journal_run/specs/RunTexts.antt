-- A run tells a line for each reply, `reply SENDER SEQ INDEX WHAT VALUE`, in the order in which
-- they come, and then how many frames, entries, replies and saves there were, and how often
-- something was refused.
-- "The console" in docs/formats.md.
use Rattle.std.specs.Prelude.{ℕ, List, [], ◌∷◌, ◌++◌, length, codes}
use Rattle.std.specs.Fmt.{decimal, signed_decimal}
use Rattle.sl_commands.specs.declared.Reply.{Reply}
use Rattle.sl_commands.specs.Replies.{what_name}
use Rattle.looper_rules.specs.Run.{Ran}
use Rattle.whole_looper.specs.Loopers.{refused_in}

-- the line of a reply
abbrev pub reply_line : Reply → List ℕ
reply_line r =
    codes "reply " ++ (decimal r.sender
    ++ (codes " " ++ (decimal r.seq ++ (codes " " ++ (signed_decimal r.index ++ (codes " "
    ++ (what_name r.what ++ (codes " " ++ (signed_decimal r.value ++ (10 ∷ []))))))))))

-- the lines of replies
abbrev pub reply_lines : List Reply → List ℕ
reply_lines [] = []
reply_lines (r ∷ rs) = reply_line r ++ reply_lines rs

-- the line of these numbers
abbrev pub numbers_line : ℕ → ℕ → ℕ → ℕ → ℕ → List ℕ
numbers_line frames entries replies saves refused =
    codes "frames " ++ (decimal frames
    ++ (codes " entries " ++ (decimal entries ++ (codes " replies " ++ (decimal replies
    ++ (codes " saves "
    ++ (decimal saves ++ (codes " refused " ++ (decimal refused ++ (10 ∷ []))))))))))

-- the text of a run over so many frames and entries
abbrev pub run_text : ℕ → ℕ → Ran → List ℕ
run_text frames entries ran =
    reply_lines ran.replies
    ++ numbers_line frames entries (length ran.replies) (length ran.saves) (refused_in ran.looper)
