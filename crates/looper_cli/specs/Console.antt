-- What a command that is done tells the console, before the line of its status: a run its replies
-- and numbers, a drill one line of numbers, and a session that was looked at a line for each loop.
-- "The console" in docs/formats.md.
use Rattle.std.specs.Prelude.{ℕ, ◌+◌, List, ◌∷◌, [], ◌++◌, length, sum_by, codes}
use Rattle.std.specs.Fmt.{decimal, signed_decimal}
use Rattle.sl_commands.specs.declared.StripSettings.{StripSettings}
use Rattle.sl_commands.specs.Settings.{LooperSettings}
use Rattle.ring_world.specs.declared.summary.Summary.{Summary}
use Rattle.ring_world.specs.Drills.{drill_summary}
use Rattle.command_words.specs.Words.{DrillAsked}
use Rattle.console_lines.specs.Statuses.{status_line}
use Rattle.console_lines.specs.Telling.{done_text}
use Rattle.console_lines.specs.declared.status.Status.TheVariants.{Done}

-- the words that asked for a drill
abbrev pub drill_words : DrillAsked → List ℕ
drill_words d =
    codes "drill " ++ (decimal d.number ++ (codes " " ++ (decimal d.steps ++ codes " ")))

-- the first of its numbers
abbrev pub first_numbers : Summary → List ℕ
first_numbers s =
    codes "accepted " ++ (decimal s.accepted ++ (codes " full " ++ (decimal s.full
    ++ (codes " stamped " ++ (decimal s.stamped ++ (codes " frames " ++ (decimal s.frames
    ++ codes " ")))))))

-- and the others
abbrev pub last_numbers : Summary → List ℕ
last_numbers s =
    codes "replies " ++ (decimal s.replies ++ (codes " saves " ++ (decimal s.saves
    ++ (codes " refused " ++ (decimal s.refused ++ (codes " left " ++ (signed_decimal s.left
    ++ (10 ∷ []))))))))

-- the line of a drill's numbers
abbrev pub drill_line : DrillAsked → Summary → List ℕ
drill_line d s = drill_words d ++ (first_numbers s ++ last_numbers s)

-- of a drill that is done: the numbers behind the steps that its number makes
abbrev pub drill_text : DrillAsked → List ℕ
drill_text d = done_text (drill_line d (drill_summary d.number d.steps))

-- the line of a session's loop of this index
abbrev pub loop_line : ℕ → StripSettings → List ℕ
loop_line index s =
    codes "loop " ++ (decimal index
    ++ (codes " " ++ (decimal s.length ++ (codes " " ++ (decimal s.cycle ++ (10 ∷ []))))))

-- the lines of a session's loops, of which the first has this index, and then what follows
abbrev pub loop_lines_then : ℕ → List StripSettings → List ℕ → List ℕ
loop_lines_then index [] rest = rest
loop_lines_then index (s ∷ ss) rest = loop_line index s ++ loop_lines_then (index + 1) ss rest

-- how long a loop's list is
abbrev pub length_in : StripSettings → ℕ
length_in s = s.length

-- of a session with these loops: how many there are, the frames of all of them together, and a line
-- for each
abbrev pub strips_text : List StripSettings → List ℕ
strips_text strips =
    codes "session loops "
    ++ (decimal (length strips) ++ (codes " frames " ++ (decimal (sum_by length_in strips)
    ++ (10 ∷ loop_lines_then 0 strips (status_line Done)))))

-- of a session that was looked at
abbrev pub show_text : LooperSettings → List ℕ
show_text settings = strips_text settings.strips
