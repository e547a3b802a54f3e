-- A drill begins with 4 loops, 64 chunks, the greatest quota and default settings, and runs the
-- steps that its number makes.
-- "The drill" in docs/rules.md.
use Rattle.std.specs.Prelude.{ℕ, []}
use Rattle.sl_base.specs.Limits.{max_quota}
use Rattle.sl_commands.specs.Settings.{default_settings}
use Rattle.engine_steps.specs.Engines.{Beginning, first_engine}
use Rattle.ring_world.specs.declared.lists.Lists.{Lists}
use Rattle.ring_world.specs.declared.summary.Summary.{Summary}
use Rattle.ring_world.specs.Worlds.{first_lists}
use Rattle.ring_world.specs.Running.{ran}
use Rattle.ring_world.specs.Summaries.{summary_of}
use Rattle.ring_world.specs.Generating.{steps_of}

-- the greatest number of steps
abbrev pub max_drill_steps : ℕ
max_drill_steps = 1000000

-- with what it begins
abbrev pub drill_beginning : Beginning
drill_beginning =
    record { settings = default_settings 48000 4; chunks = 64; initial = []; quota = max_quota }

-- the lists behind so many steps that a number makes
abbrev pub drilled : ℕ → ℕ → Lists
drilled number count =
    ran (steps_of number count) number (first_lists (first_engine drill_beginning))

-- their numbers
abbrev pub drill_summary : ℕ → ℕ → Summary
drill_summary number count = summary_of (drilled number count)
