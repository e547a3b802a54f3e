-- Opening for `record`, by what becomes of it.
-- "Starting" in docs/rules.md.
use Rattle.std.specs.Prelude.{ℕ, Bool, true, if◌then◌else◌}
use Rattle.sl_commands.specs.declared.Verb.{Verb}
use Rattle.looper_rules.specs.Loop.{Loop}
use Rattle.looper_rules.specs.Opening.{opening}
use Rattle.looper_rules.specs.Starting.{records}
use Rattle.looper_rules.specs.Presses.{released_long}

-- the loop opened for `record`, or the refusal counted
abbrev pub opens_record : {A : Type 0} → ℕ → Loop A → Loop A
opens_record reach l = records (opening reach true l.stack) l

-- a verb let go, by whether the press is of this verb, and was long and the mode is the verb's
abbrev pub released_as : {A : Type 0} → Bool → Bool → Verb → ℕ → Loop A → Loop A
released_as held long verb reach l = if held then released_long long verb reach l else l
