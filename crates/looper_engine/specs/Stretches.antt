-- Frames may be handed in as any number of stretches, one behind the other.
-- "The run" in docs/rules.md.
use Rattle.std.specs.Prelude.{List, [], ◌∷◌, ◌++◌}
use Rattle.sl_base.specs.Sounds.{Sound}
use Rattle.sl_commands.specs.declared.StripSettings.{StripSettings}
use Rattle.engine_steps.specs.Engines.{EngineOf, Beginning, went_on, put_out}
use Rattle.engine_steps.specs.MoreLoops.{with_more}

-- these stretches as one
abbrev pub in_one : List (List Sound) → List Sound
in_one [] = []
in_one (xs ∷ stretches) = xs ++ in_one stretches

-- an engine that played these stretches
abbrev pub went_on_in : List (List Sound) → EngineOf → EngineOf
went_on_in [] e = e
went_on_in (xs ∷ stretches) e = went_on_in stretches (went_on xs e)

-- what it put out
abbrev pub put_out_in : List (List Sound) → EngineOf → List Sound
put_out_in [] e = []
put_out_in (xs ∷ stretches) e = put_out xs e ++ put_out_in stretches (went_on xs e)

-- with what an engine with more loops begins
abbrev pub with_more_loops : List StripSettings → Beginning → Beginning
with_more_loops more b = record b { settings = with_more more b.settings }
