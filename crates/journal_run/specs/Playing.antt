-- A run begins with the engine of its settings, its chunks and the list of each loop, before all
-- frames and entries.
-- "The run" in docs/rules.md.
use Rattle.std.specs.Prelude.{◌≡◌, List}
use Rattle.sl_base.specs.Sounds.{Sound}
use Rattle.looper_rules.specs.Reached.{IsBeginning}
use Rattle.engine_steps.specs.Engines.{EngineOf, first_engine}
use Rattle.looper_engine.specs.declared.setup.Setup.{Setup}
use Rattle.looper_engine.specs.Beginnings.{beginning_of}

-- the engine that a run begins with
pub record IsBegun (setup : Setup) (lists : List (List Sound)) (e : EngineOf) : Type 0 where
  pub is : e ≡ first_engine (beginning_of setup lists)
  pub begins : IsBeginning setup.settings setup.chunks lists
