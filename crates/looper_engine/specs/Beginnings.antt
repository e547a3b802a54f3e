-- An engine begins with its settings, a number of chunks, the list of each loop, and a quota of
-- entries.
-- "The run" and "Entries" in docs/rules.md.
use Rattle.std.specs.Prelude.{List}
use Rattle.sl_base.specs.Sounds.{Sound}
use Rattle.looper_engine.specs.declared.setup.Setup.{Setup}
use Rattle.engine_steps.specs.Engines.{Beginning}

-- with what an engine of this setup and these lists begins
abbrev pub beginning_of : Setup → List (List Sound) → Beginning
beginning_of s initial =
    record { settings = s.settings; chunks = s.chunks; initial = initial; quota = s.quota }
