use Rattle.std.proofs.Common.{refl}
use Rattle.looper_engine.specs.Beginnings.{beginning_of}
use Rattle.settling.proofs.tests.begun.Goals as goal

pub returns-in-Ok : goal.returns-in-Ok
returns-in-Ok c =
    record {
      begins = (beginning_of _ _, c.in-Ok.ensures.begins, refl, c.in-Ok.ensures.value);
    }
