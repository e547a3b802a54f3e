-- What holds of an engine that stands behind what passed.
use Rattle.std.proofs.Common.{◌≡◌, ℕ, zero, suc, ◌+◌, ◌*◌, ◌≤◌, ◌<◌, List, [], ◌∷◌, ◌++◌, length, take, drop, Option, Some, None, refl, sym, ap, ◌∙◌, subst, arith, append_assoc, append-nil, length-append}
use Rattle.sl_base.specs.Sounds.{Sound}
use Rattle.sl_commands.specs.declared.Block.{Block}
use Rattle.sl_commands.specs.declared.Target.{Target}
use Rattle.looper_rules.specs.Saves.{Save}
use Rattle.looper_rules.specs.SaveBlocks.{blocks_for_all}
use Rattle.frame_stamp.specs.Journals.{HasRoom}
use Rattle.engine_steps.specs.Engines.{EngineOf, Beginning, waiting, left, due_target, first_of, target_of}
use Rattle.live_steps.specs.Passed.{Passed}
use Rattle.live_steps.specs.InStep.{AreInStep}
use Rattle.live_steps.proofs.RoomLemmas.{outcome_room, none_owed}
use Rattle.live_goes.specs.Going.{More, more_passed, put_held, Goes, Stands, Owes}

-- a save whose outcome is owed is due
pub owed_due : (e : EngineOf) (p : Passed) → Owes e p → due_target e ≡ None → ⊥
owed_due e p owes none =
    let s = owes.stands.step in none_owed s.0 s.1 s.2 e p s.3 owes.more none

-- and its release has room
pub owed_room : (e : EngineOf) (p : Passed) (target : Target) → Owes e p →
    due_target e ≡ Some target → HasRoom 2 e.journal
owed_room e p target owes is =
    let s = owes.stands.step in
    outcome_room s.0 s.1 s.2 e p target s.3 owes.stands.osc owes.stands.midi is

-- it stands behind more
pub stands_on : (e e' : EngineOf) (p : Passed) (m : More) → Stands e p → Goes e e' m →
    length (p.osc ++ m.osc) ≤ e.journal.quota → length (p.midi ++ m.midi) ≤ e.journal.quota →
    Stands e' (more_passed m p)
stands_on e e' p m stands goes osc midi =
    let s = stands.step in
    record {
      step = (s.0, s.1, s.2, goes.step p stands.free s.0 s.1 s.2 s.3);
      free = stands.free;
      osc = (let q = goes.quota in omega arith);
      midi = (let q = goes.quota in omega arith);
    }
