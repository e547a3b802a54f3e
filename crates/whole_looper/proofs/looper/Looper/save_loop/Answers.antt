use Rattle.std.proofs.Common.{sym, ◌∙◌}
use Rattle.whole_looper.proofs.LooperLemmas.{free_at, loop_saved, loop_unrefused, target_there}
use Rattle.whole_looper.proofs.looper.Looper.save_loop.Goals as goal

pub pin-requires : goal.pin-requires
pin-requires c =
    record {
      free =
          free_at c.index_of-index.result c.self.inside.tracks.tracks (sym c.save_refusal.ensures
          ∙ c.in-None.is);
    }

pub returns-in-None-clause-looper : goal.returns-in-None-clause-looper
returns-in-None-clause-looper c =
    loop_saved c.args.target _ _ _ _ _ _ _ _ _ _ c.self.view_is c.index_of-index.ensures
    c.save_refusal.ensures c.in-None.is c.pin.ensures

pub returns-in-None-clause-save : goal.returns-in-None-clause-save
returns-in-None-clause-save c =
    loop_unrefused c.args.target _ _ _ _ _ _ _ _ c.self.view_is c.index_of-index.ensures
    c.save_refusal.ensures c.in-None.is

pub returns-in-None-clause-there : goal.returns-in-None-clause-there
returns-in-None-clause-there c =
    target_there _ _ _ _ _ _ _ c.self.view_is c.requires.target c.self.invariant.in_range

pub returns-in-Some-clause-there : goal.returns-in-Some-clause-there
returns-in-Some-clause-there c =
    target_there _ _ _ _ _ _ _ c.self.view_is c.requires.target c.self.invariant.in_range
