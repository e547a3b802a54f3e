-- What the activity did so far.
use Rattle.std.proofs.Common.{◌≡◌, None}
use Rattle.event_rings.specs.Ends.{SameTakeRing}
use Rattle.saver_serving.specs.Serving.{serving, MayServe, SaverDid}
use Rattle.saver_serving.proofs.serving.serve_saver.Given as goal

abbrev pub invariant-serving : goal.invariant-serving
invariant-serving g l = record {
  rate : l.saver.rate ≡ l.fn.saver.rate;
  reads : g.P.Keeper.read_faults l.keeper ≡ g.P.Keeper.read_faults l.fn.keeper;
  over : l.over.taken ≡ l.fn.over.taken;
  ring : SameTakeRing l.fn.over l.over;
  may : MayServe (serving l.saver.saving l.keeper l.blocks l.releases l.held);
  did : SaverDid g.P.Keeper l.fn.saver.rate
      (serving l.fn.saver.saving l.fn.keeper l.fn.blocks l.fn.releases None)
      (serving l.saver.saving l.keeper l.blocks l.releases l.held);
}
