use Rattle.std.proofs.Common.{arith}
use Rattle.std.proofs.Math.Seq.{take-add}
use Rattle.sl_ports.proofs.TextLemmas.{appends_in_parts}
use Rattle.sl_ports.proofs.transfer.write_whole.Goals as goal

pub loop-done-preserved : goal.loop-done-preserved
loop-done-preserved g c =
    let part = rw c.split_at.ensures.back at c.in_ok-count.ensures.value in
    record {
      within = omega (arith, c.in_ok-count.ensures.within, c.split_at.ensures.back_len);
      written = rw take-add (appends_in_parts _ _ _ _ _ c.loop-done.invariant.written part);
    }
