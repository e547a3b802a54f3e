use Rattle.std.proofs.Common.{arith, length, ap, ◌∷◌, [], length-append}
use Rattle.session_file.proofs.LoadLemmas.{bad_loop, loads_more, reads_on}
use Rattle.session_file.proofs.loading.load_parts.Goals as goal

pub returns-in-Err-clause-value : goal.returns-in-Err-clause-value
returns-in-Err-clause-value g c =
    bad_loop _ _ c.args.session.now c.args.strips.now c.loop-index.index _ c.in-Err.fault
    c.loop-index.invariant.0.files
    (omega (arith, c.loop-index-test.true)) c.loop-index.invariant.1 c.in-Err.ensures.value

pub loop-index-preserved : goal.loop-index-preserved
loop-index-preserved g c =
    let more = c.in_ok-push-in-Ok.ensures.ok in (
      reads_on _ _ _ _ _ c.loop-index.invariant.0 c.in-Ok.ensures.reads,
      loads_more _ _ c.args.session.now c.args.strips.now c.loop-index.index _ _ c.in-Ok.list
          c.loop-index.invariant.0.files
          (omega (arith, c.loop-index-test.true)) c.loop-index.invariant.1 c.in-Ok.ensures.value
          more,
      omega (
        arith,
        ap length more,
        length-append c.loop-index.lists (c.in-Ok.list ∷ []),
        c.loop-index.invariant.2,
      ),
    )
