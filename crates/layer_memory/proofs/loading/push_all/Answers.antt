use Rattle.std.proofs.Common.{arith, ◌≡◌, ◌<◌, length, take, true, sym, length-take}
use Rattle.std.proofs.lemmas.List.{take_more}
use Rattle.layer_memory.proofs.LoadLemmas.{appended-more, has-room}
use Rattle.layer_memory.proofs.loading.push_all.Goals as goal

pub loop-i-preserved : goal.loop-i-preserved
loop-i-preserved c =
    let fewer : length (take c.loop-i.i c.args.frames.now) < length c.args.frames.now = let l =
    length-take c.loop-i.i c.args.frames.now in omega (arith, l, c.loop-i-test.true) in
    let pushed : c.push-pushed.result ≡ true =
    has-room c.args.tape.now c.loop-i.tape c.args.pool.now c.loop-i.pool
    (take c.loop-i.i c.args.frames.now) (length c.args.frames.now) c.push-pushed.result
    c.push-pushed.ensures.full.0 c.loop-i.invariant c.facts.ensures.whole fewer
    c.requires.room in
    rw (
      take_more c.args.frames.now c.loop-i.i c.index-frames-i.result c.loop-i-test.true,
      sym c.index-frames-i.is,
    )
    (appended-more c.args.tape.now c.loop-i.tape c.push-pushed.new.self c.args.pool.now
    c.loop-i.pool c.push-pushed.new.pool (take c.loop-i.i c.args.frames.now)
    c.index-frames-i.result c.loop-i.invariant (c.push-pushed.ensures.ok pushed))
