use Rattle.std.proofs.Common.{arith, refl}
use Rattle.looper_tracks.proofs.LoadLemmas.{loading_none, loading_more, loading_all, may_load, fewer_lists, may_as, did_as}
use Rattle.looper_tracks.proofs.load.load_all.Goals as goal

pub loop-k-init : goal.loop-k-init
loop-k-init c = loading_none _ _ _ _ _ _ c.requires.new c.requires.all refl

pub offset_bounds-tracks-k : goal.offset_bounds-tracks-k
offset_bounds-tracks-k c =
    let fewer = fewer_lists _ _ c.requires.lists
    in let less = c.loop-k-test.true
    in record { fits = omega (arith, c.requires.few) }

pub bounds-tracks-k : goal.bounds-tracks-k
bounds-tracks-k c =
    let fewer = fewer_lists _ _ c.requires.lists
    in let less = c.loop-k-test.true
    in let count = c.loop-k.invariant.count
    in omega arith

pub bounds-strips-k : goal.bounds-strips-k
bounds-strips-k c =
    let fewer = fewer_lists _ _ c.requires.lists
    in let less = c.loop-k-test.true
    in omega arith

pub begin-requires : goal.begin-requires
begin-requires c =
    may_as c.args.lists.now c.index-lists-k.result _ c.loop-k.k _ _ _ c.index-lists-k.is
    c.as_slice-list.ensures
    (may_load _ _ _ _ _ _ c.loop-k.k _ c.index-lists-k.result _ c.requires.strips
    c.requires.lists c.requires.room c.loop-k-test.true c.loop-k.invariant)

pub loop-k-preserved : goal.loop-k-preserved
loop-k-preserved c =
    loading_more _ _ _ _ _ _ _ c.loop-k.k _ _ c.index-lists-k.result _ c.requires.lists
    c.loop-k-test.true c.loop-k.invariant
    (did_as c.args.lists.now c.index-lists-k.result _ c.loop-k.k _ _ _ _ c.index-lists-k.is
    c.as_slice-list.ensures c.begin.ensures)

pub returns : goal.returns
returns c = loading_all _ _ _ _ _ _ _ c.loop-k-test.false c.loop-k.invariant
