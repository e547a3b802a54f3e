use Rattle.std.proofs.Common.{rules, arith, sym, ◌≢◌, ◌≤◌, ◌+◌, ◌%◌, length}
use Rattle.std.proofs.lemmas.List.{length-take-le}
use Rattle.layer_memory.proofs.SpanWriteLemmas.{pushes-row}
use Rattle.layer_memory.proofs.layers.Layers.write_old.Goals as goal

pub returns-clause-writes : goal.returns-clause-writes
returns-clause-writes c =
    let most = c.min-most.result in
    let some : 1 ≤ most = search rules in
    let old : most ≤ c.old_ahead-old.result = search rules in
    let rest : most ≤ c.rest.result = search rules in
    let within : most ≤ length c.args.frames.now = search rules in
    let n = length-take-le most c.args.frames.now within in
    let few : c.push_row.result ≤ most = let l = c.push_row.ensures.within in omega (arith, l, n) in
    let begun : c.args.self.now.tape.len % 4096 ≢ 0 =
    rw (sym c.self.view_is) (c.rest.ensures.begun (omega (arith, some, rest))) in
    let chunk : c.args.self.now.tape.len % 4096 + most ≤ 4096 = let l =
    c.rest.ensures.within (omega (arith, some, rest)) in
    rw (sym c.self.view_is) (omega (arith, l, rest)) in
    pushes-row c.push_row.result c.args.self.now c.push_row.new.self c.args.pool.now
    c.push_row.new.pool c.args.place most c.old_ahead-old.result c.args.frames.now few within old
    c.requires.writing c.requires.owns c.facts.ensures.whole c.push_row.ensures.none
    c.push_row.ensures.streak c.push_row.ensures.stack c.push_row.ensures.writing
    c.push_row.ensures.pushed c.push_row.ensures.whole c.old_ahead-old.ensures.old
    c.facts.ensures.tape begun chunk c.facts.ensures.low
