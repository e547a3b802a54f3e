use Rattle.std.proofs.Common.{rules, arith, ◌≤◌, length, take, true}
use Rattle.std.proofs.lemmas.List.{length-take-le}
use Rattle.layer_memory.specs.Spans.{AreAlone, AreMarked}
use Rattle.layer_memory.proofs.SpanWriteLemmas.{rewrites-span}
use Rattle.layer_memory.proofs.layers.Layers.write_fresh.Goals as goal

pub returns-clause-writes : goal.returns-clause-writes
returns-clause-writes c =
    let count = c.min-count.result in
    let some : 1 ≤ count = search rules in
    let fresh : count ≤ c.fresh_ahead-address.result.1 = search rules in
    let within : count ≤ length c.args.frames.now = search rules in
    let n = length-take-le count c.args.frames.now within in
    let marked : AreMarked true (length (take count c.args.frames.now)) c.args.place
    c.args.self.now.stack.layers =
    λ k lt. c.fresh_ahead-address.ensures.fresh k (omega (arith, n, lt, fresh)) in
    let alone : AreAlone (length (take count c.args.frames.now)) c.args.place
    c.fresh_ahead-address.result.0 c.args.self.now.stack =
    λ k lt. c.fresh_ahead-address.ensures.alone k (omega (arith, n, lt, fresh)) in
    rewrites-span c.args.self.now c.rewrite_row.new.self c.args.pool.now c.rewrite_row.new.pool
    c.args.place c.fresh_ahead-address.result.0 (take count c.args.frames.now)
    c.rewrite_row.ensures.stack c.rewrite_row.ensures.tape c.rewrite_row.ensures.writing
    (omega (arith, n, some)) marked c.facts.ensures.low alone c.rewrite_row.ensures.set
    c.facts.ensures.whole
