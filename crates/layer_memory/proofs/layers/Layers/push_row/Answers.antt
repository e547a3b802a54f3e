use Rattle.std.proofs.Common.{rules, arith, sym, ◌≡◌, ◌≤◌, ◌+◌, length, take, IsTrue, is_some}
use Rattle.std.proofs.lemmas.List.{length-take-le}
use Rattle.pieces.specs.Pieces.{addresses}
use Rattle.layer_memory.proofs.SpanWriteLemmas.{held-span-in, stack-span-in}
use Rattle.layer_memory.proofs.layers.Layers.push_row.Goals as goal

pub invariant_of-self-2 : goal.invariant_of-self-2
invariant_of-self-2 c =
    let k = c.write_span-count.result in
    let some : 1 ≤ k = search rules in
    let writing : IsTrue (is_some c.self.inside.top) = search rules in
    let length : length (take k c.args.frames.now) ≡ k =
    length-take-le k c.args.frames.now (search rules) in
    let longer : c.push_frames.new.self.len ≡ c.self.inside.tape.len + k = let l =
    c.push_frames.ensures.len in omega (arith, l, length) in (
      held-span-in k c.self.inside.tape.len c.push_frames.new.self.len c.self.inside.closed
          c.self.inside.fill c.write_span-count.new.self c.self.inside.top c.self.inside.pin
          (addresses c.self.inside.pinned.items) c.args.place c.self.inside.seams writing
          (c.write_span-count.ensures.streak some) c.self.invariant.0 longer
          c.write_span-count.ensures.value,
      c.self.invariant.1,
    )

pub returns-clause-stack : goal.returns-clause-stack
returns-clause-stack c = λ some.
    let k = c.write_span-count.result in
    let writing : IsTrue (is_some c.self.inside.top) = search rules in
    let length : length (take k c.args.frames.now) ≡ k =
    length-take-le k c.args.frames.now (search rules) in
    let longer : c.push_frames.new.self.len ≡ c.self.inside.tape.len + k = let l =
    c.push_frames.ensures.len in omega (arith, l, length) in
    rw (sym c.self.view_is)
    (stack-span-in k c.self.inside.tape c.push_frames.new.self c.self.inside.closed
    c.self.inside.fill c.write_span-count.new.self c.self.inside.top c.self.inside.pin
    (addresses c.self.inside.pinned.items) c.args.place c.self.inside.seams writing
    (c.write_span-count.ensures.streak some) c.facts-2.ensures.floor c.self.invariant.0 longer
    c.write_span-count.ensures.value)
