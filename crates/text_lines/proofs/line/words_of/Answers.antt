use Rattle.std.proofs.Common.{map, length, ◌≡◌, arith}
use Rattle.std.proofs.lemmas.List.{map-append, length-map}
use Rattle.text_lines.proofs.LineLemmas.{word_taken, last_taken, words_left}
use Rattle.text_lines.proofs.line.words_of.Goals as goal

pub returns-in-None-clause-found : goal.returns-in-None-clause-found
returns-in-None-clause-found c =
    rw (c.push-in-None.ensures.items, map-append)
    (last_taken (map (λ w. w.now) c.loop.words.items) c.loop.rest.now c.args.line.now
    c.in-None.ensures.only c.loop.invariant.taken)

pub loop-preserved : goal.loop-preserved
loop-preserved c = record {
  taken = rw (c.push.ensures.items, map-append)
      (word_taken (map (λ w. w.now) c.loop.words.items) c.in-Some.word.now c.in-Some.behind.now
      c.loop.rest.now c.args.line.now c.in-Some.ensures.found c.loop.invariant.taken);
  count = Prim.grind arith;
}

pub returns-clause-only : goal.returns-clause-only
returns-clause-only c =
    let count = words_left (map (λ w. w.now) c.loop.words.items) c.loop.rest.now c.args.line.now
    c.loop.invariant.taken in
    let same : length (map (λ w. w.now) c.loop.words.items) ≡ length c.loop.words.items =
    Prim.search length-map in
    omega (arith, count, same, c.loop.invariant.count)
