use Rattle.std.proofs.Common.{rules, arith, ◌≡◌, length}
use Rattle.loop_strip.specs.Strips.{seen, reach_in}
use Rattle.loop_strip.specs.Parts.{strip_of}
use Rattle.loop_strip.proofs.ActLemmas.{acted, face_in, round_in}
use Rattle.loop_strip.proofs.parts.Parts.act.Goals as goal

pub returns-clause-did : goal.returns-clause-did
returns-clause-did c =
    let all : c.loop-i.i ≡ length c.decide-act.result =
    omega (arith, c.len-i-end.ensures, c.loop-i.auto.i-end) in
    acted c.loop-i.i c.args.verb c.decide-act.result c.args.self.now c.loop-i.self c.args.pool.now
    c.loop-i.pool all c.loop-i.invariant
    (c.decide-act.ensures.table (reach_in (strip_of c.args.self.now) c.args.pool.now)
    (seen (strip_of c.args.self.now) c.args.pool.now)
    (face_in c.args.self.now c.args.pool.now c.face-face.result c.face-face.ensures)
    (round_in c.args.self.now c.args.pool.now _ (search rules)))
