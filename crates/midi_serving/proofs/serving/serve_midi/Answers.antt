use Rattle.std.proofs.Common.{◌∙◌, sym}
use Rattle.midi_serving.proofs.GoingLemmas.{so_far_none, so_far_joined, did_turn, did_over, none_taken, some_taken}
use Rattle.midi_serving.proofs.serving.serve_midi.Goals as goal

pub turns-init : goal.turns-init
turns-init g c = so_far_none (g.M.Source.seen c.args.source.now) c.args.sender.now c.args.over.now

pub returns-in-Some-serve_bytes : goal.returns-in-Some-serve_bytes
returns-in-Some-serve_bytes g c =
    did_turn (g.M.Source.seen c.args.source.now) (g.M.Source.seen c.turns.source) (g.M.Source.seen
    c.serve_bytes.new.source) c.args.sender.now c.turns.sender c.serve_bytes.new.sender
    c.args.over.now c.turns.over c.in-Some-serve_bytes.end c.turns.invariant
    c.in-Some-serve_bytes.ensures

pub turns-preserved : goal.turns-preserved
turns-preserved g c =
    so_far_joined (g.M.Source.seen c.args.source.now) (g.M.Source.seen c.turns.source)
    (g.M.Source.seen c.serve_bytes.new.source) c.args.sender.now c.turns.sender
    c.serve_bytes.new.sender c.args.over.now c.turns.over c.take.new.self c.turns.invariant
    c.in_default.ensures c.take.ensures.ring
    (none_taken c.take.result c.turns.over c.take.new.self (sym c.is_some.ensures ∙
    c.if-is_some.false) c.take.ensures.none)

pub returns-then-is_some : goal.returns-then-is_some
returns-then-is_some g c =
    let told = some_taken _ c.take.result c.turns.over c.take.new.self (sym c.is_some.ensures ∙
    c.if-is_some.true) c.take.ensures.some in
    did_over (g.M.Source.seen c.args.source.now) (g.M.Source.seen c.turns.source) (g.M.Source.seen
    c.serve_bytes.new.source) c.args.sender.now c.turns.sender c.serve_bytes.new.sender
    c.args.over.now c.turns.over c.take.new.self c.turns.invariant c.in_default.ensures
    c.take.ensures.ring told.0 told.1
