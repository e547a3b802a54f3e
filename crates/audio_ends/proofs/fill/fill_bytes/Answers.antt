use Rattle.std.proofs.Common.{length, drop, ◌++◌}
use Rattle.audio_ends.proofs.FillLemmas.{came_behind}
use Rattle.audio_ends.proofs.fill.fill_bytes.Goals as goal

pub returns-clause-came : goal.returns-clause-came
returns-clause-came g c =
    came_behind _ _ c.args.kept.now c.args.kept.now _ _ _ _ _ c.put_front.ensures (λ i.
    c.args.kept.now)
    (λ i. length c.args.kept.now) c.fill_behind.ensures.read
