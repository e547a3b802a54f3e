use Rattle.std.proofs.Common.{w32, to_z-of_z, ◌∙◌}
use Rattle.loop_strip.proofs.StripLemmas.{told_at}
use Rattle.loop_strip.proofs.strip.Strip.value.Goals as goal

pub returns : goal.returns
returns c =
    rw (to_z-of_z {w = w32} {z = c.value.result} (record { sfits = c.value.type_inv }))
    (c.value.ensures ∙ told_at c.args.control c.free_chunks.result c.self.inside.parts
    c.args.self.now c.args.pool.now c.self.view_is c.free_chunks.ensures.value)
