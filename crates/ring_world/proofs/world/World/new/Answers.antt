use Rattle.std.proofs.Common.{rules, ◌≡◌, sym, ap, subst}
use Rattle.loop_saver.specs.Savers.{SaverOf}
use Rattle.ring_world.specs.declared.lists.Lists.{Lists}
use Rattle.ring_world.specs.Worlds.{no_files}
use Rattle.ring_world.specs.Standing.{IsWorld}
use Rattle.ring_world.proofs.WorldLemmas.{first_is_world, first_kept}
use Rattle.ring_world.proofs.world.World.new.Goals as goal

pub invariant_of-result : goal.invariant_of-result
invariant_of-result c =
    let no_writes : c.new-8.result ≡ no_files = search rules
    in (
      subst IsWorld (sym c.in-Ok.ensures)
          (first_is_world _ c.in_ok-engine.engine c.in_ok-engine.ensures.value
          c.in_ok-engine.ensures.begins),
      λ fresh. first_kept _ no_files c.new-8.result c.new-5.result c.in-Ok.lists no_writes
          (ap (λ (w : Lists). w.blocks.taken) c.in-Ok.ensures)
          (ap (λ (s : SaverOf). s.saving) c.new-5.ensures),
    )
