use Rattle.std.proofs.Common.{◌≡◌, length, ◌+◌, ◌*◌}
use Rattle.osc_reader.specs.Reading.{elements_behind, part_at}
use Rattle.osc_reader.specs.Adding.{with_front}
use Rattle.osc_reader.proofs.packet.+part.Given as goal

abbrev pub decreases-add_elements : goal.decreases-add_elements
decreases-add_elements l = 2 * l.depth + 1

abbrev pub decreases-add_part : goal.decreases-add_part
decreases-add_part l = 2 * l.depth

abbrev pub invariant-add_elements-elements : goal.invariant-add_elements-elements
invariant-add_elements-elements l =
    with_front l.out (elements_behind (part_at l.depth) l.end 0 l.rest) ≡ with_front l.fn.out
    (elements_behind (part_at l.depth) l.end 0 l.bytes)

abbrev pub decreases-add_elements-elements : goal.decreases-add_elements-elements
decreases-add_elements-elements l = length l.rest
