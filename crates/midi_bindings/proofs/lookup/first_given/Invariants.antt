-- What the lines that are left give is what all give, and they are valid.
use Rattle.std.proofs.Common.{◌≡◌, drop}
use Rattle.sl_base.specs.Limits.{max_loops}
use Rattle.std.specs.Prelude.{IsTrue}
use Rattle.std.specs.List.{AllByRecursion}
use Rattle.midi_bindings.specs.Lines.{is_binding}
use Rattle.midi_bindings.specs.Lookups.{looked_up}
use Rattle.midi_bindings.proofs.lookup.first_given.Given as goal

abbrev pub invariant-lines : goal.invariant-lines
invariant-lines l = (looked_up (drop l.place l.lines) l.event ≡ looked_up l.lines l.event)
    × AllByRecursion (λ binding. IsTrue (is_binding max_loops binding)) (drop l.place l.lines)
