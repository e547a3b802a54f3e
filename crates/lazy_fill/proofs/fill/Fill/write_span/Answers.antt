use Rattle.std.proofs.Common.{rules, refl, ◌≡◌, ◌≤◌, ◌+◌, IsTrue, is_some, length, sym}
use Rattle.sl_commands.specs.declared.How.TheVariants.{Forward}
use Rattle.looper_rules.specs.WritePlaces.{Follows}
use Rattle.pieces.specs.OneMore.{overwritten_span}
use Rattle.lazy_fill.specs.Inside.{fill_of}
use Rattle.lazy_fill.proofs.SpanLemmas.{span-holds}
use Rattle.lazy_fill.proofs.fill.Fill.write_span.Goals as goal

pub invariant_of-self-2 : goal.invariant_of-self-2
invariant_of-self-2 c =
    let f = fill_of c.self.inside in
    let k = c.overwrite_span-done.result in
    let on : IsTrue (is_some f.streak) = search rules in
    let some : 1 ≤ k = search rules in
    let within : c.args.place + k ≤ length f.cells = search rules in
    let follows : Follows f.streak Forward c.args.place =
    rw (sym c.self.view_is) at c.requires.follows in
    let pieces : c.overwrite_span-done.new.self.items ≡ overwritten_span k c.args.place f.next
    f.pieces = search rules in
    record {
      fill = span-holds k f c.args.place _ _ c.overwrite_span-done.new.self.items on some
          c.self.invariant.fill within follows refl refl pieces;
      room = search rules;
    }
