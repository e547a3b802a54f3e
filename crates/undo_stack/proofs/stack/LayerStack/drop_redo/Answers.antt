use Rattle.std.proofs.Common.{rules, ◌+◌, refl}
use Rattle.undo_stack.proofs.StackLemmas.{holds-cut-at, hint-front-at}
use Rattle.undo_stack.proofs.stack.LayerStack.drop_redo.Goals as goal

pub invariant_of-self-else-self-eq0 : goal.invariant_of-self-else-self-eq0
invariant_of-self-else-self-eq0 c = record {
  holds = holds-cut-at c.self.inside.pieces.items c.truncate-else-self-eq0.new.self.items
      c.self.inside.marks.items c.truncate.new.self.items c.self.inside.layers
      (c.index-mark.result.now.start + c.index-mark.result.now.count) c.index-mark.result.now
      c.if-self-eq0.false (search rules) c.self.invariant.holds refl (search rules) (search rules);
  room = search rules;
  marks_room = search rules;
  hint = hint-front-at _ _ _ c.front-self-inside.ensures.piece c.front-self-inside.ensures.begin;
}
