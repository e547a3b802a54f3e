use Rattle.std.proofs.Common.{rules, ◌≡◌, ℕ, List, [], ◌∷◌, length, refl, subst, ap, false}
use Rattle.std.specs.List.{range_with_len}
use Rattle.pieces.specs.Pieces.{addresses}
use Rattle.undo_stack.specs.Layered.{closed_of}
use Rattle.layer_memory.proofs.LoadLemmas.{trans, addresses-forward, held-loaded}
use Rattle.layer_memory.proofs.layers.Layers.lay.Goals as goal

pub invariant_of-self : goal.invariant_of-self
invariant_of-self c =
    let added : c.add.new.self.layers ≡ closed_of
    (addresses (record {
      start = c.len-start.result;
      len = length c.args.frames.now;
      backward =
          false;
    } ∷ [])) c.args.cycle c.len-end.result 2 ∷ c.self.inside.closed.layers =
    rw c.add.ensures refl in
    let piece : addresses
    (record { start = c.len-start.result; len = length c.args.frames.now; backward = false }
    ∷ []) ≡ range_with_len c.self.inside.tape.len (length c.args.frames.now) =
    subst (λ (s : ℕ). addresses
    (record { start = c.len-start.result; len = length c.args.frames.now; backward = false }
    ∷ []) ≡ range_with_len s (length c.args.frames.now)) c.len-start.ensures.value
    (addresses-forward c.len-start.result (length c.args.frames.now)) in
    let range : c.add.new.self.layers ≡ closed_of
    (range_with_len c.self.inside.tape.len (length c.args.frames.now)) c.args.cycle
    c.len-end.result 2 ∷ c.self.inside.closed.layers =
    trans added (ap (λ (xs : List ℕ). closed_of xs c.args.cycle c.len-end.result 2
    ∷ c.self.inside.closed.layers) piece) in
    let layers : c.add.new.self.layers ≡ closed_of
    (range_with_len c.self.inside.tape.len (length c.args.frames.now)) c.args.cycle
    c.push_all.new.tape.len 2 ∷ c.self.inside.closed.layers =
    subst (λ (z : ℕ). c.add.new.self.layers ≡ closed_of
    (range_with_len c.self.inside.tape.len (length c.args.frames.now)) c.args.cycle z 2
    ∷ c.self.inside.closed.layers) c.len-end.ensures.value range in (
      held-loaded c.self.inside.tape.len c.push_all.new.tape.len (length c.args.frames.now)
          c.args.cycle c.self.inside.closed c.add.new.self c.self.inside.fill c.self.inside.top
          c.self.inside.pin (addresses c.self.inside.pinned.items) c.self.inside.seams _
          (search rules)
          c.self.invariant.0 c.push_all.ensures.len layers (rw c.add.ensures refl) refl,
      c.self.invariant.1,
    )
