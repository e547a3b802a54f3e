use Rattle.std.proofs.Common.{◌+◌, ◌∷◌, drop, sym, ◌∙◌, ap, arith, slice_get}
use Rattle.std.proofs.lemmas.List.{length-take-le, drop-drop}
use Rattle.live_ports.specs.MemoryEnds.{LinkState}
use Rattle.live_ports.proofs.EndLemmas.{got_packet, first_is}
use Rattle.live_ports.proofs.mem_link.MemLink.received.Goals as goal

pub returns-clause-did : goal.returns-clause-did
returns-clause-did c =
    let n = c.min-count.result in
    let next = c.self.inside.next in
    let packets = c.self.inside.packets.items in
    let p = c.in-Some.packet.now in
    let left = c.split_at.ensures.back ∙ ap (drop next) c.deref.ensures.value in
    let first = first_is _ _ (c.in-Some.ensures.value ∙ ap (λ xs. slice_get xs 0) left) in
    let before : LinkState = record {
      left = drop next packets;
      out = c.self.inside.out.items;
      receives = c.self.inside.receives;
      sends = c.self.inside.sends;
      ended = c.self.inside.ended;
    } in
    rw (sym c.self.view_is) (got_packet before p (drop (next + 1) packets) c.addr-from.result n
    c.bytes-bytes.result.now c.copy_from_slice.new.self _
    (ap (λ l. l.ended) c.self.view_is ∙ c.requires.goes_on)
    (first ∙ ap (λ ps. p ∷ ps) (drop-drop 1 next packets))
    c.addr-from.ensures c.bytes-bytes.ensures c.min-count.ensures
    (c.copy_from_slice.ensures.len
    ∙ length-take-le n c.args.buf.now (omega (arith, c.min-count.ensures, c.fits-buf)))
    c.copy_from_slice.ensures.after)
