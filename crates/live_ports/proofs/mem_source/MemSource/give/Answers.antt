use Rattle.std.proofs.Common.{drop, sym, ◌∙◌, ap, arith, take}
use Rattle.std.proofs.lemmas.List.{length-take-le}
use Rattle.live_ports.proofs.EndLemmas.{got_bytes}
use Rattle.live_ports.proofs.mem_source.MemSource.give.Goals as goal

pub returns-clause-did : goal.returns-clause-did
returns-clause-did c =
    let n = c.min-count.result in
    let next = c.self.inside.next in
    rw (sym c.self.view_is) (got_bytes c.self.inside.bytes.items next n c.self.inside.calls
    c.self.inside.ended c.copy_from_slice.new.self (drop n c.args.buf.now)
    (ap (λ s. s.ended) c.self.view_is ∙ c.requires.goes_on)
    (c.copy_from_slice.ensures.len
    ∙ length-take-le n c.args.buf.now (omega (arith, c.min-count.ensures)))
    (c.copy_from_slice.ensures.after
    ∙ ap (take n) (c.split_at.ensures.back ∙ ap (drop next) c.deref.ensures.value)))
