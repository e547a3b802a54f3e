use Rattle.std.proofs.Common.{arith, refl, sym, ◌∙◌, ap, subst, append_assoc, append-nil, length, take, drop, length-take, length-drop, ◌≡◌, ◌-◌, ◌+◌, ◌++◌, []}
use Rattle.live_ports.specs.Sources.{Consumes}
use Rattle.audio_ends.specs.Fills.{HasRead}
use Rattle.audio_ends.proofs.FillLemmas.{or-false, read_none, read_more, put_part, length_put}
use Rattle.audio_ends.proofs.fill.fill_behind.Goals as goal

pub loop-done-init : goal.loop-done-init
loop-done-init g c = (
  c.requires,
  read_none (g.A.Source.seen c.args.source.now).left c.args.kept
      c.args.bytes.now,
  refl,
  refl,
  refl,
  omega arith,
)

pub loop-done-preserved : goal.loop-done-preserved
loop-done-preserved g c =
    let i = c.loop-done.invariant in
    let k = c.loop-done.done in
    let xs = c.loop-done.bytes in
    let ys = c.read.new.buf in
    let n = c.in-Got.n in
    let rest : length ys ≡ length xs - k = c.read.auto.buf ∙ simp (length-take, length-drop)
    (omega arith) in
    let within = c.in-Got.ensures.within.1 in
    let some = c.in-Got.ensures.within.0 in
    let size = length_put k xs ys i.0 rest in
    let part = put_part k n (length xs - k) xs ys i.0 (omega arith) in (
      (omega arith),
      read_more _ _ _ c.args.kept k n c.args.bytes.now xs _ (take n ys) i.1
          c.in-Got.ensures.did.gives part,
      (c.in-Got.ensures.did.faults.stayed refl ∙ i.2),
      (c.in-Got.ensures.did.idles.stayed refl ∙ i.3),
      (c.in-Got.ensures.did.ended ∙ or-false _ ∙ i.4),
      (omega arith),
    )
