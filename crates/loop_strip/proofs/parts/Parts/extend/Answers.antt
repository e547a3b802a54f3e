use Rattle.std.proofs.Common.{rules, ◌≡◌, true, false}
use Rattle.loop_strip.proofs.FrameLemmas.{extends_false, extends_true}
use Rattle.loop_strip.proofs.parts.Parts.extend.Goals as goal

pub returns-then-not-extend-clause-ok : goal.returns-then-not-extend-clause-ok
returns-then-not-extend-clause-ok c =
    let no : c.extend.result ≡ false = search rules in
    extends_false c.args.self.now c.stop.new.self c.extend.new.self c.extend.result no
    c.extend.ensures.fits c.extend.ensures.stack c.stop.ensures.ok

pub returns-else-not-extend-clause-ok : goal.returns-else-not-extend-clause-ok
returns-else-not-extend-clause-ok c =
    let yes : c.extend.result ≡ true = search rules in
    extends_true c.args.self.now c.extend.new.self c.extend.result yes c.extend.ensures.fits
    c.extend.ensures.stack
