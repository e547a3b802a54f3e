use Rattle.std.proofs.Common.{sym, subst, refl, List}
use Rattle.text_lines.specs.Lines.{IsCutAt}
use Rattle.text_lines.specs.FirstFaults.{IsReadUpTo}
use Rattle.text_lines.proofs.LoopLemmas.{line_read}
use Rattle.session_file.specs.declared.line.Line.{Line}
use Rattle.session_file.specs.SessionLines.{line_text}
use Rattle.session_file.specs.Sessions.{MayStand, session_form}
use Rattle.session_file.specs.Readings.{Front}
use Rattle.session_file.proofs.reading.Reading.push.Goals as goal

pub invariant_of-self : goal.invariant_of-self
invariant_of-self c =
    let cut = subst (λ (f : Front). IsCutAt 10 f.rest (line_text c.args.line) c.args.behind.now)
    (sym c.self.view_is) c.requires.cut in
    let may = subst (λ (f : Front). MayStand f.lines c.args.line) (sym c.self.view_is)
    c.requires.may in
    subst (λ (ls : List Line). IsReadUpTo session_form c.self.inside.bytes.now ls c.args.behind.now)
    (sym c.push.ensures.items)
    (line_read session_form c.self.inside.bytes.now c.self.inside.lines.items c.self.inside.rest.now
    (line_text c.args.line) c.args.behind.now c.args.line c.self.invariant cut refl may)
