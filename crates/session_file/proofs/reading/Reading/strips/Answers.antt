use Rattle.std.proofs.Common.{◌++◌, sym, ap, ◌∙◌, subst, List}
use Rattle.std.specs.Prelude.{IsTrue}
use Rattle.sl_commands.specs.declared.settings.StripSettings.{StripSettings}
use Rattle.sl_commands.specs.Settings.{are_strips}
use Rattle.session_file.specs.SessionLines.{loop_lines}
use Rattle.session_file.proofs.ReadingLemmas.{loops_read, loop_pushed, length-push, are_strips-push}
use Rattle.session_file.proofs.reading.Reading.strips.Goals as goal

pub strip-requires-clause-place : goal.strip-requires-clause-place
strip-requires-clause-place c = loops_read c.args.self.now.lines c.loops.self.lines c.loops.strips
    c.loops.index c.loops.invariant.1 c.loops.invariant.2 c.requires.place

pub loops-preserved : goal.loops-preserved
loops-preserved c =
    let lines = c.in_ok-strip.ensures.lines
    ∙ loop_pushed c.args.self.now.lines c.loops.self.lines c.loops.strips c.in_ok-strip.strip
    c.loops.index c.loops.invariant.1 c.loops.invariant.2
    ∙ ap (λ (ss : List StripSettings). c.args.self.now.lines ++ loop_lines 0 ss)
    (sym c.push.ensures) in
    let within = subst (λ (ss : List StripSettings). IsTrue (are_strips ss)) (sym c.push.ensures)
    (are_strips-push c.loops.strips c.in_ok-strip.strip c.loops.invariant.3
    c.in_ok-strip.ensures.within) in (
      c.in_ok-strip.ensures.bytes ∙ c.loops.invariant.0,
      lines,
      length-push c.loops.strips
          c.push.new.self c.in_ok-strip.strip c.loops.index c.push.ensures c.loops.invariant.2,
      within,
    )
