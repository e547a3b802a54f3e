use Rattle.std.proofs.Common.{subst}
use Rattle.command_words.specs.LiveWords.{LiveAsked}
use Rattle.live_files.specs.LiveAnswers.{told_live}
use Rattle.live_core.specs.declared.devices.Devices.{Devices}
use Rattle.live_run.specs.Playing.{Plays}
use Rattle.live_run.specs.Steps.{TurnsAway}
use Rattle.live_run.proofs.RunLemmas.{files_turned_away, not_begun, has_played}
use Rattle.live_run.proofs.playing.play.Goals as goal

pub returns-in-Err-clause-plays : goal.returns-in-Err-clause-plays
returns-in-Err-clause-plays g c =
    subst (λ (x : LiveAsked). Plays g.P.Keeper g.A.Source g.O.Sink g.L.Link g.M.Source g.C.Sink x
    c.args.outside c.refuse.result) c.asked.view_is
    (files_turned_away g.P.Keeper g.A.Source g.O.Sink g.L.Link g.M.Source g.C.Sink _
    c.args.outside c.read_live-read.new.keeper c.in-Err.fault c.fault_of.result c.refuse.result
    c.in-Err.ensures.value c.in-Err.ensures.reads c.fault_of.ensures c.refuse.ensures)

pub returns-in-Ok-begin-clause-plays : goal.returns-in-Ok-begin-clause-plays
returns-in-Ok-begin-clause-plays g c =
    subst (λ (x : LiveAsked). Plays g.P.Keeper g.A.Source g.O.Sink g.L.Link g.M.Source g.C.Sink x
    c.args.outside c.close.result) c.asked.view_is
    (has_played g.P.Keeper g.A.Source g.O.Sink g.L.Link g.M.Source g.C.Sink _ c.args.outside
    c.read_live-read.new.keeper (told_live c.in-Ok.files) c.in-Ok-begin.ended
    c.in-Ok-begin.ensures.ended c.close.result c.in-Ok.ensures.value c.in-Ok.ensures.reads
    c.close.ensures)

pub returns-clause-plays : goal.returns-clause-plays
returns-clause-plays g c =
    subst (λ (x : LiveAsked). Plays g.P.Keeper g.A.Source g.O.Sink g.L.Link g.M.Source g.C.Sink x
    c.args.outside c.refuse_beginning.result) c.asked.view_is
    (not_begun g.P.Keeper g.A.Source g.O.Sink g.L.Link g.M.Source g.C.Sink _ c.args.outside
    c.read_live-read.new.keeper c.in-Ok.files c.in-Err-begin.not_begun.fault
    c.refuse_beginning.ensures.fault c.refuse_beginning.result c.in-Ok.ensures.value
    c.in-Ok.ensures.reads c.in-Err-begin.ensures.limit c.refuse_beginning.ensures.passes
    (subst (λ (d : Devices _ _ _ _ _). TurnsAway g.C.Sink c.refuse_beginning.ensures.fault d
    c.args.outside.console c.refuse_beginning.result) c.in-Err-begin.ensures.unchanged
    c.refuse_beginning.ensures.turns))
