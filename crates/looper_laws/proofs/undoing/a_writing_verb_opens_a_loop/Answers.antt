use Rattle.looper_laws.proofs.Undo.Openings.{record_opens, verb_opens, wait_opens, loud_frame_opens, loud_frame_goes_on}
use Rattle.looper_laws.proofs.undoing.a_writing_verb_opens_a_loop.Goals as goal

pub returns-clause-recording : goal.returns-clause-recording
returns-clause-recording c = record_opens

pub returns-clause-others : goal.returns-clause-others
returns-clause-others c = verb_opens

pub returns-clause-loud : goal.returns-clause-loud
returns-clause-loud c = loud_frame_opens

pub returns-clause-goes_on : goal.returns-clause-goes_on
returns-clause-goes_on c = loud_frame_goes_on

pub returns-clause-waiting : goal.returns-clause-waiting
returns-clause-waiting c verb mode reach l opens waits some granted =
    wait_opens verb mode reach l opens waits some granted
