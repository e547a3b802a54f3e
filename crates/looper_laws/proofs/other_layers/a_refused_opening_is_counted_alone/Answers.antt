use Rattle.looper_laws.proofs.Others.Refusals.{starts_record_refused, starts_refused, awake_refused}
use Rattle.looper_laws.proofs.Undo.Openings.{record_refused, verb_refused, wait_refused}
use Rattle.looper_laws.proofs.other_layers.a_refused_opening_is_counted_alone.Goals as goal

pub returns-clause-recording : goal.returns-clause-recording
returns-clause-recording c = starts_record_refused

pub returns-clause-others : goal.returns-clause-others
returns-clause-others c = starts_refused

pub returns-clause-recording_verb : goal.returns-clause-recording_verb
returns-clause-recording_verb c = record_refused

pub returns-clause-other_verbs : goal.returns-clause-other_verbs
returns-clause-other_verbs c = verb_refused

pub returns-clause-loud : goal.returns-clause-loud
returns-clause-loud c = awake_refused

pub returns-clause-waiting_verbs : goal.returns-clause-waiting_verbs
returns-clause-waiting_verbs c verb mode reach l opens waits some refused =
    wait_refused verb mode reach l opens waits some refused
