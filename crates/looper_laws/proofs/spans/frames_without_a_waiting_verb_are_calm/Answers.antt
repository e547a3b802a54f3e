use Rattle.looper_laws.proofs.InSpans.Calm.{calm_where_none_waits}
use Rattle.looper_laws.proofs.spans.frames_without_a_waiting_verb_are_calm.Goals as goal

pub returns : goal.returns
returns c = calm_where_none_waits
