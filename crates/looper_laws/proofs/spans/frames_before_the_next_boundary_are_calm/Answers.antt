use Rattle.looper_laws.proofs.InSpans.Calm.{calm_by_time}
use Rattle.looper_laws.proofs.spans.frames_before_the_next_boundary_are_calm.Goals as goal

pub returns : goal.returns
returns c = calm_by_time
