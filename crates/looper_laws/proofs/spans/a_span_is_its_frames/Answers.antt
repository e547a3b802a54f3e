use Rattle.looper_laws.proofs.InSpans.Quiet.{span_is_frames}
use Rattle.looper_laws.proofs.spans.a_span_is_its_frames.Goals as goal

pub returns : goal.returns
returns c = span_is_frames
