use Rattle.audio_ends.proofs.DidLemmas.{did_then}
use Rattle.audio_ends.proofs.laws.what_audio_did_composes.Goals as goal

pub returns : goal.returns
returns c = did_then
