use Rattle.midi_serving.proofs.PlayingLemmas.{heard_may}
use Rattle.midi_serving.proofs.laws.what_midi_plays_may_be_played.Goals as goal

pub returns : goal.returns
returns c loops bindings before bytes capacity old new decided are heard all =
    heard_may loops bindings are.valid before bytes capacity old new decided heard all
