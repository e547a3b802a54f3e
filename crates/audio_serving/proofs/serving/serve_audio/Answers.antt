use Rattle.std.proofs.Common.{◌≡◌, ◌≢◌, rules}
use Rattle.audio_ends.specs.declared.AudioState.{AudioState}
use Rattle.audio_ends.specs.declared.AudioState.TheVariants.{More}
use Rattle.audio_serving.proofs.ServeLemmas.{gone_nowhere, gone_further, served_all}
use Rattle.audio_serving.proofs.serving.serve_audio.Goals as goal

pub turns-init : goal.turns-init
turns-init g c =
    gone_nowhere _ (record { turn = c.requires.may; ready = c.requires.ready })

pub returns-then-ne : goal.returns-then-ne
returns-then-ne g c =
    let over : c.audio_turn-turn.result.state ≢ More = search rules in
    served_all _ _ _ c.audio_turn-turn.result c.turns.invariant c.audio_turn-turn.ensures over

pub turns-preserved-then-is_idle : goal.turns-preserved-then-is_idle
turns-preserved-then-is_idle g c =
    let more : c.audio_turn-turn.result.state ≡ More = search rules in
    gone_further _ _ _ c.audio_turn-turn.result c.turns.invariant c.audio_turn-turn.ensures more

pub turns-preserved : goal.turns-preserved
turns-preserved g c =
    let more : c.audio_turn-turn.result.state ≡ More = search rules in
    gone_further _ _ _ c.audio_turn-turn.result c.turns.invariant c.audio_turn-turn.ensures more
