use Rattle.std.proofs.Common.{◌≡◌, ◌+◌, length}
use Rattle.audio_ends.specs.Turns.{Stays}
use Rattle.live_audio.proofs.blocks.put_blocks.Given as goal

abbrev pub invariant-loop : goal.invariant-loop
invariant-loop g l =
    Stays l.fn.engine l.engine l.fn.ends l.ends
    × (length l.ends.blocks.sent ≡ length l.fn.ends.blocks.sent + l.counter)
    × (l.engine.journal ≡ l.fn.engine.journal)
