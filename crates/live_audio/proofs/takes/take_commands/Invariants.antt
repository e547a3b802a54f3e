use Rattle.std.proofs.Common.{◌≡◌, ◌+◌, None}
use Rattle.audio_ends.specs.Turns.{Takes, count_of}
use Rattle.live_audio.proofs.takes.take_commands.Given as goal

abbrev pub invariant-loop : goal.invariant-loop
invariant-loop g l =
    Takes l.fn.engine l.engine l.fn.ends l.ends
    × (l.ends.held ≡ None)
    × (count_of l.sender l.ends ≡ count_of l.sender l.fn.ends + l.counter)
