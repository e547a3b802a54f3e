use Rattle.std.proofs.Common.{◌≡◌, ◌-◌, ◌≤◌, length}
use Rattle.wav_pcm.specs.Reading.{walked, walk_of}
use Rattle.wav_pcm.specs.Walking.{earlier, seen_bytes}
use Rattle.wav_pcm.proofs.walk.walk_over.Given as goal

abbrev pub invariant-loop : goal.invariant-loop
invariant-loop l =
    (earlier (seen_bytes l.format) (walked (length l.fn.at - l.counter) l.rest) ≡ walk_of l.fn.at)
    × (length l.rest ≤ length l.fn.at)
