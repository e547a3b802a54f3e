use Rattle.std.proofs.Common.{take}
use Rattle.midi_serving.specs.Serving.{HearsBytes}
use Rattle.midi_serving.proofs.serving.hear.Given as goal

-- the bytes so far were heard
abbrev pub invariant-bytes : goal.invariant-bytes
invariant-bytes g l = HearsBytes (take l.place l.bytes) l.fn.sender l.sender
