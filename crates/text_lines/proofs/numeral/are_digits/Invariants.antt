-- Whether the bytes left are digits is whether all of them are.
use Rattle.std.proofs.Common.{◌≡◌, drop}
use Rattle.std.specs.Str.{all_ascii_digits}
use Rattle.text_lines.proofs.numeral.are_digits.Given as goal

abbrev pub invariant-loop-byte : goal.invariant-loop-byte
invariant-loop-byte l = all_ascii_digits (drop l.byte-index l.bytes) ≡ all_ascii_digits l.bytes
