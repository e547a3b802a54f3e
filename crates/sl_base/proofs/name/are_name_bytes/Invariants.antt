-- what is left decides as the whole does
use Rattle.std.proofs.Common.{◌≡◌, drop}
use Rattle.sl_base.specs.Names.{are_name_bytes}
use Rattle.sl_base.proofs.name.are_name_bytes.Given as goal

abbrev pub invariant-loop-byte : goal.invariant-loop-byte
invariant-loop-byte l = are_name_bytes (drop l.byte-index l.bytes) ≡ are_name_bytes l.bytes
