use Rattle.std.proofs.Common.{arith}
use Rattle.console_lines.proofs.NumberLemmas.{more_has_room}
use Rattle.console_lines.proofs.telling.+push_number.Goals as goal

pub push_digit-requires-else-number-lt10-clause-room :
    goal.push_digit-requires-else-number-lt10-clause-room
push_digit-requires-else-number-lt10-clause-room t c =
    omega (
      arith,
      c.push_number.ensures.len,
      more_has_room c.args.number (omega arith) (omega arith),
      c.requires,
    )
