-- The options so far, with those of the words that are left, are those of all words.
use Rattle.std.proofs.Common.{◌≡◌, ◌≤◌, ◌-◌, length, drop, map}
use Rattle.std.specs.String.{string_bytes}
use Rattle.command_words.specs.Words.{options_in}
use Rattle.command_words.proofs.options.options_of.Given as goal

abbrev pub invariant-options : goal.invariant-options
invariant-options g l =
    (options_in g.O.Options.with_option (map string_bytes (drop l.at l.words)) l.options ≡
    options_in
    g.O.Options.with_option (map string_bytes l.words) l.fn.none) × (l.at ≤ length l.words)

abbrev pub decreases-options : goal.decreases-options
decreases-options g l = length l.words - l.at
