-- The entries so far were counted.
use Rattle.std.proofs.Common.{◌≡◌, ◌+◌, ◌≤◌, length, drop}
use Rattle.sl_commands.specs.Entries.{entries_of}
use Rattle.journal_run.proofs.quota.count.Given as goal

abbrev pub invariant-entries : goal.invariant-entries
invariant-entries l =
    (l.count + length (entries_of l.sender (drop l.index l.entries)) ≡ length
    (entries_of l.sender l.entries)) × (l.count ≤ l.index)
