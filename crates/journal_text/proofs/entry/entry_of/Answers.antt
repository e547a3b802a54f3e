use Rattle.std.proofs.Common.{◌≡◌, List, ℕ, false, arith, ap, length, map, sym, ◌∙◌}
use Rattle.std.proofs.lemmas.Grind.{common_steps}
use Rattle.std.proofs.lemmas.List.{length-map}
use Rattle.sl_commands.specs.declared.entry.Entry.{Entry}
use Rattle.sl_commands.specs.Entries.{is_valid}
use Rattle.journal_text.specs.JournalLines.{entry_words}
use Rattle.journal_text.proofs.EntryLemmas.{EntryHasWords, not_valid}
use Rattle.journal_text.proofs.entry.entry_of.Goals as goal

pub returns-in_default-clause-only : goal.returns-in_default-clause-only
returns-in_default-clause-only c e has same =
    omega (arith, length-map c.args.words.now (λ w. w.now), ap length same, c.in_default.len_below)

pub returns-else-is_valid-clause-only : goal.returns-else-is_valid-clause-only
returns-else-is_valid-clause-only c e has same =
    let found : Entry = record {
      frame = c.in_ok-frame-in-len3-up.frame;
      sender = c.in_ok-sender-in-len3-up.sender;
      seq = c.in_ok-seq-in-len3-up.seq;
      command = c.in_ok-command-in-len3-up.command;
    } in
    let words : List (List ℕ) = map (λ w. w.now) c.args.words.now in
    let spelled : words ≡ entry_words found = grind (arith, common_steps) in
    let bad : is_valid c.args.loops found ≡ false = sym c.is_valid.ensures ∙ c.if-is_valid.false in
    let have : EntryHasWords found = record {
      frame = omega (arith, c.in_ok-frame-in-len3-up.ensures.found.1);
      sender = omega (arith, c.in_ok-sender-in-len3-up.ensures.found.1);
      number = omega (arith, c.in_ok-seq-in-len3-up.ensures.found.1);
      command = c.in_ok-command-in-len3-up.ensures.found.1;
    } in
    not_valid c.args.loops words found e c.requires have spelled bad has same
