-- The words and the line of an entry.
use Rattle.std.proofs.Common.{◌≡◌, ◌≢◌, ℕ, ◌<◌, ◌≤◌, ◌^◌, true, false, List, [], ◌∷◌, refl, sym, ap, ◌∙◌, arith}
use Rattle.std.specs.Prelude.{IsTrue}
use Rattle.std.specs.List.{AllByRecursion}
use Rattle.std.specs.Fmt.{decimal}
use Rattle.std.proofs.lemmas.Bool.{and_parts, eqb-true, ltb-true, false≢true}
use Rattle.std.proofs.lemmas.Fmt.{decimal_injective}
use Rattle.std.proofs.lemmas.List.Splits.{join_with_byte-slice_split}
use Rattle.sl_commands.specs.declared.command.Command.{Command}
use Rattle.sl_commands.specs.declared.command.Command.TheVariants.{Down, Up, Hit, Set, SetGlobal, Get, GetGlobal, SaveLoop, SaveSession, Release, Quit}
use Rattle.sl_commands.specs.declared.entry.Entry.{Entry}
use Rattle.sl_commands.specs.Commands.{is_allowed}
use Rattle.sl_commands.specs.Entries.{is_sender, is_valid}
use Rattle.text_lines.specs.Lines.{Lacks, words_in, line_of, end_word, IsWord}
use Rattle.text_lines.specs.Numerals.{is_numeral}
use Rattle.text_lines.proofs.NumeralLemmas.{decimal_has_form, within_64}
use Rattle.text_lines.proofs.WordLemmas.{decimal_is_word, words_come_back, line_is_whole}
use Rattle.journal_text.specs.JournalLines.{command_words, entry_words, entry_line, HasWords, is_form}
use Rattle.journal_text.specs.Journals.{HasLine}
use Rattle.journal_text.proofs.CommandLemmas.{allowed_has_words, command_words_are_words, command_has_form, command_is_one, HasForm}

-- the sender of an entry that has a line is one of three
pub sender_within : (sender : ℕ) (command : Command) → IsTrue (is_sender sender command) →
    sender ≤ 2
sender_within sender (Release target outcome) is =
    (let e : sender ≡ 2 = eqb-true sender 2 is in omega arith)
sender_within sender (Down target verb) is = omega (arith, ltb-true sender 2 is)
sender_within sender (Up target verb) is = omega (arith, ltb-true sender 2 is)
sender_within sender (Hit target verb) is = omega (arith, ltb-true sender 2 is)
sender_within sender (Set target control value) is = omega (arith, ltb-true sender 2 is)
sender_within sender (SetGlobal control value) is = omega (arith, ltb-true sender 2 is)
sender_within sender (Get target control) is = omega (arith, ltb-true sender 2 is)
sender_within sender (GetGlobal control) is = omega (arith, ltb-true sender 2 is)
sender_within sender (SaveLoop target name) is = omega (arith, ltb-true sender 2 is)
sender_within sender (SaveSession name) is = omega (arith, ltb-true sender 2 is)
sender_within sender Quit is = omega (arith, ltb-true sender 2 is)

-- an entry has words
pub record EntryHasWords (e : Entry) : Type 0 where
  pub frame : e.frame < 10 ^ 19
  pub sender : e.sender < 10 ^ 19
  pub number : e.seq < 10 ^ 19
  pub command : HasWords e.command

-- an entry that has a line has words
pub line_has_words : (loops : ℕ) (e : Entry) → loops ≤ 16 → HasLine loops e → EntryHasWords e
line_has_words loops e few has =
    let parts = and_parts (is_sender e.sender e.command) (is_allowed loops e.command) has.valid in
    record {
      frame = omega (arith, has.frame);
      sender = omega (arith, sender_within e.sender e.command parts.0);
      number = omega (arith, has.number);
      command = allowed_has_words loops e.command few parts.1;
    }

-- each word of an entry stands whole in a line
entry_words_are_words : (e : Entry) → EntryHasWords e → AllByRecursion IsWord (entry_words e)
entry_words_are_words e has = (
  decimal_is_word e.frame has.frame,
  (
    decimal_is_word e.sender has.sender,
    (decimal_is_word e.seq has.number, command_words_are_words e.command has.command),
  ),
)

-- the words of an entry's line are its own
pub entry_words_come_back : (e : Entry) → EntryHasWords e → words_in (entry_line e) ≡ entry_words e
entry_words_come_back e has =
    words_come_back (entry_words e) (λ none. Prim.cc) (entry_words_are_words e has)

-- an entry's line is whole
pub entry_line_is_whole : (e : Entry) → EntryHasWords e → Lacks 10 (entry_line e)
entry_line_is_whole e has = line_is_whole (entry_words e) (entry_words_are_words e has)

-- entries of the same parts are one
same_entry : (e f : Entry) → e.frame ≡ f.frame → e.sender ≡ f.sender → e.seq ≡ f.seq →
    e.command ≡ f.command → e ≡ f
same_entry e f frames senders seqs commands =
    let with_frame : ℕ →
    Entry = λ n. record { frame = n; sender = e.sender; seq = e.seq; command = e.command } in
    let with_sender : ℕ →
    Entry = λ n. record { frame = f.frame; sender = n; seq = e.seq; command = e.command } in
    let with_seq : ℕ →
    Entry = λ n. record { frame = f.frame; sender = f.sender; seq = n; command = e.command } in
    let with_command : Command →
    Entry = λ c. record { frame = f.frame; sender = f.sender; seq = f.seq; command = c } in
    ap with_frame frames ∙ ap with_sender senders ∙ ap with_seq seqs ∙ ap with_command commands

-- entries of the same words are one
pub words_are_of_one : (e f : Entry) → EntryHasWords e → EntryHasWords f →
    entry_words e ≡ entry_words f → e ≡ f
words_are_of_one e f has has_too same =
    let frame_words : decimal e.frame ≡ decimal f.frame = cc same in
    let sender_words : decimal e.sender ≡ decimal f.sender = cc same in
    let seq_words : decimal e.seq ≡ decimal f.seq = cc same in
    let words : command_words e.command ≡ command_words f.command = cc same in
    let frames : e.frame ≡ f.frame = decimal_injective e.frame f.frame (within_64 e.frame has.frame)
    (within_64 f.frame has_too.frame) frame_words in
    let senders : e.sender ≡ f.sender = decimal_injective e.sender f.sender
    (within_64 e.sender has.sender) (within_64 f.sender has_too.sender) sender_words in
    let seqs : e.seq ≡ f.seq = decimal_injective e.seq f.seq (within_64 e.seq has.number)
    (within_64 f.seq has_too.number) seq_words in
    let commands : e.command ≡ f.command =
    command_is_one e.command f.command has.command has_too.command words in
    same_entry e f frames senders seqs commands

-- entries of the same line are one
pub line_is_of_one : (e f : Entry) → EntryHasWords e → EntryHasWords f →
    entry_line e ≡ entry_line f → e ≡ f
line_is_of_one e f has has_too same =
    words_are_of_one e f has has_too
    (sym (entry_words_come_back e has) ∙ ap words_in same ∙ entry_words_come_back f has_too)

-- three numbers and the words of a command have a form
form_of_words : (frame sender seq : List ℕ) (words : List (List ℕ)) → is_numeral frame ≡ true →
    is_numeral sender ≡ true → is_numeral seq ≡ true → HasForm words →
    is_form (frame ∷ sender ∷ seq ∷ words) ≡ true
form_of_words frame sender seq [] first second third form = absurd form
form_of_words frame sender seq (word ∷ words) first second third form =
    rw (first, second, third, form) refl

-- an entry's words have a form
pub entry_words_have_form : (e : Entry) → EntryHasWords e → is_form (entry_words e) ≡ true
entry_words_have_form e has =
    form_of_words (decimal e.frame) (decimal e.sender) (decimal e.seq) (command_words e.command)
    (decimal_has_form e.frame has.frame) (decimal_has_form e.sender has.sender)
    (decimal_has_form e.seq has.number) (command_has_form e.command has.command)

-- and so has its line
pub entry_line_has_form : (e : Entry) → EntryHasWords e → is_form (words_in (entry_line e)) ≡ true
entry_line_has_form e has = ap is_form (entry_words_come_back e has) ∙ entry_words_have_form e has

-- an entry's line isn't `end`
pub entry_line_is_not_end : (e : Entry) → EntryHasWords e → entry_line e ≢ end_word
entry_line_is_not_end e has same =
    false≢true (sym (ap (λ l. is_form (words_in l)) same) ∙ entry_line_has_form e has)

-- where the entry that words spell isn't valid, they are those of no entry that has a line
pub not_valid :
    (loops : ℕ) (words : List (List ℕ)) (g e : Entry) → loops ≤ 16 → EntryHasWords g →
    words ≡ entry_words g → is_valid loops g ≡ false
    → HasLine loops e → words ≡ entry_words e → ⊥
not_valid loops words g e few has same bad line same_too =
    let one = words_are_of_one g e has (line_has_words loops e few line) (sym same ∙ same_too) in
    false≢true (sym bad ∙ ap (is_valid loops) one ∙ line.valid)

-- a line is that of its words
pub line_of_entry : (line : List ℕ) (e : Entry) → words_in line ≡ entry_words e →
    line ≡ entry_line e
line_of_entry line e same = sym (join_with_byte-slice_split 32 line) ∙ ap line_of same

-- the words of a line that is an entry's
pub words_of_entry : (loops : ℕ) (line : List ℕ) (e : Entry) → loops ≤ 16 → HasLine loops e →
    line ≡ entry_line e → words_in line ≡ entry_words e
words_of_entry loops line e few has same =
    ap words_in same ∙ entry_words_come_back e (line_has_words loops e few has)
