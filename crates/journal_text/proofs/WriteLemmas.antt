-- Writing the lines of entries.
use Rattle.std.proofs.Common.{◌≡◌, ℕ, ◌+◌, ◌<◌, List, [], ◌∷◌, ◌++◌, length, drop, refl, sym, ap, ◌∙◌}
use Rattle.std.proofs.lemmas.List.{append_assoc}
use Rattle.sl_commands.specs.declared.command.Command.{Command}
use Rattle.sl_commands.specs.declared.command.Command.TheVariants.{Down, Up, Hit, Set, SetGlobal, Get, GetGlobal, SaveLoop, SaveSession, Release, Quit}
use Rattle.sl_commands.specs.declared.entry.Entry.{Entry}
use Rattle.text_lines.specs.Lines.{line_of, lines_then}
use Rattle.journal_text.specs.JournalLines.{command_words, entry_line}

-- a word before those of a command
before_command : (word : List ℕ) (command : Command) →
    line_of (word ∷ command_words command) ≡ word ++ (32 ∷ line_of (command_words command))
before_command word (Down target verb) = refl
before_command word (Up target verb) = refl
before_command word (Hit target verb) = refl
before_command word (Set target control value) = refl
before_command word (SetGlobal control value) = refl
before_command word (Get target control) = refl
before_command word (GetGlobal control) = refl
before_command word (SaveLoop target name) = refl
before_command word (SaveSession name) = refl
before_command word (Release target outcome) = refl
before_command word Quit = refl

-- one line more is written
pub line_written : (out line : List ℕ) (entries : List Entry) (place : ℕ) (e : Entry)
    (whole rest : List ℕ) → place < length entries →
    drop place entries ≡ e ∷ drop (place + 1) entries
    → line ≡ entry_line e ++ (10 ∷ []) → out ++ lines_then entry_line (drop place entries)
    rest ≡ whole → (out ++ line) ++ lines_then entry_line (drop (place + 1) entries) rest ≡ whole
line_written out line entries place e whole rest there first is so_far =
    append_assoc out line (lines_then entry_line (drop (place + 1) entries) rest)
    ∙ ap (λ (l : List ℕ). out ++ (l ++ lines_then entry_line (drop (place + 1) entries) rest)) is
    ∙ ap (λ (l : List ℕ). out ++ l)
    (append_assoc (entry_line e) (10 ∷ [])
    (lines_then entry_line (drop (place + 1) entries) rest))
    ∙ sym (ap (λ (es : List Entry). out ++ lines_then entry_line es rest) first)
    ∙ so_far
