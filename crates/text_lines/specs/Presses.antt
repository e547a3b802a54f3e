-- What is done to a loop is spelled by `down`, `up` or `hit`, the target and the verb's name.
-- "Journal" and "Bindings" in docs/formats.md.
use Rattle.std.specs.Prelude.{◌≡◌, ℕ, Bool, false, IsTrue, List, [], ◌∷◌, codes}
use Rattle.sl_commands.specs.declared.command.Command.{Command}
use Rattle.sl_commands.specs.declared.command.Command.TheVariants.{Down, Up, Hit}
use Rattle.sl_commands.specs.Commands.{is_target}
use Rattle.sl_commands.specs.Verbs.{verb_name}
use Rattle.text_lines.specs.Targets.{target_word}

-- the words of a verb that is given; other commands have none
abbrev pub press_words : Command → List (List ℕ)
press_words (Down target verb) = codes "down" ∷ target_word target ∷ verb_name verb ∷ []
press_words (Up target verb) = codes "up" ∷ target_word target ∷ verb_name verb ∷ []
press_words (Hit target verb) = codes "hit" ∷ target_word target ∷ verb_name verb ∷ []
press_words _ = []

-- a verb is given to a loop that is there
abbrev pub is_press : ℕ → Command → Bool
is_press loops (Down target verb) = is_target loops target
is_press loops (Up target verb) = is_target loops target
is_press loops (Hit target verb) = is_target loops target
is_press loops _ = false

-- what a press says has words: an index of 8 bits
abbrev pub SpellPress : List (List ℕ) → Command → Type 0
SpellPress words command = (words ≡ press_words command) × IsTrue (is_press 256 command)
