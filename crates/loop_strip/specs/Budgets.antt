-- For how many frames a loop in a writing mode surely writes all, takes no chunk and stays in its
-- mode: those before the end of the chunk in which its tape ends, with 2 seams for each, with room
-- in the list, where it isn't on its way to a stop and a multiply doesn't come to the end of its
-- list.
-- "Frames in a row" in docs/rules.md.
use Rattle.std.specs.Prelude.{◌≡◌, ◌≤◌, ℕ, ◌+◌, ◌*◌, ◌%◌, ⊤, false}
use Rattle.sl_base.specs.Limits.{chunk_frames, max_list_frames, max_seams}
use Rattle.sl_commands.specs.declared.Mode.{Mode}
use Rattle.sl_commands.specs.declared.Mode.TheVariants.{Multiplying, Inserting}
use Rattle.looper_rules.specs.Layers.{total_seams}
use Rattle.looper_rules.specs.Loop.{Deck, Loop, length_of}

-- so many frames end within the chunk in which the tape ends
pub record IsInChunk (frames tape : ℕ) : Type 0 where
  pub begun : 1 ≤ tape % chunk_frames
  pub within : tape % chunk_frames + frames ≤ chunk_frames

-- in this mode no layer is closed or extended within so many frames
abbrev pub GoesOnIn : Mode → ℕ → Deck → ℕ → Type 0
GoesOnIn Multiplying frames d len = (d.rounding ≡ false) × (d.pos + frames ≤ len)
GoesOnIn Inserting frames d len = d.rounding ≡ false
GoesOnIn _ frames d len = ⊤

pub record IsAmple {A : Type 0} (frames : ℕ) (l : Loop A) : Type 0 where
  pub chunk : 1 ≤ frames → IsInChunk frames l.stack.tape
  pub seams : total_seams l.stack.layers + 2 * frames ≤ max_seams
  pub short : length_of l + frames ≤ max_list_frames
  pub goes_on : GoesOnIn l.deck.mode frames l.deck (length_of l)
