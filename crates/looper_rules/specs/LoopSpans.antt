-- Frames of one loop in a row, which reaches the same number of chunks at each.
-- A frame is quiet where neither the loop behind it nor its own sound depends on what the loop
-- reaches, it takes no chunk, and the mode stays and the face goes on: so no layer is opened or
-- closed, nothing is refused, and OneShot doesn't end.
-- "Frames in a row" in docs/rules.md.
use Rattle.std.specs.Prelude.{◌≡◌, ℕ, ⊤, List, [], ◌∷◌}
use Rattle.sl_base.specs.Sounds.{Sound}
use Rattle.looper_rules.specs.Room.{chunks_of}
use Rattle.looper_rules.specs.Loop.{Loop, face_of}
use Rattle.looper_rules.specs.LoopFrame.{ready, heard, after, frame_later}
use Rattle.looper_rules.specs.FacesLater.{face_later}

-- the loop behind these frames
abbrev pub loop_over : List Sound → ℕ → Loop Sound → Loop Sound
loop_over [] reach l = l
loop_over (x ∷ xs) reach l = loop_over xs reach (frame_later x reach l)

-- what is heard of the loop over these frames
abbrev pub loop_heard_over : List Sound → ℕ → Loop Sound → List Sound
loop_heard_over [] reach l = []
loop_heard_over (x ∷ xs) reach l =
    heard (ready x reach l) ∷ loop_heard_over xs reach (frame_later x reach l)

-- a quiet frame
pub record IsQuietFrame (x : Sound) (l : Loop Sound) : Type 0 where
  pub ready_is : (reach : ℕ) → ready x reach l ≡ ready x 0 l
  pub after_is : (reach : ℕ) → after x reach (ready x 0 l) ≡ after x 0 (ready x 0 l)
  pub chunks : chunks_of (frame_later x 0 l).stack.tape ≡ chunks_of l.stack.tape
  pub mode : (frame_later x 0 l).deck.mode ≡ l.deck.mode
  pub face : face_of (frame_later x 0 l) ≡ face_later (face_of l)

-- quiet frames in a row
abbrev pub AreQuiet : List Sound → Loop Sound → Type 0
AreQuiet [] l = ⊤
AreQuiet (x ∷ xs) l = IsQuietFrame x l × AreQuiet xs (frame_later x 0 l)

-- frames in a row of which those behind the first are quiet, where the first reaches so many chunks
abbrev pub AreQuietBehind : List Sound → ℕ → Loop Sound → Type 0
AreQuietBehind [] reach l = ⊤
AreQuietBehind (x ∷ xs) reach l = AreQuiet xs (frame_later x reach l)
