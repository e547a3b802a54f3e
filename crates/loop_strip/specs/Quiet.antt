-- For how many frames a strip is quiet: whatever comes in, and whatever it reaches, those behind
-- the first are.
-- "Frames in a row" in docs/rules.md.
use Rattle.std.specs.Prelude.{◌≡◌, ℕ, ◌<◌, ⊤, false, List, [], ◌∷◌, length, take, nat_le}
use Rattle.sl_base.specs.Sounds.{Sound, loudness}
use Rattle.looper_rules.specs.LoopFrame.{frame_later}
use Rattle.looper_rules.specs.LoopSpans.{AreQuiet, AreQuietBehind}
use Rattle.loop_tape.specs.Pools.{PoolOf}
use Rattle.loop_strip.specs.Strips.{StripOf, seen}

abbrev pub IsQuietFor : ℕ → StripOf → Type 0
IsQuietFor n s = (p : PoolOf) (x : Sound) (xs : List Sound) (reach : ℕ) → length xs < n →
    AreQuiet xs (frame_later x reach (seen s p))

-- for how many of these frames it is
abbrev pub IsQuietOver : ℕ → List Sound → StripOf → Type 0
IsQuietOver n input s = (p : PoolOf) (reach : ℕ) → AreQuietBehind (take n input) reach (seen s p)

-- no frame reaches the threshold
abbrev pub AreSoft : ℕ → List Sound → Type 0
AreSoft threshold [] = ⊤
AreSoft threshold (x ∷ xs) = (nat_le threshold (loudness x) ≡ false) × AreSoft threshold xs

-- the longest stretch that is told
abbrev pub most_told : ℕ
most_told = 1048576
