-- A stretch is some frames in a row over which a loop only goes on: in Playing, Muted and OneShot
-- place by place in its direction, before the border of its list; in Off and Paused it stays where
-- it is, and so it does in WaitStart where no frame reaches the threshold. What is heard of it is a
-- part of the list, read in its direction, or silence.
-- "Frames in a row" in docs/rules.md.
use Rattle.std.specs.Prelude.{◌≡◌, ◌≤◌, ◌<◌, ℕ, ◌+◌, ◌-◌, ⊤, Bool, true, false, List, length, take, drop, reverse, replicate}
use Rattle.sl_base.specs.Sounds.{Sound, silence}
use Rattle.sl_commands.specs.declared.Mode.{Mode}
use Rattle.sl_commands.specs.declared.Mode.TheVariants.{Off, WaitStart, Playing, Muted, OneShot, Paused}
use Rattle.loop_strip.specs.Quiet.{AreSoft}

-- how many places there are before the border in this direction
abbrev pub places_ahead : Bool → ℕ → ℕ → ℕ
places_ahead true place len = place
places_ahead false place len = len - place - 1

-- the place so many frames on in this direction
abbrev pub place_on : Bool → ℕ → ℕ → ℕ
place_on true frames place = place - frames
place_on false frames place = place + frames

-- the place of a loop in this mode so many frames on
abbrev pub place_behind : Mode → Bool → ℕ → ℕ → ℕ
place_behind Playing backward frames place = place_on backward frames place
place_behind Muted backward frames place = place_on backward frames place
place_behind OneShot backward frames place = place_on backward frames place
place_behind _ backward frames place = place

-- so many frames of a list from a place on, in this direction
abbrev pub part_of : Bool → ℕ → ℕ → List Sound → List Sound
part_of true frames place list = reverse (take frames (drop (place + 1 - frames) list))
part_of false frames place list = take frames (drop place list)

-- what is heard over so many frames in this mode
abbrev pub part_heard : Mode → Bool → ℕ → ℕ → List Sound → List Sound
part_heard Playing backward frames place list = part_of backward frames place list
part_heard OneShot backward frames place list = part_of backward frames place list
part_heard _ backward frames place list = replicate frames silence

-- so many places are there before the border of a list of this length
pub record IsAhead (frames : ℕ) (backward : Bool) (place len : ℕ) : Type 0 where
  pub inside : place < len
  pub ahead : frames ≤ places_ahead backward place len

-- these frames are a stretch for a loop in this mode
abbrev pub IsStretch : Mode → List Sound → ℕ → Bool → ℕ → ℕ → Type 0
IsStretch Off xs threshold backward place len = ⊤
IsStretch Paused xs threshold backward place len = ⊤
IsStretch WaitStart xs threshold backward place len = AreSoft threshold xs
IsStretch Playing xs threshold backward place len = IsAhead (length xs) backward place len
IsStretch Muted xs threshold backward place len = IsAhead (length xs) backward place len
IsStretch OneShot xs threshold backward place len = IsAhead (length xs) backward place len
IsStretch _ xs threshold backward place len = length xs ≡ 0
