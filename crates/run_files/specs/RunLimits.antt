-- A run goes over at most 134217728 frames, and its lists need at most the chunks that there are.
-- "The files of a run" in docs/formats.md.
use Rattle.std.specs.Prelude.{◌≤◌, ◌<◌, ℕ, List, length, map}
use Rattle.sl_base.specs.Limits.{max_file_frames}
use Rattle.sl_base.specs.Sounds.{Sound}
use Rattle.looper_rules.specs.Room.{used}

-- the chunks that these lists need
abbrev pub chunks_for : List (List Sound) → ℕ
chunks_for lists = used (map length lists)

-- so many frames of IN and the lists are within the limits, where there are that many chunks at
-- most
pub record IsWithin (most count : ℕ) (lists : List (List Sound)) : Type 0 where
  pub frames : count ≤ max_file_frames
  pub chunks : chunks_for lists ≤ most

-- IN is too long, or there are too few chunks
pub data IsBeyond (most count : ℕ) (lists : List (List Sound)) : Type 0 where
  too_long : max_file_frames < count → IsBeyond most count lists
  too_few_chunks : most < chunks_for lists → IsBeyond most count lists
