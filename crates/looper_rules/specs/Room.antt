-- A tape of so many frames takes that number divided by 4096, rounded up, of chunks.
-- What all loops use is the sum over their tapes, and the chunks that are left are free. A loop
-- reaches the chunks of its own tape and the free ones. It has room where its tape isn't full to
-- the end of a chunk, or a chunk is free.
-- "Room" in docs/rules.md.
use Rattle.std.specs.Prelude.{ℕ, ◌+◌, ◌*◌, ◌/◌, ◌%◌, Bool, ◌||◌, not, List, nat_lt, ◌==◌, sum_by}
use Rattle.sl_base.specs.Limits.{chunk_frames}

-- the chunks that a tape of this length takes
abbrev pub chunks_of : ℕ → ℕ
chunks_of tape = (tape + 4095) / chunk_frames

-- the chunks that these tapes use
abbrev pub used : List ℕ → ℕ
used tapes = sum_by chunks_of tapes

-- the frames that so many free chunks take
abbrev pub free_time : ℕ → ℕ
free_time free = free * chunk_frames

-- whether one more frame has room on a tape of this length, whose loop reaches so many chunks
abbrev pub has_room : ℕ → ℕ → Bool
has_room reach tape = not (tape % chunk_frames == 0) || nat_lt (chunks_of tape) reach
