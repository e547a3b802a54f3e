-- What there may be at most, each limit once by its name. `src/limits.rt` has the same numbers for
-- the code.
-- "Limits" in docs/rules.md.
use Rattle.std.specs.Prelude.{ℕ}

-- the most loops of a looper
abbrev pub max_loops : ℕ
max_loops = 16

-- the most bytes of a session's name, so that the names of its files are names too
abbrev pub max_session_name : ℕ
max_session_name = 48

-- the most frames that one session goes over
abbrev pub max_session_frames : ℕ
max_session_frames = 1099511627776

-- the most frames of a loop's list
abbrev pub max_list_frames : ℕ
max_list_frames = 16777216

-- the most frames of an audio file that is played or written
abbrev pub max_file_frames : ℕ
max_file_frames = 134217728

-- the most frames that are processed at once
abbrev pub max_period : ℕ
max_period = 8192

-- the greatest rate, in frames a second
abbrev pub max_rate : ℕ
max_rate = 768000

-- the frames of a chunk of tape
abbrev pub chunk_frames : ℕ
chunk_frames = 4096

-- the most chunks of tape, over all loops
abbrev pub max_chunks : ℕ
max_chunks = 32768

-- the most layers of a loop
abbrev pub max_layers : ℕ
max_layers = 256

-- the most seams of a loop, over all its layers
abbrev pub max_seams : ℕ
max_seams = 65536

-- the most entries of one sender
abbrev pub max_quota : ℕ
max_quota = 1048576

-- the most entries of the saver, which may answer each entry of the two others
abbrev pub max_saver_quota : ℕ
max_saver_quota = 2097152

-- the most lines of a binding text
abbrev pub max_binding_lines : ℕ
max_binding_lines = 1024

-- the greatest value of a reply, and the last count of refusals
abbrev pub max_value : ℕ
max_value = 2147483647
