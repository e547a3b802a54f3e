-- The list of a session's loop I is in the WAV file `NAME-I.wav`, where NAME is the session's.
-- "Sessions" in docs/formats.md.
use Rattle.std.specs.Prelude.{ℕ, List, ◌++◌, codes}
use Rattle.std.specs.Fmt.{decimal}

-- the name of the WAV file of the loop with this index
abbrev pub part_name : List ℕ → ℕ → List ℕ
part_name session index = ((session ++ codes "-") ++ decimal index) ++ codes ".wav"
