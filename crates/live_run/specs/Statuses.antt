-- Where several statuses of a session hold, the first in this order is given: there was no memory,
-- a read failed, a write failed, the input ended within a frame, all frames of a session were
-- played, a receive failed. Else the session is done. The journal's write and the console's take
-- part in it.
-- "Statuses" in docs/formats.md.
use Rattle.std.specs.Prelude.{ℕ, List, [], ◌∷◌, ◌++◌, nat_le, if◌then◌else◌, codes}
use Rattle.live_core.specs.declared.status.LiveStatus.{LiveStatus}
use Rattle.live_core.specs.declared.status.LiveStatus.TheVariants.{Done, ReadFault, WriteFault, Torn, LinkFault, Memory, LongInput}

-- where a status stands in the order
abbrev pub rank : LiveStatus → ℕ
rank Memory = 0
rank ReadFault = 1
rank WriteFault = 2
rank Torn = 3
rank LongInput = 4
rank LinkFault = 5
rank Done = 6

-- the first of two
abbrev pub first_of : LiveStatus → LiveStatus → LiveStatus
first_of one other = if nat_le (rank one) (rank other) then one else other

-- the line that tells it
abbrev pub live_line : LiveStatus → List ℕ
live_line Done = codes "status 0" ++ (10 ∷ [])
live_line ReadFault = codes "status 4" ++ (10 ∷ [])
live_line WriteFault = codes "status 5" ++ (10 ∷ [])
live_line Torn = codes "status 6" ++ (10 ∷ [])
live_line LinkFault = codes "status 7" ++ (10 ∷ [])
live_line Memory = codes "status 8" ++ (10 ∷ [])
live_line LongInput = codes "status 10" ++ (10 ∷ [])
