-- A source gives its bytes in order, where it tells them. It counts the reads that failed and those
-- that gave nothing for now, and tells whether it has ended. At its end nothing is left, and what
-- has ended stays ended.
-- "The outside" in docs/rules.md.
use Rattle.std.specs.Prelude.{◌≡◌, ◌≤◌, ℕ, Bool, true, false, ◌||◌, ⊤, List, [], ◌++◌, take, Option, Some, None, IsTrue}
use Rattle.sl_base.specs.Counting.{Counts}
use Rattle.live_ports.specs.declared.source.SourceAnswer.{SourceAnswer}
use Rattle.live_ports.specs.declared.source.SourceAnswer.TheVariants.{Got, Idle, End, Failed}

-- what contracts see of a source: the bytes left, where it tells them, the reads that failed, those
-- that gave nothing, and whether it has ended
pub record SourceSeen : Type 0 where
  pub left : Option (List ℕ)
  pub faults : ℕ
  pub idles : ℕ
  pub ended : Bool

-- what contracts see of a real source, which doesn't tell what is left
pub record ReadCounts : Type 0 where
  pub faults : ℕ
  pub idles : ℕ
  pub ended : Bool

-- no read was made yet
abbrev pub unread : ReadCounts
unread = record { faults = 0; idles = 0; ended = false }

-- what it tells as a source
abbrev pub untold : ReadCounts → SourceSeen
untold r = record { left = None; faults = r.faults; idles = r.idles; ended = r.ended }

-- the answer is a failure
abbrev pub is_failed : SourceAnswer → Bool
is_failed (Got n) = false
is_failed Idle = false
is_failed End = false
is_failed Failed = true

-- nothing came for now
abbrev pub is_idle : SourceAnswer → Bool
is_idle (Got n) = false
is_idle Idle = true
is_idle End = false
is_idle Failed = false

-- the answer is the end
abbrev pub is_end : SourceAnswer → Bool
is_end (Got n) = false
is_end Idle = false
is_end End = true
is_end Failed = false

-- what was left began with what came, and what is left now is the rest
abbrev pub Consumes : {A : Type 0} → Option (List A) → List A → Option (List A) → Type 0
Consumes None got new = ⊤
Consumes (Some left) got None = ⊥
Consumes (Some left) got (Some rest) = left ≡ got ++ rest

-- nothing is left, where that is told
abbrev pub IsOut : {A : Type 0} → Option (List A) → Type 0
IsOut None = ⊤
IsOut (Some left) = left ≡ []

-- what came has a byte at least, and no more than there was room for
abbrev pub IsWithin : ℕ → SourceAnswer → Type 0
IsWithin room (Got n) = (1 ≤ n) × (n ≤ room)
IsWithin room Idle = ⊤
IsWithin room End = ⊤
IsWithin room Failed = ⊤

-- the bytes that came into a buffer
abbrev pub bytes_in : List ℕ → SourceAnswer → List ℕ
bytes_in buf (Got n) = take n buf
bytes_in buf Idle = []
bytes_in buf End = []
bytes_in buf Failed = []

-- an end says that nothing is left
abbrev pub Ends : Option (List ℕ) → SourceAnswer → Type 0
Ends left (Got n) = ⊤
Ends left Idle = ⊤
Ends left End = IsOut left
Ends left Failed = ⊤

-- what a read into a buffer did to the source
pub record DidRead (old new : SourceSeen) (buf : List ℕ) (answer : SourceAnswer) : Type 0 where
  pub faults : Counts old.faults new.faults (is_failed answer)
  pub idles : Counts old.idles new.idles (is_idle answer)
  pub ended : new.ended ≡ (old.ended || is_end answer)
  pub stays : IsTrue old.ended → IsTrue (is_end answer)
  pub gives : Consumes old.left (bytes_in buf answer) new.left
  pub ends : Ends new.left answer
