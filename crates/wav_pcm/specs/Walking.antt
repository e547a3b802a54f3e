-- What the code walks over is seen as the lists of bytes that it refers to.
-- "WAV" in docs/formats.md.
use Rattle.std.specs.Prelude.{ℕ, ◌≤◌, List, length, Option, Some, None, codes, if◌then◌else◌, ⊤}
use Rattle.std.specs.Borrow.{Bor}
use Rattle.std.specs.Str.{bytes_eq}
use Rattle.wav_pcm.specs.declared.walk.Walk.{Walk as WalkOver}
use Rattle.wav_pcm.specs.declared.walk.Step.{Step as StepOver}
use Rattle.wav_pcm.specs.declared.walk.Step.TheVariants.{Stop, Data, Chunk}
use Rattle.wav_pcm.specs.Reading.{Walk, Step, stops, starts, passes}

-- the bytes that are referred to, where there are some
abbrev pub seen_bytes : Option (Bor (List ℕ)) → Option (List ℕ)
seen_bytes None = None
seen_bytes (Some bytes) = Some bytes.now

-- a step
abbrev pub seen_step : StepOver → Step
seen_step Stop = stops
seen_step (Data part) = starts part.now
seen_step (Chunk name body rest) = passes name.now body.now rest.now

-- a walk
abbrev pub seen_walk : WalkOver → Walk
seen_walk walk = record { format = seen_bytes walk.format; data_part = seen_bytes walk.part }

-- the format, where one was met, and else the body of a chunk of this name where it is one
abbrev pub first_of : Option (List ℕ) → List ℕ → List ℕ → Option (List ℕ)
first_of (Some format) name body = Some format
first_of None name body = if bytes_eq name (codes "fmt ") then Some body else None

-- a walk behind a format that was met
abbrev pub earlier : Option (List ℕ) → Walk → Walk
earlier None walk = walk
earlier (Some format) walk = record { format = Some format; data_part = walk.data_part }

-- what a step leaves is no longer than what it was taken from
abbrev pub PartsWithin : ℕ → StepOver → Type 0
PartsWithin most Stop = ⊤
PartsWithin most (Data part) = (length part.now ≤ most) × (4 ≤ length part.now)
PartsWithin most (Chunk name body rest) = length rest.now ≤ most
