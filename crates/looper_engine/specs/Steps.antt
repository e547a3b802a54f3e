-- Each block of a save is a step: its head, a part of one of its lists, or its end. Which one it is
-- can be told from the lengths of the lists alone: the head comes first, then as many parts for
-- each list as its length divided by 256, rounded up, then the end. A part begins at a multiple of
-- 256 and has the frames from there on, 256 at most.
-- "Blocks of a save" in docs/rules.md.
use Rattle.std.specs.Prelude.{ℕ, zero, suc, ◌+◌, ◌-◌, ◌*◌, ◌/◌, min, List, [], ◌∷◌, length, map, take, drop, slice_index_or, nat_lt, if◌then◌else◌}
use Rattle.sl_base.specs.Sounds.{Sound}
use Rattle.sl_commands.specs.declared.Target.{Target}
use Rattle.sl_commands.specs.declared.Block.{Block}
use Rattle.sl_commands.specs.declared.Block.TheVariants.{Head, Part, End}
use Rattle.sl_commands.specs.Settings.{LooperSettings}
use Rattle.sl_commands.specs.Blocks.{part_length, first_index}
use Rattle.looper_engine.specs.declared.step.Step.{Step}
use Rattle.looper_engine.specs.declared.step.Step.TheVariants.{Head as HeadStep, Part as PartStep, End as EndStep}

-- how many parts a list of this length has
abbrev pub part_count : ℕ → ℕ
part_count length = (length + 255) / part_length

-- how many blocks a save with lists of these lengths has
abbrev pub parts_in : List ℕ → ℕ
parts_in [] = 0
parts_in (length ∷ lengths) = part_count length + parts_in lengths

abbrev pub block_count : List ℕ → ℕ
block_count lengths = parts_in lengths + 2

-- the part of this number of a list of this index and length
abbrev pub part_step : ℕ → ℕ → ℕ → Step
part_step list length part =
    PartStep list (part * part_length) (min part_length (length - part * part_length))

-- the step of this number behind the head, of lists of which the first has this index
abbrev pub step_behind : ℕ → List ℕ → ℕ → Step
step_behind list [] part = EndStep
step_behind list (length ∷ lengths) part =
    if nat_lt part (part_count length) then part_step list length part else
    step_behind (list + 1) lengths (part - part_count length)

-- the step of this number
abbrev pub step_at : List ℕ → ℕ → Step
step_at lengths zero = HeadStep
step_at lengths (suc part) = step_behind 0 lengths part

-- so many frames of a list from a place on
abbrev pub frames_at : List Sound → ℕ → ℕ → List Sound
frames_at frames place count = take count (drop place frames)

-- the block that a step of a save is
abbrev pub block_of : Step → ℕ → List ℕ → Target → LooperSettings → List (List Sound) → Block
block_of HeadStep save name target settings lists = Head save name target settings
block_of (PartStep list place count) save name target settings lists =
    Part save (first_index target + list) (frames_at (slice_index_or lists list []) place count)
block_of EndStep save name target settings lists = End save
