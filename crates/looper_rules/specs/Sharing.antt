-- Loops share the chunks of the looper. What is done to them is done in index order, and a loop
-- reaches what all others leave it: those before it as they stand by then, and those behind it as
-- they still are. So it has room for a frame on a tape where the tape isn't a multiple of 4096, or
-- what all loops use, with this tape as its own, is less than the chunks. This holds as long as no
-- layer ends behind its tape, no pin holds more than its tape, and the tapes use at most the
-- chunks. Whatever is done to a loop keeps to the chunks that it reaches.
-- "Room" and "The looper" in docs/rules.md.
use Rattle.std.specs.Prelude.{ℕ, zero, suc, ◌+◌, ◌-◌, ◌%◌, ◌≤◌, Bool, ◌||◌, not, List, [], ◌∷◌, ◌++◌, map, nat_lt, ◌==◌}
use Rattle.std.specs.List.{AllByRecursion}
use Rattle.sl_base.specs.Sounds.{Sound}
use Rattle.sl_commands.specs.declared.Target.{Target}
use Rattle.sl_commands.specs.declared.Target.TheVariants.{One, All, Selected}
use Rattle.sl_base.specs.Limits.{chunk_frames}
use Rattle.looper_rules.specs.Layers.{Layer}
use Rattle.looper_rules.specs.Stack.{Stack, pinned_tape}
use Rattle.looper_rules.specs.Room.{chunks_of, used}
use Rattle.looper_rules.specs.Loop.{Loop}
use Rattle.looper_rules.specs.Looper.{Track, Looper, tape_of, itself}

-- the tapes of these tracks
abbrev pub tapes_of : List Track → List ℕ
tapes_of ts = map tape_of ts

-- whether one more frame has room on this tape, whose loop stands between those before it and those
-- behind it
abbrev pub has_room_among : ℕ → List Track → ℕ → List Track → Bool
has_room_among chunks before tape behind =
    not (tape % chunk_frames == 0) || nat_lt (used (tapes_of before ++ tape ∷ tapes_of behind))
    chunks

-- the chunks that the tracks before a track and those behind it leave it
abbrev pub left_by : ℕ → List Track → List Track → ℕ
left_by chunks before behind = chunks - (used (tapes_of before) + used (tapes_of behind))

-- something done to each track in index order, between the tracks before it, to which it was done,
-- and those behind it
abbrev pub in_turn : {B : Type 0} → (B → Track) → (List Track → Track → List Track → B) →
    List Track → List Track → List B
in_turn track_of act before [] = []
in_turn track_of act before (t ∷ behind) =
    let now = act before t behind
    in now ∷ in_turn track_of act (before ++ track_of now ∷ []) behind

-- something done to the track of this index, between those before it and those behind it
abbrev pub in_its_turn : ℕ → (List Track → Track → List Track → Track) → List Track → List Track →
    List Track
in_its_turn k act before [] = []
in_its_turn zero act before (t ∷ behind) = act before t behind ∷ behind
in_its_turn (suc k) act before (t ∷ behind) = t ∷ in_its_turn k act (before ++ t ∷ []) behind

-- something done to the tracks of a target, where this one is selected
abbrev pub in_turn_at : Target → ℕ → (List Track → Track → List Track → Track) → List Track →
    List Track
in_turn_at (One k) selected act ts = in_its_turn k act [] ts
in_turn_at All selected act ts = in_turn itself act [] ts
in_turn_at Selected selected act ts = in_its_turn selected act [] ts

-- each of these layers ends within a tape of this length
abbrev pub EndWithin : {A : Type 0} → ℕ → List (Layer A) → Type 0
EndWithin tape layers = AllByRecursion (λ l. l.end ≤ tape) layers

-- no layer and no pin goes behind the tape
pub record KeepsToTape {A : Type 0} (s : Stack A) : Type 0 where
  pub layers : EndWithin s.tape s.layers
  pub redo : EndWithin s.tape s.redo
  pub pin : pinned_tape s.pin ≤ s.tape

-- and the tape takes at most so many chunks
pub record KeepsToReach {A : Type 0} (reach : ℕ) (s : Stack A) : Type 0 where
  pub tape : KeepsToTape s
  pub chunks : chunks_of s.tape ≤ reach

-- the stack of a track keeps to its tape
abbrev pub TrackKeepsToTape : Track → Type 0
TrackKeepsToTape t = KeepsToTape t.loop.stack

-- no loop goes behind its tape, and the tapes use at most the chunks
pub record SharesChunks (l : Looper) : Type 0 where
  pub tapes : AllByRecursion TrackKeepsToTape l.tracks
  pub chunks : used (tapes_of l.tracks) ≤ l.chunks

-- what is done to a loop keeps to the chunks that it reaches
abbrev pub StaysInReach : (ℕ → Loop Sound → Loop Sound) → Type 0
StaysInReach act = (reach : ℕ) → (l : Loop Sound) → KeepsToReach reach l.stack →
    chunks_of (act reach l).stack.tape ≤ reach
