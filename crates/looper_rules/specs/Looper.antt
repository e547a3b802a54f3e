-- A looper has its rate, its number of chunks, its own controls, the dry gain, its tracks, and how
-- many saves there were. A track is a loop with its gain and, while a save pins it, who asked for
-- that save.
-- What is done to all loops is done in index order, and the chunks that a loop leaves free pass on
-- to the next.
-- "The looper" in docs/rules.md.
use Rattle.std.specs.Prelude.{ℕ, zero, suc, ◌+◌, ◌-◌, Bool, List, [], ◌∷◌, map, Option}
use Rattle.sl_base.specs.Sounds.{Sound}
use Rattle.sl_commands.specs.declared.Target.{Target}
use Rattle.sl_commands.specs.declared.Target.TheVariants.{One, All, Selected}
use Rattle.sl_commands.specs.declared.Globals.{Globals}
use Rattle.sl_commands.specs.declared.Face.{Face}
use Rattle.looper_rules.specs.Room.{chunks_of, used}
use Rattle.looper_rules.specs.Loop.{Loop, face_of}

-- who asked for a save, and whether it was a session's
pub record Asker : Type 0 where
  pub sender : ℕ
  pub seq : ℕ
  pub of_session : Bool

-- a loop with its gain and the asker of its save
pub record Track : Type 0 where
  pub loop : Loop Sound
  pub gain : ℕ
  pub asker : Option Asker

-- all of a looper
pub record Looper : Type 0 where
  pub rate : ℕ
  pub chunks : ℕ
  pub globals : Globals
  pub dry : ℕ
  pub tracks : List Track
  pub saves : ℕ

-- the tape length of a track
abbrev pub tape_of : Track → ℕ
tape_of t = t.loop.stack.tape

-- what is seen of a track's loop
abbrev pub face_on : Track → Face
face_on t = face_of t.loop

-- all faces, by index
abbrev pub faces_of : Looper → List Face
faces_of l = map face_on l.tracks

-- the chunks that these tracks leave free, of so many
abbrev pub free_of : ℕ → List Track → ℕ
free_of chunks tracks = chunks - used (map tape_of tracks)

-- the chunks that a track reaches where so many are free
abbrev pub reach_of : ℕ → Track → ℕ
reach_of free t = free + chunks_of (tape_of t)

-- something done to each track in index order, with what it reaches
abbrev pub swept : {B : Type 0} → (B → Track) → (ℕ → Track → B) → ℕ → List Track → List B
swept track_of act free [] = []
swept track_of act free (t ∷ ts) =
    let reach = reach_of free t
    in let now = act reach t
    in now ∷ swept track_of act (reach - chunks_of (tape_of (track_of now))) ts

-- the track itself
abbrev pub itself : Track → Track
itself t = t

-- something done to the track of this index
abbrev pub at_index : ℕ → (ℕ → Track → Track) → ℕ → List Track → List Track
at_index k act free [] = []
at_index zero act free (t ∷ ts) = act (reach_of free t) t ∷ ts
at_index (suc k) act free (t ∷ ts) = t ∷ at_index k act free ts

-- something done to the tracks of a target, where this one is selected
abbrev pub at_target : Target → ℕ → (ℕ → Track → Track) → ℕ → List Track → List Track
at_target (One k) selected act free ts = at_index k act free ts
at_target All selected act free ts = swept itself act free ts
at_target Selected selected act free ts = at_index selected act free ts

-- something done to the loop of a track
abbrev pub on_loop : (ℕ → Loop Sound → Loop Sound) → ℕ → Track → Track
on_loop act reach t = record t { loop = act reach t.loop }

-- something done to the loops of a target
abbrev pub on_target : Target → (ℕ → Loop Sound → Loop Sound) → Looper → Looper
on_target target act l =
    record l {
      tracks = at_target target l.globals.selected_loop_num (on_loop act)
          (free_of l.chunks l.tracks) l.tracks;
    }

-- the index that a target of one loop names
abbrev pub index_of : Target → ℕ → ℕ
index_of (One k) selected = k
index_of _ selected = selected
