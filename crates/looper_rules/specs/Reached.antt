-- What makes the facts of "States" last, from one call and one frame to the next. Beside them:
-- - the tape of a loop takes at most the chunks that the loop reaches;
-- - verbs and frames leave the controls, the press and whether a pin stands as they were;
-- - while a session's save runs, its pins stand on all loops.
-- A run begins from settings in their ranges, with lists as long as their strips say, for which
-- there are chunks.
-- "States: what always holds" in docs/rules.md.
use Rattle.std.specs.Prelude.{◌≡◌, ℕ, ◌≤◌, ⊤, Bool, false, IsTrue, List, [], ◌∷◌, length, map, Option, is_some}
use Rattle.sl_base.specs.Sounds.{Sound}
use Rattle.sl_commands.specs.declared.Mode.{Mode}
use Rattle.sl_commands.specs.declared.Mode.TheVariants.{Overdubbing, Replacing, Substituting, Inserting, Multiplying}
use Rattle.sl_commands.specs.declared.Held.{Held}
use Rattle.sl_commands.specs.declared.StripSettings.{StripSettings}
use Rattle.sl_commands.specs.Settings.{LooperSettings, are_settings}
use Rattle.looper_rules.specs.Room.{chunks_of, used}
use Rattle.looper_rules.specs.Loop.{Controls, Loop}
use Rattle.looper_rules.specs.Looper.{Looper}
use Rattle.looper_rules.specs.Pins.{SessionIsWhole}
use Rattle.looper_rules.specs.States.{IsLoop, IsLooper}

-- what verbs and frames leave as it is: the chunks in reach, whether a pin stands, the controls and
-- the press
pub record Unchanged : Type 0 where
  pub reach : ℕ
  pub pinned : Bool
  pub controls : Controls
  pub press : Option Held

-- what a loop keeps
pub record Keeps {A : Type 0} (a : Unchanged) (l : Loop A) : Type 0 where
  pub loop : IsLoop l
  pub reach : chunks_of l.stack.tape ≤ a.reach
  pub pinned : is_some l.stack.pin ≡ a.pinned
  pub controls : l.controls ≡ a.controls
  pub press : l.deck.press ≡ a.press

-- a mode in which a layer is opened over a list, in this direction
abbrev pub IsLayering : Mode → Bool → Type 0
IsLayering Overdubbing backward = ⊤
IsLayering Replacing backward = ⊤
IsLayering Substituting backward = ⊤
IsLayering Inserting backward = backward ≡ false
IsLayering Multiplying backward = backward ≡ false
IsLayering _ backward = ⊥

-- what is done to a loop that reaches so many chunks keeps it
abbrev pub KeepsLoops : (ℕ → Loop Sound → Loop Sound) → Type 0
KeepsLoops act = (a : Unchanged) (l : Loop Sound) → Keeps a l → Keeps a (act a.reach l)

-- what a looper keeps, when so many frames are done
pub record KeepsLooper (frame : ℕ) (l : Looper) : Type 0 where
  pub looper : IsLooper frame l
  pub session : SessionIsWhole l.tracks

-- what no entry and no frame changes of a looper
pub record SameRateAndChunks (old new : Looper) : Type 0 where
  pub rate : new.rate ≡ old.rate
  pub chunks : new.chunks ≡ old.chunks

-- each list is as long as its strip says, and lists that aren't given are empty
abbrev pub AreLists : List StripSettings → List (List Sound) → Type 0
AreLists [] [] = ⊤
AreLists [] (list ∷ lists) = ⊥
AreLists (s ∷ ss) [] = (s.length ≡ 0) × AreLists ss []
AreLists (s ∷ ss) (list ∷ lists) = (s.length ≡ length list) × AreLists ss lists

-- settings, chunks and lists with which a run may begin
pub record IsBeginning (settings : LooperSettings) (chunks : ℕ)
    (lists : List (List Sound)) : Type 0 where
  pub in_range : IsTrue (are_settings settings)
  pub lengths : AreLists settings.strips lists
  pub fits : used (map length lists) ≤ chunks
