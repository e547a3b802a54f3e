-- The saves of a run that no release has answered yet, in the order in which they were made. A
-- release of loop i answers the save of that loop, and a release of all loops that of a session.
-- The pins that stand are theirs: the pin of each of their loops holds the list that is saved, and
-- whoever has a pin on a loop asked for one of them. So the pins of a session stand on all loops or
-- on none.
-- "Saves" in docs/rules.md.
use Rattle.std.specs.Prelude.{◌≡◌, ◌⊎◌, ℕ, ◌+◌, Bool, true, false, not, ◌==◌, List, [], ◌∷◌, ◌++◌, length, map, filter, Option, Some, None, IfSome, IsTrue, is_some, slice_get, option_map, option_to_list, if◌then◌else◌}
use Rattle.std.specs.List.{AllByRecursion}
use Rattle.sl_base.specs.Sounds.{Sound}
use Rattle.sl_commands.specs.declared.Target.{Target}
use Rattle.sl_commands.specs.declared.Target.TheVariants.{One, All, Selected}
use Rattle.sl_commands.specs.declared.Command.{Command}
use Rattle.sl_commands.specs.declared.Command.TheVariants.{Release}
use Rattle.sl_commands.specs.declared.Entry.{Entry}
use Rattle.looper_rules.specs.Stack.{Pin}
use Rattle.looper_rules.specs.Looper.{Asker, Track, Looper}
use Rattle.looper_rules.specs.Saves.{Save, loop_asker, session_asker}
use Rattle.looper_rules.specs.Entries.{is_taken, applied, save}
use Rattle.looper_rules.specs.Frame.{framed}
use Rattle.looper_rules.specs.Run.{entered, due, later, begun}
use Rattle.looper_rules.specs.Pins.{pin_on}

-- whether a release with the first target answers a save with the second
abbrev pub answers : Target → Target → Bool
answers (One k) (One index) = index == k
answers All All = true
answers _ _ = false

-- those of these saves that stay unanswered behind a command
abbrev pub still_unanswered : Command → List Save → List Save
still_unanswered (Release target outcome) saves =
    filter (λ (s : Save). not (answers target s.target)) saves
still_unanswered _ saves = saves

-- the unanswered saves behind an entry that meets this looper
abbrev pub unanswered_after : Entry → Looper → List Save → List Save
unanswered_after e l saves =
    (if is_taken e l then still_unanswered e.command saves else saves) ++ option_to_list (save e l)

-- those behind these entries, applied at a frame
abbrev pub unanswered_entered : ℕ → List Entry → Looper → List Save → List Save
unanswered_entered frame [] l saves = saves
unanswered_entered frame (e ∷ es) l saves =
    unanswered_entered frame es (applied frame e l) (unanswered_after e l saves)

-- those behind these frames, of which the first has this number
abbrev pub unanswered_begun : ℕ → List Entry → List Sound → Looper → List Save → List Save
unanswered_begun frame es [] l saves = saves
unanswered_begun frame es (x ∷ xs) l saves =
    let before = (entered frame (due frame es) l).looper
    in unanswered_begun (frame + 1) (later frame es) xs (framed frame x before).looper
    (unanswered_entered frame (due frame es) l saves)

-- those behind a run
abbrev pub unanswered : List Entry → List Sound → Looper → List Save
unanswered es input l =
    let first = begun 0 es input l
    in unanswered_entered (length input) first.left first.looper (unanswered_begun 0 es input l [])

-- what stands on a track: who asked for its save, and the list that its pin holds
pub record Hold : Type 0 where
  pub asker : Option Asker
  pub list : Option (List Sound)

-- the list of a pin
abbrev pub list_in : Pin Sound → List Sound
list_in p = p.list

abbrev pub hold_on : Track → Hold
hold_on t = record { asker = t.asker; list = option_map list_in (pin_on t) }

-- what stands on all tracks, by index
abbrev pub holds_of : Looper → List Hold
holds_of l = map hold_on l.tracks

-- a loop's save has its one list there
abbrev pub HoldsLoop : List (List Sound) → Option Hold → Type 0
HoldsLoop lists None = ⊥
HoldsLoop lists (Some h) = (h.list ∷ [] ≡ map (λ list. Some list) lists)
    × IsTrue (is_some (loop_asker h.asker))

-- a session's save has its lists there
pub record HoldsSession (lists : List (List Sound)) (holds : List Hold) : Type 0 where
  pub saved : map (λ (h : Hold). h.list) holds ≡ map (λ list. Some list) lists
  pub asked : AllByRecursion (λ (h : Hold). IsTrue (is_some (session_asker h.asker))) holds

-- the lists of a save with this target are held
abbrev pub IsHeld : Target → List (List Sound) → List Hold → Type 0
IsHeld (One k) lists holds = HoldsLoop lists (slice_get holds k)
IsHeld All lists holds = HoldsSession lists holds
IsHeld Selected lists holds = ⊥

-- one of these saves has this target
abbrev pub HasTarget : Target → List Save → Type 0
HasTarget target [] = ⊥
HasTarget target (s ∷ saves) = (s.target ≡ target) ⊎ HasTarget target saves

-- the target of the save that has a hold on the track of this index
abbrev pub held_for : ℕ → Asker → Target
held_for k asker = if asker.of_session then All else One k

-- whoever holds the track of this index asked for one of these saves
abbrev pub IsOwned : List Save → ℕ → Hold → Type 0
IsOwned saves k h = IfSome h.asker (λ asker. HasTarget (held_for k asker) saves)

-- the pins that stand are those of these saves
pub record HoldPins (saves : List Save) (holds : List Hold) : Type 0 where
  pub held : AllByRecursion (λ (s : Save). IsHeld s.target s.lists holds) saves
  pub owned : (k : ℕ) → IfSome (slice_get holds k) (IsOwned saves k)
