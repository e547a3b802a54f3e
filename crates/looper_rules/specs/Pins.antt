-- A save pins its loops with their lists. A pin that stands stays as it is, whatever is entered and
-- played, until a release takes it away: what it holds is the list that was saved. A release of
-- loop i names the pin of that loop where it is of a loop's save, and a release of all loops names
-- the pins of a session's save. Those it takes away, and no others. While a session's save runs,
-- its pins stand on all loops.
-- "Saves" in docs/rules.md.
use Rattle.std.specs.Prelude.{◌≡◌, ◌≢◌, ◌⊎◌, ℕ, Bool, false, ◌&&◌, not, ◌==◌, List, map, Option, Some, None, IfSome}
use Rattle.std.specs.List.{AllZip, AllByRecursion}
use Rattle.sl_base.specs.Sounds.{Sound}
use Rattle.sl_commands.specs.declared.Target.{Target}
use Rattle.sl_commands.specs.declared.Target.TheVariants.{One, All}
use Rattle.sl_commands.specs.declared.Command.{Command}
use Rattle.sl_commands.specs.declared.Command.TheVariants.{Release}
use Rattle.looper_rules.specs.Stack.{Pin}
use Rattle.looper_rules.specs.Looper.{Asker, Track, Looper}
use Rattle.looper_rules.specs.Saves.{list_on, running_session}

-- the pin of a track's loop, where one stands
abbrev pub pin_on : Track → Option (Pin Sound)
pin_on t = t.loop.stack.pin

-- the pins of all loops, by index
abbrev pub pins_of : Looper → List (Option (Pin Sound))
pins_of l = map pin_on l.tracks

-- the pin that holds a track's list
abbrev pub pin_for : Track → Pin Sound
pin_for t = record { tape = t.loop.stack.tape; list = list_on t }

-- each pin that stood still stands
abbrev pub PinsStay : Looper → Looper → Type 0
PinsStay old now =
    AllZip (λ before after. IfSome before (λ pin. after ≡ Some pin)) (pins_of old) (pins_of now)

-- each pin stands as it did, or is gone
abbrev pub PinsStayOrGo : Looper → Looper → Type 0
PinsStayOrGo old now =
    AllZip (λ before after. (after ≡ before) ⊎ (after ≡ None)) (pins_of old) (pins_of now)

-- whether a release with this target names the pin that this asker has on the track of this index
abbrev pub names_pin : Target → ℕ → Option Asker → Bool
names_pin (One k) index (Some asker) = index == k && not asker.of_session
names_pin All index (Some asker) = asker.of_session
names_pin _ index _ = false

-- where the save of a session runs, it stands on all tracks
abbrev pub SessionIsWhole : List Track → Type 0
SessionIsWhole ts = IfSome (running_session ts)
    (λ asker. AllByRecursion (λ (t : Track). t.asker ≡ Some asker) ts)

-- a command is none that releases
abbrev pub IsNoRelease : Command → Type 0
IsNoRelease c = (target : Target) (outcome : ℕ) → c ≢ Release target outcome
