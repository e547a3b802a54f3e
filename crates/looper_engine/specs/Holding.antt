-- A save that waits keeps no list of its own: its lists are those that the pins hold. The save of a
-- loop has the list of that loop's pin, and the save of a session has those of all pins, by index.
-- "Saves" in docs/rules.md.
use Rattle.std.specs.Prelude.{◌≡◌, ◌≤◌, ◌<◌, ⊤, ℕ, ◌+◌, List, [], ◌∷◌, length, map, slice_index_or, IsTrue}
use Rattle.sl_base.specs.Limits.{max_loops}
use Rattle.sl_base.specs.Sounds.{Sound}
use Rattle.sl_commands.specs.declared.Target.{Target}
use Rattle.sl_commands.specs.declared.Target.TheVariants.{One, All, Selected}
use Rattle.sl_commands.specs.Commands.{is_release_target}
use Rattle.sl_commands.specs.Blocks.{part_length, first_index}
use Rattle.looper_engine.specs.declared.step.Step.{Step}
use Rattle.looper_engine.specs.declared.step.Step.TheVariants.{Part}
use Rattle.looper_rules.specs.Stack.{pinned_list}
use Rattle.looper_rules.specs.Looper.{Track, Looper}
use Rattle.looper_rules.specs.Saves.{Save}
use Rattle.looper_rules.specs.Pins.{pin_on}
use Rattle.whole_looper.specs.Loopers.{pinned_at}
use Rattle.looper_engine.specs.declared.queue.Pending.{Pending}

-- the list that the pin of a track holds
abbrev pub pinned_on : Track → List Sound
pinned_on t = pinned_list (pin_on t)

-- the lists that the pins hold for a save with this target
abbrev pub lists_for : Target → Looper → List (List Sound)
lists_for (One k) l = pinned_at k l ∷ []
lists_for All l = map pinned_on l.tracks
lists_for Selected l = []

-- the save with the lists that the pins hold
abbrev pub held_save : Looper → Pending → Save
held_save l p = record {
  number = p.number;
  target = p.target;
  name = p.name;
  settings =
      p.settings;
  lists = lists_for p.target l;
}

-- those of some saves
abbrev pub held_saves : Looper → List Pending → List Save
held_saves l ps = map (held_save l) ps

-- the lists of a save with this target can be read: a release can name it, and there are 16 loops
-- at most
pub record CanRead (target : Target) (l : Looper) : Type 0 where
  pub named : IsTrue (is_release_target (length l.tracks) target)
  pub few : length l.tracks ≤ max_loops

-- a part of a list of such a save: the list is that of a pin, and has these frames
pub record ReadsPart (target : Target) (l : Looper) (list place count : ℕ) : Type 0 where
  pub index : first_index target + list < length l.tracks
  pub loops : first_index target + list < max_loops
  pub same : slice_index_or (lists_for target l) list [] ≡ pinned_at (first_index target + list) l
  pub few : count ≤ part_length
  pub within : place + count ≤ length (pinned_at (first_index target + list) l)

-- a step of such a save reads a part of a list, or nothing
abbrev pub Reads : Target → Looper → Step → Type 0
Reads target l (Part list place count) = ReadsPart target l list place count
Reads target l _ = ⊤
