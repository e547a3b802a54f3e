-- The blocks of saves, one save after another. Each save of a run is one whose blocks may follow:
-- it has as many lists as its target says, none is too long, and a session's name leaves room for
-- its files' names. Its name is one, its settings lie in their ranges, and its target is that of a
-- release.
-- "Blocks of a save" in docs/rules.md.
use Rattle.std.specs.Prelude.{◌≡◌, ℕ, ◌+◌, ◌≤◌, ⊤, Bool, true, false, List, [], ◌∷◌, ◌++◌, length, IsTrue, if◌then◌else◌}
use Rattle.sl_base.specs.Names.{is_name}
use Rattle.sl_commands.specs.declared.Target.{Target}
use Rattle.sl_commands.specs.declared.Target.TheVariants.{All}
use Rattle.sl_commands.specs.declared.Block.{Block}
use Rattle.sl_commands.specs.declared.Block.TheVariants.{End}
use Rattle.sl_commands.specs.Commands.{is_release_target}
use Rattle.sl_commands.specs.Settings.{are_settings}
use Rattle.sl_commands.specs.Blocks.{blocks_of, IsSave}
use Rattle.looper_rules.specs.Saves.{Save}

-- the blocks of a save
abbrev pub blocks_of_save : Save → List Block
blocks_of_save s = blocks_of s.number s.name s.target s.settings s.lists

-- the blocks of all these saves
abbrev pub blocks_for_all : List Save → List Block
blocks_for_all [] = []
blocks_for_all (s ∷ saves) = blocks_of_save s ++ blocks_for_all saves

-- a block that ends a save
abbrev pub is_end : Block → Bool
is_end (End save) = true
is_end _ = false

-- how many saves end in these blocks
abbrev pub ends_in : List Block → ℕ
ends_in [] = 0
ends_in (b ∷ bs) = (if is_end b then 1 else 0) + ends_in bs

-- how many lists a save with this target and so many loops has
abbrev pub list_count : Target → ℕ → ℕ
list_count All loops = loops
list_count _ loops = 1

-- a save whose blocks may follow, with all its lists
pub record MayBeSent (s : Save) : Type 0 where
  pub save : IsSave s.target s.name (length s.settings.strips) s.lists
  pub count : length s.lists ≡ list_count s.target (length s.settings.strips)

-- a save as an entry makes it
pub record IsMade (s : Save) : Type 0 where
  pub sent : MayBeSent s
  pub name : IsTrue (is_name s.name)
  pub settings : IsTrue (are_settings s.settings)
  pub target : IsTrue (is_release_target (length s.settings.strips) s.target)

-- saves whose blocks may follow, numbered from the first number on
abbrev pub AreSent : ℕ → List Save → Type 0
AreSent first [] = ⊤
AreSent first (s ∷ saves) = (s.number ≡ first) × MayBeSent s × AreSent (first + 1) saves

-- these blocks are the first ones of those of some saves, at most so many
pub record BeginSaves (bound : ℕ) (blocks : List Block) : Type 0 where
  pub saves : List Save
  pub sent : AreSent 0 saves
  pub few : length saves ≤ bound
  pub rest : List Block
  pub whole : blocks_for_all saves ≡ blocks ++ rest
