-- A save goes to the saver in blocks: a head, the parts of its lists in index order, and an end.
-- Each part has 256 frames, but the last part of a list has the 1 to 256 frames that are left. An
-- empty list has no part, and a list has at most 16777216 frames.
-- The save of a loop has that loop as target and one list, of its index. The save of a session has
-- all loops as target, and each index in it is below the number of loops in its settings.
-- Saves are numbered from 0 in the order of their entries, and the blocks of one stand before those
-- of the next.
-- "Blocks of a save" in docs/rules.md.
use Rattle.std.specs.Prelude.{◌≡◌, ◌<◌, ℕ, ◌+◌, ◌%◌, Bool, true, false, ◌&&◌, ◌||◌, ◌==◌, nat_le, nat_lt, cond, List, [], ◌∷◌, ◌++◌, length, Option, Some, None, is_some}
use Rattle.std.specs.Bool.{then_some}
use Rattle.std.specs.List.{list_all}
use Rattle.sl_base.specs.Sounds.{Sound}
use Rattle.sl_commands.specs.declared.command.Target.{Target}
use Rattle.sl_commands.specs.declared.command.Target.TheVariants.{One, All, Selected}
use Rattle.sl_commands.specs.declared.block.Block.{Block}
use Rattle.sl_commands.specs.declared.block.Block.TheVariants.{Head, Part, End}
use Rattle.sl_commands.specs.Settings.{LooperSettings}
use Rattle.sl_base.specs.Limits.{max_list_frames, max_session_name}

-- the frames of a part that isn't a list's last
abbrev pub part_length : ℕ
part_length = 256

-- the parts of a list, of which some frames are held for the next part
abbrev pub parts_behind : ℕ → ℕ → List Sound → List Sound → List Block
parts_behind save index [] [] = []
parts_behind save index (h ∷ hs) [] = Part save index (h ∷ hs) ∷ []
parts_behind save index held (x ∷ xs) =
    cond (length held + 1 == part_length)
    (Part save index (held ++ x ∷ []) ∷ parts_behind save index [] xs)
    (parts_behind save index (held ++ x ∷ []) xs)

-- the parts of a list
abbrev pub parts_of : ℕ → ℕ → List Sound → List Block
parts_of save index frames = parts_behind save index [] frames

-- the parts of lists, the first of the index given
abbrev pub parts_of_lists : ℕ → ℕ → List (List Sound) → List Block
parts_of_lists save index [] = []
parts_of_lists save index (frames ∷ lists) =
    parts_of save index frames ++ parts_of_lists save (index + 1) lists

-- the index of a save's first list
abbrev pub first_index : Target → ℕ
first_index (One i) = i
first_index _ = 0

-- the blocks of a save
abbrev pub blocks_of : ℕ → List ℕ → Target → LooperSettings → List (List Sound) → List Block
blocks_of save name target settings lists =
    Head save name target settings
    ∷ (parts_of_lists save (first_index target) lists ++ End save ∷ [])

-- a save underway: its target, its loops, and how many frames of the list of the latest index were
-- sent
pub record Underway : Type 0 where
  pub target : Target
  pub loops : ℕ
  pub index : ℕ
  pub frames : ℕ

-- how far blocks have come: so many whole saves, and the save underway after them, where there is
-- one
pub record Place : Type 0 where
  pub saves : ℕ
  pub underway : Option Underway

-- a save has such a target
abbrev pub is_save_target : Target → Bool
is_save_target Selected = false
is_save_target _ = true

-- a save with this target and so many loops has a list of this index
abbrev pub has_list : Target → ℕ → ℕ → Bool
has_list (One i) loops index = index == i
has_list All loops index = nat_lt index loops
has_list Selected loops index = false

-- a part of so many frames of the list of this index may come next
abbrev pub may_be_part : Underway → ℕ → ℕ → Bool
may_be_part b index frames =
    has_list b.target b.loops index
    && nat_le 1 frames
    && nat_le frames part_length
    && (nat_lt b.index index || index == b.index && b.frames % part_length == 0
    && nat_le (b.frames + frames) max_list_frames)

-- with that part
abbrev pub with_part : Underway → ℕ → ℕ → Underway
with_part b index frames =
    record b { index = index; frames = cond (index == b.index) (b.frames + frames) frames }

-- how far blocks have come with one more, or None where it isn't the one due
abbrev pub place_after : ℕ → Option Underway → Block → Option Place
place_after saves None (Head save name target settings) =
    then_some (save == saves && is_save_target target)
    (record {
      saves = saves;
      underway =
          Some (record {
            target = target;
            loops = length settings.strips;
            index = first_index target;
            frames = 0;
          });
    })
place_after saves (Some b) (Part save index frames) =
    then_some (save == saves && may_be_part b index (length frames))
    (record { saves = saves; underway = Some (with_part b index (length frames)) })
place_after saves (Some b) (End save) =
    then_some (save == saves) (record { saves = saves + 1; underway = None })
place_after _ _ _ = None

-- how far blocks have come with more of them
abbrev pub place_behind : Option Place → List Block → Option Place
place_behind place [] = place
place_behind None (b ∷ bs) = None
place_behind (Some p) (b ∷ bs) = place_behind (place_after p.saves p.underway b) bs

-- before all blocks
abbrev pub first_place : Place
first_place = record { saves = 0; underway = None }

-- how far blocks have come, or None where they break the order
abbrev pub place_of : List Block → Option Place
place_of bs = place_behind (Some first_place) bs

-- the number of a block's save
abbrev pub save_of : Block → ℕ
save_of (Head save name target settings) = save
save_of (Part save index frames) = save
save_of (End save) = save

-- a save with this target may have this name
abbrev pub fits_target : Target → List ℕ → Bool
fits_target All name = nat_le (length name) max_session_name
fits_target _ name = true

-- the head of a session's save has a session's name
abbrev pub fits_name : Block → Bool
fits_name (Head save name target settings) = fits_target target name
fits_name _ = true

-- a block may follow those sent, on a ring for the saves below the bound
abbrev pub may_follow : List Block → Block → ℕ → Bool
may_follow sent b bound = is_some (place_of (sent ++ b ∷ [])) && nat_lt (save_of b) bound
    && fits_name b

-- each block may follow those before it
abbrev pub may_all_follow : List Block → List Block → ℕ → Bool
may_all_follow sent [] bound = true
may_all_follow sent (b ∷ bs) bound =
    may_follow sent b bound && may_all_follow (sent ++ b ∷ []) bs bound

-- a save is one: its target has as many lists, none is too long, and a session's name leaves room
-- for its files' names
pub record IsSave (target : Target) (name : List ℕ) (loops : ℕ)
    (lists : List (List Sound)) : Type 0 where
  pub kind : is_save_target target ≡ true
  pub named : fits_target target name ≡ true
  pub each : (k : ℕ) → k < length lists → has_list target loops (first_index target + k) ≡ true
  pub short : list_all (λ frames. nat_le (length frames) max_list_frames) lists ≡ true
