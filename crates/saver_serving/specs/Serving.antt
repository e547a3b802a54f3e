-- The activity of the saver takes blocks from a ring, gives each to the saver, and puts the outcome
-- of each save that ends on another ring. An outcome that finds that ring full is held, and put
-- before another block is taken. So the outcomes come in the order of the saves, one for each.
-- It ends once audio is over, and where it found nothing to do: a take of a block gave none, or,
-- with an outcome held, a put found the ring of outcomes full.
-- "The activity of the saver" in docs/rules.md.
use Rattle.std.specs.Prelude.{◌≡◌, ◌≤◌, ℕ, ◌+◌, List, ◌++◌, length, Option, Some, None, option_to_list, IsTrue}
use Rattle.sl_base.specs.Counting.{Rose}
use Rattle.sl_commands.specs.declared.Block.{Block}
use Rattle.sl_commands.specs.Commands.{is_outcome}
use Rattle.sl_ports.specs.declared.keepers.Keeper.{Ghosts as Keeper}
use Rattle.loop_saver.specs.Savers.{SavingOf}
use Rattle.loop_saver.specs.Keeping.{Keeps, HasCome}
use Rattle.event_rings.specs.Ends.{PutEnd, TakeEnd, SamePutRing, SameTakeRing}

-- what the activity owns: the save underway, the keeper, its ends of two rings, and the outcome
-- that is held
pub record ServingOf (P : Type 0) : Type 0 where
  pub saving : Option SavingOf
  pub keeper : P
  pub blocks : TakeEnd Block
  pub releases : PutEnd ℕ
  pub held : Option ℕ

-- the same, made of its parts
abbrev pub serving : {P : Type 0} → Option SavingOf → P → TakeEnd Block → PutEnd ℕ → Option ℕ →
    ServingOf P
serving saving keeper blocks releases held =
    record { saving = saving; keeper = keeper; blocks = blocks; releases = releases; held = held }

-- the saver is where the blocks lead that were taken, each save that ended in them has its outcome,
-- put or held, and there is room for an outcome of each save that may come
pub record MayServe {P : Type 0} (s : ServingOf P) : Type 0 where
  pub saves : ℕ
  pub come : HasCome s.saving s.blocks.taken saves
  pub each : length s.releases.sent + length (option_to_list s.held) ≡ saves
  pub within : saves ≤ s.blocks.bound
  pub limit : s.blocks.bound ≤ s.releases.limit
  pub outcome : (o : ℕ) → s.held ≡ Some o → IsTrue (is_outcome o)

-- what the activity did, from what it had to what it has: the blocks that it took were accepted,
-- and the outcomes that they gave come behind the one that was held, in order; the last may be held
-- now
pub record SaverDid {P : Type 0} (k : Keeper P) (rate : ℕ) (s t : ServingOf P) : Type 0 where
  pub taken : List Block
  pub outs : List ℕ
  pub kept : Keeps k rate taken s.saving s.keeper outs t.saving t.keeper
  pub took : t.blocks.taken ≡ s.blocks.taken ++ taken
  pub put : t.releases.sent ++ option_to_list t.held
      ≡ s.releases.sent ++ (option_to_list s.held ++ outs)
  pub blocks : SameTakeRing s.blocks t.blocks
  pub releases : SamePutRing s.releases t.releases
  pub nones : s.blocks.nones ≤ t.blocks.nones
  pub fulls : s.releases.fulls ≤ t.releases.fulls

-- there was nothing to do: with no outcome held, a take found the ring of blocks empty; with one, a
-- put found the ring of outcomes full
abbrev pub HasWaited : {P : Type 0} → Option ℕ → ServingOf P → ServingOf P → Type 0
HasWaited None s t = Rose s.blocks.nones t.blocks.nones
HasWaited (Some outcome) s t = Rose s.releases.fulls t.releases.fulls
