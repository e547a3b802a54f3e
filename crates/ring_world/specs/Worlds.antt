-- A world is an engine with its five rings, all seen as lists: what was taken and what waits. A
-- reply whose ring was full is held. The outcomes of saves that ended are remembered until they are
-- put on the saver's ring. It counts the commands that found their ring full, and keeps the output.
-- "The world on one thread" in docs/rules.md.
use Rattle.std.specs.Prelude.{ℕ, Bool, false, [], None}
use Rattle.sl_ports.specs.Calls.{untried}
use Rattle.sl_ports.specs.MemoryEnds.{KeeperState}
use Rattle.loop_saver.specs.Savers.{SaverOf}
use Rattle.engine_steps.specs.Engines.{EngineOf, Beginning, first_engine}
use Rattle.live_steps.specs.Passed.{Passed}
use Rattle.ring_world.specs.declared.lists.Lists.{Lists}
use Rattle.ring_world.specs.Rings.{empty_ring, sent}

-- the capacity of the rings of commands, outcomes and replies, and of the ring of blocks
abbrev pub item_capacity : ℕ
item_capacity = 256

abbrev pub block_capacity : ℕ
block_capacity = 64

-- the lists around an engine that has done nothing
abbrev pub first_lists : EngineOf → Lists
first_lists e =
    record {
      engine = e;
      osc = empty_ring item_capacity;
      midi = empty_ring item_capacity;
      saver = empty_ring item_capacity;
      replies = empty_ring item_capacity;
      blocks = empty_ring block_capacity;
      held = None;
      remembered = [];
      full = 0;
      output = [];
    }

-- what passed the engine's ends of the rings
abbrev pub passed : Lists → Passed
passed w =
    record {
      osc = w.osc.taken;
      midi = w.midi.taken;
      saver = w.saver.taken;
      replies = sent w.replies;
      held = w.held;
      blocks = sent w.blocks;
    }

-- what contracts see of a world: its number, its lists, its saver with the keeper in memory that
-- it writes to, and whether a step wanted memory
pub record WorldOf : Type 0 where
  pub number : ℕ
  pub lists : Lists
  pub saver : SaverOf
  pub keeper : KeeperState
  pub spent : Bool

-- a keeper in memory before all writes, of which none is to fail
abbrev pub no_files : KeeperState
no_files = record { written = []; reads = untried []; writes = untried [] }

-- a world before all steps
abbrev pub first_world : Beginning → WorldOf
first_world b =
    record {
      number = 0;
      lists = first_lists (first_engine b);
      saver = record { rate = b.settings.rate; saving = None };
      keeper = no_files;
      spent = false;
    }
