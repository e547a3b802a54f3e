-- A pool fills a chunk with silence when the chunk is taken for the first time, the chunks in their
-- order. So a new pool has filled none. A chunk that was given back is taken before the next new
-- one.
-- "Room" in docs/rules.md.
use Rattle.std.specs.Prelude.{◌≤◌, ◌*◌}
use Rattle.sl_base.specs.Limits.{chunk_frames}
use Rattle.std.specs.Vec.{vec_capacity}
use Rattle.loop_tape.specs.Pools.{PoolOf, HoldsPool, padded, free_of}
use Rattle.loop_tape.specs.declared.pool.Pool.TheInside.{Inside}

-- what a pool is seen as, of its inside
abbrev pub pool_of : Inside → PoolOf
pool_of s = record {
  store = padded (s.all * chunk_frames) s.store.items;
  free =
      free_of s.begun s.all s.given.items;
  all = s.all;
}

-- what always holds of a pool's inside
pub record IsInside (s : Inside) : Type 0 where
  pub holds : HoldsPool s.store.items s.given.items s.begun s.all
  pub room : s.all * chunk_frames ≤ vec_capacity s.store
  pub given_room : s.all ≤ vec_capacity s.given
