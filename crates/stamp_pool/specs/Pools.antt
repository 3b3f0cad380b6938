-- What a pool keeps.
use Rattle.std.specs.Prelude.{◌≡◌, ◌<◌, ◌*◌, ◌^◌, length}
use Rattle.stamp_pool.specs.Rows.{Region}
use Rattle.stamp_pool.specs.declared.pool.Pool.TheInside.{Inside}

-- a pool is seen as its region
abbrev pub region_in : Inside → Region
region_in p = record { name = p.seal.name; width = p.width; lent = p.lent.items; counts = p.counts.items }

-- there are counts for each row, room for one row beside them, and a number for each row
pub record IsLaidOut (p : Inside) : Type 0 where
  pub size : length p.counts.items ≡ length p.lent.items * p.width
  pub spare : length p.spare.items ≡ p.width
  pub few : length p.lent.items < 2 ^ 32
