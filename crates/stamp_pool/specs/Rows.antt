-- Rows of counts in one region, and which of them are lent.
use Rattle.std.specs.Prelude.{◌≡◌, ◌≢◌, ◌<◌, ◌+◌, ◌*◌, ℕ, max, List, Bool, true, false, Some, slice_get, slice_set, slice_index, length}

-- What contracts see of a pool: the name that it alone has, how many counts a row has, for each row whether it is lent, and
-- the counts of all rows, row by row.
pub record Region : Type 0 where
  pub name : ℕ
  pub width : ℕ
  pub lent : List Bool
  pub counts : List ℕ

-- what contracts see of a row that is lent: the name of its pool, and its place there
pub record Row : Type 0 where
  pub pool : ℕ
  pub place : ℕ

-- the count of that number in the row at a place
abbrev pub count_at : Region → ℕ → ℕ → ℕ
count_at region place i = slice_index region.counts (place * region.width + i)

-- the row is one that the pool lends
pub record IsLent (region : Region) (row : Row) : Type 0 where
  pub own : row.pool ≡ region.name
  pub lent : slice_get region.lent row.place ≡ Some true

-- the counts of the row at a place are these, and those of all other rows have stayed
pub record SetsRow (old : Region) (place : ℕ) (count : ℕ → ℕ) (new : Region) : Type 0 where
  pub name : new.name ≡ old.name
  pub width : new.width ≡ old.width
  pub own : (i : ℕ) → i < old.width → count_at new place i ≡ count i
  pub others : (other i : ℕ) → other ≢ place → i < old.width → count_at new other i ≡ count_at old other i

-- the row was lent to nobody, and is lent now: zeros, while all other rows have stayed
pub record Lends (old : Region) (row : Row) (new : Region) : Type 0 where
  pub own : row.pool ≡ old.name
  pub free : slice_get old.lent row.place ≡ Some false
  pub lent : new.lent ≡ slice_set old.lent row.place true
  pub zeros : SetsRow old row.place (λ i. 0) new

-- the counts of the row became the greater of its own and these, while all other rows have stayed
pub record Raises (old : Region) (row : Row) (counts : ℕ → ℕ) (new : Region) : Type 0 where
  pub lent : new.lent ≡ old.lent
  pub greater : SetsRow old row.place (λ i. max (count_at old row.place i) (counts i)) new

-- the list has the counts of the row
pub record HasCounts (region : Region) (row : Row) (counts : List ℕ) : Type 0 where
  pub size : length counts ≡ region.width
  pub each : (i : ℕ) → i < region.width → slice_index counts i ≡ count_at region row.place i
