-- What rows keep: a region of cuts, and for each place where its row lies there.
use Rattle.std.specs.Prelude.{◌<◌, ◌≤◌, ◌+◌, ℕ, List, [], ◌∷◌, length, slice_index, slice_range, slice_set}
use Rattle.sp_base.specs.declared.limits.TheConstants.{MAX_EVENTS}
use Rattle.closed_fronts.specs.Tables.{AreTold}
use Rattle.closed_fronts.specs.declared.rows.Share.{Share}
use Rattle.closed_fronts.specs.declared.rows.Rows.TheInside.{Inside}

-- the row of a place: what is stored, with the own cut just behind the place
abbrev pub shared_row : List ℕ → ℕ → Share → List ℕ
shared_row cuts place share = slice_set (slice_range cuts share.start (share.start + share.size)) share.thread (place + 1)

-- the rows of the shares, of which the first is that of the place
abbrev pub rows_from : List ℕ → ℕ → List Share → List (List ℕ)
rows_from cuts place [] = []
rows_from cuts place (share ∷ shares) = shared_row cuts place share ∷ rows_from cuts (place + 1) shares

-- rows are seen as the list of the whole rows
abbrev pub rows_in : Inside → List (List ℕ)
rows_in x = rows_from x.cuts.items 0 x.shares.items

-- what is stored for a place lies within the region, and its own cut is not beyond the place
pub record IsShare (cuts : List ℕ) (place : ℕ) (share : Share) : Type 0 where
  pub within : share.start + share.size ≤ length cuts
  pub own : share.thread < share.size
  pub older : slice_index cuts (share.start + share.thread) ≤ place + 1

-- each share is right, and there are no more than a trace has places
pub record AreShares (cuts : List ℕ) (shares : List Share) : Type 0 where
  pub few : length shares ≤ MAX_EVENTS
  pub each : AreTold (IsShare cuts) shares

-- the shares of rows are right
abbrev pub HasShares : Inside → Type 0
HasShares x = AreShares x.cuts.items x.shares.items
