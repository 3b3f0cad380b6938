-- What ties keep.
use Rattle.std.specs.Prelude.{◌≡◌, ℕ, Vec, length}
use Rattle.std.specs.declared.alloc.Global.{Global}
use Rattle.trace_laws.specs.Traces.{History, IsTrace}
use Rattle.closed_fronts.specs.Tables.{IsLatest, AreTold, IsOwnBefore, IsJoinBefore, IsOuter, IsOpened, IsNextRow}
use Rattle.closed_fronts.specs.declared.ties.Ties.TheInside.{Inside}

-- ties are seen as their trace
abbrev pub history_in : Inside → History
history_in x = x.places

-- there is an entry for each place, and each entry is right
pub record AreTied (x : Inside) : Type 0 where
  pub trace : IsTrace x.places.events x.places.threads
  pub own_size : length x.own.items ≡ length x.places.events
  pub joined_size : length x.joined.items ≡ length x.places.events
  pub outer_size : length x.outer.items ≡ length x.places.events
  pub opened_size : length x.opened.items ≡ length x.places.events
  pub next_size : length x.next.items ≡ length x.places.events
  pub own_places : AreTold (λ p o. IsLatest (IsOwnBefore x.places.events p) o) x.own.items
  pub joined_places : AreTold (λ p o. IsLatest (IsJoinBefore x.places.events p) o) x.joined.items
  pub outer_places : AreTold (IsOuter x.places.events) x.outer.items
  pub opened_places : AreTold (IsOpened x.places.events) x.opened.items
  pub next_rows : AreTold (λ p (v : Vec ℕ Global). IsNextRow x.places.events x.places.threads p v.items) x.next.items
