-- What links keep.
use Rattle.std.specs.Prelude.{◌≡◌, ℕ, List, length}
use Rattle.trace_laws.specs.Event.{Event}
use Rattle.closed_fronts.specs.Tables.{IsLatest, AreTold, AreTips, AreHeads, IsOwnBefore, IsJoinBefore, IsOuter, IsOpened}
use Rattle.closed_fronts.specs.declared.links.Links.{Links}

-- the links of the places before place n
pub record AreLinked (events : List Event) (threads n : ℕ) (s : Links) : Type 0 where
  pub tips : AreTips events threads n s.tips.places.items
  pub heads : AreHeads events threads n s.heads.places.items
  pub own_size : length s.own.items ≡ n
  pub joined_size : length s.joined.items ≡ n
  pub outer_size : length s.outer.items ≡ n
  pub opened_size : length s.opened.items ≡ n
  pub own_places : AreTold (λ p o. IsLatest (IsOwnBefore events p) o) s.own.items
  pub joined_places : AreTold (λ p o. IsLatest (IsJoinBefore events p) o) s.joined.items
  pub outer_places : AreTold (IsOuter events) s.outer.items
  pub opened_places : AreTold (IsOpened events) s.opened.items
