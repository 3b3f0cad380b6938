-- Sections that are asked.
use Rattle.std.specs.Prelude.{◌≡◌, ℕ, List, true, nat_eq, length}
use Rattle.std.specs.List.{IsDistinct}
use Rattle.std.specs.Set.{is_member}
use Rattle.trace_laws.specs.Event.{Event}
use Rattle.trace_laws.specs.Trace.{IsReleaseOf}
use Rattle.closed_fronts.specs.Cuts.{IsHeld}

-- the set has the release of the acquire a
pub record HasEnd (events : List Event) (cuts : List ℕ) (a : ℕ) : Type 0 where
  pub release : ℕ
  pub is_of : IsReleaseOf events a release
  pub held : IsHeld events cuts release

-- So many sections were asked: none of them twice, and the set has the release of each.
pub record AreAsked (events : List Event) (cuts : List ℕ) (asked : ℕ) : Type 0 where
  pub acquires : List ℕ
  pub count : length acquires ≡ asked
  pub distinct : IsDistinct nat_eq acquires
  pub ended : (a : ℕ) → is_member nat_eq acquires a ≡ true → HasEnd events cuts a
