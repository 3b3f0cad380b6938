-- What a scan keeps.
use Rattle.std.specs.Prelude.{◌≡◌}
use Rattle.race_scan.specs.declared.scan.RaceScan.TheInside.{Inside}
use Rattle.race_scan.specs.Listed.{AreAllRaces}
use Rattle.race_scan.specs.Scans.{Scan}

-- a scan is seen as its trace, its range, and the place up to which the races were given
abbrev pub scan_in : Inside → Scan
scan_in s = record { trace = s.index.now; from = s.from; to = s.to; passed = s.passed }

-- the set is over the trace, and the races are all there are
pub record IsPrepared (s : Inside) : Type 0 where
  pub same : s.set.trace ≡ s.index.now
  pub races : AreAllRaces s.index.now.events s.from s.to s.races.items
