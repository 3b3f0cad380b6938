-- What stamps keep.
use Rattle.std.specs.Prelude.{length}
use Rattle.trace_laws.specs.Traces.{History}
use Rattle.trace_index.specs.declared.stamps.Stamps.TheInside.{Inside}
use Rattle.trace_index.specs.Stamps.{AreStamps}

-- stamps are seen as their trace
abbrev pub history_in : Inside → History
history_in x = x.fronts.now

-- each place has its row
abbrev pub AreStamped : Inside → Type 0
AreStamped x = AreStamps x.fronts.now.events x.fronts.now.threads (length x.fronts.now.events) x.counts.items
