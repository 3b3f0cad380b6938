-- What the fields of classes say.
use Rattle.std.specs.Prelude.{◌≤◌, length, map}
use Rattle.sp_base.specs.declared.limits.TheConstants.{MAX_LOCKS}
use Rattle.trace_laws.specs.Traces.{IsTrace}
use Rattle.trace_index.specs.HeldSets.{AreLocksBelow}
use Rattle.lock_graph.specs.declared.classes.Classes.TheInside.{Inside}
use Rattle.lock_graph.specs.Classes.{Graph, AreClasses}
use Rattle.lock_graph.specs.Listing.{class_in}

-- the trace of the index, and the classes of the entries
abbrev pub graph_in : Inside → Graph
graph_in x = record { trace = x.index.now; classes = map class_in x.entries.items }

-- the entries are the classes of the trace, and there are not more than events
pub record IsGraph (x : Inside) : Type 0 where
  pub trace : IsTrace x.index.now.events x.index.now.threads
  pub few : length x.entries.items ≤ length x.index.now.events
  pub classes : AreClasses x.index.now.events (map class_in x.entries.items)
  pub locks : AreLocksBelow x.index.now.events MAX_LOCKS
