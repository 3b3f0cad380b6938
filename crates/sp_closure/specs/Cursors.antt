-- What a cursor keeps.
use Rattle.trace_laws.specs.Traces.{IsTrace}
use Rattle.sp_closure.specs.Members.{PlaceSet, has, AreCounts}
use Rattle.sp_closure.specs.Asked.{AreAsked}
use Rattle.closed_fronts.specs.Cuts.{flags_of}
use Rattle.sp_closure.specs.declared.cursor.Cursor.TheInside.{Inside}
use Rattle.closed_fronts.specs.Rows.{IsSteady, IsMended}

-- the trace, the places below the cuts, and how often a section was asked
abbrev pub set_in : Inside → PlaceSet
set_in x = record { trace = x.index.now; members = flags_of x.index.now.events x.cuts.items; asked = x.asked }

-- the set is closed, its members are counted, and of each section that was asked the release is in it
pub record IsGrown (x : Inside) : Type 0 where
  pub trace : IsTrace x.index.now.events x.index.now.threads
  pub steady : IsSteady x.index.now.events x.index.now.threads x.cuts.items
  pub mended : IsMended x.index.now.events x.cuts.items
  pub counted : AreCounts x.index.now.events x.index.now.threads (has (flags_of x.index.now.events x.cuts.items)) x.counts.items
  pub sections : AreAsked x.index.now.events x.cuts.items x.asked
