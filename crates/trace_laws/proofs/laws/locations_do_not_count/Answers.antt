use Rattle.trace_laws.proofs.LocationsFound.{locations_do_not_count_lem}
use Rattle.trace_laws.proofs.laws.locations_do_not_count.Goals as goal

pub returns : goal.returns
returns c = locations_do_not_count_lem
