-- A search that is cut into jobs.
use Rattle.std.specs.Prelude.{◌≤◌, ◌+◌, ◌*◌, ℕ, List, length}
use Rattle.sp_base.specs.declared.limits.TheConstants.{MAX_VARS}
use Rattle.lock_graph.specs.Classes.{Graph}
use Rattle.predictor.specs.Searches.{AreRanked}
use Rattle.predictor.specs.Borders.{AreBorders, AreOfOneSort}
use Rattle.predictor.specs.declared.cut.Border.{Border}
use Rattle.predictor.specs.declared.cut.TheConstants.{MAX_RANGES}

-- a trace with its classes, patterns by the numbers of their classes, and the borders of the jobs
pub record CutSearch : Type 0 where
  pub graph : Graph
  pub listed : List (List ℕ)
  pub borders : List Border

-- The patterns are those of the trace, in their order. The borders are those of all variables and of all patterns, and of
-- jobs that have variables alone or patterns alone, those with variables first, with a bound on how many there are.
pub record IsCutSearch (graph : Graph) (listed : List (List ℕ)) (borders : List Border) : Type 0 where
  pub ranked : AreRanked graph listed
  pub cut : AreBorders MAX_VARS (length listed) borders
  pub sorts : AreOfOneSort MAX_VARS MAX_RANGES borders
  pub few : length borders ≤ 2 * MAX_RANGES + 1
