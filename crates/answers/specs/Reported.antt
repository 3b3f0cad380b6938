-- The report of what is predicted from a trace.
use Rattle.std.specs.Prelude.{◌≡◌, ℕ, Bool, List, nat_lt}
use Rattle.trace_laws.specs.Findings.{Found}
use Rattle.trace_laws.specs.Traces.{History}
use Rattle.report.specs.Reports.{report_text}
use Rattle.predictor.specs.Predictions.{ArePredictions, HasFewPatterns, count_of_findings}

-- the report of a trace that has not too many patterns of at most that size, and whether it has a finding
unfoldable pub IsReport : History → ℕ → List ℕ → Bool → Type 0
IsReport h size text found = (all : Found) × ArePredictions h size all × HasFewPatterns h.events size × (text ≡ report_text h.events all) × (found ≡ nat_lt 0 (count_of_findings all))
