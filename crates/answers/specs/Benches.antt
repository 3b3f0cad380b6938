-- How much there is in a trace.
use Rattle.std.specs.Prelude.{◌++◌, ℕ, List, length, codes}
use Rattle.std.specs.Fmt.{decimal}
use Rattle.trace_laws.specs.Findings.{Found}
use Rattle.report.specs.Reports.{closing_line}

-- how many events a trace has
abbrev pub events_line : ℕ → List ℕ
events_line events = codes "events " ++ decimal events ++ codes "\n"

-- how many bytes its report has
abbrev pub report_line : ℕ → List ℕ
report_line bytes = codes "report " ++ decimal bytes ++ codes " bytes\n"

-- both, with how many races and deadlocks are found in it between them
abbrev pub bench_lines : ℕ → ℕ → ℕ → ℕ → List ℕ
bench_lines events races deadlocks bytes = events_line events ++ closing_line races deadlocks ++ report_line bytes

-- the same of what is found
abbrev pub bench_text : ℕ → Found → ℕ → List ℕ
bench_text events all bytes = bench_lines events (length all.races) (length all.deadlocks) bytes
