-- The report of what is predicted.
use Rattle.std.proofs.Common.{◌≡◌, ℕ, List, Some, ap, subst}
use Rattle.std.specs.Prelude.{nat_lt}
use Rattle.std.specs.declared.option.Option.{Option}
use Rattle.std.specs.Io.KnownBytes.{Consumes, IsAtEnd}
use Rattle.trace_laws.specs.Names.{NameLists}
use Rattle.trace_laws.specs.Traces.{History}
use Rattle.trace_laws.specs.Findings.{Found}
use Rattle.report.specs.Reports.{report_text}
use Rattle.predictor.specs.Predictions.{count_of_findings}
use Rattle.answers.specs.Reported.{IsReport}
use Rattle.intake.specs.Faults.{refusal_with}
use Rattle.syncp.specs.declared.outcome.Fault.{Fault}
use Rattle.syncp.specs.declared.outcome.Fault.TheVariants as fault
use Rattle.syncp.specs.Predicted.{IsPredictedFrom}
use Rattle.syncp.specs.PredictMode.{Predict, IsOutput}
use Rattle.syncp.specs.Tasks.{IsAccepted, IsRefusedIn}
use Rattle.syncp.proofs.ReadWhole.{no_fault, few_patterns}

-- its text is the output for the input that says the trace
pub output : (size : ℕ) (input : List ℕ) (r : (History × NameLists) × Found) (text : List ℕ) (count : ℕ) → IsPredictedFrom size input r → text ≡ report_text r.0.0.events r.1 → count ≡ count_of_findings r.1 → IsOutput size input text (nat_lt 0 count)
unfolding IsReport
output size input r text count is written counted = (is.0, is.1, subst (λ (h : History). IsReport h size text (nat_lt 0 count)) is.2 (r.1, is.4, is.5, written, ap (nat_lt 0) counted))

-- a trace that has not too many patterns is not refused
pub trace_not_refused : (f : Fault) (size : ℕ) (new : Option (List ℕ)) (all input : List ℕ) → Consumes (Some all) new input → IsAccepted (Predict size) all → IsRefusedIn (Predict size) (IsAtEnd new) f input → ⊥
trace_not_refused (fault.Text f holder) size new all input c std known = no_fault new all input std.0 (refusal_with f holder) c std.1 known
trace_not_refused (fault.Script f) size new all input c std known = known
trace_not_refused (fault.NotAStep place) size new all input c std known = known
trace_not_refused fault.TooManyPatterns size new all input c std known = few_patterns new all input size std.0 c std.1 std.2 known
trace_not_refused fault.NoFinding size new all input c std known = known
trace_not_refused fault.Read size new all input c std known = known
trace_not_refused fault.Write size new all input c std known = known
trace_not_refused fault.OutOfMemory size new all input c std known = known
