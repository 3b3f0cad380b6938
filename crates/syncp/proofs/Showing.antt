-- What is shown of a trace that was read.
use Rattle.std.proofs.Common.{◌≡◌, ◌<◌, ℕ, List, Some, Ok, sym, ap, subst, arith}
use Rattle.std.specs.declared.option.Option.{Option}
use Rattle.std.specs.Io.KnownBytes.{Consumes, IsAtEnd}
use Rattle.trace_laws.specs.Names.{NameLists}
use Rattle.trace_laws.specs.Traces.{History}
use Rattle.trace_laws.specs.Findings.{Found, by_reorderings}
use Rattle.trace_laws.proofs.Determined.{findings_are_determined_lem}
use Rattle.std_text.specs.Refusal.{◌>>=◌}
use Rattle.std_text.specs.Framing.{start, after, closed}
use Rattle.predictor.specs.Predictions.{ArePredictions, HasFewPatterns, count_of_findings}
use Rattle.intake.specs.Faults.{refusal_with}
use Rattle.intake.specs.TraceTexts.{IsStd, history_of}
use Rattle.answers.specs.Witnesses.{LacksFinding, WritesFinding, WritesWitness}
use Rattle.syncp.specs.declared.outcome.Fault.{Fault}
use Rattle.syncp.specs.declared.outcome.Fault.TheVariants as fault
use Rattle.syncp.specs.Outcome.{FailsToRead}
use Rattle.syncp.specs.Predicted.{IsPredictedFrom}
use Rattle.syncp.specs.PredictMode.{Predict}
use Rattle.syncp.specs.Tasks.{IsAccepted, IsRefusedIn}
use Rattle.syncp.specs.WitnessMode.{Witness, IsWitness, IsPastFindings}
use Rattle.syncp.proofs.ReadWhole.{no_fault, taken_all, few_patterns}

module _ (size number : ℕ) (input : List ℕ) (r : (History × NameLists) × Found) (is : IsPredictedFrom size input r) where
  -- the text of a witness is the output for the input
  pub shown : (text : List ℕ) → WritesFinding r.0.1 r.0.0 r.1 number text → IsWitness size number input text
  shown text writes = (is.0, is.1, subst (λ (n : NameLists). WritesWitness n (history_of is.0) size number text) is.3 (subst (λ (h : History). WritesWitness r.0.1 h size number text) is.2 (r.1, is.4, is.5, writes)))

  -- there are fewer findings
  pub lacking : (Ended : Type 0) → count_of_findings r.1 < number → Ended → IsPastFindings Ended input size number
  lacking Ended less ended = (is.0, is.1, subst (λ (h : History). HasFewPatterns h.events size) is.2 is.5, subst (λ (h : History). LacksFinding h size number) is.2 (r.1, is.4, less), ended)

-- what was known before a finding was looked for
pub before_finding : (size number : ℕ) (Ended : Type 0) (f : Fault) (input : List ℕ) → FailsToRead (Predict size) Ended f input → FailsToRead (Witness size number) Ended f input
before_finding size number Ended (fault.Text f holder) input fails = fails
before_finding size number Ended (fault.Script f) input fails = absurd fails
before_finding size number Ended (fault.NotAStep place) input fails = absurd fails
before_finding size number Ended fault.TooManyPatterns input fails = fails
before_finding size number Ended fault.NoFinding input fails = absurd fails
before_finding size number Ended fault.Read input fails = fails
before_finding size number Ended fault.Write input fails = absurd fails
before_finding size number Ended fault.OutOfMemory input fails = fails

-- what is predicted from a trace up to a size is one list, so that it has one length
same_count : (h : History) (size : ℕ) (one other : Found) → ArePredictions h size one → ArePredictions h size other → count_of_findings one ≡ count_of_findings other
unfolding ArePredictions
same_count h size one other a b = ap count_of_findings (findings_are_determined_lem by_reorderings h.events h.threads size one other a b)

-- a trace text that has the finding is not refused
pub witness_not_refused : (f : Fault) (size number : ℕ) (new : Option (List ℕ)) (all input : List ℕ) → Consumes (Some all) new input → IsAccepted (Witness size number) all → IsRefusedIn (Witness size number) (IsAtEnd new) f input → ⊥
witness_not_refused (fault.Text f holder) size number new all input c std known = no_fault new all input std.0 (refusal_with f holder) c std.1 known
witness_not_refused (fault.Script f) size number new all input c std known = known
witness_not_refused (fault.NotAStep place) size number new all input c std known = known
witness_not_refused fault.TooManyPatterns size number new all input c std known = few_patterns new all input size std.0 c std.1 std.2 known
witness_not_refused fault.NoFinding size number new all input c std known =
    let same : all ≡ input = taken_all new all input c known.4 in
    let there = known.1 in
    let here = std.1 in
    let one : std.0 ≡ known.0 = (let again : (after start input >>= closed) ≡ Ok std.0 = subst (λ text. IsStd text std.0) same here in cc) in
    let lacks : LacksFinding (history_of std.0) size number = subst (λ p. LacksFinding (history_of p) size number) (sym one) known.3 in
    let counts = same_count (history_of std.0) size std.3.0 lacks.0 std.3.1 lacks.1 in
    omega (arith, counts, std.3.2, lacks.2)
witness_not_refused fault.Read size number new all input c std known = known
witness_not_refused fault.Write size number new all input c std known = known
witness_not_refused fault.OutOfMemory size number new all input c std known = known
