-- The trace of a seed.
use Rattle.std.proofs.Common.{◌≡◌, ◌≢◌, ℕ, Bool, List, [], length, Ok, Err, sym, subst, Result}
use Rattle.std.specs.Prelude.{OnOk}
use Rattle.trace_laws.specs.Traces.{History}
use Rattle.trace_laws.specs.Names.{NameLists}
use Rattle.trace_laws.specs.Findings.{Found}
use Rattle.std_text.specs.Framing.{Progress, start, start_with, no_names}
use Rattle.std_text.specs.Refusal.{LineFault}
use Rattle.report.specs.Reports.{report_text}
use Rattle.predictor.specs.Predictions.{ArePredictions, HasFewPatterns}
use Rattle.pattern_walk.specs.Listed.{HasMorePatterns}
use Rattle.drawn_trace.specs.Drawn.{drawn_text, IsReadable}
use Rattle.intake.specs.declared.fault.IntakeFault.TheVariants as intake
use Rattle.syncp.specs.declared.outcome.Fault.{Fault}
use Rattle.syncp.specs.declared.outcome.Fault.TheVariants as fault
use Rattle.command_words.specs.declared.mode.Mode.TheVariants as mode
use Rattle.syncp.specs.declared.outcome.Outcome.{Outcome}
use Rattle.syncp.specs.declared.outcome.Outcome.TheVariants as outcome
use Rattle.command_words.specs.declared.words.Words.{Words}
use Rattle.intake.specs.Faults.{refusal_with}
use Rattle.answers.specs.Benches.{bench_text}
use Rattle.intake.specs.TraceTexts.{whole_reading}
use Rattle.intake.specs.Reads.{ReadsTrace}
use Rattle.syncp.specs.BenchMode.{Bench, HasFewDrawn, HasManyDrawn, IsBench, IsDrawn, IsDrawnTrace}
use Rattle.syncp.specs.Modes.{task_in, task_of}
use Rattle.syncp.specs.Outcome.{Explains, IsAnswered, Makes}
use Rattle.syncp.specs.Tasks.{IsAccepted, IsRefusedIn, HasRead}

-- nothing is left to be read
pub sure : {A : Type 0} (answer : Result A Fault) → OnOk answer (Unit {0})
sure (Ok answer) = tt
sure (Err f) = tt

-- the text of a seed says one trace
one_trace : (seed events : ℕ) (p q : Progress) → IsDrawn seed events p → IsDrawn seed events q → p ≡ q
one_trace seed events p q is also = cc

-- a trace that has not too many patterns is not refused
pub drawn_not_refused : (size seed events : ℕ) → HasFewDrawn size seed events → (f : Fault) → IsRefusedIn (Bench size seed events) (Unit {0}) f [] → ⊥
drawn_not_refused size seed events few (fault.Text f holder) known = known
drawn_not_refused size seed events few (fault.Script f) known = known
drawn_not_refused size seed events few (fault.NotAStep place) known = known
drawn_not_refused size seed events few fault.TooManyPatterns known =
    few.2 (subst (λ (p : Progress). HasMorePatterns p.reading.events size) (one_trace seed events known.1.0 few.0 known.1.1 few.1) known.1.2)
drawn_not_refused size seed events few fault.NoFinding known = known
drawn_not_refused size seed events few fault.Read known = known
drawn_not_refused size seed events few fault.Write known = known
drawn_not_refused size seed events few fault.OutOfMemory known = known

-- no source is read, so that no read fault comes
pub no_read_fault : (size seed events : ℕ) (answer : Result (List ℕ × Bool) Fault) → Makes (Bench size seed events) (Unit {0}) answer [] → answer ≢ Err fault.Read
no_read_fault size seed events answer makes is = subst (λ a. Makes (Bench size seed events) (Unit {0}) a []) is makes

-- ---- the trace and what is written of it

module _ (seed events : ℕ) (names : NameLists) (text : List ℕ) (none : names ≡ no_names) (drawn : text ≡ drawn_text seed events) where
  -- the trace that was read is that of the seed
  pub drawn_read : (h : History) → ReadsTrace (whole_reading (start_with names 1) text) (Ok h) → IsDrawnTrace seed events h
  drawn_read h read = (read.0, subst (λ t. whole_reading start t ≡ Ok read.0) drawn (subst (λ n. whole_reading (start_with n 1) text ≡ Ok read.0) none read.1), read.2)

  -- its text is not refused
  pub never_refused : (f : LineFault) (holder : List ℕ) → IsReadable (drawn_text seed events) → ReadsTrace (whole_reading (start_with names 1) text) (Err (intake.Text f holder)) → ⊥
  never_refused f holder readable refused =
      let here : whole_reading start (drawn_text seed events) ≡ Err (refusal_with f holder) =
      subst (λ t. whole_reading start t ≡ Err (refusal_with f holder)) drawn (subst (λ n. whole_reading (start_with n 1) text ≡ Err (refusal_with f holder)) none refused) in
      let there : whole_reading start (drawn_text seed events) ≡ Ok readable.0 = readable.1 in
      cc

-- the lines for the trace of a seed
pub benched : (size seed events : ℕ) (h : History) (all : Found) (text : List ℕ) → IsDrawnTrace seed events h → ArePredictions h size all → HasFewPatterns h.events size → text ≡ bench_text events all (length (report_text h.events all)) → IsBench size seed events text
unfolding IsBench
benched size seed events h all text is are few written =
    (is.0, all, is.1, subst (λ g. ArePredictions g size all) is.2 are, subst (λ (g : History). HasFewPatterns g.events size) is.2 few, subst (λ g. text ≡ bench_text events all (length (report_text g.events all))) is.2 written)

-- the trace of a seed has too many patterns
pub many_drawn : (size seed events : ℕ) (h : History) → IsDrawnTrace seed events h → HasMorePatterns h.events size → HasManyDrawn size seed events
many_drawn size seed events h is many = (is.0, is.1, subst (λ (g : History). HasMorePatterns g.events size) is.2 many)

-- ---- words that ask for it

module _ (words : Words) (is : words.mode ≡ mode.Bench) where
  -- what is said of the task is said of the words
  pub drawn_explains : (Ended : Type 0) (o : Outcome) (text : List ℕ) → Explains (Bench words.size words.seed words.events) (Unit {0}) o [] text → Explains (task_of words) (HasRead (task_of words) Ended) o [] text
  drawn_explains Ended o text e = subst (λ m. Explains (task_in m words) (HasRead (task_in m words) Ended) o [] text) (sym is) e

  -- nothing has to be read
  pub drawn_ended : (Ended : Type 0) → HasRead (task_of words) Ended
  drawn_ended Ended = subst (λ m. HasRead (task_in m words) Ended) (sym is) tt

  -- where the trace has not too many patterns, it is answered
  pub drawn_answers : (o : Outcome) → (IsAccepted (Bench words.size words.seed words.events) [] → IsAnswered (Bench words.size words.seed words.events) o) → (all : List ℕ) → IsAccepted (task_of words) all → IsAnswered (task_of words) o
  drawn_answers o answers = subst (λ m. (all : List ℕ) → IsAccepted (task_in m words) all → IsAnswered (task_in m words) o) (sym is) (λ all few. answers few)

-- no read fault comes
pub drawn_never_read : (size seed events : ℕ) (o : Outcome) (text : List ℕ) → Explains (Bench size seed events) (Unit {0}) o [] text → o ≡ outcome.Refused fault.Read → ⊥
drawn_never_read size seed events o text e is = (subst (λ x. Explains (Bench size seed events) (Unit {0}) x [] text) is e).0
