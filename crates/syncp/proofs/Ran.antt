-- What a run leaves, from what its parts leave.
use Rattle.std.proofs.Common.{◌≡◌, ◌⊎◌, ℕ, Bool, true, false, List, [], Some, None, refl, sym, ap, ◌∙◌, inl, inr, subst, append-nil}
use Rattle.std.specs.declared.option.Option.{Option}
use Rattle.sp_base.specs.Moves.{IsFront}
use Rattle.command_words.specs.declared.words.Words.{Words}
use Rattle.syncp.specs.declared.outcome.Fault.{Fault}
use Rattle.syncp.specs.declared.outcome.Fault.TheVariants as fault
use Rattle.syncp.specs.declared.outcome.Outcome.TheVariants as outcome
use Rattle.syncp.specs.declared.outcome.Status.{Status}
use Rattle.syncp.specs.declared.outcome.Status.TheVariants.{NoMemory}
use Rattle.syncp.specs.Faults.{fault_line}
use Rattle.syncp.specs.Leaves.{Answers, Means, Leaves, TellsOf, TellsLine}
use Rattle.syncp.specs.Modes.{task_of}
use Rattle.syncp.specs.Outcome.{Explains, FailsToRead}
use Rattle.syncp.specs.Outcome as done
use Rattle.syncp.specs.Statuses.{passes_limit, script_passes_limit, refusal_status, status_of}
use Rattle.syncp.specs.Tasks.{Task, IsFrontOf, IsRefusedIn, IsRefusalOf, IsCut, HasRead}

-- what is written where there are too many patterns
before_cut : (task : Task) (Ended : Type 0) (input text : List ℕ) → IsCut task Ended input text → (text ≡ []) ⊎ (IsFrontOf task input text × Ended)
before_cut task Ended input text (inl e) = inl e.1
before_cut task Ended input text (inr e) = inr ((text, inr e.0, ([], sym (append-nil text))), e.1)

-- what was written before a refusal
before_refusal : (task : Task) (Ended : Type 0) (f : Fault) (input text : List ℕ) → Explains task Ended (outcome.Refused f) input text → (text ≡ []) ⊎ (IsFrontOf task input text × Ended)
before_refusal task Ended (fault.Text f holder) input text e = inl e.1
before_refusal task Ended (fault.Script f) input text e = inl e.1
before_refusal task Ended (fault.NotAStep place) input text e = inl e.1
before_refusal task Ended fault.TooManyPatterns input text e = before_cut task Ended input text e
before_refusal task Ended fault.NoFinding input text e = inl e.1
before_refusal task Ended fault.Read input text e = inl e.1
before_refusal task Ended fault.Write input text e = inr e
before_refusal task Ended fault.OutOfMemory input text e = e

-- a fault while the input was read, after which nothing is written
pub nothing_written : (task : Task) (Ended : Type 0) (f : Fault) (input : List ℕ) → FailsToRead task Ended f input → Explains task Ended (outcome.Refused f) input []
nothing_written task Ended (fault.Text f holder) input fails = (fails, refl)
nothing_written task Ended (fault.Script f) input fails = (fails, refl)
nothing_written task Ended (fault.NotAStep place) input fails = (fails, refl)
nothing_written task Ended fault.TooManyPatterns input fails = inl (fails, refl)
nothing_written task Ended fault.NoFinding input fails = (fails, refl)
nothing_written task Ended fault.Read input fails = (fails, refl)
nothing_written task Ended fault.Write input fails = absurd fails
nothing_written task Ended fault.OutOfMemory input fails = inl refl

-- a line that is told begins that of the fault
front_of_line : (R : Type 0) (f : Fault) (line : List ℕ) → TellsLine R f line → IsFront line (fault_line f)
front_of_line R f line (inl whole) = ([], sym whole ∙ sym (append-nil line))
front_of_line R f line (inr front) = front.0

module _ (task : Task) (E R : Type 0) (input text line : List ℕ) where
  -- a refused input
  input_refused : (f : Fault) (passes : Bool) (status : Status) → IsRefusalOf task E f input text → TellsLine R f line → status_of f ≡ refusal_status passes → status ≡ status_of f → Means task E R status input text line
  input_refused f true status e t is same =
      subst (λ s. Means task E R s input text line) (sym (same ∙ is)) (record { cause = f; known = e; status_is = is; told = t })
  input_refused f false status e t is same =
      subst (λ s. Means task E R s input text line) (sym (same ∙ is)) (record { cause = f; known = e; status_is = is; told = t })

  -- a refusal whose line was told
  told_means : (f : Fault) (status : Status) → Explains task E (outcome.Refused f) input text → status ≡ status_of f → TellsLine R f line → Means task E R status input text line
  told_means (fault.Text f holder) status e is t = input_refused (fault.Text f holder) (passes_limit f.kind) status e t refl is
  told_means (fault.Script f) status e is t = input_refused (fault.Script f) (script_passes_limit f.kind) status e t refl is
  told_means (fault.NotAStep place) status e is t = input_refused (fault.NotAStep place) false status e t refl is
  told_means fault.TooManyPatterns status e is t = input_refused fault.TooManyPatterns true status e t refl is
  told_means fault.NoFinding status e is t = input_refused fault.NoFinding true status e t refl is
  told_means fault.Read status e is t = subst (λ s. Means task E R s input text line) (sym is) (e.0, e.1, t)
  told_means fault.Write status e is t = subst (λ s. Means task E R s input text line) (sym is) (e.0, e.1, t)
  told_means fault.OutOfMemory status e is t = subst (λ s. Means task E R s input text line) (sym is) (e, (fault.OutOfMemory, front_of_line R fault.OutOfMemory line t))

  -- a refusal and what it told
  pub refused_means : (f : Fault) (status : Status) → Explains task E (outcome.Refused f) input text → TellsOf R f status line → Means task E R status input text line
  refused_means f status e (inl t) = told_means f status e t.0 t.1
  refused_means f status e (inr t) = subst (λ s. Means task E R s input text line) (sym t.0) (before_refusal task E f input text e, (f, t.1))

-- the status of want of memory
pub memory_status : (ErrFailed : Type 0) (status : Status) (line : List ℕ) → TellsOf ErrFailed fault.OutOfMemory status line → status ≡ NoMemory
memory_status ErrFailed status line (inl t) = t.0
memory_status ErrFailed status line (inr t) = t.0

-- want of memory before the words were read
pub words_not_read : (words : Option Words) (Ended ErrFailed : Type 0) (status : Status) (line : List ℕ) → TellsOf ErrFailed fault.OutOfMemory status line → Leaves words Ended ErrFailed status [] [] line
words_not_read None Ended ErrFailed status line told = (inr (memory_status ErrFailed status line told), refl, refl)
words_not_read (Some words) Ended ErrFailed status line told = refused_means (task_of words) (HasRead (task_of words) Ended) ErrFailed [] [] line fault.OutOfMemory status (inl refl) told

-- the whole output is an answer
pub done_answers : (passes found : Bool) → done.Answers passes (outcome.Done found)
done_answers true found = inl tt
done_answers false found = inl tt

-- want of memory is an answer
pub memory_answers : (passes : Bool) → done.Answers passes (outcome.Refused fault.OutOfMemory)
memory_answers true = inr (inl refl)
memory_answers false = inr refl

-- an input that is not refused is read whole, where the source does not fail and memory is found
pub reading_completes : (task : Task) (Ended : Type 0) (input : List ℕ) (f : Fault) → (IsRefusedIn task Ended f input → ⊥) → FailsToRead task Ended f input → (f ≡ fault.Read → ⊥) → done.IsAnswered task (outcome.Refused f)
reading_completes task Ended input (fault.Text f holder) never fails read = absurd (never fails)
reading_completes task Ended input (fault.Script f) never fails read = absurd (never fails)
reading_completes task Ended input (fault.NotAStep place) never fails read = absurd (never fails)
reading_completes task Ended input fault.TooManyPatterns never fails read = absurd (never fails)
reading_completes task Ended input fault.NoFinding never fails read = absurd (never fails)
reading_completes task Ended input fault.Read never fails read = absurd (read refl)
reading_completes task Ended input fault.Write never fails read = absurd fails
reading_completes task Ended input fault.OutOfMemory never fails read = memory_answers task.passes

-- the status where only memory ran out
memory_told : (R : Type 0) (f : Fault) (status : Status) (line : List ℕ) → TellsOf R f status line → outcome.Refused f ≡ outcome.Refused fault.OutOfMemory → status ≡ NoMemory
memory_told R f status line (inl t) memory = let same : f ≡ fault.OutOfMemory = cc in t.0 ∙ ap status_of same
memory_told R f status line (inr t) memory = t.0

-- the status of a fault that is known
told_status : (R : Type 0) (f : Fault) (status : Status) (line : List ℕ) → TellsOf R f status line → (known : Fault) → outcome.Refused f ≡ outcome.Refused known → (status ≡ status_of known) ⊎ (status ≡ NoMemory)
told_status R f status line (inl t) known is = let same : f ≡ known = cc in inl (t.0 ∙ ap status_of same)
told_status R f status line (inr t) known is = inr t.0

-- a refusal that answers, where it was told
pub refusal_answers : (passes : Bool) (R : Type 0) (f : Fault) (status : Status) (line : List ℕ) → TellsOf R f status line → done.Answers passes (outcome.Refused f) → Answers passes status
refusal_answers true R f status line t (inl whole) = absurd whole
refusal_answers true R f status line t (inr (inl memory)) = inr (inl (memory_told R f status line t memory))
refusal_answers true R f status line t (inr (inr cut)) = elim (told_status R f status line t fault.TooManyPatterns cut) [
  | inl limit ↦ inr (inr limit)
  | inr memory ↦ inr (inl memory)
]
refusal_answers false R f status line t (inl whole) = absurd whole
refusal_answers false R f status line t (inr memory) = inr (memory_told R f status line t memory)
