-- How a call ends that has its output, or knows why it has none.
use Rattle.std.proofs.Common.{◌≡◌, ◌≢◌, ℕ, Bool, List, Ok, Err, inl, inr, sym, ap, subst, Result}
use Rattle.std.specs.Prelude.{OnOk}
use Rattle.syncp.specs.declared.outcome.Fault.{Fault}
use Rattle.syncp.specs.declared.outcome.Fault.TheVariants as fault
use Rattle.syncp.specs.declared.outcome.Outcome.{Outcome}
use Rattle.syncp.specs.declared.outcome.Outcome.TheVariants as outcome
use Rattle.syncp.specs.Outcome.{EndsAnswer, Explains, IsAnswered, IsDone, Makes}
use Rattle.syncp.specs.Tasks.{Task, IsOutputOf, IsRefusedIn}
use Rattle.syncp.proofs.Ran.{done_answers, memory_answers, nothing_written, reading_completes}

module _ (task : Task) (Ended : Type 0) (input : List ℕ) where
  -- what was written of an output explains how the call ended
  pub explained : (answer : Result (List ℕ × Bool) Fault) (o : Outcome) (text : List ℕ) → Makes task Ended answer input → OnOk answer Ended → EndsAnswer answer o text → Explains task Ended o input text
  explained (Ok answer) o text makes ended (inl (is, whole)) =
      subst (λ x. Explains task Ended x input text) (sym is) (subst (λ t. IsOutputOf task input t answer.1) (sym whole) makes)
  explained (Ok answer) o text makes ended (inr (inl is, front)) =
      subst (λ x. Explains task Ended x input text) (sym is) ((answer.0, inl (answer.1, makes), front), ended)
  explained (Ok answer) o text makes ended (inr (inr is, front)) =
      subst (λ x. Explains task Ended x input text) (sym is) (inr ((answer.0, inl (answer.1, makes), front), ended))
  explained (Err f) o text makes ended (is, none) =
      subst (λ x. Explains task Ended x input text) (sym is) (subst (λ t. Explains task Ended (outcome.Refused f) input t) (sym none) (nothing_written task Ended f input makes))

  -- an input that is not refused is answered, unless a fault comes from outside
  pub completes : (answer : Result (List ℕ × Bool) Fault) (o : Outcome) (text : List ℕ) → Makes task Ended answer input → EndsAnswer answer o text → ((f : Fault) → IsRefusedIn task Ended f input → ⊥)
      → (answer ≡ Err fault.Read → ⊥) → (o ≡ outcome.Refused fault.Write → ⊥) → IsAnswered task o
  completes (Ok answer) o text makes (inl (is, whole)) never read write = subst (IsAnswered task) (sym is) (done_answers task.passes answer.1)
  completes (Ok answer) o text makes (inr (inl is, front)) never read write = absurd (write is)
  completes (Ok answer) o text makes (inr (inr is, front)) never read write = subst (IsAnswered task) (sym is) (memory_answers task.passes)
  completes (Err f) o text makes (is, none) never read write = subst (IsAnswered task) (sym is) (reading_completes task Ended input f (never f) makes (λ e. read (ap Err e)))

  -- a fault of the sink is none that was known before
  pub not_write : (answer : Result (List ℕ × Bool) Fault) → Makes task Ended answer input → answer ≢ Err fault.Write
  not_write answer makes is = subst (λ a. Makes task Ended a input) is makes

-- a whole output was written only where there was one
pub done_ended : (Ended : Type 0) (answer : Result (List ℕ × Bool) Fault) (o : Outcome) (text : List ℕ) → OnOk answer Ended → EndsAnswer answer o text → IsDone o → Ended
done_ended Ended (Ok answer) o text ended ends done = ended
done_ended Ended (Err f) o text ended (is, none) done = absurd (subst IsDone is done)

-- a read fault was known before anything was written
pub read_before : (answer : Result (List ℕ × Bool) Fault) (o : Outcome) (text : List ℕ) → EndsAnswer answer o text → o ≡ outcome.Refused fault.Read → answer ≡ Err fault.Read
read_before (Ok answer) o text (inl (is, whole)) read = cc
read_before (Ok answer) o text (inr (inl is, front)) read = cc
read_before (Ok answer) o text (inr (inr is, front)) read = cc
read_before (Err f) o text (is, none) read = let same : f ≡ fault.Read = cc in ap Err same
