-- Runs that grow by a step.
use Rattle.std.proofs.Common.{◌≡◌, ℕ, ◌<◌, ◌≤◌, Result, Ok, Err, IsOk, OnOk, Option, Some, None, IfSome, IfNone, is_some, not, Bool, true, false, List, [], ◌∷◌, ◌++◌, length, length-append, refl, sym, ap, ◌∙◌, subst, arith}
use Rattle.std.proofs.lemmas.List.{map_push, length-map}
use Rattle.trace_laws.specs.Event.{Event}
use Rattle.trace_laws.specs.Trace.{Lawful, MayFollow}
use Rattle.script_machine.specs.ScriptBounds.{IsScript}
use Rattle.script_machine.specs.Machine.{Script, State, Taken, Step, StepOf, Run, LegalRun, CanStep, IsComplete, ForksOnce, start, size_of}
use Rattle.trace_laws.proofs.Following.{follows_front}
use Rattle.script_machine.proofs.RunsAreLawful.{runs_lawful}
use Rattle.script_machine.proofs.Sizes.{run_size, thread_inside, none_after, none_at_start, NoneOutside}

-- one more step of a run
pub run_push : (script : Script) (takens : List Taken) (s m s' : State) (taken : Taken) → Run script s takens m → Step script m taken s' → Run script s (takens ++ taken ∷ []) s'
run_push script [] s m s' taken run step = (s', subst (λ z. Step script z taken s') (sym run) step, refl)
run_push script (x ∷ xs) s m s' taken (mid, first, run) step = (mid, first, run_push script xs mid m s' taken run step)

-- one more event of a legal run
pub legal_push : (script : Script) (es : List Event) (m s' : State) (t : ℕ) (event : Event) → LegalRun script es m → StepOf script m t event s'
    → LegalRun script (es ++ event ∷ []) s'
legal_push script es m s' t event (takens, are, run) step =
    let taken : Taken = record { event = event; brought = step.brought } in (
      takens ++ taken ∷ [],
      ap (λ xs. xs ++ event ∷ []) are ∙ sym (map_push (λ x. x.event) takens taken),
      run_push script takens (start script) m s' taken run step.step,
    )

-- a legal run has at most as many events as the script has instructions
pub legal_size : (script : Script) (es : List Event) (s : State) → LegalRun script es s → length es ≤ size_of script
legal_size script es s (takens, are, run) =
    let few = run_size script takens s run in
    let same : length es ≡ length takens = ap length are ∙ length-map takens (λ taken. taken.event) in
    omega arith

-- it is a lawful trace, where no thread is forked twice
pub legal_lawful : (script : Script) (es : List Event) (s : State) → ForksOnce script → LegalRun script es s → Lawful es
legal_lawful script es s once (takens, are, run) = subst Lawful (sym are) (runs_lawful script takens s once run)

-- where there is a step there is room for its event, and it may follow
pub next_accepted : (script : Script) (es : List Event) (m s' : State) (t : ℕ) (event : Event) → IsScript script → LegalRun script es m → StepOf script m t event s'
    → (length es < size_of script) × MayFollow es event
next_accepted script es m s' t event sound legal step =
    let grown = legal_push script es m s' t event legal step in
    let few = legal_size script (es ++ event ∷ []) s' grown in (
      omega (arith, few, length-append es (event ∷ [])),
      follows_front es [] event (legal_lawful script (es ++ event ∷ []) s' sound.once grown),
    )

-- what holds of an answer that is Ok
pub when_ok : {T E : Type 0} (r : Result T E) (P : Type 0) → IsOk r → OnOk r P → P
when_ok (Ok x) P is h = h
when_ok (Err e) P is h = absurd (cc)

-- after a run nothing is left past the last thread
pub run_inside : (script : Script) (takens : List Taken) (s s' : State) → NoneOutside script s → Run script s takens s' → NoneOutside script s'
run_inside script [] s s' none run = subst (λ z. NoneOutside script z) run none
run_inside script (x ∷ xs) s s' none (mid, step, run) = run_inside script xs mid s' (none_after script s mid x none step) run

-- a legal run is complete where no thread of the script can step
pub complete_from : (script : Script) (es : List Event) (s : State) → LegalRun script es s
    → ((t : ℕ) → t < length script.bodies → CanStep script s t → ⊥) → IsComplete script s
complete_from script es s (takens, are, run) none taken s' step =
    none taken.event.thread
    (thread_inside script s s' taken (run_inside script takens (start script) s (none_at_start script) run) step)
    (taken, s', refl, step)

-- where a thread can step a run is not complete
pub incomplete_from : (script : Script) (s : State) (t : ℕ) → CanStep script s t → IsComplete script s → ⊥
incomplete_from script s t (taken, s', own, step) complete = complete taken s' step

-- what a call of `is_none` answered
pub some_or : (o : Option ℕ) (r : Bool) (P : ℕ → Type 0) → is_some o ≡ not r → IfSome o P → ((t : ℕ) → P t → ⊥) → r ≡ true
some_or None true P e h never = refl
some_or None false P e h never = absurd (cc)
some_or (Some t) r P e h never = absurd (never t h)

-- what holds where there is none
pub from_none : (o : Option ℕ) (r : Bool) (Q : Type 0) → is_some o ≡ not r → r ≡ true → IfNone o Q → Q
from_none None r Q e t h = h
from_none (Some x) true Q e t h = absurd (cc)
from_none (Some x) false Q e t h = absurd (cc)
