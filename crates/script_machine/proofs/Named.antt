-- The threads and operands of the events of a run are those of the script.
use Rattle.std.proofs.Common.{◌≡◌, ℕ, zero, suc, ◌<◌, inl, inr, List, [], ◌∷◌, length, slice_get, Some, sym, subst, arith}
use Rattle.std.proofs.lemmas.List.Elements.{All-head, All-tail}
use Rattle.std.proofs.lemmas.Bool.{cases_eq, cases_lt}
use Rattle.trace_laws.specs.Event.{Event}
use Rattle.trace_laws.specs.declared.event.Op.{Op}
use Rattle.trace_laws.specs.declared.event.Op.TheVariants.{Fork, Join}
use Rattle.trace_laws.specs.Traces.{NamesBelow, AreNamedBelow}
use Rattle.script_machine.specs.Machine.{Script, State, Taken, Step, Run, LegalRun, InRange, OpInRange, IsWellFormed, body, start, events}
use Rattle.script_machine.specs.Recorded.{AreInRange}
use Rattle.script_machine.proofs.InRange.{Operands, op_there, settled_in_range}
use Rattle.script_machine.proofs.Sizes.{NoneOutside, thread_inside, none_after, none_at_start}
use Rattle.script_machine.proofs.Steps.{thread_same, thread_other}

-- the operands that are left to the threads are in range
abbrev pub Inside : Script → State → Type 0
Inside script s = (t : ℕ) → Operands script (s.thread t).left

-- the operands of the instruction that a step takes, and of what it leaves
of_step : (script : Script) (s s' : State) (taken : Taken) → Inside script s → (step : Step script s taken s') → Operands script (step.line ∷ step.rest)
of_step script s s' taken inside step = subst (Operands script) step.next (inside taken.event.thread)

-- a step leaves operands in range
inside_after : (script : Script) (s s' : State) (taken : Taken) → Inside script s → Step script s taken s' → Inside script s'
inside_after script s s' taken inside step t = elim (cases_eq taken.event.thread t) [
  | inl own ↦ subst (λ u. Operands script (s'.thread u).left) own
      (subst (λ l. Operands script l.left) (sym (thread_same script s s' taken step))
      (settled_in_range script 0 step.rest _ (All-tail (λ l. InRange script l.instruction) step.line step.rest (of_step script s s' taken inside step))))
  | inr other ↦ subst (λ l. Operands script l.left) (sym (thread_other script s s' taken step t other)) (inside t)
]

-- at the start they are
inside_at_start : (script : Script) → IsWellFormed script → Inside script (start script)
inside_at_start script formed t = elim (cases_lt t (length script.bodies)) [
  | inl less ↦ settled_in_range script 0 (body script t) 0 (formed t less)
  | inr more ↦ subst (Operands script) (sym (none_at_start script t more)) (λ k d h. absurd (omega (arith, h)))
]

-- the thread that an operation names is one of the script
names_below : (script : Script) (op : Op) → OpInRange script op → NamesBelow op (length script.bodies)
names_below script (Fork u) h = h
names_below script (Join u) h = h
names_below script _ h = tt

-- the operand of a step is in range
operand_of_step : (script : Script) (s s' : State) (taken : Taken) → Inside script s → Step script s taken s' → OpInRange script taken.event.op
operand_of_step script s s' taken inside step =
    op_there script step.line.instruction taken.event.op step.op (All-head (λ l. InRange script l.instruction) step.line step.rest (of_step script s s' taken inside step))

-- the thread and the operand of each event of a run
run_in_range : (script : Script) (takens : List Taken) (s s' : State) → NoneOutside script s → Inside script s → Run script s takens s' → (i : ℕ) (e : Event) → slice_get (events takens) i ≡ Some e
    → (e.thread < length script.bodies) × OpInRange script e.op
run_in_range script [] s s' none inside run i e at = absurd (cc)
run_in_range script (x ∷ xs) s s' none inside (mid, step, run) zero e at =
    let same : x.event ≡ e = cc in
    subst (λ y. (y.thread < length script.bodies) × OpInRange script y.op) same (thread_inside script s mid x none step, operand_of_step script s mid x inside step)
run_in_range script (x ∷ xs) s s' none inside (mid, step, run) (suc i) e at =
    run_in_range script xs mid s' (none_after script s mid x none step) (inside_after script s mid x inside step) run i e at

-- those of the events of a legal run
pub legal_in_range : (script : Script) (trace : List Event) (s : State) → IsWellFormed script → LegalRun script trace s → AreInRange script trace
legal_in_range script trace s formed (takens, are, run) =
    let each = run_in_range script takens (start script) s (none_at_start script) (inside_at_start script formed) run in
    subst (AreInRange script) (sym are) (record { threads = λ i e at. (each i e at).0; operands = λ i e at. (each i e at).1 })

-- so each thread that they name is one of the script
pub legal_named : (script : Script) (trace : List Event) (s : State) → IsWellFormed script → LegalRun script trace s → AreNamedBelow trace (length script.bodies)
legal_named script trace s formed legal i e at =
    let within = legal_in_range script trace s formed legal in
    (within.threads i e at, names_below script e.op (within.operands i e at))
