-- What the threads of a script stand before at the end of a run has names.
use Rattle.std.proofs.Common.{◌≡◌, ℕ, Bool, true, false, cond, inl, inr, List, [], ◌∷◌, length, Option, Some, None, IfSome, sym, subst, arith}
use Rattle.std.proofs.lemmas.List.Elements.{All-tail}
use Rattle.std.proofs.lemmas.Bool.{cases_eq, cases_lt}
use Rattle.trace_laws.specs.Names.{NameLists}
use Rattle.trace_laws.specs.declared.event.Op.{Op}
use Rattle.std_text.specs.Writing.{IsOperandNamed}
use Rattle.script_machine.specs.Held.{meaning}
use Rattle.script_machine.specs.Line.{Line}
use Rattle.script_machine.specs.Machine.{Script, State, Taken, Step, Run, LegalRun, InRange, OpInRange, IsWellFormed, body, call_at, is_waiting, next_call, start}
use Rattle.script_machine.specs.Recorded.{Recorded, IsRecording}
use Rattle.script_machine.proofs.InRange.{Operands, call_in_range, settled_in_range}
use Rattle.script_machine.proofs.Sizes.{none_at_start}
use Rattle.script_machine.proofs.Steps.{thread_same, thread_other}
use Rattle.report.specs.EndLines.{AreEndsNamed}
use Rattle.answers.proofs.GivenNames.{operand_named}

-- the operands that are left to the threads are in range
abbrev AreLeftInRange : Script → State → Type 0
AreLeftInRange script s = (t : ℕ) → Operands script (s.thread t).left

-- at the start they are
left_at_start : (script : Script) → IsWellFormed script → AreLeftInRange script (start script)
left_at_start script formed t = elim (cases_lt t (length script.bodies)) [
  | inl less ↦ settled_in_range script 0 (body script t) 0 (formed t less)
  | inr more ↦ subst (Operands script) (sym (none_at_start script t more)) (λ k d h. absurd (omega (arith, h)))
]

-- a step leaves them so
left_after : (script : Script) (s s' : State) (taken : Taken) → AreLeftInRange script s → Step script s taken s' → AreLeftInRange script s'
left_after script s s' taken inside step t = elim (cases_eq taken.event.thread t) [
  | inl own ↦ subst (λ u. Operands script (s'.thread u).left) own
      (subst (λ l. Operands script l.left) (sym (thread_same script s s' taken step))
      (settled_in_range script 0 step.rest _ (All-tail (λ l. InRange script l.instruction) step.line step.rest (subst (Operands script) step.next (inside taken.event.thread)))))
  | inr other ↦ subst (λ l. Operands script l.left) (sym (thread_other script s s' taken step t other)) (inside t)
]

-- so do many
left_after_all : (script : Script) (takens : List Taken) (s s' : State) → AreLeftInRange script s → Run script s takens s' → AreLeftInRange script s'
left_after_all script [] s s' inside run = subst (AreLeftInRange script) run inside
left_after_all script (x ∷ xs) s s' inside (mid, step, run) = left_after_all script xs mid s' (left_after script s mid x inside step) run

-- the operand of a next call is in range
call_left : (script : Script) (waits : Bool) (left : List Line) → Operands script left → IfSome (cond waits None (call_at left)) (OpInRange script)
call_left script true left inside = tt
call_left script false left inside = call_in_range script left inside

module _ (script : Script) (names : NameLists) (threads : length names.threads ≡ length script.bodies) (locks : length names.locks ≡ script.locks) (vars : length names.vars ≡ script.variables) where
  -- so it has a name
  call_named : (call : Option Op) → IfSome call (OpInRange script) → IfSome call (IsOperandNamed names)
  call_named None within = tt
  call_named (Some op) within = operand_named script names threads locks vars op within

  -- what the threads stand before after a legal run has names
  ends_of_run : IsWellFormed script → (takens : List Taken) (end : State) → Run script (start script) takens end → AreEndsNamed names script end
  ends_of_run formed takens end run =
      let inside = left_after_all script takens (start script) end (left_at_start script formed) run in
      record {
        threads = omega (arith, threads);
        operands = λ t less. call_named (next_call script end t) (call_left script (is_waiting script end t) (end.thread t).left (inside t));
      }

  -- so it is after a recording
  pub ends_named : (r : Recorded) → r.machine.script ≡ script → IsRecording r → AreEndsNamed names r.machine.script (meaning r.machine)
  ends_named r same recording =
      let legal = subst (λ s. LegalRun s r.trace.events (meaning r.machine)) same recording.legal in
      let formed = subst IsWellFormed same recording.script.formed in
      subst (λ s. AreEndsNamed names s (meaning r.machine)) (sym same) (ends_of_run formed legal.0 (meaning r.machine) legal.2)
