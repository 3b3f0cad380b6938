-- All that the events of a recording name has a name.
use Rattle.std.proofs.Common.{◌≡◌, length, slice_get, Some, subst, arith}
use Rattle.trace_laws.specs.Names.{NameLists}
use Rattle.trace_laws.specs.Traces.{History}
use Rattle.trace_laws.specs.declared.event.Op.{Op}
use Rattle.trace_laws.specs.declared.event.Op.TheVariants.{Read, Write, Acquire, Release, Fork, Join}
use Rattle.std_text.specs.Writing.{AreNamed, IsOperandNamed}
use Rattle.script_machine.specs.Machine.{Script, OpInRange}
use Rattle.script_machine.specs.Recorded.{Recorded, AreInRange}

module _ (script : Script) (names : NameLists) (threads : length names.threads ≡ length script.bodies) (locks : length names.locks ≡ script.locks) (vars : length names.vars ≡ script.variables) where
  -- an operand in range has a name
  pub operand_named : (op : Op) → OpInRange script op → IsOperandNamed names op
  operand_named (Read x) h = omega (arith, h, vars)
  operand_named (Write x) h = omega (arith, h, vars)
  operand_named (Acquire l) h = omega (arith, h, locks)
  operand_named (Release l) h = omega (arith, h, locks)
  operand_named (Fork u) h = omega (arith, h, threads)
  operand_named (Join u) h = omega (arith, h, threads)

  -- all that the events of a recording name has a name
  pub recording_named : (r : Recorded) (trace : History) → r.machine.script ≡ script → AreInRange r.machine.script r.trace.events → trace ≡ r.trace → AreNamed names trace.events
  recording_named r trace same inside is i e at =
      let within = subst (λ s. AreInRange s r.trace.events) same inside in
      let there : slice_get r.trace.events i ≡ Some e = subst (λ h. slice_get h.events i ≡ Some e) is at in
      let thread = within.threads i e there in
      record { thread = omega (arith, thread, threads); operand = operand_named e.op (within.operands i e there) }
