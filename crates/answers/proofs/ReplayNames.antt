-- The calls that a replay leads to have names.
use Rattle.std.proofs.Common.{◌≡◌, ℕ, length, IfSome, Some, Contains, slice_get, subst, sym, arith}
use Rattle.std.specs.Prelude.{All, List}
use Rattle.trace_laws.specs.declared.event.Op.TheVariants.{Acquire}
use Rattle.trace_laws.specs.declared.finding.Finding.{Finding}
use Rattle.trace_laws.specs.declared.finding.Finding.TheVariants.{Race, Deadlock}
use Rattle.trace_laws.specs.Event.{Event}
use Rattle.trace_laws.specs.Findings.{FoundRace, FoundDeadlock}
use Rattle.trace_laws.specs.Stored.{race_of, deadlock_of}
use Rattle.trace_laws.specs.Trace.{thread_at}
use Rattle.trace_laws.proofs.Places.{mapped_from, op_from_event}
use Rattle.trace_laws.specs.Names.{NameLists}
use Rattle.trace_laws.specs.Traces.{History}
use Rattle.std_text.specs.Writing.{IsCallNamed}
use Rattle.script_machine.specs.Held.{Held, meaning}
use Rattle.script_machine.specs.Machine.{Script, NextCall, next_call}
use Rattle.script_machine.specs.Recorded.{AreInRange}
use Rattle.replayer.specs.Replayed.{Replayed, IsRaceReplay, IsDeadlockReplay, IsReplayOf}
use Rattle.replayer.proofs.KeptDeadlocks.{all_partners}
use Rattle.replayer.proofs.KeptRaces.{all_two}
use Rattle.replayer.proofs.Ordering.{index_of}
use Rattle.replayer.proofs.Stuck.{blocked_at}
use Rattle.report.specs.ReachedLines.{IsNextNamed, AreNextNamed}
use Rattle.answers.proofs.GivenNames.{operand_named}

module _ (script : Script) (names : NameLists) (threads : length names.threads ≡ length script.bodies) (locks : length names.locks ≡ script.locks) (vars : length names.vars ≡ script.variables) where
  -- the next call of a thread is that of an event, which has names
  next_named : (m : Held) (events : List Event) (i : ℕ) (e : Event) → m.script ≡ script → AreInRange script events → slice_get events i ≡ Some e → NextCall script (meaning m) e.thread e.op → IsNextNamed names m e.thread
  next_named m events i e same range at next =
      let thread = range.threads i e at in
      let named : IsCallNamed names e.thread e.op = record { thread = omega (arith, thread, threads); operand = operand_named script names threads locks vars e.op (range.operands i e at) } in
      let is : next_call script (meaning m) e.thread ≡ Some e.op = rw (next.awake, next.next) next.op in
      subst (λ s. IfSome (next_call s (meaning m) e.thread) (IsCallNamed names e.thread)) (sym same) (subst (λ o. IfSome o (IsCallNamed names e.thread)) (sym is) named)

  -- so it is of both threads of a race
  race_named : (run : History) (race : FoundRace) (r : Replayed) → IsRaceReplay script run race r → AreInRange script run.events → AreNextNamed names r
  race_named run race r is range =
      let there = is.reaches.reached in
      subst (λ ts. All (IsNextNamed names r.machine) ts) (sym is.threads)
      (all_two (IsNextNamed names r.machine) there.first.thread there.second.thread
      (next_named r.machine run.events race.later there.first is.same_script range there.at_first there.first_ready.now.next)
      (next_named r.machine run.events race.earlier there.second is.same_script range there.at_second there.second_ready.now.next))

  -- and of the thread of each pick of a deadlock
  pick_named : (run : History) (found : FoundDeadlock) (r : Replayed) → IsDeadlockReplay script run found r → AreInRange script run.events
      → (p t : ℕ) → Contains found.picks p → thread_at run.events p ≡ Some t → IsNextNamed names r.machine t
  pick_named run found r is range p t inside of =
      let (i, less, at_i) = index_of found.picks p inside in
      let (q, at_q, b) = blocked_at script run.events found.picks (meaning r.machine) is.reaches.reached.blocked i p at_i in
      let (e, here, own) = mapped_from (λ (x : Event). x.thread) (slice_get run.events p) t of in
      let waiter : b.waiter ≡ e.thread = (let w = b.acquires.thread in cc) in
      let op : Acquire b.lock ≡ e.op = (let a = b.acquires.op in let o = op_from_event run.events p e here in cc) in
      let next = subst (λ u. NextCall script (meaning r.machine) u (Acquire b.lock)) waiter b.next in
      let next' = subst (λ o. NextCall script (meaning r.machine) e.thread o) op next in
      subst (IsNextNamed names r.machine) own (next_named r.machine run.events p e is.same_script range here next')

  -- so it is of the threads of a finding
  pub replay_named : (run : History) (f : Finding) (r : Replayed) → IsReplayOf script run f r → AreInRange script run.events → AreNextNamed names r
  replay_named run (Race found keep) r is range = race_named run (race_of (Race found keep)) r is range
  replay_named run (Deadlock picks keep) r is range =
      all_partners (λ p t. thread_at run.events p ≡ Some t) (IsNextNamed names r.machine) picks r.threads is.threads (pick_named run (deadlock_of (Deadlock picks keep)) r is range)
