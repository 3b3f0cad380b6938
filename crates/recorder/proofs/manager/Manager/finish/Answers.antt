use Rattle.std.proofs.Common.{sym, subst, ◌∙◌}
use Rattle.script_machine.specs.Machine.{IsComplete}
use Rattle.script_machine.specs.Held.{Held, meaning}
use Rattle.recorder.proofs.Gathered.{seats_free, seats_of_lock, counts_granted}
use Rattle.recorder.proofs.manager.Manager.finish.Goals as goal

pub close-state-requires-clause-lock : goal.close-state-requires-clause-lock
close-state-requires-clause-lock c =
    seats_of_lock c.args.self.lock c.args.passes.items c.in_ok-seats.seats.items c.in_ok-seats.ensures (λ k d less. (c.requires.passes k d less).seat)

pub close-state-requires-clause-free : goal.close-state-requires-clause-free
close-state-requires-clause-free c = seats_free c.args.passes.items c.in_ok-seats.seats.items c.in_ok-seats.ensures

pub returns-clause-complete : goal.returns-clause-complete
returns-clause-complete c =
    subst (λ (m : Held). IsComplete c.args.self.lock.table.shared.key.origin.value.machine.script (meaning m)) (sym c.finish.ensures.machine)
    (subst (λ script. IsComplete script (meaning c.complete.new.state.machine)) (c.complete.ensures.script ∙ sym c.close-state.ensures.origin) c.complete.ensures.complete)

pub returns-clause-granted : goal.returns-clause-granted
returns-clause-granted c = record {
  front = c.close-state.result.events;
  more = c.complete.ensures.events.0;
  parts = c.finish.ensures.events ∙ c.complete.ensures.events.1;
  counts = counts_granted c.close-state.result.events c.args.passes.items c.in_ok-seats.seats.items c.in_ok-seats.ensures c.close-state.ensures.tallies;
}
