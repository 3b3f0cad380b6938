use Rattle.std.proofs.Common.{◌≡◌, sym, ap, ◌∙◌}
use Rattle.seat_lock.specs.Shown.{seat_number, seat_count}
use Rattle.row_locks.specs.Tallies.{events_by}
use Rattle.recorder.proofs.Grants.{counted_once}
use Rattle.recorder.proofs.manager.Manager.turn.Goals as goal

pub give-requires-clause-state : goal.give-requires-clause-state
give-requires-clause-state g c =
    let number = c.take-state.ensures.seat.number ∙ c.args.pass.now.numbered in
    record {
      before = c.take-state.result;
      taken = c.take-state.ensures.seat.taken;
      origin = sym c.grant-grant.ensures.script;
      others = λ k other. c.grant-grant.ensures.others k (λ same. other (same ∙ sym number));
    }

pub invariant_of-pass : goal.invariant_of-pass
invariant_of-pass g c =
    let number : seat_number c.take-state.new.seat ≡ c.args.pass.now.thread = c.take-state.ensures.seat.number ∙ c.args.pass.now.numbered in
    record {
      numbered = c.give.ensures.seat.number ∙ number;
      counted = counted_once c.take-state.result.events c.grant-grant.new.self.events c.args.pass.now.thread c.args.pass.now.granted (seat_number c.take-state.new.seat) number
          (ap (λ k. events_by k c.take-state.result.events) (sym c.args.pass.now.numbered) ∙ c.take-state.ensures.tally ∙ c.args.pass.now.counted) c.in-Done.ensures.granted.own (seat_count c.give.new.seat) c.give.ensures.seat.count;
      free = c.give.ensures.seat.taken;
    }
