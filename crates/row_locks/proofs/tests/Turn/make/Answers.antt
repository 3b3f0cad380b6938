use Rattle.std.proofs.Common.{sym, ◌∙◌}
use Rattle.row_locks.proofs.tests.Turn.make.Goals as goal

pub give-requires-clause-state : goal.give-requires-clause-state
give-requires-clause-state g c =
    let number = c.take-state.ensures.seat.number ∙ c.args.self.of.number in
    record {
      before = c.take-state.result;
      taken = c.take-state.ensures.seat.taken;
      origin = sym c.grant-grant.ensures.script;
      others = λ k other. c.grant-grant.ensures.others k (λ same. other (same ∙ sym number));
    }
