use Rattle.std.proofs.Common.{◌≡◌, ℕ, Some, sym, subst}
use Rattle.trace_laws.specs.Trace.{op_at}
use Rattle.race_scan.specs.Listed.{IsThis}
use Rattle.race_scan.proofs.Adding.{adds_under, passed_from}
use Rattle.race_scan.proofs.finding.list_place.Goals as goal

pub list_race-requires-clause-all : goal.list_race-requires-clause-all
list_race-requires-clause-all c = λ e conflict. c.requires.all e c.args.later (c.has_op.ensures.0 c.if-not-has_op.false) conflict

pub returns-in_err-list_race-clause-passed : goal.returns-in_err-list_race-clause-passed
returns-in_err-list_race-clause-passed c = passed_from c.args.index.now.events c.args.op.now c.args.later c.args.groups.now c.list_race.new.passed (c.has_op.ensures.0 c.if-not-has_op.false) c.list_race.ensures.passed

pub returns-clause-passed : goal.returns-clause-passed
returns-clause-passed c = passed_from c.args.index.now.events c.args.op.now c.args.later c.args.groups.now c.list_race.new.passed (c.has_op.ensures.0 c.if-not-has_op.false) c.list_race.ensures.passed

pub returns-clause-adds : goal.returns-clause-adds
returns-clause-adds c =
    let events = c.args.index.now.events in
    let later = c.args.later in
    let op = c.args.op.now in
    adds_under events (λ l. l ≡ later) (IsThis events later op) c.args.races.now.items c.list_race.new.races.items c.in_ok-list_race.ensures.adds (λ l h. h.0) (λ l same. (same, subst (λ (k : ℕ). op_at events k ≡ Some op) (sym same) (c.has_op.ensures.0 c.if-not-has_op.false)))
