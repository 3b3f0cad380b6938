use Rattle.std.proofs.Common.{◌<◌, length, sym, subst, arith}
use Rattle.trace_laws.specs.Traces.{History}
use Rattle.closed_fronts.specs.Tables.{IsOwnBefore}
use Rattle.closed_fronts.specs.Rows.{row_in}
use Rattle.closed_fronts.proofs.Told.{latest_has}
use Rattle.closed_fronts.proofs.Gains.{implied_by_row}
use Rattle.closed_fronts.proofs.Sharing.{row_told}
use Rattle.closed_fronts.proofs.fronts.Fronts.precedes.Goals as goal

-- the place whose row is asked
own : (c : goal.In-Some) → IsOwnBefore c.self.inside.ties.events c.args.later c.in-Some.source
own c = latest_has (IsOwnBefore c.self.inside.ties.events c.args.later) c.own.result c.in-Some.source c.own.ensures c.in-Some.is

-- it has a row
within : (c : goal.In-Some) → c.in-Some.source < length c.self.inside.rows
within c =
    let before = (own c).before.earlier in
    let later : c.args.later < length c.self.inside.ties.events = subst (λ (h : History). c.args.later < length h.events) (sym c.self.view_is) c.requires.later in
    let size = c.self.invariant.size in
    omega arith

pub is_below-requires-clause-source : goal.is_below-requires-clause-source
is_below-requires-clause-source c = within c

pub is_below-requires-clause-size : goal.is_below-requires-clause-size
is_below-requires-clause-size c = (row_told c.self.inside.ties.events c.self.inside.ties.threads c.self.inside.rows c.in-Some.source c.self.invariant.rows (within c)).steady.size

pub returns : goal.returns
returns c = λ test.
    let row = row_told c.self.inside.ties.events c.self.inside.ties.threads c.self.inside.rows c.in-Some.source c.self.invariant.rows (within c.before) in
    rw (← c.self.view_is) (implied_by_row c.self.inside.ties.events c.self.inside.ties.threads c.args.later c.in-Some.source c.args.place (row_in c.self.inside.rows c.in-Some.source) (own c.before) row (c.is_below.ensures test))
