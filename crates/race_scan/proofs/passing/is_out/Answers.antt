use Rattle.race_scan.proofs.Outside.{implied_out, out_if_conflict}
use Rattle.race_scan.proofs.Pointers.{thread_within}
use Rattle.race_scan.proofs.passing.is_out.Goals as goal

pub returns-then-not-do_conflict-clause-out : goal.returns-then-not-do_conflict-clause-out
returns-then-not-do_conflict-clause-out c = λ _. out_if_conflict c.args.index.now.events c.args.later c.args.place (λ conflict. absurd (let is = c.do_conflict.ensures.1 conflict in let not = c.if-not-do_conflict.true in cc))

pub returns-then-precedes-clause-out : goal.returns-then-precedes-clause-out
returns-then-precedes-clause-out c = λ _.
    let events = c.args.index.now.events in
    let of = thread_within events c.args.later c.requires.later in
    implied_out events c.args.later of.0 c.args.place of.1 (c.precedes.ensures c.if-precedes.true)
