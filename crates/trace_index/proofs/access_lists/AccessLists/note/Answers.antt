use Rattle.std.proofs.Common.{sym, subst, arith}
use Rattle.trace_laws.specs.Reordering.{Accesses}
use Rattle.trace_index.proofs.Accessing.{accesses_past, accesses_next}
use Rattle.trace_index.proofs.access_lists.AccessLists.note.Goals as goal

pub returns-in_default : goal.returns-in_default
returns-in_default c = accesses_past c.args.trace.now.events c.args.place c.args.self.now.lists.items c.in_default.ensures.none c.requires.noted

pub returns : goal.returns
returns c =
    let events = c.args.trace.now.events in
    let x = c.value-number.result in
    let access : Accesses events c.args.place x = subst (Accesses events c.args.place) (sym c.value-number.ensures.value) c.in-Some.ensures.some in
    accesses_next events c.args.place x c.args.self.now.lists.items c.add.new.lists.items (let below = c.value-number.ensures.below in let own = c.value-number.ensures.value in omega arith) access c.in_ok-add.ensures c.requires.noted
