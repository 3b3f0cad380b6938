use Rattle.std.proofs.Common.{subst}
use Rattle.std.specs.Prelude.{Contains}
use Rattle.trace_index.proofs.LockSets.{take_out, contains_not}
use Rattle.trace_index.proofs.lock_sets.remove.Goals as goal

pub returns-in-Ok-clause-order : goal.returns-in-Ok-clause-order
returns-in-Ok-clause-order c = (take_out c.args.set.now.items c.deref.result.now c.remove.new.self.items c.args.lock c.in-Ok.at c.requires c.deref.ensures.value c.in-Ok.ensures.position c.remove.ensures.items).0

pub returns-in-Ok-clause-members : goal.returns-in-Ok-clause-members
returns-in-Ok-clause-members c = (take_out c.args.set.now.items c.deref.result.now c.remove.new.self.items c.args.lock c.in-Ok.at c.requires c.deref.ensures.value c.in-Ok.ensures.position c.remove.ensures.items).1

pub returns-in_default-clause-members : goal.returns-in_default-clause-members
returns-in_default-clause-members c = λ l. (λ h. (λ same. contains_not c.args.set.now.items c.deref.result.now c.args.lock c.in_default.field-0 c.requires c.deref.ensures.value c.in_default.ensures.position (subst (Contains c.args.set.now.items) same h), h), λ h. h.1)
