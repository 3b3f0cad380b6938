use Rattle.std.proofs.Common.{Some, arith, sym, ap, ◌∙◌}
use Rattle.lock_graph.proofs.Reading.{within_entries, field_read}
use Rattle.lock_graph.proofs.classes.Classes.acquires.Goals as goal

pub index-requires : goal.index-requires
index-requires c = let within = within_entries c.self.inside c.args.self.now c.self.view_is c.args.class c.requires in omega arith

pub returns : goal.returns
returns c = field_read c.self.inside c.args.self.now c.self.view_is (λ k. k.acquires) c.args.class c.index.result.now c.requires c.index.ensures ∙ ap Some (sym c.deref.ensures.value)
