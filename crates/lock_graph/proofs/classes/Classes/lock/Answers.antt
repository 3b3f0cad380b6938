use Rattle.std.proofs.Common.{arith}
use Rattle.lock_graph.proofs.Reading.{within_entries, field_read}
use Rattle.lock_graph.proofs.classes.Classes.lock.Goals as goal

pub index-requires : goal.index-requires
index-requires c = let within = within_entries c.self.inside c.args.self.now c.self.view_is c.args.class c.requires in omega arith

pub returns : goal.returns
returns c = field_read c.self.inside c.args.self.now c.self.view_is (λ k. k.lock) c.args.class c.index.result.now c.requires c.index.ensures
