use Rattle.std.proofs.Common.{arith}
use Rattle.lock_graph.proofs.Alike.{acquire_of_class}
use Rattle.lock_graph.proofs.Reading.{within_entries, has_acquire, first_read, first_seen}
use Rattle.lock_graph.specs.Listing.{class_in}
use Rattle.lock_graph.proofs.classes.Classes.first.Goals as goal

pub index-requires : goal.index-requires
index-requires c = let within = within_entries c.self.inside c.args.self.now c.self.view_is c.args.class c.requires in omega arith

pub index-requires-2 : goal.index-requires-2
index-requires-2 c = let some = has_acquire c.self.inside c.args.self.now c.self.view_is c.self.invariant c.args.class c.index.result.now c.requires c.index.ensures in omega arith

pub returns-clause-acquire : goal.returns-clause-acquire
returns-clause-acquire c = acquire_of_class c.args.self.now.trace.events (class_in c.index.result.now) c.index-2.result.now (first_read c.self.inside c.args.self.now c.self.view_is c.self.invariant c.args.class c.index-2.result.now c.index.result.now c.requires c.index.ensures c.index-2.ensures)

pub returns-clause-class : goal.returns-clause-class
returns-clause-class c = λ k at. first_seen c.self.inside c.args.self.now c.self.view_is c.self.invariant c.args.class c.index-2.result.now c.index.result.now k c.requires c.index.ensures c.index-2.ensures at
