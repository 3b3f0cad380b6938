use Rattle.std.proofs.Common.{inl, inr}
use Rattle.race_scan.proofs.Adding.{own_accesses}
use Rattle.race_scan.proofs.finding.list_group.Goals as goal

pub list_own-requires-clause-all : goal.list_own-requires-clause-all
list_own-requires-clause-all c = λ e l read conflict. c.requires.all e l (inl read) conflict

pub list_own-requires-2-clause-all : goal.list_own-requires-2-clause-all
list_own-requires-2-clause-all c = λ e l write conflict. c.requires.all e l (inr write) conflict

pub returns-clause-adds : goal.returns-clause-adds
returns-clause-adds c = own_accesses c.args.index.now.events c.args.own.now c.args.var c.args.races.now.items c.list_own.new.races.items c.list_own-2.new.races.items c.in_ok-list_own.ensures.adds c.in_ok-list_own-2.ensures.adds
