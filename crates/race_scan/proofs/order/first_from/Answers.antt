use Rattle.std.proofs.Common.{ltb, arith, rules}
use Rattle.std.proofs.lemmas.List.Sorted.{IsPartitionPoint-from_clause, IsPartitionedBy-ltb}
use Rattle.trace_laws.specs.declared.finding.Race.{Race}
use Rattle.race_scan.proofs.Adding.{none_from_point, first_from_point}
use Rattle.race_scan.proofs.order.first_from.Goals as goal

pub returns-then-position-races-clause-none : goal.returns-then-position-races-clause-none
returns-then-position-races-clause-none c =
    let parted = IsPartitionedBy-ltb (λ (r : Race). r.later) c.args.races.now c.args.start c.requires in
    let point = IsPartitionPoint-from_clause (λ (r : Race). ltb r.later c.args.start) _ _ c.partition_point-position.ensures.partitioned parted (λ a r q k. search rules) in
    none_from_point c.args.races.now c.args.start c.partition_point-position.result point.0 (let same = c.if-position-races.true in omega arith)

pub returns-clause-some : goal.returns-clause-some
returns-clause-some c =
    let parted = IsPartitionedBy-ltb (λ (r : Race). r.later) c.args.races.now c.args.start c.requires in
    let point = IsPartitionPoint-from_clause (λ (r : Race). ltb r.later c.args.start) _ _ c.partition_point-position.ensures.partitioned parted (λ a r q k. search rules) in
    first_from_point c.args.races.now c.args.start c.partition_point-position.result _ c.requires point.0 point.1 (let bound = c.partition_point-position.ensures.bound in let other = c.if-position-races.false in omega arith)
