use Rattle.std.proofs.Common.{rules, leb, leb-true, arith}
use Rattle.std.proofs.lemmas.Bool.{leb-false}
use Rattle.std.proofs.lemmas.List.Sorted.{IsPartitionPoint-from_clause, IsPartitionedBy-leb}
use Rattle.lucy_front.proofs.items.passed.Goals as goal

pub returns-clause-before : goal.returns-clause-before
returns-clause-before c =
    let parted = IsPartitionedBy-leb (λ x. x) _ c.args.behind c.requires in
    let point = IsPartitionPoint-from_clause (λ x. leb x c.args.behind) _ _ c.partition_point.ensures.partitioned parted (λ a r q k. search rules) in
    λ i low. leb-true _ _ (point.0 i 0 (omega arith) low)

pub returns-clause-from : goal.returns-clause-from
returns-clause-from c =
    let parted = IsPartitionedBy-leb (λ x. x) _ c.args.behind c.requires in
    let point = IsPartitionPoint-from_clause (λ x. leb x c.args.behind) _ _ c.partition_point.ensures.partitioned parted (λ a r q k. search rules) in
    λ i low within. leb-false _ _ (point.1 i 0 low within)
