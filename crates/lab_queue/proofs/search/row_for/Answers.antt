use Rattle.std.proofs.Common.{rules, arith, sym, ◌∙◌}
use Rattle.std.proofs.lemmas.List.Sorted.{IsPartitionPoint-from_clause}
use Rattle.lab_queue.specs.Ranking.{ends_before}
use Rattle.lab_queue.proofs.Searches.{row-behind, row-found, rows-partitioned}
use Rattle.lab_queue.proofs.search.row_for.Goals as goal

-- the last row ends before the bound, so all do
pub returns-in-Some : goal.returns-in-Some
returns-in-Some c =
    let rows = c.args.rows.now in
    let size = rows.ok.0 in
    let item = c.in-Some.ensures.item in
    rw (c.len.ensures, size) (row-behind rows.items c.args.bound c.requires.filled c.requires.ranked
    c.in-Some.last.now (omega (arith, item.3.0)) (rw size at item.1)
    (sym c.ends_before.ensures ∙ c.if-ends_before.true))

-- the search tests which rows end before the bound
pub returns-in_default : goal.returns-in_default
returns-in_default c = row-found c.args.rows.now.items c.args.bound c.requires.filled c.requires.ranked
    c.partition_point.result (rw c.args.rows.now.ok.0 at c.partition_point.ensures.bound) (IsPartitionPoint-from_clause
    (ends_before c.args.bound) _ _ c.partition_point.ensures.partitioned
    (rows-partitioned c.args.rows.now.items c.args.bound c.requires.filled c.requires.ranked)
    (λ a r f called. search rules))
